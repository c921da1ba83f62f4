-- The blocks of a text: all of its bytes, its rest, and those that another text has as well.
use Rattle.std.proofs.Common.{◌≡◌, ℕ, zero, suc, inl, inr, ◌+◌, ◌-◌, ◌<◌, ◌≤◌, List, [], ◌∷◌, ◌++◌, length, take, drop, refl, sym, ap, subst, ◌∙◌, arith, length-drop}
use Rattle.std.specs.Prelude.{◌↔◌}
use Rattle.std.specs.Str.{IsUtf8, IsCharBoundary}
use Rattle.std.proofs.lemmas.List.{take-take, drop-take, length-take, drop-drop, get_or-drop}
use Rattle.std.proofs.lemmas.Bool.{cases_lt}
use Rattle.std.proofs.lemmas.Str.{IsCharBoundary-start, IsUtf8-drop}
use Rattle.std.proofs.Math.Seq.{take-add}
use Rattle.typst_source.specs.Blocks.{Block, first_blocks, blocks, bytes_of, reach_of, AreBlocks}
use Rattle.typst_source.proofs.Laws.{AreLaws}

pub take_less : {X : Type 0} (k n : ℕ) (t u : List X) → k ≤ n → take n t ≡ take n u → take k t ≡ take k u
take_less k n t u le e = sym (take-take k n t le) ∙ ap (take k) e ∙ take-take k n u le

pub bytes_take_drop : (k : ℕ) (bs : List Block) → bytes_of (take k bs) + bytes_of (drop k bs) ≡ bytes_of bs
bytes_take_drop zero bs = omega arith
bytes_take_drop (suc k) [] = refl
bytes_take_drop (suc k) (b ∷ bs) = omega (arith, bytes_take_drop k bs)

pub bytes-append : (bs cs : List Block) → bytes_of (bs ++ cs) ≡ bytes_of bs + bytes_of cs
bytes-append [] cs = omega arith
bytes-append (b ∷ bs) cs = omega (arith, bytes-append bs cs)

-- the first i blocks, and j more
pub bytes_add : (i j : ℕ) (bs : List Block) → bytes_of (take (i + j) bs) ≡ bytes_of (take i bs) + bytes_of (take j (drop i bs))
bytes_add i j bs = ap bytes_of (take-add i j bs) ∙ bytes-append (take i bs) (take j (drop i bs))

pub bytes_mono : (i j : ℕ) (bs : List Block) → i ≤ j → bytes_of (take i bs) ≤ bytes_of (take j bs)
bytes_mono i j bs h = let parts : i + (j - i) ≡ j = omega arith in omega (arith, bytes_add i (j - i) bs, ap (λ k. bytes_of (take k bs)) parts)

pub reach_mono : (i j : ℕ) (bs : List Block) → i ≤ j → reach_of (take i bs) ≤ reach_of (take j bs)
reach_mono zero j bs h = omega arith
reach_mono (suc i) zero bs h = absurd (omega arith)
reach_mono (suc i) (suc j) [] h = omega arith
reach_mono (suc i) (suc j) (b ∷ bs) h = omega (arith, reach_mono i j bs (omega arith))

-- an end at or after that of the first k blocks is one of those after them
pub behind_end : (bs : List Block) (k a : ℕ) → a ≤ length bs → bytes_of (take k bs) ≤ bytes_of (take a bs)
    → (i : ℕ) × (i ≤ length (drop k bs)) × (bytes_of (take k bs) + bytes_of (take i (drop k bs)) ≡ bytes_of (take a bs))
behind_end bs k a h le =
    elim (cases_lt a k) as (λ _. (i : ℕ) × (i ≤ length (drop k bs)) × (bytes_of (take k bs) + bytes_of (take i (drop k bs)) ≡ bytes_of (take a bs))) [
      | inl less ↦ (0, omega arith, omega (arith, le, bytes_mono a k bs (omega arith)))
      | inr more ↦ let parts : k + (a - k) ≡ a = omega arith in (a - k, omega (arith, length-drop k bs), sym (bytes_add k (a - k) bs) ∙ ap (λ i. bytes_of (take i bs)) parts)
    ]

module _ (first : List ℕ → Block) (laws : AreLaws first) where
  pub shorter : (text : List ℕ) → 0 < length text → length (drop (first text).len text) < length text
  shorter text some = omega (arith, length-drop (first text).len text, laws.positive text some)

  -- more steps than bytes change nothing
  same_blocks : (m k : ℕ) (text : List ℕ) → length text ≤ m → length text ≤ k → first_blocks first m text ≡ first_blocks first k text
  same_blocks zero zero [] a b = refl
  same_blocks zero (suc k) [] a b = refl
  same_blocks (suc m) zero [] a b = refl
  same_blocks (suc m) (suc k) [] a b = refl
  same_blocks zero k (t ∷ ts) a b = absurd (omega arith)
  same_blocks (suc m) zero (t ∷ ts) a b = absurd (omega arith)
  same_blocks (suc m) (suc k) (t ∷ ts) a b =
      let less : length (drop (first (t ∷ ts)).len (t ∷ ts)) < length (t ∷ ts) = shorter (t ∷ ts) (omega arith) in
      ap (λ bs. first (t ∷ ts) ∷ bs) (same_blocks m k (drop (first (t ∷ ts)).len (t ∷ ts)) (omega arith) (omega arith))

  -- the first block, and those of the rest
  pub blocks_step : (text : List ℕ) → 0 < length text → blocks first text ≡ first text ∷ blocks first (drop (first text).len text)
  blocks_step [] some = absurd (omega arith)
  blocks_step (t ∷ ts) some =
      let less : length (drop (first (t ∷ ts)).len (t ∷ ts)) < length (t ∷ ts) = shorter (t ∷ ts) some in
      ap (λ bs. first (t ∷ ts) ∷ bs) (same_blocks (length ts) (length (drop (first (t ∷ ts)).len (t ∷ ts))) (drop (first (t ∷ ts)).len (t ∷ ts)) (omega arith) (omega arith))

  pub blocks_none : (text : List ℕ) → length text ≡ 0 → blocks first text ≡ []
  blocks_none [] e = refl
  blocks_none (t ∷ ts) e = absurd (omega arith)

  pub blocks_some : (text : List ℕ) → 0 < length (blocks first text) → 0 < length text
  blocks_some [] h = absurd (omega arith)
  blocks_some (t ∷ ts) h = omega arith

  -- the blocks after some are those of the rest
  pub drop_blocks : (k : ℕ) (text : List ℕ) → k ≤ length (blocks first text) → drop k (blocks first text) ≡ blocks first (drop (bytes_of (take k (blocks first text))) text)
  drop_blocks zero text h = refl
  drop_blocks (suc k) text h =
      let step : blocks first text ≡ first text ∷ blocks first (drop (first text).len text) = blocks_step text (blocks_some text (omega arith)) in
      let ih : drop k (blocks first (drop (first text).len text)) ≡ blocks first (drop (bytes_of (take k (blocks first (drop (first text).len text)))) (drop (first text).len text)) =
      drop_blocks k (drop (first text).len text) (omega (arith, ap length step)) in
      subst (λ (bs : List Block). drop (suc k) bs ≡ blocks first (drop (bytes_of (take (suc k) bs)) text)) (sym step)
      (ih ∙ ap (blocks first) (drop-drop (bytes_of (take k (blocks first (drop (first text).len text)))) (first text).len text))

  all_by : (m : ℕ) (text : List ℕ) → length text ≤ m → bytes_of (first_blocks first m text) ≡ length text
  all_by zero [] h = refl
  all_by zero (t ∷ ts) h = absurd (omega arith)
  all_by (suc m) [] h = refl
  all_by (suc m) (t ∷ ts) h =
      let less : length (drop (first (t ∷ ts)).len (t ∷ ts)) < length (t ∷ ts) = shorter (t ∷ ts) (omega arith) in
      omega (arith, all_by m (drop (first (t ∷ ts)).len (t ∷ ts)) (omega arith), length-drop (first (t ∷ ts)).len (t ∷ ts), laws.within (t ∷ ts))

  -- the blocks have all bytes of the text
  pub bytes_all : (text : List ℕ) → bytes_of (blocks first text) ≡ length text
  bytes_all text = all_by (length text) text (omega arith)

  pub bytes_before : (k : ℕ) (text : List ℕ) → bytes_of (take k (blocks first text)) ≤ length text
  bytes_before k text = omega (arith, bytes_take_drop k (blocks first text), bytes_all text)

  -- the parser looked at the bytes of each block
  pub bytes_reached : (k : ℕ) (text : List ℕ) → k ≤ length (blocks first text) → bytes_of (take k (blocks first text)) ≤ reach_of (take k (blocks first text))
  bytes_reached zero text h = omega arith
  bytes_reached (suc k) text h =
      let step : blocks first text ≡ first text ∷ blocks first (drop (first text).len text) = blocks_step text (blocks_some text (omega arith)) in
      subst (λ (bs : List Block). bytes_of (take (suc k) bs) ≤ reach_of (take (suc k) bs)) (sym step)
      (omega (arith, bytes_reached k (drop (first text).len text) (omega (arith, ap length step)), laws.looked text))

  -- Blocks stay where another text is the same as far as the parser looked.
  pub kept_blocks : (k n : ℕ) (text other : List ℕ) → k ≤ length (blocks first text) → reach_of (take k (blocks first text)) ≤ n
      → take n text ≡ take n other → take k (blocks first text) ≡ take k (blocks first other)
  kept_blocks zero n text other h far e = refl
  kept_blocks (suc k) n text other h far e =
      let some : 0 < length text = blocks_some text (omega arith) in
      let m : ℕ = (first text).len in
      let step : blocks first text ≡ first text ∷ blocks first (drop m text) = blocks_step text some in
      let far' : reach_of (take (suc k) (first text ∷ blocks first (drop m text))) ≤ n = subst (λ (bs : List Block). reach_of (take (suc k) bs) ≤ n) step far in
      let same : first text ≡ first other = laws.local text other (take_less (first text).reach n text other (omega arith) e) in
      let others : 0 < length other = omega (arith, ap length e, length-take n text, length-take n other, laws.positive text some, laws.looked text) in
      let parts : m + (n - m) ≡ n = omega (arith, laws.looked text) in
      let rests : take (n - m) (drop m text) ≡ take (n - m) (drop m other) =
      sym (drop-take m (n - m) text) ∙ ap (drop m) (subst (λ i. take i text ≡ take i other) (sym parts) e) ∙ drop-take m (n - m) other in
      let ih : take k (blocks first (drop m text)) ≡ take k (blocks first (drop m other)) =
      kept_blocks k (n - m) (drop m text) (drop m other) (omega (arith, ap length step)) (omega arith) rests in
      ap (take (suc k)) step
      ∙ (λ i. same i ∷ ih i) ∙ ap (λ (b : Block). first other ∷ take k (blocks first (drop b.len other))) same
      ∙ sym (ap (take (suc k)) (blocks_step other others))

  farther : (bs : List ℕ) (n i : ℕ) → n ≤ length bs → IsCharBoundary (drop n bs) i → IsCharBoundary bs (n + i)
  farther bs n i le b = (omega (arith, b.0, length-drop n bs), λ l h. subst (λ v. 192 ≤ v) (get_or-drop n bs i 0) (b.1 (omega (arith, length-drop n bs)) (subst (λ v. 128 ≤ v) (sym (get_or-drop n bs i 0)) h)))

  -- each block ends between characters
  pub ends_between : (k : ℕ) (text : List ℕ) → IsUtf8 text → k ≤ length (blocks first text) → IsCharBoundary text (bytes_of (take k (blocks first text)))
  ends_between zero text u h = IsCharBoundary-start text u
  ends_between (suc k) text u h =
      let step : blocks first text ≡ first text ∷ blocks first (drop (first text).len text) = blocks_step text (blocks_some text (omega arith)) in
      let b : IsCharBoundary text (first text).len = laws.boundary text u in
      let rest : IsCharBoundary (drop (first text).len text) (bytes_of (take k (blocks first (drop (first text).len text)))) =
      ends_between k (drop (first text).len text) (IsUtf8-drop text (first text).len u b) (omega (arith, ap length step)) in
      subst (λ (bs : List Block). IsCharBoundary text (bytes_of (take (suc k) bs))) (sym step) (farther text (first text).len (bytes_of (take k (blocks first (drop (first text).len text)))) b.0 rest)

  -- what is made of the first block, and of the rest, are the blocks
  made_blocks : (m : ℕ) (text : List ℕ) → length text ≤ m → AreBlocks first text (first_blocks first m text)
  made_blocks zero text h = omega arith
  made_blocks (suc m) [] h = refl
  made_blocks (suc m) (t ∷ ts) h =
      let less : length (drop (first (t ∷ ts)).len (t ∷ ts)) < length (t ∷ ts) = shorter (t ∷ ts) (omega arith) in
      (omega arith, refl, made_blocks m (drop (first (t ∷ ts)).len (t ∷ ts)) (omega arith))

  only_blocks : (bs : List Block) (text : List ℕ) → AreBlocks first text bs → bs ≡ blocks first text
  only_blocks [] text h = sym (blocks_none text h)
  only_blocks (b ∷ bs) text h =
      let rest : bs ≡ blocks first (drop b.len text) = only_blocks bs (drop b.len text) h.2 in
      (λ i. sym h.1 i ∷ rest i) ∙ ap (λ (c : Block). first text ∷ blocks first (drop c.len text)) (sym h.1) ∙ sym (blocks_step text h.0)

  pub blocks_are : (text : List ℕ) (bs : List Block) → AreBlocks first text bs ↔ (bs ≡ blocks first text)
  blocks_are text bs = (only_blocks bs text, λ e. subst (AreBlocks first text) (sym e) (made_blocks (length text) text (omega arith)))
