-- What a run depends on, and where it ends.
use Rattle.std.proofs.Common.{◌≡◌, ℕ, zero, suc, ◌⊎◌, inl, inr, get_or, ◌+◌, ◌<◌, ◌≤◌, Bool, true, false, List, [], ◌∷◌, length, take, drop, refl, sym, ap, subst, ◌∙◌, arith}
use Rattle.std.specs.Prelude.{Option, Some, None, if◌then◌else◌}
use Rattle.std.proofs.lemmas.List.{take-take, drop_more}
use Rattle.std.specs.Str.{IsCharBoundary}
use Rattle.typst_lexer.specs.declared.place.Reading.{Reading}
use Rattle.typst_lexer.specs.declared.head.Run.{Run}
use Rattle.typst_lexer.specs.Runs.{stopped, longer, run, begun, grown}

pub take_less : (k n : ℕ) (t u : List ℕ) → k ≤ n → take n t ≡ take n u → take k t ≡ take k u
take_less k n t u le e = sym (take-take k n t le) ∙ ap (take k) e ∙ take-take k n u le

-- a text of which nothing is taken, though something would be
none_taken : (n b : ℕ) (bs : List ℕ) → take (suc n) (b ∷ bs) ≡ take (suc n) [] → ⊥
none_taken n b bs e = cc

tails : (n b c : ℕ) (bs cs : List ℕ) → take (suc n) (b ∷ bs) ≡ take (suc n) (c ∷ cs) → take n bs ≡ take n cs
tails n b c bs cs e = cc

same_count : (n more : ℕ) → suc n + suc more ≡ suc (n + suc more)
same_count n more = omega arith

out : (n more : ℕ) → n + suc more ≡ suc (n + more)
out n more = omega arith

zero_more : (more : ℕ) → 0 + suc more ≡ suc more
zero_more more = omega arith

-- two runs whose parts are the same
same_run : (p q m n : ℕ) (s t : Reading) → p ≡ q → m ≡ n → s ≡ t
    → (let r : Run = record { passed = p; len = m; last = s } in r) ≡ (let r : Run = record { passed = q; len = n; last = t } in r)
same_run p q m n s t e f g = λ i. record { passed = e i; len = f i; last = g i }

module _ (move : Reading → List ℕ → Option Reading) (accepts : Reading → Bool) where
  abbrev went : ℕ → Reading → Option Reading → List ℕ → Run
  went ahead s o bs = elim o as (λ _. Run) [ None ↦ stopped s | Some t ↦ longer accepts s (run move accepts ahead t bs) ]

  -- texts that agree as far as the machine saw have the same run
  run_local : (more : ℕ) (t u : List ℕ) (s : Reading)
      → take ((run move accepts (suc more) s t).passed + suc more) t ≡ take ((run move accepts (suc more) s t).passed + suc more) u
      → run move accepts (suc more) s t ≡ run move accepts (suc more) s u
  run_local more [] [] s e = refl
  run_local more [] (c ∷ cs) s e = absurd (none_taken more c cs (sym (subst (λ n. take n [] ≡ take n (c ∷ cs)) (zero_more more) e)))
  run_local more (b ∷ bs) [] s e =
      let n : ℕ = (run move accepts (suc more) s (b ∷ bs)).passed in
      absurd (none_taken (n + more) b bs (subst (λ k. take k (b ∷ bs) ≡ take k []) (out n more) e))
  run_local more (b ∷ bs) (c ∷ cs) s e =
      let window : take (suc more) (b ∷ bs) ≡ take (suc more) (c ∷ cs) =
      take_less (suc more) ((run move accepts (suc more) s (b ∷ bs)).passed + suc more) (b ∷ bs) (c ∷ cs) (omega arith) e in
      by_case (move s (take (suc more) (b ∷ bs))) (λ t h. run_local more bs cs t h) e
      ∙ ap (λ (w : List ℕ). went (suc more) s (move s w) cs) window
    where
      by_case : (o : Option Reading) → ((t : Reading) → take ((run move accepts (suc more) t bs).passed + suc more) bs ≡ take ((run move accepts (suc more) t bs).passed + suc more) cs → run move accepts (suc more) t bs ≡ run move accepts (suc more) t cs)
          → take ((went (suc more) s o bs).passed + suc more) (b ∷ bs) ≡ take ((went (suc more) s o bs).passed + suc more) (c ∷ cs)
          → went (suc more) s o bs ≡ went (suc more) s o cs
      by_case None ih e = refl
      by_case (Some t) ih e =
          ap (longer accepts s) (ih t (tails ((run move accepts (suc more) t bs).passed + suc more) b c bs cs
          (subst (λ n. take n (b ∷ bs) ≡ take n (c ∷ cs)) (same_count (run move accepts (suc more) t bs).passed more) e)))

  abbrev one_more : Run → Run
  one_more r = record { passed = suc r.passed; len = suc r.len; last = r.last }

  begun_by : (more : ℕ) (begin : List ℕ → Reading) (text other : List ℕ)
      → take ((begun move accepts (suc more) begin text).passed + suc more) text ≡ take ((begun move accepts (suc more) begin text).passed + suc more) other
      → begun move accepts (suc more) begin text ≡ begun move accepts (suc more) begin other
  begun_by more begin [] [] e = refl
  begun_by more begin [] (c ∷ cs) e = absurd (none_taken more c cs (sym (subst (λ n. take n [] ≡ take n (c ∷ cs)) (zero_more more) e)))
  begun_by more begin (b ∷ bs) [] e =
      let n : ℕ = (run move accepts (suc more) (begin (take (suc more) (b ∷ bs))) bs).passed in
      absurd (none_taken (n + suc more) b bs (subst (λ k. take k (b ∷ bs) ≡ take k []) (same_count n more) e))
  begun_by more begin (b ∷ bs) (c ∷ cs) e =
      let s : Reading = begin (take (suc more) (b ∷ bs)) in
      let n : ℕ = (run move accepts (suc more) s bs).passed in
      let window : take (suc more) (b ∷ bs) ≡ take (suc more) (c ∷ cs) = take_less (suc more) (suc n + suc more) (b ∷ bs) (c ∷ cs) (omega arith) e in
      let rests : take (n + suc more) bs ≡ take (n + suc more) cs = tails (n + suc more) b c bs cs (subst (λ k. take k (b ∷ bs) ≡ take k (c ∷ cs)) (same_count n more) e) in
      ap one_more (run_local more bs cs s rests) ∙ ap (λ (w : List ℕ). one_more (run move accepts (suc more) (begin w) cs)) window

  pub begun_local : (ahead : ℕ) (begin : List ℕ → Reading) (text other : List ℕ) → 0 < ahead
      → take ((begun move accepts ahead begin text).passed + ahead) text ≡ take ((begun move accepts ahead begin text).passed + ahead) other
      → begun move accepts ahead begin text ≡ begun move accepts ahead begin other
  begun_local zero begin text other some e = absurd (omega arith)
  begun_local (suc more) begin text other some e = begun_by more begin text other e

  -- what is accepted was passed, and is within the text
  at_most : (v : Bool) (m n : ℕ) → m ≤ n → (if v then suc m else 0) ≤ suc n
  at_most true m n h = omega arith
  at_most false m n h = omega arith

  run_len : (ahead : ℕ) (s : Reading) (t : List ℕ) → (run move accepts ahead s t).len ≤ (run move accepts ahead s t).passed
  run_len ahead s [] = omega arith
  run_len ahead s (b ∷ bs) = by_case (move s (take ahead (b ∷ bs))) (λ t. run_len ahead t bs)
    where
      by_case : (o : Option Reading) → ((t : Reading) → (run move accepts ahead t bs).len ≤ (run move accepts ahead t bs).passed)
          → (went ahead s o bs).len ≤ (went ahead s o bs).passed
      by_case None ih = omega arith
      by_case (Some t) ih = at_most (accepts (run move accepts ahead t bs).last) _ _ (ih t)

  run_passed : (ahead : ℕ) (s : Reading) (t : List ℕ) → (run move accepts ahead s t).passed ≤ length t
  run_passed ahead s [] = omega arith
  run_passed ahead s (b ∷ bs) = by_case (move s (take ahead (b ∷ bs))) (λ t. run_passed ahead t bs)
    where
      by_case : (o : Option Reading) → ((t : Reading) → (run move accepts ahead t bs).passed ≤ length bs) → (went ahead s o bs).passed ≤ length (b ∷ bs)
      by_case None ih = omega arith
      by_case (Some t) ih = omega (arith, ih t)

  pub begun_len : (ahead : ℕ) (begin : List ℕ → Reading) (text : List ℕ) → (begun move accepts ahead begin text).len ≤ (begun move accepts ahead begin text).passed
  begun_len ahead begin [] = omega arith
  begun_len ahead begin (b ∷ bs) = omega (arith, run_len ahead (begin (take ahead (b ∷ bs))) bs)

  pub begun_passed : (ahead : ℕ) (begin : List ℕ → Reading) (text : List ℕ) → (begun move accepts ahead begin text).passed ≤ length text
  begun_passed ahead begin [] = omega arith
  begun_passed ahead begin (b ∷ bs) = omega (arith, run_passed ahead (begin (take ahead (b ∷ bs))) bs)

  pub begun_some : (ahead : ℕ) (begin : List ℕ → Reading) (text : List ℕ) → 0 < length text → 0 < (begun move accepts ahead begin text).len
  begun_some ahead begin [] some = absurd (omega arith)
  begun_some ahead begin (b ∷ bs) some = omega arith

  -- a run from a state that accepts ends in one
  either : (v : Bool) (r s : Reading) → accepts r ≡ v → accepts s ≡ true → accepts (if v then r else s) ≡ true
  either true r s e h = e
  either false r s e h = h

  pub run_accepts : (ahead : ℕ) (s : Reading) (t : List ℕ) → accepts s ≡ true → accepts (run move accepts ahead s t).last ≡ true
  run_accepts ahead s [] h = h
  run_accepts ahead s (b ∷ bs) h = by_case (move s (take ahead (b ∷ bs)))
    where
      by_case : (o : Option Reading) → accepts (went ahead s o bs).last ≡ true
      by_case None = h
      by_case (Some t) = either (accepts (run move accepts ahead t bs).last) (run move accepts ahead t bs).last s refl h

  -- What is accepted ends between characters, if the machine stops before no byte that continues a character, and goes
  -- on accepting over such a byte.
  module _ (stops : (s : Reading) (b : ℕ) (bs : List ℕ) → move s (b ∷ bs) ≡ None → (b < 128) ⊎ (192 ≤ b))
      (keeps : (s t : Reading) (b : ℕ) (bs : List ℕ) → accepts s ≡ true → move s (b ∷ bs) ≡ Some t → (accepts t ≡ true) ⊎ ((b < 128) ⊎ (192 ≤ b))) where
    abbrev Between : Run → List ℕ → Type 0
    Between r t = accepts r.last ≡ true → r.len < length t → 128 ≤ get_or t r.len 0 → 192 ≤ get_or t r.len 0

    not_both : (v : Bool) → v ≡ true → v ≡ false → ⊥
    not_both v e f = cc

    high : (b : ℕ) → (b < 128) ⊎ (192 ≤ b) → 128 ≤ b → 192 ≤ b
    high b (inl p) g = absurd (omega arith)
    high b (inr p) g = p

    by_accept : (more : ℕ) (s t : Reading) (b : ℕ) (bs : List ℕ) (r : Run) (v : Bool) → accepts r.last ≡ v → (accepts t ≡ true → accepts r.last ≡ true)
        → move s (b ∷ take more bs) ≡ Some t → Between r bs
        → Between (record { passed = suc r.passed; len = if v then suc r.len else 0; last = if v then r.last else s }) (b ∷ bs)
    by_accept more s t b bs r true e same is ih = λ a l g. ih e (omega arith) g
    by_accept more s t b bs r false e same is ih = λ a l g. elim (keeps s t b (take more bs) a is) as (λ _. 192 ≤ b) [
      | inl h ↦ absurd (not_both (accepts r.last) (same h) e)
      | inr h ↦ high b h g
    ]

    run_between : (more : ℕ) (t : List ℕ) (s : Reading) → Between (run move accepts (suc more) s t) t
    run_between more [] s = λ a l. absurd (omega arith)
    run_between more (b ∷ bs) s = by_case (move s (b ∷ take more bs)) refl (λ t. run_between more bs t)
      where
        by_case : (o : Option Reading) → move s (b ∷ take more bs) ≡ o → ((t : Reading) → Between (run move accepts (suc more) t bs) bs) → Between (went (suc more) s o bs) (b ∷ bs)
        by_case None e ih = λ a l g. high b (stops s b (take more bs) e) g
        by_case (Some t) e ih =
            by_accept more s t b bs (run move accepts (suc more) t bs) (accepts (run move accepts (suc more) t bs).last) refl (run_accepts (suc more) t bs) e (ih t)

    begun_between : (more : ℕ) (begin : List ℕ → Reading) → ((w : List ℕ) → accepts (begin w) ≡ true) → (text : List ℕ) → IsCharBoundary text (begun move accepts (suc more) begin text).len
    begun_between more begin may [] = (omega arith, λ l. absurd (omega arith))
    begun_between more begin may (b ∷ bs) =
        let s : Reading = begin (b ∷ take more bs) in
        let len : (run move accepts (suc more) s bs).len ≤ (run move accepts (suc more) s bs).passed = run_len (suc more) s bs in
        let passed : (run move accepts (suc more) s bs).passed ≤ length bs = run_passed (suc more) s bs in
        (omega arith, λ l. run_between more bs s (run_accepts (suc more) s bs (may (b ∷ take more bs))) (omega arith))

    pub begun_boundary : (ahead : ℕ) (begin : List ℕ → Reading) → 0 < ahead → ((w : List ℕ) → accepts (begin w) ≡ true)
        → (text : List ℕ) → IsCharBoundary text (begun move accepts ahead begin text).len
    begun_boundary zero begin some may text = absurd (omega arith)
    begun_boundary (suc more) begin some may text = begun_between more begin may text

  -- a run of which this much has been found, and what comes of the rest
  abbrev pub joined_run : Run → Run → Run
  joined_run q r = record {
    passed = q.passed + r.passed;
    len = if accepts r.last then q.passed + r.len else q.len;
    last = if accepts r.last then r.last else q.last;
  }

  -- the run so far ends in the state, if the state accepts
  abbrev pub Ends : Run → Reading → Type 0
  Ends q s = accepts s ≡ true → (q.len ≡ q.passed) × (q.last ≡ s)

  ends_grown : (v : Bool) (q : Run) (t : Reading) → (accepts t ≡ v) → accepts t ≡ true
      → ((let r : Run = if v then record { passed = q.passed + 1; len = q.passed + 1; last = t } else record { passed = q.passed + 1; len = q.len; last = q.last } in r.len) ≡ (let r : Run = if v then record { passed = q.passed + 1; len = q.passed + 1; last = t } else record { passed = q.passed + 1; len = q.len; last = q.last } in r.passed))
      × ((let r : Run = if v then record { passed = q.passed + 1; len = q.passed + 1; last = t } else record { passed = q.passed + 1; len = q.len; last = q.last } in r.last) ≡ t)
  ends_grown true q t e h = (refl, refl)
  ends_grown false q t e h = absurd (not_both' (accepts t) h e)
    where
      not_both' : (v : Bool) → v ≡ true → v ≡ false → ⊥
      not_both' v e f = cc

  pub grown_ends : (q : Run) (t : Reading) → Ends (grown accepts q t) t
  grown_ends q t = ends_grown (accepts t) q t refl

  passed_by : (v : Bool) (q : Run) (t : Reading)
      → (let r : Run = if v then record { passed = q.passed + 1; len = q.passed + 1; last = t } else record { passed = q.passed + 1; len = q.len; last = q.last } in r.passed) ≡ q.passed + 1
  passed_by true q t = refl
  passed_by false q t = refl

  pub grown_passed : (q : Run) (t : Reading) → (grown accepts q t).passed ≡ q.passed + 1
  grown_passed q t = passed_by (accepts t) q t

  -- one byte more
  abbrev grown_by : Bool → Run → Reading → Run
  grown_by v q t = if v then record { passed = q.passed + 1; len = q.passed + 1; last = t } else record { passed = q.passed + 1; len = q.len; last = q.last }

  by_three : (q : Run) (s t : Reading) (r : Run) (u v w : Bool) → accepts r.last ≡ u → accepts s ≡ v → accepts t ≡ w
      → (w ≡ true → u ≡ true) → Ends q s
      → (let x : Run = record {
        passed = q.passed + suc r.passed;
        len = if (if u then u else v) then q.passed + (if u then suc r.len else 0) else q.len;
        last = if (if u then u else v) then (if u then r.last else s) else q.last;
      } in x)
      ≡ (let x : Run = record {
        passed = (grown_by w q t).passed + r.passed;
        len = if u then (grown_by w q t).passed + r.len else (grown_by w q t).len;
        last = if u then r.last else (grown_by w q t).last;
      } in x)
  by_three q s t r true v true a b c d e = same_run _ _ _ _ _ _ (omega arith) (omega arith) refl
  by_three q s t r true v false a b c d e = same_run _ _ _ _ _ _ (omega arith) (omega arith) refl
  by_three q s t r false v true a b c d e = absurd (never (d refl))
    where
      never : false ≡ true → ⊥
      never h = cc
  by_three q s t r false true false a b c d e = let at = e b in let last : q.last ≡ s = at.1 in same_run _ _ _ _ _ _ (omega arith) (omega (arith, at.0)) (sym last)
  by_three q s t r false false false a b c d e = same_run _ _ _ _ _ _ (omega arith) refl refl

  -- the state after the accepted beginning accepts, if any does
  picked : (u : Bool) (r s : Reading) → accepts r ≡ u → accepts (if u then r else s) ≡ (if u then u else accepts s)
  picked true r s e = e
  picked false r s e = refl

  step_run : (q : Run) (s t : Reading) (r : Run) → (accepts t ≡ true → accepts r.last ≡ true) → Ends q s
      → joined_run q (longer accepts s r) ≡ joined_run (grown accepts q t) r
  step_run q s t r keeps ends =
      let x : accepts (if accepts r.last then r.last else s) ≡ (if accepts r.last then accepts r.last else accepts s) = picked (accepts r.last) r.last s refl in
      ap (λ (v : Bool). (let y : Run = record {
        passed = q.passed + suc r.passed;
        len = if v then q.passed + (if accepts r.last then suc r.len else 0) else q.len;
        last = if v then (if accepts r.last then r.last else s) else q.last;
      } in y)) x
      ∙ by_three q s t r (accepts r.last) (accepts s) (accepts t) refl refl refl keeps ends

  step_cons : (ahead : ℕ) (s t : Reading) (b : ℕ) (bs : List ℕ) → move s (take ahead (b ∷ bs)) ≡ Some t
      → run move accepts ahead s (b ∷ bs) ≡ longer accepts s (run move accepts ahead t bs)
  step_cons ahead s t b bs e = ap (λ o. went ahead s o bs) e

  pub run_step : (ahead : ℕ) (q : Run) (s t : Reading) (xs : List ℕ) → q.passed < length xs → move s (take ahead (drop q.passed xs)) ≡ Some t → Ends q s
      → joined_run q (run move accepts ahead s (drop q.passed xs)) ≡ joined_run (grown accepts q t) (run move accepts ahead t (drop (q.passed + 1) xs))
  run_step ahead q s t xs h e ends =
      let here : drop q.passed xs ≡ get_or xs q.passed 0 ∷ drop (q.passed + 1) xs = drop_more xs q.passed 0 h in
      let is : move s (take ahead (get_or xs q.passed 0 ∷ drop (q.passed + 1) xs)) ≡ Some t = ap (λ (l : List ℕ). move s (take ahead l)) (sym here) ∙ e in
      ap (λ (l : List ℕ). joined_run q (run move accepts ahead s l)) here
      ∙ ap (joined_run q) (step_cons ahead s t (get_or xs q.passed 0) (drop (q.passed + 1) xs) is)
      ∙ step_run q s t (run move accepts ahead t (drop (q.passed + 1) xs)) (run_accepts ahead t (drop (q.passed + 1) xs)) ends

  -- the run so far, with what it makes of the rest, is the same after one byte more
  pub run_goes_on : (ahead : ℕ) (q r : Run) (s t : Reading) (xs : List ℕ) → q.passed < length xs → move s (take ahead (drop q.passed xs)) ≡ Some t → Ends q s
      → r ≡ grown accepts q t
      → joined_run r (run move accepts ahead t (drop r.passed xs)) ≡ joined_run q (run move accepts ahead s (drop q.passed xs))
  run_goes_on ahead q r s t xs h e ends is =
      ap (λ (p : Run). joined_run p (run move accepts ahead t (drop p.passed xs))) is
      ∙ ap (λ (n : ℕ). joined_run (grown accepts q t) (run move accepts ahead t (drop n xs))) (grown_passed q t)
      ∙ sym (run_step ahead q s t xs h e ends)

  -- the end of a run
  by_end : (q : Run) (s : Reading) (v : Bool) → accepts s ≡ v → Ends q s
      → (let x : Run = record { passed = q.passed + 0; len = if v then q.passed + 0 else q.len; last = if v then s else q.last } in x) ≡ q
  by_end q s true e ends = let at = ends e in let len : q.len ≡ q.passed = at.0 in same_run _ _ _ _ _ _ (omega arith) (omega arith) (sym at.1)
  by_end q s false e ends = same_run _ _ _ _ _ _ (omega arith) refl refl

  end_run : (q : Run) (s : Reading) → Ends q s → joined_run q (stopped s) ≡ q
  end_run q s ends = by_end q s (accepts s) refl ends

  stop_cons : (ahead : ℕ) (s : Reading) (b : ℕ) (bs : List ℕ) → move s (take ahead (b ∷ bs)) ≡ None → run move accepts ahead s (b ∷ bs) ≡ stopped s
  stop_cons ahead s b bs e = ap (λ o. went ahead s o bs) e

  pub run_stop : (ahead : ℕ) (q : Run) (s : Reading) (xs : List ℕ) → q.passed < length xs → move s (take ahead (drop q.passed xs)) ≡ None → Ends q s
      → joined_run q (run move accepts ahead s (drop q.passed xs)) ≡ q
  run_stop ahead q s xs h e ends =
      let here : drop q.passed xs ≡ get_or xs q.passed 0 ∷ drop (q.passed + 1) xs = drop_more xs q.passed 0 h in
      let is : move s (take ahead (get_or xs q.passed 0 ∷ drop (q.passed + 1) xs)) ≡ None = ap (λ (l : List ℕ). move s (take ahead l)) (sym here) ∙ e in
      ap (λ (l : List ℕ). joined_run q (run move accepts ahead s l)) here
      ∙ ap (joined_run q) (stop_cons ahead s (get_or xs q.passed 0) (drop (q.passed + 1) xs) is)
      ∙ end_run q s ends

  none_left : (xs : List ℕ) (n : ℕ) → length xs ≤ n → drop n xs ≡ []
  none_left [] zero l = refl
  none_left [] (suc n) l = refl
  none_left (x ∷ xs) zero l = absurd (omega arith)
  none_left (x ∷ xs) (suc n) l = none_left xs n (omega arith)

  pub run_at_end : (ahead : ℕ) (q : Run) (s : Reading) (xs : List ℕ) → length xs ≤ q.passed → Ends q s
      → joined_run q (run move accepts ahead s (drop q.passed xs)) ≡ q
  run_at_end ahead q s xs l ends = ap (λ (t : List ℕ). joined_run q (run move accepts ahead s t)) (none_left xs q.passed l) ∙ end_run q s ends

  -- the beginning of a run
  by_first : (s : Reading) (r : Run) (v : Bool) → accepts r.last ≡ v → accepts r.last ≡ true
      → (let x : Run = record { passed = 1 + r.passed; len = if v then 1 + r.len else 1; last = if v then r.last else s } in x) ≡ one_more r
  by_first s r true e h = same_run _ _ _ _ _ _ (omega arith) (omega arith) refl
  by_first s r false e h = absurd (not_true (accepts r.last) h e)
    where
      not_true : (v : Bool) → v ≡ true → v ≡ false → ⊥
      not_true v e f = cc

  pub run_first : (ahead : ℕ) (begin : List ℕ → Reading) (xs : List ℕ) → 0 < length xs → accepts (begin (take ahead xs)) ≡ true
      → joined_run (record { passed = 1; len = 1; last = begin (take ahead xs) }) (run move accepts ahead (begin (take ahead xs)) (drop 1 xs)) ≡ begun move accepts ahead begin xs
  run_first ahead begin [] some may = absurd (omega arith)
  run_first ahead begin (b ∷ bs) some may =
      let s : Reading = begin (take ahead (b ∷ bs)) in
      by_first s (run move accepts ahead s bs) (accepts (run move accepts ahead s bs).last) refl (run_accepts ahead s bs may)
