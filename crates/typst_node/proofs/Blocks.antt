-- Ends that are kept in blocks.
use Rattle.std.proofs.Common.{◌≡◌, ℕ, suc, zero, ◌+◌, ◌-◌, ◌*◌, ◌/◌, ◌%◌, ◌<◌, ◌≤◌, ◌^◌, List, [], ◌∷◌, ◌++◌, length, take, drop, refl, sym, ap, ◌∙◌, arith, get_or, set, map, inl, inr, ◌⊎◌, length-append, length-drop, length-take, get_or-drop, get_or-take}
use Rattle.std.proofs.Math.ListN.{replicate}
use Rattle.std.proofs.Math.Seq.{take-append_seam}
use Rattle.std.proofs.lemmas.Bool.{cases_lt}
use Rattle.std.proofs.lemmas.Grind.{same_number_lists}
use Rattle.std.proofs.lemmas.List.{append-nil, get_or_append_left, get_or-append_right, get_or-map, get_or-replicate, length-map, length-replicate}
use Rattle.std.specs.List.{AllByRecursion}
use Rattle.std.specs.Prelude.{if◌then◌else◌, Result, Ok, Err, IsOk, is_ok, Option, Some, None, Box}
use Rattle.std.specs.Global.{Global}
use Rattle.typst_node.specs.Ends.{ends_seen, starts_in, IsTight, moved}
use Rattle.typst_node.specs.EndsLength.{length-ends_seen}

pub seen_from : (starts : List ℕ) (place : ℕ) (es : List ℕ) (i : ℕ) → i < length es → get_or (ends_seen starts place es) i 0 ≡ (get_or starts ((place + i) / 256) 0 + get_or es i 0) % 2 ^ 32
seen_from starts place [] i h = absurd (omega arith)
seen_from starts place (e ∷ es) zero h = let same : place ≡ place + zero = omega arith in ap (λ n. (get_or starts (n / 256) 0 + e) % 2 ^ 32) same
seen_from starts place (e ∷ es) (suc i) h =
    let same : suc place + i ≡ place + suc i = omega arith in
    seen_from starts (suc place) es i (omega arith) ∙ ap (λ n. (get_or starts (n / 256) 0 + get_or es i 0) % 2 ^ 32) same

-- the end at a place
pub seen_at : (starts es : List ℕ) (i : ℕ) → i < length es → get_or (ends_seen starts 0 es) i 0 ≡ (get_or starts (i / 256) 0 + get_or es i 0) % 2 ^ 32
seen_at starts es i h =
    let same : 0 + i ≡ i = omega arith in
    seen_from starts 0 es i h ∙ ap (λ n. (get_or starts (n / 256) 0 + get_or es i 0) % 2 ^ 32) same

-- numbers that wrap
pub raised_within : (s w by : ℕ) → (s + (w + by) % 2 ^ 32) % 2 ^ 32 ≡ ((s + w) % 2 ^ 32 + by) % 2 ^ 32
raised_within s w by = omega arith

seen_set : (starts : List ℕ) (place : ℕ) (es : List ℕ) (i e : ℕ) → ends_seen starts place (set es i e) ≡ set (ends_seen starts place es) i ((get_or starts ((place + i) / 256) 0 + e) % 2 ^ 32)
seen_set starts place [] i e = refl
seen_set starts place (x ∷ es) zero e =
    let same : place ≡ place + zero = omega arith in
    ap (λ n. ((get_or starts (n / 256) 0 + e) % 2 ^ 32) ∷ ends_seen starts (suc place) es) same
seen_set starts place (x ∷ es) (suc i) e =
    let same : suc place + i ≡ place + suc i = omega arith in
    ap (λ ys. ((get_or starts (place / 256) 0 + x) % 2 ^ 32) ∷ ys)
    (seen_set starts (suc place) es i e ∙ ap (λ n. set (ends_seen starts (suc place) es) i ((get_or starts (n / 256) 0 + e) % 2 ^ 32)) same)

-- the difference to where the block begins is written for an end
pub written : (start end : ℕ) → start < 2 ^ 32 → end < 2 ^ 32 → (start + (end + (2 ^ 32 - start)) % 2 ^ 32) % 2 ^ 32 ≡ end
written start end a b = omega arith

pub seen-write : (starts es : List ℕ) (i start end : ℕ) → start < 2 ^ 32 → end < 2 ^ 32 → start ≡ get_or starts (i / 256) 0 → ends_seen starts 0 (set es i ((end + (2 ^ 32 - start)) % 2 ^ 32)) ≡ set (ends_seen starts 0 es) i end
seen-write starts es i start end a b is =
    let d : ℕ = (end + (2 ^ 32 - start)) % 2 ^ 32 in
    let same : 0 + i ≡ i = omega arith in
    seen_set starts 0 es i d ∙ (λ j. set (ends_seen starts 0 es) i ((get_or starts (same j / 256) 0 + d) % 2 ^ 32))
    ∙ ap (λ n. set (ends_seen starts 0 es) i n) (ap (λ s. (s + d) % 2 ^ 32) (sym is) ∙ written start end a b)

-- the end before an end, if there is one
pub seen-before : (es : List ℕ) (i : ℕ) → 0 < i → get_or (0 ∷ es) i 0 ≡ get_or es (i - 1) 0
seen-before es zero h = absurd (omega arith)
seen-before es (suc i) h = let same : i ≡ suc i - 1 = omega arith in ap (λ k. get_or es k 0) same

-- an end in the same block as the one before it
pub seen-follow : (starts es : List ℕ) (i by : ℕ) → i < length es → 0 < i % 256 → ends_seen starts 0 (set es i ((get_or es (i - 1) 0 + by) % 2 ^ 32)) ≡ set (ends_seen starts 0 es) i ((get_or (0 ∷ ends_seen starts 0 es) i 0 + by) % 2 ^ 32)
seen-follow starts es i by inside middle =
    let w : ℕ = get_or es (i - 1) 0 in
    let some : 0 < i = omega (arith, middle) in
    let block : (i - 1) / 256 ≡ (0 + i) / 256 = omega (arith, middle) in
    let before : get_or (0 ∷ ends_seen starts 0 es) i 0 ≡ (get_or starts ((0 + i) / 256) 0 + w) % 2 ^ 32 =
    seen-before (ends_seen starts 0 es) i some ∙ (seen_at starts es (i - 1) (omega arith) ∙ ap (λ b. (get_or starts b 0 + w) % 2 ^ 32) block) in
    seen_set starts 0 es i ((w + by) % 2 ^ 32)
    ∙ ap (λ n. set (ends_seen starts 0 es) i n) (raised_within (get_or starts ((0 + i) / 256) 0) w by ∙ ap (λ n. (n + by) % 2 ^ 32) (sym before))

-- ends that are counted from the beginning of all
pub seen_plain : (starts : List ℕ) (place : ℕ) (es : List ℕ) → ((k : ℕ) → get_or starts k 0 ≡ 0) → ((k d : ℕ) → k < length es → get_or es k d < 2 ^ 32) → ends_seen starts place es ≡ es
seen_plain starts place [] none fits = refl
seen_plain starts place (e ∷ es) none fits =
    let one : (get_or starts (place / 256) 0 + e) % 2 ^ 32 ≡ e = omega (arith, none (place / 256), fits 0 0 (omega arith)) in
    (λ i. one i ∷ seen_plain starts (suc place) es none (λ k d h. fits (suc k) d (omega arith)) i)

zeros : (n k : ℕ) → get_or (replicate n zero) k zero ≡ zero
zeros zero k = refl
zeros (suc n) zero = refl
zeros (suc n) (suc k) = zeros n k

pub none_begins : (n k : ℕ) → get_or (zero ∷ replicate n zero) k zero ≡ zero
none_begins n zero = refl
none_begins n (suc k) = zeros n k

-- ends under two lists of beginnings that are the same at their blocks
pub seen_alike : (starts others : List ℕ) (place : ℕ) (es : List ℕ) → ((k : ℕ) → get_or starts k 0 ≡ get_or others k 0) → ends_seen starts place es ≡ ends_seen others place es
seen_alike starts others place [] same = refl
seen_alike starts others place (e ∷ es) same = (λ i. ((same (place / 256) i + e) % 2 ^ 32) ∷ seen_alike starts others (suc place) es same i)

pub take-seen : (starts : List ℕ) (place n : ℕ) (es : List ℕ) → take n (ends_seen starts place es) ≡ ends_seen starts place (take n es)
take-seen starts place zero es = refl
take-seen starts place (suc n) [] = refl
take-seen starts place (suc n) (e ∷ es) = ap (λ ys. ((get_or starts (place / 256) 0 + e) % 2 ^ 32) ∷ ys) (take-seen starts (suc place) n es)

-- a list of beginnings with blocks after it that begin at 0
pub with_zeros : (starts : List ℕ) (n k : ℕ) → get_or (starts ++ replicate n zero) k zero ≡ get_or starts k zero
with_zeros [] n k = zeros n k
with_zeros (s ∷ starts) n zero = refl
with_zeros (s ∷ starts) n (suc k) = with_zeros starts n k

pub within_taken : (starts : List ℕ) (first k : ℕ) → k ≤ first → get_or (zero ∷ take first starts) k zero ≡ get_or (zero ∷ starts) k zero
within_taken starts first zero h = refl
within_taken starts first (suc k) h = within starts first k (omega arith)
  where
    within : (xs : List ℕ) (n k : ℕ) → k < n → get_or (take n xs) k zero ≡ get_or xs k zero
    within xs zero k h = absurd (omega arith)
    within [] (suc n) k h = refl
    within (x ∷ xs) (suc n) zero h = refl
    within (x ∷ xs) (suc n) (suc k) h = within xs n k (omega arith)

-- numbers that wrap, in the other order
pub raised_start : (s w by : ℕ) → ((s + by) % 2 ^ 32 + w) % 2 ^ 32 ≡ ((s + w) % 2 ^ 32 + by) % 2 ^ 32
raised_start s w by = omega arith

at_each : (P : ℕ → Type 0) (es : List ℕ) → AllByRecursion P es → (k : ℕ) → k < length es → P (get_or es k 0)
at_each P [] all k h = absurd (omega arith)
at_each P (e ∷ es) all zero h = all.0
at_each P (e ∷ es) all (suc k) h = at_each P es all.1 k (omega arith)

-- The rest of a block is raised, and where later blocks begin.
module _ (starts others before after : List ℕ) (from stop by : ℕ) (many : length after ≡ length before) (blocks : length starts ≡ length before / 256)
    (same_block : (k : ℕ) → from ≤ k → k < stop → k / 256 ≡ from / 256) (later_block : (k : ℕ) → stop ≤ k → k < length before → from / 256 < k / 256)
    (raised : (k : ℕ) → from ≤ k → k < stop → get_or after k 0 ≡ (get_or before k 0 + by) % 2 ^ 32)
    (front : (k : ℕ) → k < from → get_or after k 0 ≡ get_or before k 0) (back : (k : ℕ) → stop ≤ k → get_or after k 0 ≡ get_or before k 0)
    (begins : (k : ℕ) → k < from / 256 → get_or others k 0 ≡ get_or starts k 0)
    (moved : (k : ℕ) → from / 256 ≤ k → k < length starts → get_or others k 0 ≡ (get_or starts k 0 + by) % 2 ^ 32) where
  low : (block : ℕ) → block ≤ from / 256 → get_or (0 ∷ others) block 0 ≡ get_or (0 ∷ starts) block 0
  low zero h = refl
  low (suc block) h = begins block h

  high : (block : ℕ) → from / 256 < block → block ≤ length starts → get_or (0 ∷ others) block 0 ≡ (get_or (0 ∷ starts) block 0 + by) % 2 ^ 32
  high zero h j = absurd (omega arith)
  high (suc block) h j = moved block (omega arith) (omega arith)

  pub stays : (k : ℕ) → k < length before → k < from → get_or (ends_seen (0 ∷ others) 0 after) k 0 ≡ get_or (ends_seen (0 ∷ starts) 0 before) k 0
  stays k h j =
      seen_at (0 ∷ others) after k (omega arith) ∙ ((λ i. (low (k / 256) (omega arith) i + front k j i) % 2 ^ 32) ∙ sym (seen_at (0 ∷ starts) before k h))

  pub rises : (k : ℕ) → k < length before → from ≤ k → get_or (ends_seen (0 ∷ others) 0 after) k 0 ≡ (get_or (ends_seen (0 ∷ starts) 0 before) k 0 + by) % 2 ^ 32
  rises k h j = seen_at (0 ∷ others) after k (omega arith) ∙ (by_part (cases_lt k stop) ∙ ap (λ e. (e + by) % 2 ^ 32) (sym (seen_at (0 ∷ starts) before k h)))
    where
      by_part : (k < stop) ⊎ (stop ≤ k) → (get_or (0 ∷ others) (k / 256) 0 + get_or after k 0) % 2 ^ 32 ≡ ((get_or (0 ∷ starts) (k / 256) 0 + get_or before k 0) % 2 ^ 32 + by) % 2 ^ 32
      by_part (inl here) =
          let e : k / 256 ≤ from / 256 = omega (arith, same_block k j here) in
          (λ i. (low (k / 256) e i + raised k j here i) % 2 ^ 32) ∙ raised_within (get_or (0 ∷ starts) (k / 256) 0) (get_or before k 0) by
      by_part (inr there) = (λ i. (high (k / 256) (later_block k there h) (omega arith) i + back k there i) % 2 ^ 32) ∙ raised_start (get_or (0 ∷ starts) (k / 256) 0) (get_or before k 0) by

pub where_ok : {E : Type 0} {X : Type 0} (r : Result (Unit {0}) E) (a b : X) → IsOk r → (if is_ok r then a else b) ≡ a
where_ok (Ok x) a b h = refl
where_ok (Err e) a b h = cc

-- what is left to go down from some blocks
abbrev pub weight : Option (Box (List ℕ) Global) → ℕ
weight None = 0
weight (Some starts) = 2 * length starts.value + 2

pub lighter : (starts : Option (Box (List ℕ) Global)) (many : ℕ) → IsTight starts → length (starts_in starts) ≡ many / 256 → weight starts < 2 * many + 1
lighter None many tight is = omega arith
lighter (Some starts) many tight is = omega (arith, tight, is)

-- Numbers of which all from a place on are raised by a difference, which wraps.
module _ (old new : List ℕ) (from gone added : ℕ) (many : length new ≡ length old)
    (before : (k : ℕ) → k < from → get_or new k 0 ≡ get_or old k 0)
    (behind : (k : ℕ) → from ≤ k → k < length old → get_or new k 0 ≡ moved gone added (get_or old k 0)) where
  pub rest_stays : take from new ≡ take from old
  rest_stays =
      same_number_lists (take from new) (take from old) (omega (arith, many, length-take from new, length-take from old))
      (λ k h. let inner : k < from = omega (arith, length-take from new) in get_or-take from new k 0 inner ∙ (before k inner ∙ sym (get_or-take from old k 0 inner)))

  pub rest_moves : drop from new ≡ map (moved gone added) (drop from old)
  rest_moves =
      same_number_lists (drop from new) (map (moved gone added) (drop from old)) (omega (arith, many, length-drop from new, length-drop from old, length-map (drop from old) (moved gone added)))
      (λ k h. let inner : k < length (drop from old) = omega (arith, many, length-drop from new, length-drop from old) in
      get_or-drop from new k 0
      ∙ (behind (from + k) (omega arith) (omega (arith, length-drop from old))
      ∙ (ap (moved gone added) (sym (get_or-drop from old k 0)) ∙ sym (get_or-map (moved gone added) (drop from old) k 0 0 inner))))

-- The rest of a list is 0.
pub cleared : (old new : List ℕ) (from : ℕ) → from ≤ length old → length new ≡ length old
    → ((k : ℕ) → k < from → get_or new k 0 ≡ get_or old k 0)
    → ((k : ℕ) → from ≤ k → k < length old → get_or new k 0 ≡ 0)
    → new ≡ take from old ++ replicate (length old - from) zero
cleared old new from inside many kept zeros_behind =
    same_number_lists new (take from old ++ replicate (length old - from) 0) (omega (arith, many, length-append (take from old) (replicate (length old - from) 0), length-take from old, length-replicate {A = ℕ} (length old - from) 0))
    (λ k h. at k (omega (arith, many)) (cases_lt k from))
  where
    at : (k : ℕ) → k < length old → (k < from) ⊎ (from ≤ k) → get_or new k 0 ≡ get_or (take from old ++ replicate (length old - from) 0) k 0
    at k h (inl a) = kept k a ∙ (sym (get_or-take from old k 0 a) ∙ sym (get_or_append_left (take from old) (replicate (length old - from) 0) 0 k (omega (arith, length-take from old))))
    at k h (inr a) =
        zeros_behind k a h
        ∙ (sym (get_or-replicate (length old - from) (k - from) 0 0 (omega arith))
        ∙ sym (get_or-append_right (take from old) (replicate (length old - from) 0) from k 0 (omega (arith, length-take from old)) a))

-- blocks that begin at 0 after all others change no end
pub seen_with_zeros : (starts : List ℕ) (n : ℕ) (es : List ℕ) → ends_seen (0 ∷ (starts ++ replicate n zero)) 0 es ≡ ends_seen (0 ∷ starts) 0 es
seen_with_zeros starts n es = seen_alike (0 ∷ (starts ++ replicate n zero)) (0 ∷ starts) 0 es (with_zeros (zero ∷ starts) n)

-- nor do blocks after the last end
pub seen_trimmed : (starts : List ℕ) (first : ℕ) (es : List ℕ) → length es / 256 ≤ first → ends_seen (0 ∷ take first starts) 0 es ≡ ends_seen (0 ∷ starts) 0 es
seen_trimmed starts first es enough =
    same_number_lists (ends_seen (0 ∷ take first starts) 0 es) (ends_seen (0 ∷ starts) 0 es) (length-ends_seen (0 ∷ take first starts) 0 es ∙ sym (length-ends_seen (0 ∷ starts) 0 es))
    (λ k h. let inside : k < length es = omega (arith, length-ends_seen (0 ∷ take first starts) 0 es) in
    seen_at (0 ∷ take first starts) es k inside
    ∙ (ap (λ s. (s + get_or es k 0) % 2 ^ 32) (within_taken starts first (k / 256) (omega (arith, enough))) ∙ sym (seen_at (0 ∷ starts) es k inside)))

pub seen_cut : (starts within : List ℕ) (many first : ℕ) → length (take many within) / 256 ≤ first
    → ends_seen (0 ∷ take first starts) 0 (take many within) ≡ take many (ends_seen (0 ∷ starts) 0 within)
seen_cut starts within many first enough =
    seen_trimmed starts first (take many within) enough ∙ sym (take-seen (0 ∷ starts) 0 many within)

pub with_none : (xs : List ℕ) (n : ℕ) → n ≡ 0 → xs ≡ xs ++ replicate n zero
with_none xs n is = sym (append-nil xs) ∙ ap (λ k. xs ++ replicate k zero) (sym is)

-- the first ends, after others have come and blocks that begin at 0
pub seen_before : (starts within more : List ℕ) (n : ℕ) → take (length within) (ends_seen (0 ∷ (starts ++ replicate n zero)) 0 (within ++ more)) ≡ ends_seen (0 ∷ starts) 0 within
seen_before starts within more n =
    ap (take (length within)) (seen_with_zeros starts n (within ++ more))
    ∙ (take-seen (0 ∷ starts) 0 (length within) (within ++ more) ∙ ap (ends_seen (0 ∷ starts) 0) (take-append_seam within more))

-- Ends are moved to another place: each end after them is counted from the beginning of the block that it is in now.
module _ (starts within placed after : List ℕ) (from to many n first : ℕ) (order : from ≤ to) (inside : to ≤ length within)
    (moved : length placed + (to - from) ≡ length within + many) (in_all : length after ≡ length placed) (enough : length after / 256 ≤ first)
    (before : take from placed ≡ take from within) (behind : drop (from + many) placed ≡ drop to within)
    (front : (k : ℕ) → k < from + many → get_or after k 0 ≡ get_or placed k 0)
    (recounted : (k : ℕ) → from + many ≤ k → k < length placed
    → (get_or (0 ∷ (starts ++ replicate n zero)) (k / 256) 0 + get_or after k 0) % 2 ^ 32
    ≡ (get_or (0 ∷ (starts ++ replicate n zero)) ((k - (from + many) + to) / 256) 0 + get_or placed k 0) % 2 ^ 32) where
  abbrev grown : List ℕ
  grown = 0 ∷ (starts ++ replicate n zero)

  uncut : ends_seen (0 ∷ take first (starts ++ replicate n zero)) 0 after ≡ ends_seen grown 0 after
  uncut = seen_trimmed (starts ++ replicate n zero) first after enough

  first_ones : take from after ≡ take from within
  first_ones =
      same_number_lists (take from after) (take from placed) (omega (arith, in_all, length-take from after, length-take from placed))
      (λ k h. let near : k < from = omega (arith, length-take from after) in
      get_or-take from after k 0 near ∙ (front k (omega arith) ∙ sym (get_or-take from placed k 0 near)))
      ∙ before

  pub place_before : take from (ends_seen (0 ∷ take first (starts ++ replicate n zero)) 0 after) ≡ take from (ends_seen (0 ∷ starts) 0 within)
  place_before =
      ap (take from) uncut
      ∙ (take-seen grown 0 from after
      ∙ (ap (ends_seen grown 0) first_ones ∙ (sym (take-seen grown 0 from within) ∙ ap (take from) (seen_with_zeros starts n within))))

  stood : (k : ℕ) → from + many + k - (from + many) + to ≡ to + k
  stood k = omega arith

  item : (k : ℕ) → get_or placed (from + many + k) 0 ≡ get_or within (to + k) 0
  item k = sym (get_or-drop (from + many) placed k 0) ∙ (ap (λ (xs : List ℕ). get_or xs k 0) behind ∙ get_or-drop to within k 0)

  pub place_behind : drop (from + many) (ends_seen (0 ∷ take first (starts ++ replicate n zero)) 0 after) ≡ drop to (ends_seen (0 ∷ starts) 0 within)
  place_behind =
      let new : List ℕ = ends_seen grown 0 after in
      let old : List ℕ = ends_seen grown 0 within in
      ap (drop (from + many)) uncut
      ∙ (same_number_lists (drop (from + many) new) (drop to old)
      (omega (arith, length-drop (from + many) new, length-drop to old, length-ends_seen grown 0 after, length-ends_seen grown 0 within))
      (λ k h. let near : from + many + k < length after = omega (arith, length-drop (from + many) new, length-ends_seen grown 0 after) in
      get_or-drop (from + many) new k 0
      ∙ (seen_at grown after (from + many + k) near
      ∙ (recounted (from + many + k) (omega arith) (omega arith)
      ∙ ((λ i. (get_or grown (stood k i / 256) 0 + item k i) % 2 ^ 32)
      ∙ (sym (seen_at grown within (to + k) (omega arith)) ∙ sym (get_or-drop to old k 0))))))
      ∙ ap (drop to) (seen_with_zeros starts n within))
