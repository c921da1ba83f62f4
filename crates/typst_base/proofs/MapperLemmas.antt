-- What the kept segments of a mapper say of the positions.
use Rattle.std.proofs.Common.{◌≡◌, None, ℕ, zero, suc, ◌+◌, ◌-◌, ◌<◌, ◌≤◌, true, false, List, [], ◌∷◌, ◌++◌, length, get_or, drop, refl, ap, sym, ◌∙◌, arith, subst, Some, inl, inr, length-append, leb, leb-true}
use Rattle.std.proofs.lemmas.Bool.Decides.{nat_tests, leb_tells}
use Rattle.std.specs.List.Sorted.{IsNonDecreasingBy, IsPartitionPoint}
use Rattle.std.proofs.lemmas.List.{drop_more, append-nil, drop_all, get_or_append_left, get_or-append_right}
use Rattle.std.proofs.lemmas.List.FromFn.{length-range_with_len, get_or-range_with_len}
use Rattle.std.proofs.lemmas.Option.{get_or_from_slice_get, slice_get_within}
use Rattle.std.specs.List.{flat_map, slice_get}
use Rattle.std.specs.declared.ops.Range.{Range}
use Rattle.typst_base.specs.Mapping.{positions_of}
use Rattle.typst_base.specs.Segments.{first_invalid, ranges, running}
use Rattle.typst_base.specs.declared.mapper.Segment.{Segment}

-- ---- segments and their ranges
pub ranges-running : (base : ℕ) (rs : List (Range ℕ)) → ranges (running base rs) ≡ rs
ranges-running base [] = refl
ranges-running base (r ∷ rest) = ap (λ xs. r ∷ xs) (ranges-running (base + (r.end - r.start)) rest)

pub length-running : (base : ℕ) (rs : List (Range ℕ)) → length (running base rs) ≡ length rs
length-running base [] = refl
length-running base (r ∷ rest) = ap suc (length-running (base + (r.end - r.start)) rest)

length-positions_of : (r : Range ℕ) → length (positions_of r) ≡ r.end - r.start
length-positions_of r = length-range_with_len r.start (r.end - r.start)

-- ---- the last number of mapped bytes is that of all
pub upto-last : (base : ℕ) (rs : List (Range ℕ)) (k : ℕ) (d : Segment) → k + 1 ≡ length rs → (get_or (running base rs) k d).upto ≡ base + length (flat_map positions_of rs)
upto-last base [] k d e = absurd (omega arith)
upto-last base (r ∷ []) zero d e = omega (arith, length-append (positions_of r) [], length-positions_of r)
upto-last base (r ∷ (s ∷ rest)) zero d e = absurd (omega arith)
upto-last base (r ∷ rest) (suc k) d e =
    let within : k + 1 ≡ length rest = omega arith in
    omega (arith, upto-last (base + (r.end - r.start)) rest k d within, length-append (positions_of r) (flat_map positions_of rest), length-positions_of r)

-- ---- the numbers of mapped bytes rise
pub upto-above : (base : ℕ) (rs : List (Range ℕ)) (k : ℕ) (d : Segment) → k < length rs → base ≤ (get_or (running base rs) k d).upto
upto-above base [] k d h = absurd (omega arith)
upto-above base (r ∷ rest) zero d h = omega arith
upto-above base (r ∷ rest) (suc k) d h =
    let within : k < length rest = omega arith in
    omega (arith, upto-above (base + (r.end - r.start)) rest k d within)

pub upto-rises : (base : ℕ) (rs : List (Range ℕ)) (i j : ℕ) (d : Segment) → i ≤ j → j < length rs → (get_or (running base rs) i d).upto ≤ (get_or (running base rs) j d).upto
upto-rises base [] i j d le h = absurd (omega arith)
upto-rises base (r ∷ rest) zero zero d le h = omega arith
upto-rises base (r ∷ rest) zero (suc j) d le h =
    let within : j < length rest = omega arith in
    upto-above (base + (r.end - r.start)) rest j d within
upto-rises base (r ∷ rest) (suc i) zero d le h = absurd (omega arith)
upto-rises base (r ∷ rest) (suc i) (suc j) d le h =
    let within : j < length rest = omega arith in
    let below : i ≤ j = omega arith in
    upto-rises (base + (r.end - r.start)) rest i j d below within

-- ---- a byte's position, from the first segment that goes past it
pub record FoundAt (base : ℕ) (rs : List (Range ℕ)) (i k : ℕ) (d : Segment) : Type 0 where
  pub position : get_or (flat_map positions_of rs) (i - base) 0 ≡ (get_or (running base rs) k d).end - ((get_or (running base rs) k d).upto - i)
  pub within : (get_or (running base rs) k d).upto ≤ i + (get_or (running base rs) k d).end

pub found_at : (base : ℕ) (rs : List (Range ℕ)) (i k : ℕ) (d : Segment) → base ≤ i → k < length rs → ((j : ℕ) → j < k → (get_or (running base rs) j d).upto ≤ i) → i < (get_or (running base rs) k d).upto → FoundAt base rs i k d
found_at base [] i k d le h before past = absurd (omega arith)
found_at base (r ∷ rest) i zero d le h before past =
    let inside : i - base < r.end - r.start = omega arith in
    let inner : i - base < length (positions_of r) = omega (arith, length-positions_of r) in
    record {
      position =
          get_or_append_left (positions_of r) (flat_map positions_of rest) 0 (i - base) inner
          ∙ get_or-range_with_len r.start (r.end - r.start) (i - base) 0 inside
          ∙ omega arith;
      within = omega arith;
    }
found_at base (r ∷ rest) i (suc k) d le h before past =
    let next : base + (r.end - r.start) ≤ i = before 0 (omega arith) in
    let within : k < length rest = omega arith in
    let found = found_at (base + (r.end - r.start)) rest i k d next within (λ j l. before (suc j) (omega arith)) past in
    let gone : r.end - r.start ≤ i - base = omega arith in
    let left : i - base - (r.end - r.start) ≡ i - (base + (r.end - r.start)) = omega arith in
    record {
      position =
          get_or-append_right (positions_of r) (flat_map positions_of rest) (r.end - r.start) (i - base) 0 (length-positions_of r) gone
          ∙ ap (λ n. get_or (flat_map positions_of rest) n 0) left
          ∙ found.position;
      within = found.within;
    }

-- ---- the same, of the segments as they are kept
pub IsNonDecreasingBy-upto : (items : List Segment) → items ≡ running 0 (ranges items) → IsNonDecreasingBy (λ (s : Segment). s.upto) items
IsNonDecreasingBy-upto items e =
    subst (IsNonDecreasingBy (λ (s : Segment). s.upto)) (sym e) (λ i j d le h. upto-rises 0 (ranges items) i j d le (omega (arith, length-running 0 (ranges items))))

pub record Found (items : List Segment) (rs : List (Range ℕ)) (i k : ℕ) (d : Segment) : Type 0 where
  pub inside : k < length items
  pub past : i < (get_or items k d).upto
  pub within : (get_or items k d).upto ≤ i + (get_or items k d).end
  pub position : get_or (flat_map positions_of rs) i 0 ≡ (get_or items k d).end - ((get_or items k d).upto - i)

inside_of : (rs : List (Range ℕ)) (i k : ℕ) (d : Segment) → i < length (flat_map positions_of rs) → k ≤ length rs → ((j : ℕ) → j < k → (get_or (running 0 rs) j d).upto ≤ i) → k < length rs
inside_of [] i k d h le before = absurd (omega arith)
inside_of (r ∷ rest) i k d h le before =
    let last = upto-last 0 (r ∷ rest) (length rest) d (omega arith) in
    elim (leb_tells k (length rest)) [
      | inl low ↦ omega (arith, low.1)
      | inr high ↦ absurd (omega (arith, high.1, before (length rest) high.1, last))
    ]

above_of : (a b : ℕ) → leb a b ≡ false → b < a
above_of a b e = grind (arith, nat_tests)

found_running : (rs : List (Range ℕ)) (i k : ℕ) (d : Segment) → i < length (flat_map positions_of rs) → k ≤ length (running 0 rs) → IsPartitionPoint (λ (y : Segment). leb y.upto i ≡ true) (λ (y : Segment). leb y.upto i ≡ false) (running 0 rs) k → Found (running 0 rs) rs i k d
found_running rs i k d h le point =
    let before : (j : ℕ) → j < k → (get_or (running 0 rs) j d).upto ≤ i = λ j l. leb-true _ _ (point.0 j d (omega arith) l) in
    let low : k ≤ length rs = omega (arith, length-running 0 rs) in
    let inner : k < length rs = inside_of rs i k d h low before in
    let inside : k < length (running 0 rs) = omega (arith, length-running 0 rs) in
    let past : i < (get_or (running 0 rs) k d).upto = above_of _ _ (point.1 k d (omega arith) inside) in
    let found = found_at 0 rs i k d (omega arith) inner before past in
    let same : i ≡ i - 0 = omega arith in
    record {
      inside = inside;
      past = past;
      within = found.within;
      position = ap (λ n. get_or (flat_map positions_of rs) n 0) same ∙ found.position;
    }

-- the segment at the place that a search by halves finds
pub found_in : (items : List Segment) (i k : ℕ) (d : Segment) → items ≡ running 0 (ranges items) → i < length (flat_map positions_of (ranges items)) → k ≤ length items → IsPartitionPoint (λ (y : Segment). leb y.upto i ≡ true) (λ (y : Segment). leb y.upto i ≡ false) items k → Found items (ranges items) i k d
found_in items i k d e h le point =
    subst
    (λ (xs : List Segment). k ≤ length xs → IsPartitionPoint (λ (y : Segment). leb y.upto i ≡ true) (λ (y : Segment). leb y.upto i ≡ false) xs k → Found xs (ranges items) i k d)
    (sym e)
    (λ l p. found_running (ranges items) i k d h l p)
    le
    point

-- how many bytes all segments have, from the last of them
pub total_of : (items : List Segment) (k : ℕ) (d : Segment) → items ≡ running 0 (ranges items) → k + 1 ≡ length items → (get_or items k d).upto ≡ length (flat_map positions_of (ranges items))
total_of items k d e last =
    let count = length-running 0 (ranges items) in
    let same = ap length e in
    ap (λ (xs : List Segment). (get_or xs k d).upto) e
    ∙ upto-last 0 (ranges items) k d (omega (arith, count, same))
    ∙ omega arith

pub total_by_last : (items xs : List Segment) (s : Segment) → xs ≡ items → items ≡ running 0 (ranges items) → Some s ≡ slice_get xs (length xs - 1) → s.upto ≡ length (flat_map positions_of (ranges items))
total_by_last items xs s same e last =
    let at : slice_get items (length items - 1) ≡ Some s = ap (λ ys. slice_get ys (length ys - 1)) (sym same) ∙ sym last in
    let inside = slice_get_within items (length items - 1) s at in
    ap (λ (t : Segment). t.upto) (sym (get_or_from_slice_get items (length items - 1) s s at))
    ∙ total_of items (length items - 1) s e (omega arith)

-- ---- the segments that are kept at the end
pub kept_all : (kept : List Segment) (upto index : ℕ) (rs : List (Range ℕ)) → length rs ≤ index → kept ++ running upto (drop index rs) ≡ running 0 rs → kept ≡ running 0 rs
kept_all kept upto index rs past e =
    sym (append-nil kept)
    ∙ ap (λ (left : List (Range ℕ)). kept ++ running upto left) (sym (drop_all index rs past))
    ∙ e

pub kept_ranges : (kept : List Segment) (rs : List (Range ℕ)) → kept ≡ running 0 rs → ranges kept ≡ rs
kept_ranges kept rs e = ap ranges e ∙ ranges-running 0 rs

pub kept_runs : (kept : List Segment) (rs : List (Range ℕ)) → kept ≡ running 0 rs → kept ≡ running 0 (ranges kept)
kept_runs kept rs e = e ∙ ap (running 0) (sym (kept_ranges kept rs e))

-- ---- segments are valid after a place, and so after each place before it

pub first_invalid_below : (low high : ℕ) (rs : List (Range ℕ)) → low ≤ high → first_invalid high rs ≡ None → first_invalid low rs ≡ None
first_invalid_below low high [] le e = refl
first_invalid_below low high (r ∷ rest) le e = grind (arith, nat_tests, e)

-- after a segment the others are valid after as many bytes as were kept
pub first_invalid_behind : (upto : ℕ) (r : Range ℕ) (rest : List (Range ℕ)) → first_invalid upto (r ∷ rest) ≡ None → first_invalid (upto + (r.end - r.start)) rest ≡ None
first_invalid_behind upto r rest e =
    elim (leb_tells (suc r.end) r.start) [
      | inl back ↦ absurd (grind (arith, nat_tests, back, e))
      | inr along ↦
          elim (leb_tells (suc r.start) upto) [
            | inl low ↦ absurd (grind (arith, nat_tests, along, low, e))
            | inr high ↦
                let valid : first_invalid r.end rest ≡ None = grind (arith, nat_tests, along, high, e) in
                first_invalid_below (upto + (r.end - r.start)) r.end rest (omega (arith, along.1, high.1)) valid
          ]
    ]

pub first_invalid_next : (upto index : ℕ) (rs : List (Range ℕ)) (d : Range ℕ) → index < length rs → first_invalid upto (drop index rs) ≡ None → first_invalid (upto + ((get_or rs index d).end - (get_or rs index d).start)) (drop (index + 1) rs) ≡ None
first_invalid_next upto index rs d within e =
    first_invalid_behind upto (get_or rs index d) (drop (index + 1) rs) (ap (first_invalid upto) (sym (drop_more rs index d within)) ∙ e)
