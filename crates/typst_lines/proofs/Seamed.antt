-- Places that are counted from both ends of a text.
use Rattle.std.proofs.Common.{◌≡◌, ℕ, ◌+◌, ◌-◌, ◌<◌, ◌≤◌, Bool, true, false, List, ◌++◌, length, map, get_or, take, drop, min, max, refl, ap, sym, ◌∙◌, arith, leb, ⊎_elim, length-append}
use Rattle.std.specs.List.Sorted.{IsPartitionedBy, IsPartitionPoint}
use Rattle.std.proofs.lemmas.List.{append_assoc, get_or_append_left, get_or-append_right, get_or-map, get_or_default, ext_get_or, length-drop, length-map, length-take-le, take_at, drop_at, drop-drop, drop-map}
use Rattle.std.proofs.lemmas.Bool.{cases_lt, false≢true}
use Rattle.std.proofs.lemmas.Bool.Decides.{nat_tests}
use Rattle.typst_lines.specs.LineStarts.{begins_line, line_starts}
use Rattle.typst_lines.specs.LineTable.{AreLines, LineTable}
use Rattle.typst_lines.specs.Moved.{moved_place}
use Rattle.typst_lines.specs.Parts.{whole, whole_with, starts_about, starts_before, starts_through, starts_behind}
use Rattle.typst_lines.specs.declared.parts.Parts.{Parts}
use Rattle.typst_lines.specs.Seamed.{seamed}
use Rattle.typst_lines.proofs.Picked.{picked, picked-halves, picked_within}
use Rattle.typst_lines.proofs.Pieces.{InThree, kept_at, moved_at, moved_from}
use Rattle.typst_lines.proofs.Seams.{kept as kept_pieces, movable, all_moved}
use Rattle.typst_lines.specs.declared.ends.LineEnds.{LineEnds}

-- ---- the places, one by one
module _ (seam end : ℕ) (kept : List ℕ) (inside : seam ≤ length kept) where
  pub length-seamed : length (seamed seam end kept) ≡ length kept
  length-seamed = omega (arith, length-append (take seam kept) (map (λ left. end - left) (drop seam kept)), length-map (drop seam kept) (λ left. end - left), length-take-le seam kept inside, length-drop seam kept)

  pub near_place : (i : ℕ) → i < seam → get_or (seamed seam end kept) i 0 ≡ get_or kept i 0
  near_place i less = kept_at (λ left. end - left) kept seam i inside less

  pub far_place : (i : ℕ) → seam ≤ i → i < length kept → get_or (seamed seam end kept) i 0 ≡ end - get_or kept i 0
  far_place i low less = moved_at (λ left. end - left) kept seam i inside low less

-- ---- how many pass a test that holds of the first ones of a list
-- a test holds of those before a place, and of no other one
abbrev pub Tells : (ℕ → Bool) → List ℕ → ℕ → Type 0
Tells test xs n = (i : ℕ) → i < length xs → (i < n → test (get_or xs i 0) ≡ true) × (n ≤ i → test (get_or xs i 0) ≡ false)

pub point_is : (test : ℕ → Bool) (xs : List ℕ) (n k : ℕ) → Tells test xs n → IsPartitionPoint (λ y. test y ≡ true) (λ y. test y ≡ false) xs k → k ≤ length xs → k ≡ min n (length xs)
point_is test xs n k tells point bound =
    let low : k < n → k < length xs → ⊥ = λ before inside.
    let same : k ≤ k = omega arith in
    false≢true (sym (point.1 k 0 same inside) ∙ (tells k inside).0 before) in
    let high : n < k → ⊥ = λ behind.
    let first : 0 ≤ n = omega arith in
    let inside : n < length xs = omega arith in
    let same : n ≤ n = omega arith in
    false≢true (sym ((tells n inside).1 same) ∙ point.0 n 0 first behind) in
    ⊎_elim
    (λ before. ⊎_elim (λ inside. absurd (low before inside)) (λ all. omega arith) (cases_lt k (length xs)))
    (λ behind. ⊎_elim (λ more. absurd (high more)) (λ same. omega arith) (cases_lt n k))
    (cases_lt k n)

pub parted : (test : ℕ → Bool) (xs : List ℕ) (n : ℕ) → Tells test xs n → IsPartitionedBy test xs
parted test xs n tells = λ i j d le inside pass.
    let here : i < length xs = omega arith in
    ⊎_elim
    (λ before. ap test (get_or_default xs i d 0 here) ∙ (tells i here).0 before)
    (λ behind.
    let far : n ≤ j = omega arith in
    absurd (false≢true (sym ((tells j inside).1 far) ∙ ap test (sym (get_or_default xs j d 0 inside)) ∙ pass)))
    (cases_lt i n)

-- it holds of the rest of those
pub far_tells : (test : ℕ → Bool) (front xs : List ℕ) (f : ℕ → ℕ) (seam n : ℕ) → length front ≡ seam → Tells test (front ++ map f xs) n → Tells (λ left. test (f left)) xs (n - seam)
far_tells test front xs f seam n len tells = λ i inside.
    let here : seam + i < length (front ++ map f xs) = omega (arith, length-append front (map f xs), length-map xs f) in
    let low : seam ≤ seam + i = omega arith in
    let z : seam + i - seam ≡ i = omega arith in
    let e = ap test (sym (get_or-append_right front (map f xs) seam (seam + i) 0 len low ∙ ap (λ k. get_or (map f xs) k 0) z ∙ get_or-map f xs i 0 0 inside)) in (
      λ before. let less : seam + i < n = omega arith in e ∙ (tells (seam + i) here).0 less,
      λ behind. let more : n ≤ seam + i = omega arith in e ∙ (tells (seam + i) here).1 more,
    )

module _ (p : ℕ → Bool) where
  -- a bound tells numbers that rise apart
  bound_tells : (b m : ℕ) → m < b → Tells (λ y. leb y m) (picked p 0 b) (length (picked p 0 (m + 1)))
  bound_tells b m less = λ i inside.
      let low : 0 ≤ m + 1 = omega arith in
      let le : m + 1 ≤ b = omega arith in
      let e = picked-halves p 0 (m + 1) b low le in (
        λ before.
            let same = ap (λ l. get_or l i 0) e ∙ get_or_append_left (picked p 0 (m + 1)) (picked p (m + 1) b) 0 i before in
            let w = picked_within p 0 (m + 1) i 0 low before in
            grind (arith, nat_tests),
        λ behind.
            let all = ap (λ l. length l) e in
            let within : i - length (picked p 0 (m + 1)) < length (picked p (m + 1) b) = omega (arith, all, length-append (picked p 0 (m + 1)) (picked p (m + 1) b)) in
            let same = ap (λ l. get_or l i 0) e ∙ get_or-append_right (picked p 0 (m + 1)) (picked p (m + 1) b) (length (picked p 0 (m + 1))) i 0 refl behind in
            let w = picked_within p (m + 1) b (i - length (picked p 0 (m + 1))) 0 le within in
            grind (arith, nat_tests),
      )

  module _ (b m seam end : ℕ) (kept : List ℕ) (e : seamed seam end kept ≡ picked p 0 b) (less : m < b) (inside : seam ≤ length kept) where
    all_tell : Tells (λ y. leb y m) (seamed seam end kept) (length (picked p 0 (m + 1)))
    all_tell = rw e (bound_tells b m less)

    near_ones : Tells (λ y. leb y m) (take seam kept) (length (picked p 0 (m + 1)))
    near_ones = λ i here.
        let len = length-take-le seam kept inside in
        let whole : i < length (seamed seam end kept) = omega (arith, length-append (take seam kept) (map (λ left. end - left) (drop seam kept))) in
        let same = ap (λ y. leb y m) (sym (get_or_append_left (take seam kept) (map (λ left. end - left) (drop seam kept)) 0 i here)) in
        (λ before. same ∙ (all_tell i whole).0 before, λ behind. same ∙ (all_tell i whole).1 behind)

    far_ones : Tells (λ left. leb (end - left) m) (drop seam kept) (length (picked p 0 (m + 1)) - seam)
    far_ones = far_tells (λ y. leb y m) (take seam kept) (drop seam kept) (λ left. end - left) seam (length (picked p 0 (m + 1))) (length-take-le seam kept inside) all_tell

    -- those on both sides of the seam
    both : (k l : ℕ) → IsPartitionPoint (λ y. leb y m ≡ true) (λ y. leb y m ≡ false) (take seam kept) k → k ≤ length (take seam kept)
        → IsPartitionPoint (λ left. leb (end - left) m ≡ true) (λ left. leb (end - left) m ≡ false) (drop seam kept) l → l ≤ length (drop seam kept)
        → k + l ≡ length (picked p 0 (m + 1))
    both k l near near_bound far far_bound =
        let low : 0 ≤ m + 1 = omega arith in
        let le : m + 1 ≤ b = omega arith in
        let halves = ap (λ x. length x) (picked-halves p 0 (m + 1) b low le) in
        let all = ap (λ x. length x) e in
        let nk = point_is (λ y. leb y m) (take seam kept) (length (picked p 0 (m + 1))) k near_ones near near_bound in
        let nl = point_is (λ left. leb (end - left) m) (drop seam kept) (length (picked p 0 (m + 1)) - seam) l far_ones far far_bound in
        omega (
          arith,
          nk,
          nl,
          halves,
          all,
          length-append (picked p 0 (m + 1)) (picked p (m + 1) b),
          length-append (take seam kept) (map (λ left. end - left) (drop seam kept)),
          length-map (drop seam kept) (λ left. end - left),
          length-take-le seam kept inside,
          length-drop seam kept,
        )

    -- as parts of their own
    module _ (near far : List ℕ) (near_is : near ≡ take seam kept) (far_is : far ≡ drop seam kept) where
      pub near_parted : IsPartitionedBy (λ y. leb y m) near
      near_parted = rw near_is (parted (λ y. leb y m) (take seam kept) (length (picked p 0 (m + 1))) near_ones)

      pub far_parted : IsPartitionedBy (λ left. leb (end - left) m) far
      far_parted = rw far_is (parted (λ left. leb (end - left) m) (drop seam kept) (length (picked p 0 (m + 1)) - seam) far_ones)

      pub counted : (k l : ℕ) → IsPartitionPoint (λ y. leb y m ≡ true) (λ y. leb y m ≡ false) near k → k ≤ length near
          → IsPartitionPoint (λ left. leb (end - left) m ≡ true) (λ left. leb (end - left) m ≡ false) far l → l ≤ length far
          → k + l ≡ length (picked p 0 (m + 1))
      counted k l near_point near_bound far_point far_bound =
          both k l (rw near_is at near_point) (rw near_is at near_bound) (rw far_is at far_point) (rw far_is at far_bound)

-- ---- the seam moves
pub reseamed : (kept new : List ℕ) (seam at end : ℕ) → seam ≤ length kept → at ≤ length kept → length new ≡ length kept
    → ((j : ℕ) → j < min seam at → get_or new j 0 ≡ get_or kept j 0)
    → ((j : ℕ) → min seam at ≤ j → j < max seam at → get_or new j 0 ≡ end - get_or kept j 0)
    → ((j : ℕ) → max seam at ≤ j → get_or new j 0 ≡ get_or kept j 0)
    → ((k : ℕ) → k < length kept → get_or (seamed seam end kept) k 0 ≤ end) → seamed at end new ≡ seamed seam end kept
reseamed kept new seam at end seam_in at_in len before between behind within =
    let at_new : at ≤ length new = omega arith in
    let long : length (seamed seam end kept) ≡ length new = omega (arith, length-seamed seam end kept seam_in) in
    sym (moved_from (λ left. end - left) new (seamed seam end kept) at at_new long
    (λ k less. ⊎_elim
    (λ near. let l : k < min seam at = omega arith in near_place seam end kept seam_in k near ∙ sym (before k l))
    (λ far. let inside : k < length kept = omega arith in let l : min seam at ≤ k = omega arith in let u : k < max seam at = omega arith in far_place seam end kept seam_in k far inside ∙ sym (between k l u))
    (cases_lt k seam))
    (λ k low l. let inside : k < length kept = omega arith in ⊎_elim
    (λ near.
    let lo : min seam at ≤ k = omega arith in
    let up : k < max seam at = omega arith in
    let is = near_place seam end kept seam_in k near in
    let flipped = between k lo up in
    let most = within k inside in
    omega (arith, is, flipped, most))
    (λ far. let lo : max seam at ≤ k = omega arith in far_place seam end kept seam_in k far inside ∙ ap (λ left. end - left) (sym (behind k lo)))
    (cases_lt k seam)))

-- where the places are the beginnings of lines
pub settled : (ends : LineEnds) (text kept new : List ℕ) (seam at end : ℕ) → seamed seam end kept ≡ line_starts ends text → end ≡ length text → seam ≤ length kept
    → (((k : ℕ) → k < length kept → get_or (seamed seam end kept) k 0 ≤ end) → seamed at end new ≡ seamed seam end kept) → seamed at end new ≡ line_starts ends text
settled ends text kept new seam at end e is_end inside clause =
    clause (λ k less.
    let low : 0 ≤ length text + 1 = omega arith in
    let here : k < length (line_starts ends text) = omega (arith, length-seamed seam end kept inside, ap (λ l. length l) e) in
    let w = picked_within (begins_line ends text) 0 (length text + 1) k 0 low here in
    omega (arith, ap (λ l. get_or l k 0) e, w.1)) ∙ e

-- and the first ones are those before an edit
pub record Settled (parts : Parts) (gone new : List ℕ) (first last end : ℕ) : Type 0 where
  pub starts : seamed first end new ≡ line_starts parts.ends (whole_with parts gone)
  pub end_is : end ≡ length (whole_with parts gone)
  pub window : first ≤ last
  pub inside : last ≤ length new

pub before_edit : (parts : Parts) (gone : List ℕ) (view : LineTable) (kept now new : List ℕ) (seam first last end room : ℕ) (ends : LineEnds)
    → record { starts = seamed seam end kept; len = end; room = room; ends = ends } ≡ view → AreLines view (whole_with parts gone) → parts.ends ≡ view.ends → seam ≤ length kept → now ≡ kept
    → first ≡ length (starts_before parts gone) → last ≡ length (starts_through parts gone) → length new ≡ length now
    → (((k : ℕ) → k < length now → get_or (seamed seam end now) k 0 ≤ end) → seamed first end new ≡ seamed seam end now) → Settled parts gone new first last end
before_edit parts gone view kept now new seam first last end room ends is are alike inside same ef el len clause =
    let e = ap (seamed seam end) same ∙ ap (λ (v : LineTable). v.starts) is ∙ are.starts ∙ ap (λ x. line_starts x (whole_with parts gone)) (sym alike) in
    let end_is = ap (λ (v : LineTable). v.len) is ∙ are.len in
    let within : seam ≤ length now = omega (arith, ap (λ l. length l) same) in
    let k = kept_pieces parts gone (seamed seam end now) first last e ef el in
    let long = length-seamed seam end now within in
    record {
      starts = settled parts.ends (whole_with parts gone) now new seam first end e end_is within clause;
      end_is = end_is;
      window = k.window;
      inside = omega (arith, k.inside);
    }

-- ---- an edit at the seam moves none of those after it
module _ (parts : Parts) (gone : List ℕ) (end : ℕ) (is_end : end ≡ length (whole_with parts gone)) where
  far_moved : (far : List ℕ) → map (λ left. end - left) far ≡ starts_behind parts gone
      → map (λ left. end - length gone + length parts.middle.now - left) far ≡ map (moved_place (length gone) (length parts.middle.now)) (starts_behind parts gone)
  far_moved far e =
      let len : length (map (λ left. end - length gone + length parts.middle.now - left) far) ≡ length (map (moved_place (length gone) (length parts.middle.now)) (starts_behind parts gone)) =
      omega (arith, length-map far (λ left. end - length gone + length parts.middle.now - left), length-map (starts_behind parts gone) (moved_place (length gone) (length parts.middle.now)), ap (λ l. length l) e, length-map far (λ left. end - left)) in
      ext_get_or 0 (map (λ left. end - length gone + length parts.middle.now - left) far) (map (moved_place (length gone) (length parts.middle.now)) (starts_behind parts gone)) len (λ i l.
      let l1 : i < length far = omega (arith, length-map far (λ left. end - length gone + length parts.middle.now - left)) in
      let l2 : i < length (starts_behind parts gone) = omega (arith, ap (λ l. length l) e, length-map far (λ left. end - left)) in
      let at = sym (get_or-map (λ left. end - left) far i 0 0 l1) ∙ ap (λ x. get_or x i 0) e in
      let m = movable parts gone i l2 in
      let one = get_or-map (λ left. end - length gone + length parts.middle.now - left) far i 0 0 l1 in
      let two = get_or-map (moved_place (length gone) (length parts.middle.now)) (starts_behind parts gone) i 0 0 l2 in
      omega (arith, at, m.behind, m.later, one, two))

  module _ (kept made written : List ℕ) (first last many : ℕ) (e : seamed first end kept ≡ line_starts parts.ends (whole_with parts gone)) (inside : first ≤ length kept)
      (ef : first ≡ length (starts_before parts gone)) (el : last ≡ length (starts_through parts gone)) (em : many ≡ length (starts_about parts)) where
    pieces : InThree (starts_before parts gone) (starts_behind parts gone) (seamed first end kept) first last
    pieces = kept_pieces parts gone (seamed first end kept) first last e ef el

    front_is : take first kept ≡ starts_before parts gone
    front_is = sym (take_at (take first kept) (map (λ left. end - left) (drop first kept)) first (length-take-le first kept inside)) ∙ pieces.front

    far_is : map (λ left. end - left) (drop last kept) ≡ starts_behind parts gone
    far_is =
        let k : first + (last - first) ≡ last = omega (arith, pieces.window) in
        ap (λ n. map (λ left. end - left) (drop n kept)) (sym k)
        ∙ ap (map (λ left. end - left)) (sym (drop-drop (last - first) first kept))
        ∙ sym (drop-map (λ left. end - left) (last - first) (drop first kept))
        ∙ ap (drop (last - first)) (sym (drop_at (take first kept) (map (λ left. end - left) (drop first kept)) first (length-take-le first kept inside)))
        ∙ drop-drop (last - first) first (seamed first end kept)
        ∙ ap (λ n. drop n (seamed first end kept)) k ∙ pieces.behind

    pub rejoined : take first made ≡ take first kept → drop (first + many) made ≡ drop last kept
        → written ≡ take first made ++ (starts_about parts ++ drop (first + length (starts_about parts)) made)
        → seamed (first + many) (end - length gone + length parts.middle.now) written ≡ line_starts parts.ends (whole parts)
    rejoined mf mb ew =
        let far = drop last kept in
        let long : length (starts_before parts gone ++ starts_about parts) ≡ first + many = omega (arith, length-append (starts_before parts gone) (starts_about parts)) in
        let w : written ≡ (starts_before parts gone ++ starts_about parts) ++ drop last kept =
        ew ∙ ap (λ x. x ++ (starts_about parts ++ drop (first + length (starts_about parts)) made)) (mf ∙ front_is)
        ∙ ap (λ n. starts_before parts gone ++ (starts_about parts ++ drop (first + n) made)) (sym em)
        ∙ ap (λ x. starts_before parts gone ++ (starts_about parts ++ x)) mb ∙ sym (append_assoc (starts_before parts gone) (starts_about parts) (drop last kept)) in
        ap (seamed (first + many) (end - length gone + length parts.middle.now)) w
        ∙ ap (λ x. x ++ map (λ left. end - length gone + length parts.middle.now - left) (drop (first + many) ((starts_before parts gone ++ starts_about parts) ++ drop last kept))) (take_at (starts_before parts gone ++ starts_about parts) (drop last kept) (first + many) long)
        ∙ ap (λ x. (starts_before parts gone ++ starts_about parts) ++ map (λ left. end - length gone + length parts.middle.now - left) x) (drop_at (starts_before parts gone ++ starts_about parts) (drop last kept) (first + many) long)
        ∙ ap (λ x. (starts_before parts gone ++ starts_about parts) ++ x) (far_moved (drop last kept) far_is)
        ∙ append_assoc (starts_before parts gone) (starts_about parts) (map (moved_place (length gone) (length parts.middle.now)) (starts_behind parts gone))
        ∙ sym (all_moved parts gone)
