-- The children that stay in a window: those that are noted before an edit, and those after it.
use Rattle.std.proofs.Common.{◌≡◌, ℕ, ◌+◌, ◌-◌, ◌<◌, ◌≤◌, List, [], ◌∷◌, ◌++◌, length, map, take, drop, sym, ap, subst, ◌∙◌, arith, append_assoc, length-take}
use Rattle.std.specs.Prelude.{slice_range}
use Rattle.std.specs.List.{AllByRecursion, splice}
use Rattle.std.specs.declared.ops.Range.{Range}
use Rattle.std.proofs.lemmas.List.{take-append-le, take_all, drop-take, take-map, drop-map, length-map}
use Rattle.std.proofs.lemmas.List.Folds.{drop_split}
use Rattle.typst_node.specs.Tree.{Tree}
use Rattle.typst_node.specs.Count.{count_of_all}
use Rattle.typst_node.specs.Plain.{plain}
use Rattle.typst_node.specs.Numbered.{Rise}
use Rattle.typst_node.specs.OpenNumbers.{open_from, open_to}
use Rattle.typst_node.specs.Window.{Site, site_at}
use Rattle.typst_node.specs.WindowNumbers.{open_start, open_end}
use Rattle.typst_node.specs.Moves.{AreNoted, numbers, stay_before, stay_after}
use Rattle.typst_node.specs.declared.node.moves.Noted.{Noted}
use Rattle.typst_node.proofs.Plain.{same_count_of_all}
use Rattle.typst_node.proofs.Opens.{count_append}
use Rattle.typst_node.proofs.Replaced.{whole_parts, drop_window}
use Rattle.typst_node.proofs.Settled.{length_splice}
use Rattle.typst_node.proofs.Following.{numbers_append, length_numbers}

-- ---- parts of a list that rises
all_front : (x : ℕ) (xs ys : List ℕ) → AllByRecursion (λ y. x < y) (xs ++ ys) → AllByRecursion (λ y. x < y) xs
all_front x [] ys h = tt
all_front x (z ∷ zs) ys h = (h.0, all_front x zs ys h.1)

rise_front : (xs ys : List ℕ) → Rise (xs ++ ys) → Rise xs
rise_front [] ys h = tt
rise_front (x ∷ xs) ys h = (all_front x xs ys h.0, rise_front xs ys h.1)

all_without : (x : ℕ) (xs ys zs : List ℕ) → AllByRecursion (λ y. x < y) (xs ++ (ys ++ zs)) → AllByRecursion (λ y. x < y) (xs ++ zs)
all_without x [] [] zs h = h
all_without x [] (y ∷ ys) zs h = all_without x [] ys zs h.1
all_without x (w ∷ ws) ys zs h = (h.0, all_without x ws ys zs h.1)

rise_back : (xs ys : List ℕ) → Rise (xs ++ ys) → Rise ys
rise_back [] ys h = h
rise_back (x ∷ xs) ys h = rise_back xs ys h.1

rise_without : (xs ys zs : List ℕ) → Rise (xs ++ (ys ++ zs)) → Rise (xs ++ zs)
rise_without [] ys zs h = rise_back ys zs h
rise_without (x ∷ xs) ys zs h = (all_without x xs ys zs h.0, rise_without xs ys zs h.1)

-- two parts of a list that rises
pub rise_parts : (p a m b r : List ℕ) → Rise (p ++ (a ++ (m ++ (b ++ r)))) → Rise (a ++ b)
rise_parts p a m b r h =
    rise_front (a ++ b) r (subst Rise (sym (append_assoc a b r)) (rise_without a m (b ++ r) (rise_back p (a ++ (m ++ (b ++ r))) h)))

-- a part of a list, from one place up to another
part_is : {X : Type 0} (a b : ℕ) (xs : List X) → a ≤ b → slice_range xs a b ≡ drop a (take b xs)
part_is a b xs h =
    let e : a + (b - a) ≡ b = omega arith in
    sym (drop-take a (b - a) xs) ∙ ap (λ n. drop a (take n xs)) e

map_part : {X Y : Type 0} (f : X → Y) (a b : ℕ) (xs : List X) → map f (slice_range xs a b) ≡ slice_range (map f xs) a b
map_part f a b xs = sym (take-map f (b - a) (drop a xs)) ∙ ap (take (b - a)) (sym (drop-map f a xs))

-- a change of children, in a window
module _ (first upper from to : ℕ) (ys xs : List Tree) (window : Range ℕ) (order : from ≤ to) (inside : to ≤ length xs) (starts : window.start ≤ from) (changed : from + length ys ≤ window.end) (ends : window.end + to ≤ from + length ys + length xs) where
  abbrev pub last : ℕ
  last = to + (window.end - (from + length ys))

  abbrev pub site : Site
  site = site_at first upper from to ys xs

  from_is : length (take from xs) ≡ from
  from_is = omega (arith, length-take from xs)

  pub parts : xs ≡ take window.start xs ++ (slice_range xs window.start from ++ (slice_range xs from to ++ (slice_range xs to last ++ drop last xs)))
  parts =
      whole_parts xs window.start from starts
      ∙ ap (λ zs. take window.start xs ++ (slice_range xs window.start from ++ zs)) (drop_split xs from to order ∙ ap (λ zs. slice_range xs from to ++ zs) (drop_split xs to last (omega arith)))

  pub stays : stay_before site window ≡ slice_range xs window.start from ++ slice_range xs to last
  stays =
      let many : window.end - (length (take from xs) + length ys) ≡ last - to = omega (arith, from_is) in
      λ i. sym (part_is window.start from xs starts) i ++ take (many i) (drop to xs)

  pub few : count_of_all (slice_range xs window.start from) + count_of_all (slice_range xs to last) ≤ count_of_all xs
  few =
      omega (
        arith,
        ap count_of_all parts,
        count_append (take window.start xs) (slice_range xs window.start from ++ (slice_range xs from to ++ (slice_range xs to last ++ drop last xs))),
        count_append (slice_range xs window.start from) (slice_range xs from to ++ (slice_range xs to last ++ drop last xs)),
        count_append (slice_range xs from to) (slice_range xs to last ++ drop last xs),
        count_append (slice_range xs to last) (drop last xs),
      )

  pub rises : Rise (numbers xs) → Rise (numbers (slice_range xs window.start from ++ slice_range xs to last))
  rises h =
      let p = take window.start xs in
      let a = slice_range xs window.start from in
      let m = slice_range xs from to in
      let b = slice_range xs to last in
      let r = drop last xs in
      let all : numbers xs ≡ numbers p ++ (numbers a ++ (numbers m ++ (numbers b ++ numbers r))) =
      ap numbers parts
      ∙ (numbers_append p (a ++ (m ++ (b ++ r)))
      ∙ ap (λ zs. numbers p ++ zs) (numbers_append a (m ++ (b ++ r)) ∙ ap (λ zs. numbers a ++ zs) (numbers_append m (b ++ r) ∙ ap (λ zs. numbers m ++ zs) (numbers_append b r)))) in
      subst Rise (sym (numbers_append a b)) (rise_parts (numbers p) (numbers a) (numbers m) (numbers b) (numbers r) (subst Rise all h))

  pub gap : (g : Range ℕ) → g.start ≡ open_from first (take from xs) → g.end ≡ open_to upper (drop to xs) → g ≡ record { start = open_start site 0; end = open_end site 0 }
  gap g low high =
      let all : take from xs ≡ take (length (take from xs) - 0) (take from xs) = sym (take_all (length (take from xs) - 0) (take from xs) (omega arith)) in
      λ i. record { start = (low ∙ ap (open_from first) all) i; end = high i }

  -- the same children after the edit
  module _ (us : List Tree) (same : map plain us ≡ map plain (splice xs from to ys)) where
    front : slice_range (splice xs from to ys) window.start from ≡ slice_range xs window.start from
    front =
        part_is window.start from (splice xs from to ys) starts
        ∙ (ap (drop window.start) (take-append-le from (take from xs) (ys ++ drop to xs) (omega (arith, from_is)) ∙ take_all from (take from xs) (omega (arith, from_is))) ∙ sym (part_is window.start from xs starts))

    back : slice_range (splice xs from to ys) (from + length ys) window.end ≡ slice_range xs to last
    back =
        let many : window.end - (from + length ys) ≡ last - to = omega arith in
        λ i. take (many i) (drop_window (take from xs) ys (drop to xs) 0 from (from + length ys) (omega (arith, from_is)) (omega (arith, from_is)) i)

    pub plain_front : map plain (slice_range us window.start from) ≡ map plain (slice_range xs window.start from)
    plain_front = map_part plain window.start from us ∙ (ap (λ zs. slice_range zs window.start from) same ∙ (sym (map_part plain window.start from (splice xs from to ys)) ∙ ap (map plain) front))

    pub plain_back : map plain (slice_range us (from + length ys) window.end) ≡ map plain (slice_range xs to last)
    plain_back = map_part plain (from + length ys) window.end us ∙ (ap (λ zs. slice_range zs (from + length ys) window.end) same ∙ (sym (map_part plain (from + length ys) window.end (splice xs from to ys)) ∙ ap (map plain) back))

    pub room_front : count_of_all (slice_range us window.start from) ≡ count_of_all (slice_range xs window.start from)
    room_front = same_count_of_all (slice_range us window.start from) (slice_range xs window.start from) plain_front

    pub room_back : count_of_all (slice_range us (from + length ys) window.end) ≡ count_of_all (slice_range xs to last)
    room_back = same_count_of_all (slice_range us (from + length ys) window.end) (slice_range xs to last) plain_back

    pub room_after : (m : Noted) → AreNoted site window m → length m.room.items ≡ count_of_all (slice_range us window.start from) + count_of_all (slice_range us (from + length ys) window.end)
    room_after m h =
        let all : length m.olds.items ≡ count_of_all (slice_range xs window.start from ++ slice_range xs to last) = ap length (h.olds ∙ ap numbers stays) ∙ length_numbers (slice_range xs window.start from ++ slice_range xs to last) in
        omega (arith, all, h.room, count_append (slice_range xs window.start from) (slice_range xs to last), room_front, room_back)

    pub within_after : window.end ≤ length us
    within_after =
        omega (arith, length_splice xs ys from to order inside, sym (length-map us plain) ∙ (ap length same ∙ length-map (splice xs from to ys) plain))

    pub stays_after : stay_after site window us ≡ slice_range us window.start from ++ slice_range us (from + length ys) window.end
    stays_after = λ i. slice_range us window.start (from_is i) ++ slice_range us (from_is i + length ys) window.end
