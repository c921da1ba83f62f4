-- Lines of two texts that differ in a middle part alone.
use Rattle.std.proofs.Common.{◌≡◌, ℕ, ◌+◌, ◌-◌, ◌<◌, ◌≤◌, true, List, ◌++◌, length, map, get_or, min, refl, ap, sym, ◌∙◌, arith, leb, eqb, length-append}
use Rattle.std.proofs.lemmas.List.{get_or_append_left, get_or-append_right, length-drop, length-map}
use Rattle.std.proofs.lemmas.Bool.Decides.{nat_tests}
use Rattle.typst_lines.specs.LineStarts.{begins_line, starts_between, line_starts}
use Rattle.typst_lines.specs.Moved.{moved_place}
use Rattle.typst_lines.specs.Parts.{whole, whole_with, near, starts_about, starts_before, starts_through, starts_behind}
use Rattle.typst_lines.specs.declared.parts.Parts.{Parts}
use Rattle.typst_lines.proofs.Pieces.{InThree, in_three}
use Rattle.typst_lines.proofs.Picked.{picked-halves, picked-agree, picked-moved, picked_within}
use Rattle.typst_lines.specs.declared.ends.LineEnds.{LineEnds}

-- the text's beginning
pub begins-first : (ends : LineEnds) (text : List ℕ) → begins_line ends text 0 ≡ true
unfolding begins_line
begins-first ends text = refl

-- what a line's beginning hangs on: the three bytes before a place, and that at it
begins_alike : (ends : LineEnds) (s t : List ℕ) (i j : ℕ) → eqb i 0 ≡ eqb j 0 → leb 1 i ≡ leb 1 j → leb 2 i ≡ leb 2 j → leb 3 i ≡ leb 3 j → get_or s i 0 ≡ get_or t j 0 → get_or s (i - 1) 0 ≡ get_or t (j - 1) 0 → get_or s (i - 2) 0 ≡ get_or t (j - 2) 0 → get_or s (i - 3) 0 ≡ get_or t (j - 3) 0 → begins_line ends s i ≡ begins_line ends t j
unfolding begins_line
begins_alike ends s t i j e0 e1 e2 e3 r0 r1 r2 r3 = cc

-- before the middle
pub begins-before : (ends : LineEnds) (front s t : List ℕ) (i : ℕ) → i < length front → begins_line ends (front ++ s) i ≡ begins_line ends (front ++ t) i
begins-before ends front s t i less =
    let same : (k : ℕ) → k < length front → get_or (front ++ s) k 0 ≡ get_or (front ++ t) k 0 = λ k l. get_or_append_left front s 0 k l ∙ sym (get_or_append_left front t 0 k l) in
    let l1 : i - 1 < length front = omega arith in
    let l2 : i - 2 < length front = omega arith in
    let l3 : i - 3 < length front = omega arith in
    begins_alike ends (front ++ s) (front ++ t) i i refl refl refl refl (same i less) (same (i - 1) l1) (same (i - 2) l2) (same (i - 3) l3)

-- the byte after the middle
read_behind : (front middle back : List ℕ) (n k : ℕ) → n ≡ length front + length middle + k → get_or (front ++ (middle ++ back)) n 0 ≡ get_or back k 0
read_behind front middle back n k e =
    let l1 : length front ≤ n = omega arith in
    let l2 : length middle ≤ n - length front = omega arith in
    let z : n - length front - length middle ≡ k = omega arith in
    get_or-append_right front (middle ++ back) (length front) n 0 refl l1
    ∙ get_or-append_right middle back (length middle) (n - length front) 0 refl l2
    ∙ ap (λ j. get_or back j 0) z

read_alike : (front gone added back : List ℕ) (i j k : ℕ) → i ≡ length front + length added + k → j ≡ length front + length gone + k → get_or (front ++ (added ++ back)) i 0 ≡ get_or (front ++ (gone ++ back)) j 0
read_alike front gone added back i j k ei ej = read_behind front added back i k ei ∙ sym (read_behind front gone back j k ej)

-- three bytes and more after the middle
pub begins-behind : (ends : LineEnds) (front gone added back : List ℕ) (i j k : ℕ) → i ≡ length front + length added + k → j ≡ length front + length gone + k → 3 ≤ k → begins_line ends (front ++ (added ++ back)) i ≡ begins_line ends (front ++ (gone ++ back)) j
begins-behind ends front gone added back i j k ei ej three =
    let e0 : eqb i 0 ≡ eqb j 0 = grind (arith, nat_tests) in
    let e1 : leb 1 i ≡ leb 1 j = grind (arith, nat_tests) in
    let e2 : leb 2 i ≡ leb 2 j = grind (arith, nat_tests) in
    let e3 : leb 3 i ≡ leb 3 j = grind (arith, nat_tests) in
    begins_alike ends (front ++ (added ++ back)) (front ++ (gone ++ back)) i j e0 e1 e2 e3
    (read_alike front gone added back i j k ei ej)
    (read_alike front gone added back (i - 1) (j - 1) (k - 1) (omega arith) (omega arith))
    (read_alike front gone added back (i - 2) (j - 2) (k - 2) (omega arith) (omega arith))
    (read_alike front gone added back (i - 3) (j - 3) (k - 3) (omega arith) (omega arith))

-- ---- the beginnings of lines in three parts: up to the middle, about it, and after it
pub three_parts : (ends : LineEnds) (text : List ℕ) (from to : ℕ) → from ≤ to → to ≤ length text → line_starts ends text ≡ starts_between ends text 0 from ++ (starts_between ends text from (to + 1) ++ starts_between ends text (to + 1) (length text + 1))
three_parts ends text from to low high =
    let l0 : 0 ≤ from = omega arith in
    let l1 : from ≤ length text + 1 = omega arith in
    let l2 : from ≤ to + 1 = omega arith in
    let l3 : to + 1 ≤ length text + 1 = omega arith in
    picked-halves (begins_line ends text) 0 from (length text + 1) l0 l1
    ∙ ap (λ l. starts_between ends text 0 from ++ l) (picked-halves (begins_line ends text) from (to + 1) (length text + 1) l2 l3)

pub same_before : (ends : LineEnds) (front s t : List ℕ) → starts_between ends (front ++ s) 0 (length front) ≡ starts_between ends (front ++ t) 0 (length front)
same_before ends front s t = picked-agree (begins_line ends (front ++ s)) (begins_line ends (front ++ t)) 0 (length front) (λ i l u. begins-before ends front s t i u)

-- `near`: two bytes after the middle, or as many as there are
pub same_behind : (ends : LineEnds) (front gone added back : List ℕ) (near : ℕ) → near ≡ min (length back) 2
    → starts_between ends (front ++ (added ++ back)) (length front + length added + near + 1) (length (front ++ (added ++ back)) + 1)
    ≡ map (moved_place (length gone) (length added)) (starts_between ends (front ++ (gone ++ back)) (length front + length gone + near + 1) (length (front ++ (gone ++ back)) + 1))
same_behind ends front gone added back near en =
    let ln : length (front ++ (added ++ back)) ≡ length front + (length added + length back) = omega (arith, length-append front (added ++ back), length-append added back) in
    let lo : length (front ++ (gone ++ back)) ≡ length front + (length gone + length back) = omega (arith, length-append front (gone ++ back), length-append gone back) in
    picked-moved (begins_line ends (front ++ (added ++ back))) (begins_line ends (front ++ (gone ++ back))) (moved_place (length gone) (length added))
    (length front + length added + near + 1) (length (front ++ (added ++ back)) + 1) (length front + length gone + near + 1) (length (front ++ (gone ++ back)) + 1)
    (omega arith)
    (λ i j l u s. (begins-behind ends front gone added back i j (i - length front - length added) (omega arith) (omega arith) (omega arith), omega arith))

pub edited : (ends : LineEnds) (front gone added back : List ℕ) (near : ℕ) → near ≡ min (length back) 2
    → line_starts ends (front ++ (added ++ back))
    ≡ starts_between ends (front ++ (gone ++ back)) 0 (length front)
    ++ (starts_between ends (front ++ (added ++ back)) (length front) (length front + length added + near + 1)
    ++ map (moved_place (length gone) (length added)) (starts_between ends (front ++ (gone ++ back)) (length front + length gone + near + 1) (length (front ++ (gone ++ back)) + 1)))
edited ends front gone added back near en =
    let low : length front ≤ length front + length added + near = omega arith in
    let high : length front + length added + near ≤ length (front ++ (added ++ back)) = omega (arith, length-append front (added ++ back), length-append added back) in
    three_parts ends (front ++ (added ++ back)) (length front) (length front + length added + near) low high
    ∙ ap (λ l. l ++ (starts_between ends (front ++ (added ++ back)) (length front) (length front + length added + near + 1) ++ starts_between ends (front ++ (added ++ back)) (length front + length added + near + 1) (length (front ++ (added ++ back)) + 1))) (same_before ends front (added ++ back) (gone ++ back))
    ∙ ap (λ l. starts_between ends (front ++ (gone ++ back)) 0 (length front) ++ (starts_between ends (front ++ (added ++ back)) (length front) (length front + length added + near + 1) ++ l)) (same_behind ends front gone added back near en)

-- ---- what stays of the beginnings of lines, and where
pub kept : (parts : Parts) (gone old : List ℕ) (first last : ℕ) → old ≡ line_starts parts.ends (whole_with parts gone) → first ≡ length (starts_before parts gone) → last ≡ length (starts_through parts gone) → InThree (starts_before parts gone) (starts_behind parts gone) old first last
kept parts gone old first last e ef el =
    let text = whole_with parts gone in
    let low : length parts.front.now ≤ length parts.front.now + length gone + near parts = omega arith in
    let high : length parts.front.now + length gone + near parts ≤ length (whole_with parts gone) = omega (arith, length-append parts.front.now (gone ++ parts.back.now), length-append gone parts.back.now) in
    let l0 : 0 ≤ length parts.front.now = omega arith in
    let l1 : length parts.front.now ≤ length parts.front.now + length gone + near parts + 1 = omega arith in
    let halves = picked-halves (begins_line parts.ends text) 0 (length parts.front.now) (length parts.front.now + length gone + near parts + 1) l0 l1 in
    in_three (starts_before parts gone) (starts_between parts.ends text (length parts.front.now) (length parts.front.now + length gone + near parts + 1)) (starts_behind parts gone) old first last
    (e ∙ three_parts parts.ends text (length parts.front.now) (length parts.front.now + length gone + near parts) low high)
    ef
    (el ∙ ap (λ l. length l) halves)

-- ---- those after it are after what is gone, and fit where the text does
pub record Movable (parts : Parts) (gone : List ℕ) (start : ℕ) : Type 0 where
  pub behind : length gone ≤ start
  pub later : 0 < start
  pub fits : moved_place (length gone) (length parts.middle.now) start ≤ length (whole parts)

pub movable : (parts : Parts) (gone : List ℕ) (k : ℕ) → k < length (starts_behind parts gone) → Movable parts gone (get_or (starts_behind parts gone) k 0)
movable parts gone k less =
    let lo = length-append parts.front.now (gone ++ parts.back.now) in
    let lo2 = length-append gone parts.back.now in
    let ln = length-append parts.front.now (parts.middle.now ++ parts.back.now) in
    let ln2 = length-append parts.middle.now parts.back.now in
    let le : length parts.front.now + length gone + near parts + 1 ≤ length (whole_with parts gone) + 1 = omega arith in
    let w = picked_within (begins_line parts.ends (whole_with parts gone)) (length parts.front.now + length gone + near parts + 1) (length (whole_with parts gone) + 1) k 0 le less in
    record { behind = omega arith; later = omega arith; fits = omega arith }

-- ---- all of them
pub all_moved : (parts : Parts) (gone : List ℕ) → line_starts parts.ends (whole parts) ≡ starts_before parts gone ++ (starts_about parts ++ map (moved_place (length gone) (length parts.middle.now)) (starts_behind parts gone))
all_moved parts gone = edited parts.ends parts.front.now gone parts.middle.now parts.back.now (near parts) refl

-- how many lines there are then
pub count_after : (parts : Parts) (gone old : List ℕ) (first last : ℕ) → old ≡ line_starts parts.ends (whole_with parts gone) → first ≡ length (starts_before parts gone) → last ≡ length (starts_through parts gone) → length (line_starts parts.ends (whole parts)) + last ≡ length old + first + length (starts_about parts)
count_after parts gone old first last e ef el =
    let k = kept parts gone old first last e ef el in
    let lines = ap (λ l. length l) (all_moved parts gone) in
    let behind = ap (λ l. length l) k.behind in
    omega (
      arith,
      lines,
      behind,
      k.window,
      k.inside,
      length-drop last old,
      length-append (starts_before parts gone) (starts_about parts ++ map (moved_place (length gone) (length parts.middle.now)) (starts_behind parts gone)),
      length-append (starts_about parts) (map (moved_place (length gone) (length parts.middle.now)) (starts_behind parts gone)),
      length-map (starts_behind parts gone) (moved_place (length gone) (length parts.middle.now)),
    )
