-- What a replacement leaves: the parts before and after a window, and numbers in order.
use Rattle.std.proofs.Common.{◌≡◌, ℕ, ◌+◌, ◌-◌, ◌*◌, ◌/◌, ◌<◌, ◌≤◌, List, [], ◌∷◌, ◌++◌, length, take, drop, min, sym, ap, subst, ◌∙◌, arith, append_assoc, length-append, length-take, length-drop}
use Rattle.std.proofs.lemmas.List.{take-append-drop, take-append-le, drop-append-le}
use Rattle.std.proofs.lemmas.List.Folds.{drop_split}
use Rattle.std.proofs.Math.Seq.{drop-append-add, take-append-add}
use Rattle.std.specs.Prelude.{slice_range}
use Rattle.std.specs.List.{splice}
use Rattle.typst_node.specs.Tree.{Tree, forest}
use Rattle.typst_node.specs.Preorder.{preorder}
use Rattle.typst_node.specs.Count.{count_of_all}
use Rattle.typst_node.specs.Labels.{number}
use Rattle.typst_node.specs.Interval.{IsWithin}
use Rattle.typst_node.specs.OpenNumbers.{open_from, open_to}
use Rattle.typst_node.specs.Window.{Site, site_at, trees_before, trees_in, trees_behind}
use Rattle.typst_node.specs.Renumbering.{AreIn}
use Rattle.typst_node.specs.WindowNumbers.{open_start, open_end, open_count}
use Rattle.typst_node.proofs.Within.{within_le, within_front, within_back, within_first, within_window}
use Rattle.typst_node.proofs.Ordered.{IsIn, all_in, all_weaker}
use Rattle.typst_node.proofs.Opens.{drop_min, take_min}

-- the new child list, around the window
module _ {X : Type 0} (before changed behind : List X) (w start end : ℕ) (starts : start ≡ length before - w) (ends : end ≡ length before + length changed + min w (length behind)) where
  pub take_window : take start (before ++ (changed ++ behind)) ≡ take (length before - w) before
  take_window = take-append-le start before (changed ++ behind) (omega arith) ∙ ap (λ n. take n before) starts

  pub drop_window : drop end (before ++ (changed ++ behind)) ≡ drop w behind
  drop_window =
      ap (drop end) (sym (append_assoc before changed behind))
      ∙ (ap (λ n. drop n ((before ++ changed) ++ behind)) (let e : end ≡ length (before ++ changed) + min w (length behind) = omega (arith, length-append before changed) in e)
      ∙ (drop-append-add (before ++ changed) behind (min w (length behind)) ∙ drop_min w behind))

  pub slice_window : slice_range (before ++ (changed ++ behind)) start end ≡ drop (length before - w) before ++ (changed ++ take w behind)
  slice_window =
      let front : List X = drop (length before - w) before in
      let cut : drop start (before ++ (changed ++ behind)) ≡ (front ++ changed) ++ behind = drop-append-le start before (changed ++ behind) (omega arith) ∙ (ap (λ n. drop n before ++ (changed ++ behind)) starts ∙ sym (append_assoc front changed behind)) in
      let many : end - start ≡ length (front ++ changed) + min w (length behind) = omega (arith, length-append front changed, length-drop (length before - w) before) in
      (λ i. take (many i) (cut i)) ∙ (take-append-add (front ++ changed) behind (min w (length behind)) ∙ (ap (λ ys. (front ++ changed) ++ ys) (take_min w behind) ∙ append_assoc front changed (take w behind)))

regroup : {X : Type 0} (a1 a2 o d1 d2 : List X) → (a1 ++ a2) ++ (o ++ (d1 ++ d2)) ≡ a1 ++ ((a2 ++ (o ++ d1)) ++ d2)
regroup a1 a2 o d1 d2 = simp append_assoc

old_parts : {X : Type 0} (before old behind : List X) (i j : ℕ) → before ++ (old ++ behind) ≡ take i before ++ ((drop i before ++ (old ++ take j behind)) ++ drop j behind)
old_parts before old behind i j = (λ k. sym (take-append-drop i before) k ++ (old ++ sym (take-append-drop j behind) k)) ∙ regroup (take i before) (drop i before) old (take j behind) (drop j behind)

pub whole_parts : {X : Type 0} (xs : List X) (a b : ℕ) → a ≤ b → xs ≡ take a xs ++ (slice_range xs a b ++ drop b xs)
whole_parts xs a b h = sym (take-append-drop a xs) ∙ ap (λ ys. take a xs ++ ys) (drop_split xs a b h)

-- the open numbers lie within those of the children
pub le_open_to : (file a b : ℕ) (ys : List Tree) → IsWithin file a b (forest ys) → a ≤ open_to b ys
le_open_to file a b [] h = h
le_open_to file a b (y ∷ ys) h = h.1

pub open_to_le : (file a b : ℕ) (ys : List Tree) → IsWithin file a b (forest ys) → open_to b ys ≤ b
open_to_le file a b ys h = within_le file (open_to b ys) b (forest ys) (within_first file a b ys h)

module _ (file a b : ℕ) (front mid back : List Tree) (h : IsWithin file a b (forest (front ++ (mid ++ back)))) where
  pub opens_above : a ≤ open_from a front
  opens_above = within_le file a (open_from a front) (forest front) (within_front file a b front (mid ++ back) h)

  rest : IsWithin file (open_from a front) b (forest (mid ++ back))
  rest = within_back file a b front (mid ++ back) h

  pub opens_ordered : open_from a front ≤ open_to b back
  opens_ordered = omega (arith, within_le file (open_from a front) (open_from (open_from a front) mid) (forest mid) (within_front file (open_from a front) b mid back rest), le_open_to file (open_from (open_from a front) mid) b back (within_back file (open_from a front) b mid back rest))

  pub opens_below : open_to b back ≤ b
  opens_below = open_to_le file (open_from (open_from a front) mid) b back (within_back file (open_from a front) b mid back rest)

-- of a site: `old` are the trees that the changed ones replace
module _ (file : ℕ) (s : Site) (old : List Tree) (w : ℕ) (h : IsWithin file s.first s.end (forest (s.before ++ (old ++ s.behind)))) where
  parted : IsWithin file s.first s.end (forest (trees_before s w ++ ((drop (length s.before - w) s.before ++ (old ++ take w s.behind)) ++ trees_behind s w)))
  parted = subst (λ (ts : List Tree). IsWithin file s.first s.end (forest ts)) (old_parts s.before old s.behind (length s.before - w) w) h

  pub site_above : s.first ≤ open_start s w
  site_above = opens_above file s.first s.end (trees_before s w) (drop (length s.before - w) s.before ++ (old ++ take w s.behind)) (trees_behind s w) parted

  pub site_ordered : open_start s w ≤ open_end s w
  site_ordered = opens_ordered file s.first s.end (trees_before s w) (drop (length s.before - w) s.before ++ (old ++ take w s.behind)) (trees_behind s w) parted

  pub site_below : open_end s w ≤ s.end
  site_below = opens_below file s.first s.end (trees_before s w) (drop (length s.before - w) s.before ++ (old ++ take w s.behind)) (trees_behind s w) parted

  -- the whole is numbered, with another window
  pub site_numbered : (y : ℕ) (window new : List Tree) → IsWithin file (open_start s w) y (forest window) → y ≤ open_end s w → new ≡ trees_before s w ++ (window ++ trees_behind s w) → IsWithin file s.first s.end (forest new)
  site_numbered y window new within high is =
      subst (λ (ts : List Tree). IsWithin file s.first s.end (forest ts)) (sym is)
      (within_window file s.first s.end (open_start s w) y (trees_before s w) (drop (length s.before - w) s.before ++ (old ++ take w s.behind)) window (trees_behind s w) parted within (omega arith) high)

-- the first half
pub within_half : (file x y many : ℕ) (ts : List Tree) → IsWithin file x y (forest ts) → 2 * (y - x) ≤ many → AreIn x (x + many / 2) ts
within_half file x y many ts h half =
    all_weaker (IsIn file x y) (λ l. (x ≤ number l) × (number l < x + many / 2)) (λ l e. (omega (arith, e.1), omega (arith, e.1, e.2))) (preorder (forest ts)) (all_in file x y (forest ts) h)

-- the old trees, at the site
pub old_within : (file number bound from to : ℕ) (xs ys : List Tree) → from ≤ to → IsWithin file (number + 1) bound (forest xs) → IsWithin file (number + 1) bound (forest (take from xs ++ (slice_range xs from to ++ drop to xs)))
old_within file number bound from to xs ys order h = subst (λ (ts : List Tree). IsWithin file (number + 1) bound (forest ts)) (whole_parts xs from to order) h

-- after a replacement in a child list
module _ (file number bound from to w start stop first stride : ℕ) (xs ys put new : List Tree) (order : from ≤ to) (inside : to ≤ length xs) (starts : start ≡ from - w) (stops : stop ≡ from + length ys + min w (length xs - to))
    (put_is : put ≡ splice xs from to ys) where
  begins : start ≡ length (take from xs) - w
  begins = omega (arith, length-take from xs)

  ends : stop ≡ length (take from xs) + length ys + min w (length (drop to xs))
  ends = omega (arith, length-take from xs, length-drop to xs)

  pub put_window : slice_range put start stop ≡ trees_in (site_at (number + 1) bound from to ys xs) w
  put_window = ap (λ ts. slice_range ts start stop) put_is ∙ slice_window (take from xs) ys (drop to xs) w start stop begins ends

  module _ (before : take start new ≡ take start put) (behind : drop stop new ≡ drop stop put) where
    pub new_before : take start new ≡ trees_before (site_at (number + 1) bound from to ys xs) w
    new_before = before ∙ (ap (take start) put_is ∙ take_window (take from xs) ys (drop to xs) w start stop begins ends)

    pub new_behind : drop stop new ≡ trees_behind (site_at (number + 1) bound from to ys xs) w
    new_behind = behind ∙ (ap (drop stop) put_is ∙ drop_window (take from xs) ys (drop to xs) w start stop begins ends)

    module _ (first_is : first ≡ open_start (site_at (number + 1) bound from to ys xs) w) (within : IsWithin file first (first + stride * count_of_all (slice_range put start stop)) (forest (slice_range new start stop))) where
      counted : stride * count_of_all (slice_range put start stop) ≡ stride * count_of_all (trees_in (site_at (number + 1) bound from to ys xs) w)
      counted = ap (λ ts. stride * count_of_all ts) put_window

      pub new_half : 2 * (stride * count_of_all (trees_in (site_at (number + 1) bound from to ys xs) w)) ≤ open_count (site_at (number + 1) bound from to ys xs) w
          → AreIn (open_start (site_at (number + 1) bound from to ys xs) w) (open_start (site_at (number + 1) bound from to ys xs) w + open_count (site_at (number + 1) bound from to ys xs) w / 2) (slice_range new start stop)
      new_half half =
          subst (λ n. AreIn n (n + open_count (site_at (number + 1) bound from to ys xs) w / 2) (slice_range new start stop)) first_is
          (within_half file first (first + stride * count_of_all (slice_range put start stop)) (open_count (site_at (number + 1) bound from to ys xs) w) (slice_range new start stop) within (omega (arith, counted)))

      pub new_within : IsWithin file (number + 1) bound (forest xs) → stride * count_of_all (trees_in (site_at (number + 1) bound from to ys xs) w) ≤ open_count (site_at (number + 1) bound from to ys xs) w → IsWithin file (number + 1) bound (forest new)
      new_within h fits =
          let whole = old_within file number bound from to xs ys order h in
          let ordered = site_ordered file (site_at (number + 1) bound from to ys xs) (slice_range xs from to) w whole in
          site_numbered file (site_at (number + 1) bound from to ys xs) (slice_range xs from to) w whole (first + stride * count_of_all (slice_range put start stop)) (slice_range new start stop) new
          (subst (λ n. IsWithin file n (first + stride * count_of_all (slice_range put start stop)) (forest (slice_range new start stop))) first_is within)
          (omega (arith, counted, first_is))
          (whole_parts new start stop (omega arith) ∙ (λ i. new_before i ++ (slice_range new start stop ++ new_behind i)))
