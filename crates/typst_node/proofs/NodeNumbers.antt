-- All nodes of a numbered tree have numbers of its file, and the spans of these are followed as the numbers are.
use Rattle.std.proofs.Common.{◌≡◌, ℕ, suc, zero, ◌<◌, ◌≤◌, Bool, true, false, ◌==◌, List, [], ◌∷◌, ◌++◌, length, map, get_or, take, drop, refl, sym, ap, subst, ◌∙◌, arith, Some, None, eq-eqb}
use Rattle.std.specs.Prelude.{slice_range, option_map, if◌then◌else◌}
use Rattle.std.specs.List.{AllByRecursion, position_or_len}
use Rattle.std.proofs.lemmas.Bool.Decides.{nat_tests}
use Rattle.typst_base.specs.Span.{SpanParts, numbered}
use Rattle.typst_node.specs.Tree.{Label, Tree, forest, trees}
use Rattle.typst_node.specs.Preorder.{preorder, nodes}
use Rattle.typst_node.specs.Labels.{number}
use Rattle.typst_node.specs.Numbered.{IsNumberOf, IsNumberedFor}
use Rattle.typst_node.specs.Paths.{IsPath, no_tree, tree_at, trees_at}
use Rattle.typst_node.specs.Moves.{NumberMoves, IsNodeNumber, numbers, is_within, is_file, is_span_in, followed, followed_span, no_moves}
use Rattle.typst_node.specs.Following.{SpansFollow}
use Rattle.typst_node.proofs.Trees.{forest-trees}
use Rattle.typst_node.proofs.Settled.{preorder_append}
use Rattle.typst_node.proofs.LeafKept.{nothing_moves}

module _ {X : Type 0} (P : X → Type 0) where
  front : (xs ys : List X) → AllByRecursion P (xs ++ ys) → AllByRecursion P xs
  front [] ys h = tt
  front (x ∷ xs) ys h = (h.0, front xs ys h.1)

  back : (xs ys : List X) → AllByRecursion P (xs ++ ys) → AllByRecursion P ys
  back [] ys h = h
  back (x ∷ xs) ys h = back xs ys h.1

  both : (xs ys : List X) → AllByRecursion P xs → AllByRecursion P ys → AllByRecursion P (xs ++ ys)
  both [] ys h k = k
  both (x ∷ xs) ys h k = (h.0, both xs ys h.1 k)

-- what holds of all nodes of trees holds of those of some of them
module _ (P : Label → Type 0) where
  abbrev Hold : List Tree → Type 0
  Hold ts = AllByRecursion P (preorder (forest ts))

  hold_take : (n : ℕ) (ts : List Tree) → Hold ts → Hold (take n ts)
  hold_take zero ts h = tt
  hold_take (suc n) [] h = tt
  hold_take (suc n) (t ∷ ts) h =
      (h.0, both P (preorder t.children) (preorder (forest (take n ts))) (front P (preorder t.children) (preorder (forest ts)) h.1) (hold_take n ts (back P (preorder t.children) (preorder (forest ts)) h.1)))

  hold_drop : (n : ℕ) (ts : List Tree) → Hold ts → Hold (drop n ts)
  hold_drop zero ts h = h
  hold_drop (suc n) [] h = tt
  hold_drop (suc n) (t ∷ ts) h = hold_drop n ts (back P (preorder t.children) (preorder (forest ts)) h.1)

  hold_part : (a b : ℕ) (ts : List Tree) → Hold ts → Hold (slice_range ts a b)
  hold_part a b ts h = hold_take _ (drop a ts) (hold_drop a ts h)

  hold_both : (ts us : List Tree) → Hold ts → Hold us → Hold (ts ++ us)
  hold_both ts us h k = subst (AllByRecursion P) (sym (preorder_append ts us)) (both P (preorder (forest ts)) (preorder (forest us)) h k)

  hold_kids : (t : Tree) → AllByRecursion P (preorder t.children) → Hold (trees t.children)
  hold_kids t h = subst (λ f. AllByRecursion P (preorder f)) (sym (forest-trees t.children)) h

  hold_child : (ts : List Tree) (i : ℕ) → Hold ts → AllByRecursion P (preorder (get_or ts i no_tree).children)
  hold_child [] i h = tt
  hold_child (t ∷ ts) zero h = front P (preorder t.children) (preorder (forest ts)) h.1
  hold_child (t ∷ ts) (suc i) h = hold_child ts i (back P (preorder t.children) (preorder (forest ts)) h.1)

  hold_below : (path : List ℕ) (t : Tree) → AllByRecursion P (preorder t.children) → Hold (trees_at path t)
  hold_below [] t h = hold_kids t h
  hold_below (i ∷ path) t h = hold_below path (get_or (trees t.children) i no_tree) (hold_child (trees t.children) i (hold_kids t h))

  holds_of : (ts : List Tree) (i : ℕ) → i < length ts → Hold ts → P (get_or ts i no_tree).label
  holds_of [] i k h = absurd (omega arith)
  holds_of (t ∷ ts) zero k h = h.0
  holds_of (t ∷ ts) (suc i) k h = holds_of ts i (omega arith) (back P (preorder t.children) (preorder (forest ts)) h.1)

  holds_at : (path : List ℕ) (t : Tree) → IsPath path t → AllByRecursion P (nodes t) → P (tree_at path t).label
  holds_at [] t p h = h.0
  holds_at (i ∷ path) t p h =
      let kids = hold_kids t h.1 in
      holds_at path (get_or (trees t.children) i no_tree) p.1 (holds_of (trees t.children) i p.0 kids, hold_child (trees t.children) i kids)

only_numbers : (file : ℕ) (ls : List Label) → AllByRecursion (IsNumberOf file) ls → AllByRecursion IsNodeNumber (map number ls)
only_numbers file [] h = tt
only_numbers file (l ∷ ls) h = ((h.0.1, h.0.2), only_numbers file ls h.1)

-- the numbers of parts of the children at a path are numbers of nodes
pub some_numbers : (file : ℕ) (path : List ℕ) (t : Tree) (a b c d : ℕ) → IsNumberedFor file t → AllByRecursion IsNodeNumber (numbers (slice_range (trees_at path t) a b ++ slice_range (trees_at path t) c d))
some_numbers file path t a b c d n =
    let kids = hold_below (IsNumberOf file) path t n.in_file.1 in
    only_numbers file (preorder (forest (slice_range (trees_at path t) a b ++ slice_range (trees_at path t) c d))) (hold_both (IsNumberOf file) _ _ (hold_part (IsNumberOf file) a b (trees_at path t) kids) (hold_part (IsNumberOf file) c d (trees_at path t) kids))

-- a number that is followed to another one comes to a number of a node
listed : (xs : List ℕ) (i n : ℕ) → AllByRecursion IsNodeNumber xs → IsNodeNumber n → IsNodeNumber (get_or xs i n)
listed [] i n h k = k
listed (x ∷ xs) zero n h k = h.0
listed (x ∷ xs) (suc i) n h k = listed xs i n h.1 k

comes_to : (b : Bool) (x n : ℕ) → IsNodeNumber x → (if b then None else Some x) ≡ Some n → IsNodeNumber n
comes_to true x n h e = cc
comes_to false x n h e = subst IsNodeNumber (cc) h

pub follows_to : (m : NumberMoves) (n now : ℕ) → AllByRecursion IsNodeNumber m.news → IsNodeNumber n → followed m n ≡ Some now → IsNodeNumber now
follows_to m n now h k e = comes_to (is_within m.gone n) (get_or m.news (position_or_len (λ x. x == n) m.olds) n) now (listed m.news (position_or_len (λ x. x == n) m.olds) n h k) e

-- which spans are followed
pub span_in : (m : NumberMoves) (s : SpanParts) → 0 < s.file → m.file ≡ Some s.file → IsNodeNumber s.low → is_span_in m s ≡ true
span_in m s some is n =
    let here : is_file m.file s.file ≡ true = ap (λ f. is_file f s.file) is ∙ eq-eqb s.file s.file refl in
    grind (arith, nat_tests, some, here, n.0, n.1)

pub span_followed : (m : NumberMoves) (s : SpanParts) → is_span_in m s ≡ true → followed_span m s ≡ option_map (numbered s.file) (followed m s.low)
span_followed m s is = ap (λ b. if b then option_map (numbered s.file) (followed m s.low) else Some s) is

pub span_stays : (m : NumberMoves) (s : SpanParts) → is_span_in m s ≡ false → followed_span m s ≡ Some s
span_stays m s is = ap (λ b. if b then option_map (numbered s.file) (followed m s.low) else Some s) is

-- the spans of a numbered tree are followed
pub spans_follow : (file : ℕ) (t : Tree) (m : NumberMoves) → 1 ≤ file → IsNumberedFor file t → m.file ≡ Some file → SpansFollow m t
spans_follow file t m some n is p path =
    let at = holds_at (IsNumberOf file) p t path n.in_file in
    let s = (tree_at p t).label.span in
    span_followed m s (span_in m s (omega (arith, at.0, some)) (is ∙ ap Some (sym at.0)) (at.1, at.2))

pub spans_stay : (t : Tree) (m : NumberMoves) → m ≡ no_moves → SpansFollow m t
spans_stay t m none p path =
    let s = (tree_at p t).label.span in
    let same : option_map (numbered s.file) (followed m s.low) ≡ Some s = ap (λ k. option_map (numbered s.file) (followed k s.low)) none ∙ ap (option_map (numbered s.file)) (nothing_moves s.low) in
    ap (λ k. followed_span k s) none ∙ (span_stays no_moves s (no_file s) ∙ sym same)
  where
    no_file : (s : SpanParts) → is_span_in no_moves s ≡ false
    no_file s = grind (arith, nat_tests)
