-- The row of a node, and how many rows there are.
use Rattle.std.proofs.Common.{◌≡◌, ℕ, ◌+◌, ◌<◌, List, [], length, refl, sym, ap, ◌∙◌, Some, None, Bool, true, false, min, inl, inr, if◌then◌else◌, option_map, arith}
use Rattle.std.specs.Prelude.{IsTrue, ◌↔◌, unwrap_or, nat_lt, nat_le}
use Rattle.std.specs.Option.{is_none}
use Rattle.std.proofs.lemmas.Bool.{ltb-true, ltb-false, lt-leb, le-leb}
use Rattle.std.proofs.lemmas.List.{length-map}
use Rattle.typst_linked.specs.Place.{Place, subtree, child_place, last_step, below}
use Rattle.typst_linked.specs.Preorder.{places_below}
use Rattle.typst_linked.specs.Siblings.{sibling, siblings, behind_it, parent_place}
use Rattle.typst_linked.proofs.Nearest.{siblings-child}
use Rattle.typst_linked.proofs.Places.{last_step-push}
use Rattle.typst_node.proofs.FirstThatPasses.{bool_cases}
use Rattle.typst_node.specs.Tree.{Tree, trees, Content, AsLeaf, AsError, AsInner, IsInner, kind_of}
use Rattle.typst_node.specs.Text.{offset, text}
use Rattle.typst_node.specs.Count.{count}
use Rattle.typst_node.specs.Labels.{number, bound}
use Rattle.typst_node.specs.Preorder.{paths}
use Rattle.typst_node.proofs.PathsInPreorder.{length-paths}
use Rattle.typst_shown.specs.Rows.{has_children, row_of, row_at, rows_of}
use Rattle.typst_shown.specs.declared.row.Row.{Row}

-- the test for a list of children
pub inner_test : (c : Content) (b : Bool) → IsTrue b ↔ IsInner c → b ≡ has_children c
inner_test (AsLeaf kind own) true h = absurd (h.0 refl)
inner_test (AsLeaf kind own) false h = refl
inner_test (AsError own message hints) true h = absurd (h.0 refl)
inner_test (AsError own message hints) false h = refl
inner_test (AsInner kind upper) true h = refl
inner_test (AsInner kind upper) false h = h.1 tt

-- the test for an index that none of n indices comes after; the sum stops at the greatest `usize`
no_more : (f : ℕ → Place) (i s n : ℕ) → s ≡ min (i + 1) 18446744073709551615 → n < 18446744073709551616
    → nat_le n s ≡ is_none (option_map f (if nat_lt (i + 1) n then Some (i + 1) else None))
no_more f i s n hs hn = elim (bool_cases (nat_lt (i + 1) n)) [
  | inl e ↦ rw e (lt-leb n s (omega (arith, ltb-true (i + 1) n e, hs)))
  | inr e ↦ rw e (le-leb n s (omega (arith, ltb-false (i + 1) n e, hs, hn)))
]

-- the test for a child that no sibling comes after
pub last_test : (p : Place) (i s : ℕ) (t : Tree) → subtree p ≡ Some t → s ≡ min (i + 1) 18446744073709551615
    → length (trees t.children) < 18446744073709551616
    → nat_le (length (trees t.children)) s ≡ is_none (sibling behind_it (child_place p i))
last_test p i s t h hs hn =
    let place = child_place p i in
    let given : ℕ → List Tree → Bool = λ k ts. is_none (option_map (child_place (parent_place place)) (behind_it k ts)) in
    no_more (child_place (parent_place place)) i s (length (trees t.children)) hs hn
    ∙ sym (ap (λ k. given k (siblings place)) (last_step-push p.path i) ∙ ap (given i) (siblings-child p i t h))

-- a row with what is told of the node at a place is the place's
pub row_is : (place : Place) (t : Tree) (r : Row) → subtree place ≡ Some t → r.depth ≡ length place.path
    → r.index ≡ last_step place.path → r.is_last ≡ is_none (sibling behind_it place)
    → r.kind ≡ kind_of t.label.content → IsTrue r.is_inner ↔ IsInner t.label.content → r.start ≡ offset place.path place.root
    → r.end ≡ offset place.path place.root + length (text t) → r.number ≡ number t.label → r.bound ≡ bound t.label → r ≡ row_at place
row_is place t r there depth index is_last kind is_inner start end num bnd =
    let inner = inner_test t.label.content r.is_inner is_inner in
    let same : r ≡ row_of place t = λ i. record {
      depth = depth i;
      index = index i;
      is_last = is_last i;
      kind = kind i;
      is_inner = inner i;
      start = start i;
      end = end i;
      number = num i;
      bound = bnd i;
    } in
    same ∙ ap (row_of place) (sym (ap (λ o. unwrap_or o place.root) there))

-- as many rows as nodes
pub length-rows : (t : Tree) → length (rows_of t) ≡ count t
length-rows t =
    let root : Place = record { root = t; path = [] } in
    length-map (places_below root) row_at ∙ (length-map (paths t) (below root) ∙ length-paths t)
