-- The place of a node of a numbered tree, found by the node's own span.
use Rattle.std.proofs.Common.{◌≡◌, ◌∙◌, ◌+◌, ℕ, List, [], Option, None, Some, ap, length, refl, subst, sym}
use Rattle.std.specs.Prelude.{IsSomeAnd}
use Rattle.std.specs.declared.ops.Range.{Range as Interval}
use Rattle.typst_base.specs.Span.{SpanParts}
use Rattle.typst_node.specs.Tree.{Tree}
use Rattle.typst_node.specs.Text.{offset, text}
use Rattle.typst_node.specs.Numbered.{IsNumbered}
use Rattle.typst_node.specs.Paths.{IsPath, tree_at}
use Rattle.typst_linked.specs.Own.{FindsOwn}
use Rattle.typst_linked.specs.Place.{Place, subtree}
use Rattle.typst_linked.proofs.OneNumber.{at-path}
use Rattle.typst_session.specs.Finding.{place_in}
use Rattle.typst_session.specs.Neighbors.{IsRangeOf}

-- a search from the root by the span of the node at a path returns the place at the path
pub own_place : (root node : Tree) (start : Place) (span : SpanParts) (path : List ℕ) (answer : Option Place) → start.root ≡ root → start.path ≡ [] → IsNumbered root
    → IsPath path root → node ≡ tree_at path root → span ≡ node.label.span → FindsOwn span start answer → answer ≡ Some (place_in root path)
own_place root node start span path answer of_root at_root numbered there is own found =
    let place : start ≡ place_in root [] = λ i. record { root = of_root i; path = at_root i } in
    let found : FindsOwn span (place_in root []) answer = subst (λ (p : Place). FindsOwn span p answer) place found in
    found root refl numbered path (tree_at path root) (at-path path root there) (sym (own ∙ ap (λ (t : Tree). t.label.span) is))

-- the range of the node at a path, which its linked node tells
pub range_told : (root : Option Tree) (path : List ℕ) (node : Place) (range : Interval ℕ) → IsSomeAnd root (λ t. IsPath path t × (node ≡ place_in t path))
    → range.start ≡ offset node.path node.root → ((t : Tree) → subtree node ≡ Some t → range.end ≡ range.start + length (text t)) → IsSomeAnd root (λ t. IsRangeOf path t range)
range_told None path node range h begin end = absurd h
range_told (Some root) path node range h begin end = record {
  there = h.0;
  begin = begin ∙ ap (λ (p : Place). offset p.path p.root) h.1;
  behind = end (tree_at path root) (ap subtree h.1 ∙ at-path path root h.0);
}
