-- A search by the own span of a node of a numbered tree.
use Rattle.std.proofs.Common.{◌≡◌, ℕ, suc, zero, ◌+◌, ◌<◌, ◌≤◌, ◌^◌, List, [], ◌∷◌, Option, Some, None, sym, ◌∙◌, ap, subst, arith, slice_get}
use Rattle.std.specs.Prelude.{Result, Ok, Err, IfOk}
use Rattle.std.specs.declared.alloc.AllocError.{AllocError}
use Rattle.std.proofs.lemmas.Bool.Decides.{nat_tests}
use Rattle.typst_base.specs.Span.{SpanParts}
use Rattle.typst_base.specs.SpanKind.{span_kind_of, to_number}
use Rattle.typst_base.specs.declared.span.SpanKind.{SpanKind}
use Rattle.typst_node.specs.Tree.{Forest, none, tree, Tree, trees}
use Rattle.typst_node.specs.Preorder.{at}
use Rattle.typst_node.specs.Labels.{number, bound}
use Rattle.typst_node.specs.Numbered.{IsNumbered}
use Rattle.typst_node.specs.Interval.{IsWithin}
use Rattle.typst_linked.specs.Place.{Place}
use Rattle.typst_linked.specs.Search.{with_number}
use Rattle.typst_linked.specs.Finds.{FindsSpan}
use Rattle.typst_linked.specs.Own.{FindsOwn}
use Rattle.typst_node.proofs.Ordered.{within_from_numbered}
use Rattle.typst_node.proofs.PathSteps.{if_some_value, at-append}
use Rattle.typst_linked.proofs.Ordered.{IsInOrder, child_in_order, node_in_order}
use Rattle.typst_linked.proofs.Searching.{found_at}
use Rattle.typst_linked.proofs.OneNumber.{own_path}

-- each of the trees side by side is of the file
one_of_file : (file a b : ℕ) (f : Forest) (i : ℕ) (c : Tree) → IsWithin file a b f → slice_get (trees f) i ≡ Some c → c.label.span.file ≡ file
one_of_file file a b none i c h s = absurd (let s : None ≡ Some c = s in cc)
one_of_file file a b (tree l d r) zero c h s =
    let s : Some (record { label = l; children = d }) ≡ Some c = s in
    let same : record { label = l; children = d } ≡ c = cc in
    ap (λ (t : Tree). t.label.span.file) (sym same) ∙ h.0
one_of_file file a b (tree l d r) (suc i) c h s = one_of_file file (bound l) b r i c h.3 s

-- each node is of its tree's file
node_of_file : (file : ℕ) (path : List ℕ) (t node : Tree) → t.label.span.file ≡ file → IsInOrder file t → at path t ≡ Some node → node.label.span.file ≡ file
node_of_file file [] t node of_file order leads =
    let leads : Some t ≡ Some node = leads in
    let same : t ≡ node = cc in
    ap (λ (u : Tree). u.label.span.file) (sym same) ∙ of_file
node_of_file file (i ∷ path) t node of_file order leads =
    let x = if_some_value (at path) (slice_get (trees t.children) i) node leads in
    node_of_file file path x.0 node (one_of_file file (number t.label + 1) (bound t.label) t.children i x.0 order x.1) (child_in_order file t x.0 i order x.1).2 x.2

-- a span of a file with a low value below 2^47 points to the node with that number
number_kind : (span : SpanParts) → 1 ≤ span.file → span.low < 2 ^ 47 → span_kind_of span ≡ to_number span.file span.low
number_kind span of_file small = grind (arith, nat_tests)

-- the span of a node of a numbered tree points to the node's number
own_kind : (t node : Tree) (path : List ℕ) → IsNumbered t → at path t ≡ Some node → span_kind_of node.label.span ≡ to_number node.label.span.file (number node.label)
own_kind t node path numbered leads =
    let file = numbered.0 in
    let whole = within_from_numbered file t numbered.2 in
    let order : IsInOrder file t = whole.2 in
    let of_file = node_of_file file path t node whole.0 order leads in
    let inside = node_in_order file path t node order leads in
    number_kind node.label.span (omega (arith, numbered.1, of_file)) (omega (arith, inside.1, numbered.2.bounds.2.0))

-- what a search by a span answers is, by its node's own span, that node's place
pub finds_own : (span : SpanParts) (kind : SpanKind) (place : Place) (answer : Option Place) → kind ≡ span_kind_of span → FindsSpan kind place answer → FindsOwn span place answer
finds_own span kind place answer seen found t here numbered path node there same =
    let leads : at path t ≡ Some node = sym (at-append place.path path place.root t here) ∙ there in
    let by_number : kind ≡ to_number span.file span.low =
    seen ∙ (ap span_kind_of (sym same) ∙ (own_kind t node path numbered leads ∙ ap (λ (s : SpanParts). to_number s.file s.low) same)) in
    let search = (subst (λ k. FindsSpan k place answer) by_number found).0 t here numbered in
    let path_found : with_number span.low t ≡ Some path = ap (λ (s : SpanParts). with_number s.low t) (sym same) ∙ own_path t node path numbered leads in
    search ∙ found_at (with_number span.low) place t (Some path) here path_found

-- the same, if memory allows
pub finds_own_ok : (span : SpanParts) (kind : SpanKind) (place : Place) (result : Result (Option Place) AllocError) → kind ≡ span_kind_of span → IfOk result (FindsSpan kind place) → IfOk result (FindsOwn span place)
finds_own_ok span kind place (Ok answer) seen found = finds_own span kind place answer seen found
finds_own_ok span kind place (Err e) seen found = tt
