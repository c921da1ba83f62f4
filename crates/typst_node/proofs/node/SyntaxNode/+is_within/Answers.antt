use Rattle.std.proofs.Common.{arith, ◌≡◌, ◌+◌, [], drop, get_or, ap, sym, ◌∙◌}
use Rattle.std.proofs.lemmas.Grind.{common_steps}
use Rattle.std.proofs.lemmas.List.{drop_all}
use Rattle.std.proofs.lemmas.Bool.{leb-true, le-leb}
use Rattle.typst_node.specs.Count.{count}
use Rattle.typst_node.specs.Tree.{forest}
use Rattle.typst_node.specs.Labels.{number, bound}
use Rattle.typst_node.specs.Interval.{IsWithin}
use Rattle.typst_node.proofs.Trees.{forest-trees, count_at, count_of_trees, drop_next}
use Rattle.typst_node.proofs.Within.{first_within}
use Rattle.typst_node.proofs.node.SyntaxNode.+is_within.Goals as goal

pub is_within-requires : goal.is_within-requires
is_within-requires t c =
    let items = c.child_slice-child-items.result.now in
    let few = count_at items c.loop-child.child-index c.child-item.result (omega arith) in
    let sum = count_of_trees c.args.self.now.children in
    let same : count c.child-item.result ≡ count (get_or items c.loop-child.child-index c.child-item.result) = ap count c.child-item.is in
    let fewer = rw c.child_slice-child-items.ensures.children at few in
    let same_too = rw c.child_slice-child-items.ensures.children at same in
    (omega (arith, c.decreases), tt)

pub returns-then-not-is_within : goal.returns-then-not-is_within
returns-then-not-is_within t c = (
  λ h. cc,
  λ w.
      let items = c.child_slice-child-items.result.now in
      let num : number c.args.self.now.label ≡ c.number-number.result = sym (c.number-number.ensures.is ∙ ap (λ t. t.label.span.low) c.self.view_is) in
      let up : bound c.args.self.now.label ≡ c.upper-bound.result = sym c.upper-bound.ensures in
      let kids : c.args.self.now.children ≡ forest items = sym (forest-trees c.args.self.now.children) ∙ ap forest (sym c.child_slice-child-items.ensures.children) in
      let inner = coe 0 1 (i. IsWithin c.args.id (num i + 1) (up i) (kids i)) w.2 in
      let rest = rw (drop_next items c.loop-child.child-index c.child-item.result c.loop-child-test.true, ← c.child-item.is) at (c.loop-child.invariant.0 inner) in
      let first = first_within _ _ _ c.child-item.result (drop (c.loop-child.child-index + 1) items) rest in
      c.if-not-is_within.ensures.1 first,
)

pub returns : goal.returns
returns t c =
    let items = c.child_slice-child-items.result.now in
    let num : number c.args.self.now.label ≡ c.number-number.result = sym (c.number-number.ensures.is ∙ ap (λ t. t.label.span.low) c.self.view_is) in
    let up : bound c.args.self.now.label ≡ c.upper-bound.result = sym c.upper-bound.ensures in
    let kids : c.args.self.now.children ≡ forest items = sym (forest-trees c.args.self.now.children) ∙ ap forest (sym c.child_slice-child-items.ensures.children) in
    let file : c.args.self.now.label.span.file ≡ c.args.id = grind (arith, common_steps) in
    let done : drop c.loop-child.child-index items ≡ [] = drop_all c.loop-child.child-index items c.loop-child-test.false in
    let so_far = rw done at c.loop-child.invariant in (
      λ h. (file, omega arith, coe 1 0 (i. IsWithin c.args.id (num i + 1) (up i) (kids i)) (so_far.1 (leb-true c.loop-child.at c.upper-bound.result h)), omega arith),
      λ w. le-leb c.loop-child.at c.upper-bound.result (so_far.0 (coe 0 1 (i. IsWithin c.args.id (num i + 1) (up i) (kids i)) w.2)),
    )
