use Rattle.std.proofs.Common.{◌≡◌, drop, [], arith, sym, ◌∙◌}
use Rattle.std.proofs.lemmas.List.{drop_all}
use Rattle.std.proofs.Math.Bool.{or-false}
use Rattle.typst_node.proofs.node.inner.sums_of.Goals as goal

pub returns : goal.returns
returns c =
    let done : drop c.loop-child.child-index c.args.children.now ≡ [] = drop_all c.loop-child.child-index c.args.children.now (omega arith) in
    let kept = rw done at c.loop-child.invariant in
    ((omega arith, omega arith), record { len = omega arith; descendants = omega arith; errors = sym (or-false _) ∙ kept.errors; warnings = sym (or-false _) ∙ kept.warnings })
