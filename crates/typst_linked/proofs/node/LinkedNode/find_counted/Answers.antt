use Rattle.std.proofs.Common.{None, refl, sym, ◌∙◌, rules}
use Rattle.std.specs.Prelude.{IfOk}
use Rattle.typst_base.specs.declared.span.SpanKind.TheVariants.{Number, Range}
use Rattle.typst_linked.specs.Finds.{FindsSpan}
use Rattle.typst_linked.proofs.OwnSpan.{finds_own, finds_own_ok}
use Rattle.typst_linked.proofs.node.LinkedNode.find_counted.Goals as goal

pub returns-in-Detached-clause-own : goal.returns-in-Detached-clause-own
returns-in-Detached-clause-own c = finds_own c.args.span _ c.args.self.now None (sym c.in-Detached.is ∙ c.get.ensures) refl

pub returns-in-Number-clause-own : goal.returns-in-Number-clause-own
returns-in-Number-clause-own c =
    let found : IfOk c.find_number.result (FindsSpan (Number c.in-Number.id c.in-Number.num) c.args.self.now) = search rules in
    finds_own_ok c.args.span (Number c.in-Number.id c.in-Number.num) c.args.self.now c.find_number.result (sym c.in-Number.is ∙ c.get.ensures) found

pub returns-in-Range-clause-own : goal.returns-in-Range-clause-own
returns-in-Range-clause-own c =
    finds_own_ok c.args.span (Range c.in-Range.id c.in-Range.range) c.args.self.now c.find_range.result (sym c.in-Range.is ∙ c.get.ensures) c.find_range.ensures
