use Rattle.std.proofs.Common.{◌≡◌, rules}
use Rattle.std.specs.Prelude.{slice_index}
use Rattle.typst_lexer.proofs.QuickOperators.{operators_found}
use Rattle.typst_lexer.proofs.quick.quick_operator.Goals as goal

pub returns-in-Some-clause-first : goal.returns-in-Some-clause-first
returns-in-Some-clause-first c k =
    let blank : slice_index c.args.bytes.now 1 ≡ 32 = search rules in
    operators_found k c.args.bytes.now c.in-Some.kind c.in-32.len_at_least blank c.in-Some.ensures
