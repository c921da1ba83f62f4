use Rattle.std.proofs.Common.{◌≡◌, ◌<◌}
use Rattle.typst_base.specs.KindName.{name_of}
use Rattle.typst_base.specs.KindNumber.{number_of}
use Rattle.typst_base.specs.declared.kind.SyntaxKind.{SyntaxKind}
use Rattle.typst_session.proofs.kinds.kind_of_name.Given as goal

abbrev pub invariant-loop-number : goal.invariant-loop-number
invariant-loop-number l = (kind : SyntaxKind) → number_of kind < l.number → ¬ (name_of kind ≡ l.name)
