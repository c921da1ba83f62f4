use Rattle.std.proofs.Common.{rules}
use Rattle.typst_accessors.proofs.accessor.Accessor.answer.Goals as goal
use Rattle.typst_base.specs.contracts.kind.SyntaxKind.{the_type}
use denote.Enum.Bare.{same_true}

pub read-requires : goal.read-requires
read-requires c = same_true the_type tt _ _ (search rules)
