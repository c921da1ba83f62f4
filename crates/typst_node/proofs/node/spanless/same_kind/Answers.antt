use Rattle.std.proofs.Common.{◌∙◌, sym}
use denote.Enum.Bare.{same_true, true_same}
use Rattle.typst_base.specs.contracts.kind.SyntaxKind.{the_type}
use Rattle.typst_node.proofs.node.spanless.same_kind.Goals as goal

pub returns : goal.returns
returns c = (
  λ h. same_true the_type tt c.args.kind c.args.other (sym c.eq.ensures ∙ h),
  λ e. c.eq.ensures ∙ true_same the_type c.args.kind c.args.other e,
)
