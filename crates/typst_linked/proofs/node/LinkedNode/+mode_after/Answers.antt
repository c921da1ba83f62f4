use Rattle.std.proofs.Common.{◌∙◌}
use Rattle.typst_linked.specs.Modes.{mode_behind_parent}
use Rattle.typst_linked.proofs.OuterModes.{mode_step, no_parent_mode}
use Rattle.typst_linked.proofs.node.LinkedNode.+mode_after.Goals as goal

pub returns-in-Some : goal.returns-in-Some
returns-in-Some t c = c.in-Some.ensures (mode_behind_parent c.args.self.now) ∙ mode_step c.args.self.now

pub returns-in_err-parent : goal.returns-in_err-parent
returns-in_err-parent t c = c.from_residual.ensures ∙ no_parent_mode c.args.self.now c.in_err-parent.ensures ∙ c.in_default.ensures (mode_behind_parent c.args.self.now) ∙ mode_step c.args.self.now
