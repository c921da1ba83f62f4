use Rattle.std.proofs.Common.{◌∙◌, arith, length, refl}
use Rattle.typst_node.specs.View.{warning_text}
use Rattle.typst_node.specs.Hashed.{warning_input}
use Rattle.typst_node.proofs.Fed.{fed_step, fed_all}
use Rattle.typst_node.proofs.node.hash.feed_warnings.Goals as goal

pub loop-warning-preserved : goal.loop-warning-preserved
loop-warning-preserved g c =
    fed_step g.H.Hasher.write warning_input warning_text c.args.warnings.now c.loop-warning.warning-index c.warning-item.result c.loop-warning.state c.feed_warning.new.state (omega arith) c.warning-item.is c.feed_warning.ensures ∙ c.loop-warning.invariant

pub returns : goal.returns
returns g c =
    fed_all g.H.Hasher.write warning_input warning_text c.args.warnings.now (length c.args.warnings.now) c.loop-warning.warning-index c.args.state.now c.write_usize.new.self c.loop-warning.state refl (omega arith) c.write_usize.ensures c.loop-warning.invariant
