use Rattle.std.proofs.Common.{◌∙◌, arith, length, refl}
use Rattle.typst_node.specs.View.{hint_text}
use Rattle.typst_node.specs.Hashed.{hint_input}
use Rattle.typst_node.proofs.Fed.{fed_step, fed_all}
use Rattle.typst_node.proofs.node.hash.feed_hints.Goals as goal

pub loop-hint-preserved : goal.loop-hint-preserved
loop-hint-preserved g c =
    fed_step g.H.Hasher.write hint_input hint_text c.args.hints.now c.loop-hint.hint-index c.hint-item.result c.loop-hint.state c.feed_hint.new.state (omega arith) c.hint-item.is c.feed_hint.ensures ∙ c.loop-hint.invariant

pub returns : goal.returns
returns g c =
    fed_all g.H.Hasher.write hint_input hint_text c.args.hints.now (length c.args.hints.now) c.loop-hint.hint-index c.args.state.now c.write_usize.new.self c.loop-hint.state refl (omega arith) c.write_usize.ensures c.loop-hint.invariant
