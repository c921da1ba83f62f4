use Rattle.std.proofs.Common.{◌++◌, sym, ◌∙◌}
use Rattle.typst_node.proofs.Following.{numbers_append}
use Rattle.typst_node.proofs.node.moves.write_both.Goals as goal

pub returns : goal.returns
returns c = (λ i. c.write_numbers.ensures i ++ c.write_numbers-2.ensures i) ∙ sym (numbers_append c.args.ahead.now c.args.behind.now)
