use Rattle.std.proofs.Common.{arith}
use Rattle.typst_node.proofs.Opens.{splice_count, splice_text, part_count, part_text}
use Rattle.typst_node.proofs.node.InnerNode.change.Goals as goal

pub returns-in_err-gone : goal.returns-in_err-gone
returns-in_err-gone c = grind (arith, part_count, part_text)

pub returns-in_err-added : goal.returns-in_err-added
returns-in_err-added c = grind (arith, splice_count, splice_text, part_count, part_text)

pub overflow_add-gone : goal.overflow_add-gone
overflow_add-gone c = grind (arith, part_text)

pub overflow_add-gone-else-added-gone : goal.overflow_add-gone-else-added-gone
overflow_add-gone-else-added-gone c = grind (arith, part_count)
