use Rattle.std.proofs.Common.{◌+◌, ◌*◌}
use Rattle.typst_node.proofs.ends.+grow.Given as goal

abbrev pub decreases-grow : goal.decreases-grow
decreases-grow l = 2 * l.many + 1

abbrev pub decreases-Ends::extend : goal.decreases-Ends::extend
decreases-Ends::extend l = 2 * l.many
