use Rattle.std.proofs.Common.{◌≡◌, drop}
use Rattle.typst_atoms.specs.MathItems.{ends_in_semicolon, items_in}
use Rattle.typst_atoms.proofs.math_items.ends_in_semicolon.Given as goal

abbrev pub invariant-loop-node : goal.invariant-loop-node
invariant-loop-node l =
    ends_in_semicolon (items_in l.behind_hash (drop l.node-index l.nodes)) ≡ ends_in_semicolon (items_in l.initial.behind_hash l.nodes)
