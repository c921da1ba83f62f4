use Rattle.std.proofs.Common.{◌≡◌, map, string_bytes}
use Rattle.typst_node.specs.Hints.{hinted, plain_hints, CanHint}
use Rattle.typst_node.proofs.node.SyntaxNode.with_hints.Given as goal

abbrev pub invariant-loop-text : goal.invariant-loop-text
invariant-loop-text l =
    (goal.iterator-loop-text).can_next l.text-iterator
    × (goal.iterator-loop-text).is_finite l.text-iterator
    × CanHint l.self.label
    × (l.self ≡ hinted (plain_hints (map string_bytes l.yielded)) l.initial.self)
