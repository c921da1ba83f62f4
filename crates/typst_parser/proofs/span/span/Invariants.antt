use Rattle.std.proofs.Common.{◌≡◌, ◌+◌, ◌-◌, ◌≤◌, length, reverse, take}
use Rattle.typst_parser.specs.Spans.{span}
use Rattle.typst_parser.proofs.span.span.Given as goal

abbrev pub invariant-loop-need : goal.invariant-loop-need
invariant-loop-need l = record {
  within : l.left ≤ length l.events;
  so_far : length l.events - l.left + span l.need (reverse (take l.left l.events)) ≡ span l.trees (reverse l.events);
}

abbrev pub decreases-loop-need : goal.decreases-loop-need
decreases-loop-need l = l.left
