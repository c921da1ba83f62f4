use Rattle.std.proofs.Common.{◌≡◌, ◌+◌, ◌≤◌, drop, min}
use Rattle.typst_parser.specs.Events.{bytes}
use Rattle.typst_parser.proofs.span.capped_bytes.Given as goal

abbrev pub invariant-loop-event : goal.invariant-loop-event
invariant-loop-event l = record {
  small : l.sum ≤ 0xFFFF_FFFF_FFFF_FFFF;
  so_far : min (l.sum + bytes (drop l.event-index l.events)) 0xFFFF_FFFF_FFFF_FFFF ≡ min (bytes l.events) 0xFFFF_FFFF_FFFF_FFFF;
}
