use Rattle.std.proofs.Common.{◌≡◌, ◌-◌, drop, length}
use Rattle.std.specs.Str.{IsUtf8}
use Rattle.typst_parser.specs.Events.{CanBeCutFrom}
use Rattle.typst_parser.specs.Growth.{grown, grown_onto}
use Rattle.typst_parser.proofs.grow.grow.Given as goal

abbrev pub invariant-loop-event : goal.invariant-loop-event
invariant-loop-event l = record {
  utf8 : IsUtf8 l.rest;
  place : drop (length l.text - length l.rest) l.text ≡ l.rest;
  cut : CanBeCutFrom (length l.text - length l.rest) l.text (drop l.event-index l.events);
  so_far : grown_onto l.trees.items l.rest (drop l.event-index l.events) ≡ grown l.text l.events;
}
