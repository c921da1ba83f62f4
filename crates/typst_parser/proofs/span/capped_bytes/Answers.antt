use Rattle.std.proofs.Common.{◌≡◌, drop, arith}
use Rattle.typst_parser.specs.Events.{bytes}
use Rattle.typst_parser.proofs.Sums.{none_left}
use Rattle.typst_parser.proofs.span.capped_bytes.Goals as goal

pub returns : goal.returns
returns c =
    let none : bytes (drop c.loop-event.event-index c.args.events.now) ≡ 0 = none_left c.args.events.now c.loop-event.event-index (omega arith) in
    omega (arith, c.loop-event.invariant.so_far, c.loop-event.invariant.small, none)
