-- Sums of the bytes of events.
use Rattle.std.proofs.Common.{◌≡◌, ℕ, zero, suc, ◌≤◌, List, [], ◌∷◌, length, drop, refl, arith}
use Rattle.typst_parser.specs.Events.{bytes}
use Rattle.typst_parser.specs.declared.event.Event.{Event}

pub none_left : (es : List Event) (i : ℕ) → length es ≤ i → bytes (drop i es) ≡ 0
none_left [] zero past = refl
none_left [] (suc i) past = refl
none_left (e ∷ es) zero past = absurd (omega arith)
none_left (e ∷ es) (suc i) past = none_left es i (omega arith)
