use Rattle.std.proofs.Common.{sym, ap, ◌∙◌}
use Rattle.std.specs.Prelude.{not}
use Rattle.std.proofs.lemmas.Bool.{false≢true}
use Rattle.typst_lexer.proofs.QuickMath.{number_stops}
use Rattle.typst_lexer.proofs.quick_math.stops_number.Goals as goal
use Rattle.typst_lexer.proofs.quick_math.stops_number.Goals.{then-is_ascii_digit, else-is_ascii_digit}

pub returns-after-is_ascii_digit : goal.returns-after-is_ascii_digit
returns-after-is_ascii_digit c e =
    elim c.if-is_ascii_digit.branch [
      | then-is_ascii_digit w ↦ absurd (false≢true (ap not (sym (w.result-is ∙ w.if-is_ascii_digit.true)) ∙ e))
      | else-is_ascii_digit w ↦ number_stops c.args.bytes.now c.if-byte-lt128.true (sym c.is_ascii_digit.ensures.value ∙ w.if-is_ascii_digit.false) (ap not (sym w.result-is) ∙ e)
    ]
