use Rattle.std.proofs.Common.{refl, sym, ap, ◌∙◌}
use Rattle.std.specs.Prelude.{not}
use Rattle.typst_lexer.specs.declared.place.Place.TheVariants.{FieldName, Name}
use Rattle.typst_lexer.proofs.QuickTokens.{name_stops}
use Rattle.typst_lexer.proofs.quick.stops_name.Goals as goal

pub returns-then-byte-lt128-clause-name : goal.returns-then-byte-lt128-clause-name
returns-then-byte-lt128-clause-name c e = name_stops Name c.args.bytes.now (λ b. refl) c.if-byte-lt128.true (ap not (sym c.is_name.ensures) ∙ e)

pub returns-then-byte-lt128-clause-field : goal.returns-then-byte-lt128-clause-field
returns-then-byte-lt128-clause-field c e = name_stops FieldName c.args.bytes.now (λ b. refl) c.if-byte-lt128.true (ap not (sym c.is_name.ensures) ∙ e)
