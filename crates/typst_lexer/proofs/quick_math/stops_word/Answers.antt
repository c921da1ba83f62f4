use Rattle.std.proofs.Common.{sym, ap, ◌∙◌}
use Rattle.std.specs.Prelude.{Bool, ◌&&◌}
use Rattle.typst_lexer.specs.declared.place.Place.TheVariants.{Cluster, MathName}
use Rattle.typst_lexer.specs.Bytes.{is_other}
use Rattle.typst_lexer.proofs.Ascii.{both}
use Rattle.typst_lexer.proofs.QuickTokens.{byte_stops}
use Rattle.typst_lexer.proofs.quick_math.stops_word.Goals as goal

pub returns-in-len1-up-clause-letter : goal.returns-in-len1-up-clause-letter
returns-in-len1-up-clause-letter c e kind cluster other =
    byte_stops (Cluster kind cluster) c.args.bytes.now (ap (λ (v : Bool). v && is_other cluster.last) (both _ _ (sym c.is_no_word.ensures ∙ e)).0 ∙ other)

pub returns-in-len1-up-clause-name : goal.returns-in-len1-up-clause-name
returns-in-len1-up-clause-name c e single cluster = byte_stops (MathName single cluster) c.args.bytes.now (sym c.is_no_word.ensures ∙ e)
