use Rattle.std.proofs.Common.{refl, sym, ◌∙◌}
use Rattle.std.specs.Prelude.{slice_index}
use Rattle.typst_lexer.specs.declared.place.Place.TheVariants.{Blank}
use Rattle.typst_lexer.proofs.QuickTokens.{byte_stops, graphic_ends}
use Rattle.typst_lexer.proofs.quick.stops_space.Goals as goal

pub returns-in-len1-up : goal.returns-in-len1-up
returns-in-len1-up c e = byte_stops Blank c.args.bytes.now (graphic_ends Blank (slice_index c.args.bytes.now 0) (sym c.is_ascii_graphic.ensures.value ∙ e) refl)
