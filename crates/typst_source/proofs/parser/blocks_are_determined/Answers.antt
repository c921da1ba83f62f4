use Rattle.typst_source.proofs.Blocks.{blocks_are}
use Rattle.typst_source.proofs.Laws.{AreLaws}
use Rattle.typst_source.proofs.parser.blocks_are_determined.Given as given
use Rattle.typst_source.proofs.parser.blocks_are_determined.Goals as goal

laws : (g : given.Over) → AreLaws g.P.BlockParser.first
laws g = record {
  positive = g.met.P.BlockParser.positive;
  within = g.met.P.BlockParser.within;
  boundary = g.met.P.BlockParser.boundary;
  keeps_text = g.met.P.BlockParser.keeps_text;
  looked = g.met.P.BlockParser.looked;
  local = g.met.P.BlockParser.local;
}

pub returns : goal.returns
returns g c = blocks_are g.P.BlockParser.first (laws g)
