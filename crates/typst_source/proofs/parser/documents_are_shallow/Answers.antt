use Rattle.typst_source.proofs.Depths.{within_document}
use Rattle.typst_source.proofs.parser.documents_are_shallow.Goals as goal

pub returns : goal.returns
returns g c = within_document g.P.BlockParser.first
