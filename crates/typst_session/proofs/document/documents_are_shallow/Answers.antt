use Rattle.typst_language.specs.Block.{first}
use Rattle.typst_language.proofs.Levels.{first_within_depth}
use Rattle.typst_source.proofs.Depths.{within_document}
use Rattle.typst_session.proofs.document.documents_are_shallow.Goals as goal

pub returns : goal.returns
returns c = within_document first 255 first_within_depth
