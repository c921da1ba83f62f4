use Rattle.typst_node.proofs.SamePlain.{fits_numbered}
use Rattle.typst_node.proofs.node.number.numbering_keeps_what_fits.Goals as goal

pub returns : goal.returns
returns c = fits_numbered
