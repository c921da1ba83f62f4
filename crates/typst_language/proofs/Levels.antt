-- How deep the trees of blocks nest.
use Rattle.std.proofs.Common.{ℕ, List, arith}
use Rattle.typst_node.specs.Depth.{AreWithin}
use Rattle.typst_parser.proofs.FirstBlocks.{block_levels}
use Rattle.typst_language.specs.Block.{first, first_of_markup, language, markup}

pub first_within_depth : (text : List ℕ) → AreWithin 255 (first text).trees
unfolding language
first_within_depth text = block_levels language text (omega arith)

pub markup_within_depth : (text : List ℕ) → AreWithin 255 (first_of_markup text).trees
unfolding markup
markup_within_depth text = block_levels markup text (omega arith)
