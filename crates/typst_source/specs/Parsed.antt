-- A block as a parser returns it.
use Rattle.std.specs.Prelude.{◌≡◌, map}
use Rattle.typst_node.specs.Plain.{plain}
use Rattle.typst_source.specs.declared.parser.ParsedBlock.{ParsedBlock}
use Rattle.typst_source.specs.Blocks.{Block}

-- what was parsed has the block's length, its reach, and nodes whose plain trees are the block's
pub record IsParsedBlock (block : Block) (parsed : ParsedBlock) : Type 0 where
  pub len : parsed.len ≡ block.len
  pub reach : parsed.reach ≡ block.reach
  pub trees : map plain parsed.nodes.items ≡ block.trees
