-- What the machine made by a table is the first block by it.
use Rattle.std.proofs.Common.{◌≡◌, ℕ, List, map, ap, ◌∙◌}
use Rattle.typst_parser.specs.FirstBlock.{first_block}
use Rattle.typst_parser.specs.Rows.{Table}
use Rattle.typst_parser.specs.View.{IsBlock}
use Rattle.typst_parser.specs.declared.block.FirstBlock.{FirstBlock as CodeBlock}
use Rattle.typst_language.proofs.Plains.{block_plain}
use Rattle.typst_language.specs.Block.{first_by}
use Rattle.typst_node.specs.Plain.{plain}
use Rattle.typst_source.specs.Parsed.{IsParsedBlock}
use Rattle.typst_source.specs.declared.parser.ParsedBlock.{ParsedBlock}

pub made : (t : Table) (text : List ℕ) (block : CodeBlock) (parsed : ParsedBlock) → IsBlock (first_block t text) block
    → parsed.len ≡ block.len → parsed.reach ≡ block.reach → parsed.nodes.items ≡ block.nodes.items → IsParsedBlock (first_by t text) parsed
made t text block parsed is len reach nodes = record {
  len = len ∙ is.len;
  reach = reach ∙ is.reach;
  trees = ap (map plain) (nodes ∙ is.trees) ∙ block_plain t text;
}
