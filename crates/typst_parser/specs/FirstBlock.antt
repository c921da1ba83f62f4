-- The first block of a text. It ends before a token at the beginning of a line where only the outermost frame is open.
use Rattle.std.specs.Prelude.{ℕ, ◌+◌, List, length}
use Rattle.typst_node.specs.Tree.{Tree}
use Rattle.typst_parser.specs.Growth.{grown}
use Rattle.typst_parser.specs.Rows.{Table}
use Rattle.typst_parser.specs.Stack.{Stack, start}
use Rattle.typst_parser.specs.Steps.{steps}

-- a block: how many bytes it has, how many bytes from its beginning were looked at, and its trees
pub record FirstBlock : Type 0 where
  pub len : ℕ
  pub reach : ℕ
  pub trees : List Tree

-- the block that ends where the last token does
abbrev pub block_of : List ℕ → Stack → FirstBlock
block_of text s = record { len = s.from.at; reach = s.far; trees = grown text s.events }

-- the stack at the end of the block, which has at most as many tokens as bytes
abbrev pub at_end : Table → List ℕ → Stack
at_end t text = steps (length text + 1) t text (start t.most_deep)

-- the first block of a text, by the rows of a table
abbrev pub first_block : Table → List ℕ → FirstBlock
first_block t text = block_of text (at_end t text)
