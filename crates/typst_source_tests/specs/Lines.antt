-- Lines as blocks.
use Rattle.std.specs.Prelude.{ℕ, suc, ◌==◌, nat_lt, Bool, List, [], ◌∷◌, take, if◌then◌else◌}
use Rattle.typst_base.specs.declared.kind.SyntaxKind.TheVariants as kinds
use Rattle.typst_node.specs.Tree.{Tree, leaf_tree}
use Rattle.typst_source.specs.Blocks.{Block}

-- the length of the first line, with its line feed
abbrev pub line_len : List ℕ → ℕ
line_len [] = 0
line_len (b ∷ bs) = if b == 10 then 1 else suc (line_len bs)

-- How many bytes the parser looks at to know the line. These are the bytes of the line, and one more where the text
-- ends without a line feed.
abbrev pub line_reach : List ℕ → ℕ
line_reach [] = 1
line_reach (b ∷ bs) = if b == 10 then 1 else suc (line_reach bs)

-- The trees of a line. An end of no bytes follows a line that no line feed ends.
abbrev pub trees_of_line : Bool → List ℕ → List Tree
trees_of_line last line = leaf_tree kinds.Text line ∷ (if last then leaf_tree kinds.End [] ∷ [] else [])

-- the first line of a text, as a block
abbrev pub first_line : List ℕ → Block
first_line text = record {
  len = line_len text;
  reach = line_reach text;
  trees = trees_of_line (nat_lt (line_len text) (line_reach text)) (take (line_len text) text);
}
