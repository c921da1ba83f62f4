-- What a document is in contracts.
use Rattle.std.specs.Prelude.{Bool, true, false, refl}
use Rattle.std.specs.Coded.{Coded, code_by, coded×}
use Rattle.typst_lines.specs.contracts.ends.LineEnds.{the_row}
use Rattle.typst_lines.specs.declared.ends.LineEnds.{LineEnds}
use Rattle.typst_node.specs.Codes.{tree_code}
use Rattle.typst_node.specs.Tree.{Tree}

-- the tree of a text, and what ends the lines of the text
pub record LinedText : Type 0 where
  pub tree : Tree
  pub ends : LineEnds

-- a code that tells documents apart in proofs
abbrev pub lined_text_code : Coded LinedText
lined_text_code =
    code_by (Tree × LineEnds) (coded× tree_code the_row.coded) (λ d. (d.tree, d.ends)) (λ p. record { tree = p.0; ends = p.1 }) (λ _. refl)
