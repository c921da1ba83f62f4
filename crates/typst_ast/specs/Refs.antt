-- The target of a reference.
use Rattle.std.specs.Prelude.{ℕ, ◌==◌, List, Option}
use Rattle.typst_atoms.specs.Texts.{text_in}
use Rattle.typst_atoms.specs.Trims.{without_leading}
use Rattle.typst_node.specs.Tree.{Tree}

-- the text of the marker without all `@`, byte 64, at its beginning; it is empty if there is no marker
abbrev pub ref_target : Option Tree → List ℕ
ref_target marker = without_leading (λ b. b == 64) (text_in marker)
