-- The depth of a heading.
use Rattle.std.specs.Prelude.{ℕ, max, length, Option, Some, None}
use Rattle.typst_node.specs.Text.{text}
use Rattle.typst_node.specs.Tree.{Tree}

-- the number of bytes of its marker, or 1 if the marker is empty or missing
abbrev pub heading_depth : Option Tree → ℕ
heading_depth (Some marker) = max 1 (length (text marker))
heading_depth None = 1
