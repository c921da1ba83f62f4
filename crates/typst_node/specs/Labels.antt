-- The number and the bound of a node.
use Rattle.std.specs.Prelude.{ℕ, ◌+◌}
use Rattle.typst_node.specs.Tree.{Content, AsLeaf, AsError, AsInner, Label}

-- the number of a node's span
abbrev pub number : Label → ℕ
number l = l.span.low

-- the bound of a node with this content and this number
abbrev pub bound_of : Content → ℕ → ℕ
bound_of (AsLeaf kind text) n = n + 1
bound_of (AsError text message hints) n = n + 1
bound_of (AsInner kind bound) n = bound

-- an inner node's bound; for a leaf or an error it is its number plus one
abbrev pub bound : Label → ℕ
bound l = bound_of l.content (number l)
