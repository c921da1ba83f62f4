-- Numbers in order as nested intervals: the working form of `IsNumberedFor`.
use Rattle.std.specs.Prelude.{ℕ, ◌≡◌, ◌+◌, ◌≤◌}
use Rattle.typst_node.specs.Tree.{Forest, none, tree, Tree}
use Rattle.typst_node.specs.Labels.{number, bound}

-- These trees are numbered for the file, one after the other, from a number up to another. Each tree has its own number
-- first, then the numbers of its children up to its bound.
abbrev pub IsWithin : ℕ → ℕ → ℕ → Forest → Type 0
IsWithin file start end none = start ≤ end
IsWithin file start end (tree l c r) =
    (l.span.file ≡ file) × (start ≤ number l) × IsWithin file (number l + 1) (bound l) c × IsWithin file (bound l) end r

-- This tree is numbered for the file, from a number up to another.
abbrev pub IsTreeWithin : ℕ → ℕ → ℕ → Tree → Type 0
IsTreeWithin file start end t = IsWithin file start end (tree t.label t.children none)
