-- The free numbers between siblings.
use Rattle.std.specs.Prelude.{ℕ, List, [], ◌∷◌}
use Rattle.typst_node.specs.Tree.{Tree}
use Rattle.typst_node.specs.Labels.{number, bound}

-- the first open number after these trees: the bound of the last tree, or this number if there is none
abbrev pub open_from : ℕ → List Tree → ℕ
open_from a [] = a
open_from a (t ∷ ts) = open_from (bound t.label) ts

-- the end of the open numbers before these trees: the number of the first tree, or this number if there is none
abbrev pub open_to : ℕ → List Tree → ℕ
open_to b [] = b
open_to b (t ∷ ts) = number t.label
