-- Whether the last node of a list that is not an argument is a hash.
use Rattle.std.specs.Prelude.{Bool, List, [], ◌∷◌}
use Rattle.typst_atoms.specs.MathItems.{is_behind_hash}
use Rattle.typst_node.specs.Tree.{Tree}

-- if all nodes of the list are arguments, `behind_hash` decides, which says this for the nodes before the list
abbrev pub ends_behind_hash : Bool → List Tree → Bool
ends_behind_hash behind_hash [] = behind_hash
ends_behind_hash behind_hash (t ∷ ts) = ends_behind_hash (is_behind_hash behind_hash t) ts
