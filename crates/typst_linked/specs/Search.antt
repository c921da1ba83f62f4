-- The plain search by a number, and how many numbers a search may read.
use Rattle.std.specs.Prelude.{ℕ, ◌+◌, ◌==◌, List, [], ◌∷◌, length, map, reverse, Option, None, Some, Bool, false, nat_le, sum_by}
use Rattle.std.specs.List.{find}
use Rattle.std.specs.Option.{option_map, option_and_then}
use Rattle.typst_node.specs.Tree.{Tree, trees}
use Rattle.typst_node.specs.Preorder.{paths, at}
use Rattle.typst_node.specs.Labels.{number}
use Rattle.typst_linked.specs.Place.{Place, subtree, below}

-- whether there is a node that passes a test
abbrev pub is_there : (Tree → Bool) → Option Tree → Bool
is_there test None = false
is_there test (Some t) = test t

-- whether a node has this number
abbrev pub has_number : ℕ → Tree → Bool
has_number n t = number t.label == n

-- whether a node's number is at most this number
abbrev pub has_number_up_to : ℕ → Tree → Bool
has_number_up_to n t = nat_le (number t.label) n

-- the first path in preorder whose node passes a test
abbrev pub first_path : (Tree → Bool) → Tree → Option (List ℕ)
first_path test t = find (λ path. is_there test (at path t)) (paths t)

-- the last path in preorder whose node passes a test
abbrev pub last_path : (Tree → Bool) → Tree → Option (List ℕ)
last_path test t = find (λ path. is_there test (at path t)) (reverse (paths t))

-- the plain search by a number: the first path in preorder whose node has it; a numbered tree has at most one
abbrev pub with_number : ℕ → Tree → Option (List ℕ)
with_number n t = first_path (has_number n) t

-- the place of the answer to a search of the subtree at a place
abbrev pub found_below : (Tree → Option (List ℕ)) → Place → Option Place
found_below search place = option_map (below place) (option_and_then search (subtree place))

-- the floor node of a number: the last path in preorder whose node's number is at most that number
abbrev pub floor_path : ℕ → Tree → Option (List ℕ)
floor_path n t = last_path (has_number_up_to n) t

-- the paths of a node and of its ancestors
abbrev pub prefixes : List ℕ → List (List ℕ)
prefixes [] = [] ∷ []
prefixes (i ∷ path) = [] ∷ map (λ p. i ∷ p) (prefixes path)

-- how many children a node has; none if there is no node
abbrev pub child_count : Option Tree → ℕ
child_count None = 0
child_count (Some t) = length (trees t.children)

-- the joined weight of the numbers of children of a path's node and of its ancestors
abbrev pub weight_along : (ℕ → ℕ) → List ℕ → Tree → ℕ
weight_along weight path t = sum_by (λ p. weight (child_count (at p t))) (prefixes path)

-- how many numbers a search may read, if it finds this path or none
abbrev pub bound_along : (ℕ → ℕ) → Tree → Option (List ℕ) → ℕ
bound_along weight t None = 1
bound_along weight t (Some path) = 1 + weight_along weight path t

-- the look bound of a number: 1 if there is no floor node, else 1 plus the weight of the floor node and its ancestors
abbrev pub look_bound : (ℕ → ℕ) → ℕ → Tree → ℕ
look_bound weight n t = bound_along weight t (floor_path n t)

-- the weight that counts each child
abbrev pub each_child : ℕ → ℕ
each_child n = n
