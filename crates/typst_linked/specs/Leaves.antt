-- Good leaves, and the stops of walks from leaf to leaf.
use Rattle.std.specs.Prelude.{ℕ, ◌==◌, ◌&&◌, List, [], ◌∷◌, reverse, take, drop, Option, None, Some, Bool, true, false, not, if◌then◌else◌}
use Rattle.std.specs.List.{find, before_first, after_first}
use Rattle.std.specs.Option.{option_map}
use Rattle.typst_base.specs.KindClasses.{is_trivia_kind}
use Rattle.typst_node.specs.Tree.{Content, AsLeaf, AsError, AsInner, Tree, trees, forest}
use Rattle.typst_node.specs.Preorder.{paths, paths_from, at}
use Rattle.typst_node.specs.Text.{is_same_path}
use Rattle.typst_linked.specs.Place.{Place}
use Rattle.typst_linked.specs.Search.{is_there}
use Rattle.typst_linked.specs.Siblings.{is_solid}

-- a text that isn't empty
abbrev pub is_filled : List ℕ → Bool
is_filled [] = false
is_filled (byte ∷ text) = true

-- the content of a good leaf
abbrev pub is_good_content : Content → Bool
is_good_content (AsLeaf kind text) = not (is_trivia_kind kind)
is_good_content (AsError text message hints) = is_filled text
is_good_content (AsInner kind bound) = false

-- a good leaf: a leaf whose kind isn't trivia, or an error whose text isn't empty
abbrev pub is_good : Tree → Bool
is_good t = is_good_content t.label.content

-- The branch of another path, seen from a path: the beginning of the other path up to the first step that the path
-- doesn't share. It leads to a sibling of the path's node or of an ancestor. Ancestors and the nodes below the path
-- have no branch.
abbrev pub branch : List ℕ → List ℕ → Option (List ℕ)
branch [] other = None
branch (i ∷ path) [] = None
branch (i ∷ path) (j ∷ other) = if i == j then option_map (λ b. i ∷ b) (branch path other) else Some (j ∷ [])

-- a branch that leads to a node whose kind isn't trivia
abbrev pub leads_to_solid : Tree → Option (List ℕ) → Bool
leads_to_solid t None = false
leads_to_solid t (Some b) = is_there is_solid (at b t)

-- a good leaf whose branch isn't trivia
abbrev pub is_stop : Tree → List ℕ → List ℕ → Bool
is_stop t path other = leads_to_solid t (branch path other) && is_there is_good (at other t)

-- the first stop after a path in preorder
abbrev pub stop_behind : Tree → List ℕ → Option (List ℕ)
stop_behind t path = find (is_stop t path) (after_first (is_same_path path) (paths t))

-- the last stop before a path in preorder
abbrev pub stop_before : Tree → List ℕ → Option (List ℕ)
stop_before t path = find (is_stop t path) (reverse (before_first (is_same_path path) (paths t)))

-- the place of another path of the same root
abbrev pub elsewhere : (Tree → List ℕ → Option (List ℕ)) → Place → Option Place
elsewhere walk place = option_map (λ path. record { root = place.root; path = path }) (walk place.root place.path)

-- a good leaf at or below a child that isn't trivia
abbrev pub is_later : Tree → List ℕ → Bool
is_later t [] = false
is_later t (j ∷ path) = is_there is_solid (at (j ∷ []) t) && is_there is_good (at (j ∷ path) t)

-- the first such leaf in the children from an index on
abbrev pub later_from : Tree → ℕ → Option (List ℕ)
later_from t k = find (is_later t) (paths_from k (forest (drop k (trees t.children))))

-- the last such leaf in the children before an index
abbrev pub earlier_up : Tree → ℕ → Option (List ℕ)
earlier_up t k = find (is_later t) (reverse (paths_from 0 (forest (take k (trees t.children)))))
