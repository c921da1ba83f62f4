-- The places from a place on, to the end of the root's preorder.
use Rattle.std.specs.Prelude.{ℕ, ◌+◌, List, [], ◌∷◌, ◌++◌, map, drop, slice_get}
use Rattle.typst_node.specs.Tree.{Tree, trees, forest}
use Rattle.typst_node.specs.Preorder.{paths_from}
use Rattle.typst_linked.specs.Place.{Place}
use Rattle.typst_linked.specs.Preorder.{listed_of, places_below}

-- the paths after the whole subtree that a path leads to, in preorder
abbrev pub paths_behind : List ℕ → Tree → List (List ℕ)
paths_behind [] t = []
paths_behind (i ∷ path) t =
    map (λ p. i ∷ p) (listed_of (paths_behind path) (slice_get (trees t.children) i))
    ++ paths_from (i + 1) (forest (drop (i + 1) (trees t.children)))

-- the places after the whole subtree at a place
abbrev pub places_behind : Place → List Place
places_behind place = map (λ path. record { root = place.root; path = path }) (paths_behind place.path place.root)

-- the places from this place on: the places of its subtree, and the places after it
abbrev pub places_from : Place → List Place
places_from place = places_below place ++ places_behind place
