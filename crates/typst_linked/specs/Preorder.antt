-- The places of a subtree in preorder, and what an iterator over them gives.
use Rattle.std.specs.Prelude.{◌≡◌, ◌≢◌, List, [], ◌∷◌, map, Option, Result, None, Some, MatchOption, MatchResult}
use Rattle.std.specs.declared.alloc.AllocError.{AllocError}
use Rattle.typst_node.specs.Preorder.{paths}
use Rattle.typst_linked.specs.Place.{Place, subtree, below}

-- the list of a function for the value, if there is one
abbrev pub listed_of : {A B : Type 0} → (A → List B) → Option A → List B
listed_of f None = []
listed_of f (Some x) = f x

-- the places of a subtree's nodes, in preorder
abbrev pub places_below : Place → List Place
places_below place = listed_of (λ t. map (below place) (paths t)) (subtree place)

-- The first of the places that are left comes. If memory runs out, an error comes and nothing is left. If no place was
-- left, nothing comes.
abbrev pub GivesHead : List Place → Option (Result Place AllocError) → List Place → Type 0
GivesHead before answer after = MatchOption answer
    ((before ≡ []) × (after ≡ []))
    (λ item. MatchResult item (λ place. before ≡ place ∷ after) (λ e. (before ≢ []) × (after ≡ [])))
