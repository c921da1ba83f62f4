-- The plain search by a range of bytes.
use Rattle.std.specs.Prelude.{ℕ, ◌+◌, ◌<◌, ◌≤◌, ◌≡◌, List, [], ◌∷◌, length, Option, MatchOption, IsSomeAnd}
use Rattle.typst_node.specs.Text.{text, offset}
use Rattle.typst_linked.specs.Place.{Place, subtree, below, child_place}

-- where the text of the node at a place begins
abbrev pub begin_of : Place → ℕ
begin_of place = offset place.path place.root

-- the node's range of bytes is exactly this range
abbrev pub HasRange : ℕ → ℕ → Place → Type 0
HasRange start end place = IsSomeAnd (subtree place) (λ t. (begin_of place ≡ start) × (begin_of place + length (text t) ≡ end))

-- the node's range covers this range
abbrev pub Covers : ℕ → ℕ → Place → Type 0
Covers start end place = IsSomeAnd (subtree place) (λ t. (begin_of place ≤ start) × (end ≤ begin_of place + length (text t)))

-- the child at this index is the first child whose range covers the wanted range
abbrev pub IsFirstCover : ℕ → ℕ → Place → ℕ → Type 0
IsFirstCover start end place i = Covers start end (child_place place i) × ((j : ℕ) → j < i → ¬ (Covers start end (child_place place j)))

-- On this path from a place, each step goes to the first child whose range covers the wanted range. The node at its end
-- has exactly the wanted range, and no node before it on the path has.
abbrev pub IsRangePath : ℕ → ℕ → Place → List ℕ → Type 0
IsRangePath start end place [] = HasRange start end place
IsRangePath start end place (i ∷ path) = ¬ (HasRange start end place) × IsFirstCover start end place i × IsRangePath start end (child_place place i) path

-- the answer to a search by a range: the place that such a path leads to, or none if there is no such path
abbrev pub FindsRange : ℕ → ℕ → Place → Option Place → Type 0
FindsRange start end place answer = MatchOption answer
    ((path : List ℕ) → ¬ (IsRangePath start end place path))
    (λ found. (path : List ℕ) × (found ≡ below place path) × IsRangePath start end place path)

-- The node's range covers this range, and no child's range does.
abbrev pub IsSmallestCover : ℕ → ℕ → Place → Type 0
IsSmallestCover start end place = Covers start end place × ((i : ℕ) → ¬ (Covers start end (child_place place i)))

-- On this path from a place, each step goes to the first child whose range covers the wanted range. The node at its end
-- has no such child.
abbrev pub IsCoverPath : ℕ → ℕ → Place → List ℕ → Type 0
IsCoverPath start end place [] = IsSmallestCover start end place
IsCoverPath start end place (i ∷ path) = IsFirstCover start end place i × IsCoverPath start end (child_place place i) path

-- the place is that of a smallest node whose range covers the range, and such a path leads to it
pub record IsCoverBelow (start end : ℕ) (place found : Place) : Type 0 where
  pub smallest : IsSmallestCover start end found
  pub path : List ℕ
  pub leads : found ≡ below place path
  pub steps : IsCoverPath start end place path

-- the answer to a search for the smallest node whose range covers a range: its place, or none if that of this node doesn't
abbrev pub FindsCover : ℕ → ℕ → Place → Option Place → Type 0
FindsCover start end place answer = MatchOption answer (¬ (Covers start end place)) (IsCoverBelow start end place)
