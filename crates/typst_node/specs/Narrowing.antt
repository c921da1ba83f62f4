-- What the program records of an edit that it narrows.
use Rattle.std.specs.Prelude.{ℕ, suc, ◌≡◌, ◌+◌, ◌<◌, Bool, true, false, nat_lt, if◌then◌else◌, List, [], ◌∷◌, ◌++◌, length, map, take, drop, reverse, slice_range, Option, Some, None}
use Rattle.typst_node.specs.Tree.{Tree, trees}
use Rattle.typst_node.specs.Labels.{number, bound}
use Rattle.typst_node.specs.Count.{count}
use Rattle.typst_node.specs.Plain.{plain}
use Rattle.typst_node.specs.Paths.{trees_at}
use Rattle.typst_node.specs.Edit.{Edit, site_by}
use Rattle.typst_node.specs.EditBelow.{child_of}
use Rattle.typst_node.specs.Narrower.{IsOnlyChange, GoesOnAs, EndsOnAs, EndsWithoutLeaf, IsLowest, IsNarrowest, edit_inside}
use Rattle.typst_node.specs.declared.node.narrow.PathEdit.{PathEdit}
use Rattle.typst_node.specs.declared.node.narrow.Pair.{Pair}
use Rattle.typst_node.specs.declared.node.narrow.Trail.{Trail}
use Rattle.typst_node.specs.declared.node.narrow.Paired.{Paired}
use Rattle.typst_node.specs.declared.node.narrow.Paired.TheVariants.{Alike, GoesOn, Ends, Other}

-- the edit that is recorded
abbrev pub edit_in : PathEdit → Edit
edit_in p = record { path = p.path.items; from = p.from; to = p.to; others = p.others.items }

-- the children that the edit replaces
abbrev pub replaced_by : Edit → Tree → List Tree
replaced_by e t = slice_range (trees_at e.path t) e.from e.to

-- both lists are alike but for the trees at this index
pub record IsOnlyPair (xs ys : List Tree) (i : ℕ) : Type 0 where
  pub many : length xs ≡ length ys
  pub inside : i < length xs
  pub before : map plain (take i xs) ≡ map plain (take i ys)
  pub behind : map plain (drop (suc i) xs) ≡ map plain (drop (suc i) ys)
  pub differ : ¬ (plain (child_of xs i) ≡ plain (child_of ys i))

-- the only pair that changes, if there is one, does not go on
abbrev pub NoneGoesOn : List Tree → List Tree → Type 0
NoneGoesOn xs ys =
    (i : ℕ) → IsOnlyPair xs ys i
    → ¬ (GoesOnAs (child_of xs i) (child_of ys i)) × ¬ (EndsOnAs (child_of xs i) (child_of ys i))

-- From these children and those in their place, the indices lead down through nodes that go on. Then the leaf at an index
-- goes on, or nothing does.
abbrev pub IsTrail : List Tree → List Tree → List ℕ → Option ℕ → Type 0
IsTrail xs ys [] None = NoneGoesOn xs ys
IsTrail xs ys [] (Some i) = IsOnlyPair xs ys i × EndsOnAs (child_of xs i) (child_of ys i)
IsTrail xs ys (i ∷ path) leaf =
    IsOnlyPair xs ys i × GoesOnAs (child_of xs i) (child_of ys i)
    × IsTrail (trees (child_of xs i).children) (trees (child_of ys i).children) path leaf

-- nothing is recorded
abbrev pub IsEmptyTrail : Trail → Type 0
IsEmptyTrail trail = (trail.steps.items ≡ []) × (trail.leaf ≡ None)

-- the record is that of the way down from these children, from the lowest index up
abbrev pub IsTrailOf : List Tree → List Tree → Trail → Type 0
IsTrailOf xs ys trail = IsTrail xs ys (reverse trail.steps.items) trail.leaf

-- what is recorded of lists that are alike or not
abbrev pub IsTraced : List Tree → List Tree → Trail → Bool → Type 0
IsTraced xs ys trail true = (map plain xs ≡ map plain ys) × IsEmptyTrail trail
IsTraced xs ys trail false = ¬ (map plain xs ≡ map plain ys) × IsTrailOf xs ys trail

-- what is recorded of a child and the node in its place
abbrev pub ArePaired : Tree → Tree → Trail → Paired → Type 0
ArePaired c u trail Alike = (plain c ≡ plain u) × IsEmptyTrail trail
ArePaired c u trail GoesOn = ¬ (plain c ≡ plain u) × GoesOnAs c u × IsTrailOf (trees c.children) (trees u.children) trail
ArePaired c u trail Ends = ¬ (plain c ≡ plain u) × EndsOnAs c u × IsEmptyTrail trail
ArePaired c u trail Other =
    ¬ (plain c ≡ plain u) × ¬ (GoesOnAs c u) × ¬ (EndsOnAs c u) × IsEmptyTrail trail

-- the number of steps for which the numbers suffice, along a way down
abbrev pub steps_within : List Tree → List Tree → List ℕ → ℕ
steps_within xs ys [] = 0
steps_within xs ys (i ∷ path) =
    if nat_lt (number (child_of xs i).label + count (child_of ys i)) (bound (child_of xs i).label) then
    suc (steps_within (trees (child_of xs i).children) (trees (child_of ys i).children) path)
    else
    0

-- the edit to which indices lead from the edit e of the node t
abbrev pub edit_along : Edit → Tree → List ℕ → Edit
edit_along e t [] = e
edit_along e t (i ∷ path) =
    edit_along (edit_inside e (e.from + i) (child_of (trees t.children) (e.from + i)) (child_of e.others i))
    (child_of (trees t.children) (e.from + i)) path

-- the indices lead on from the edit e of the node t
abbrev pub LeadOn : Edit → Tree → List ℕ → Type 0
LeadOn e t [] = Unit {0}
LeadOn e t (i ∷ path) =
    (e.from + i < length (trees t.children)) × (i < length e.others)
    × LeadOn (edit_inside e (e.from + i) (child_of (trees t.children) (e.from + i)) (child_of e.others i))
    (child_of (trees t.children) (e.from + i)) path

-- the indices lead down from these children and those in their place
abbrev pub LeadDown : List Tree → List Tree → List ℕ → Type 0
LeadDown xs ys [] = Unit {0}
LeadDown xs ys (i ∷ path) =
    (i < length xs) × (i < length ys) × LeadDown (trees (child_of xs i).children) (trees (child_of ys i).children) path

-- what is recorded of a pair above what is recorded of the nodes below it
abbrev pub RaisesBy : ℕ → Paired → Trail → Trail → Type 0
RaisesBy i GoesOn old new = (new.steps.items ≡ old.steps.items ++ i ∷ []) × (new.leaf ≡ old.leaf)
RaisesBy i Ends old new = (new.steps.items ≡ old.steps.items) × (new.leaf ≡ Some i)
RaisesBy i Alike old new = (new.steps.items ≡ old.steps.items) × (new.leaf ≡ old.leaf)
RaisesBy i Other old new = (new.steps.items ≡ old.steps.items) × (new.leaf ≡ old.leaf)

-- The child at the one index is the only one that changes, and the node at the other index comes in its place. Both are
-- leaves or errors that go on.
pub record IsLeafPair (e : Edit) (t : Tree) (p : Pair) : Type 0 where
  pub child : p.child ≡ length (site_by e t).before
  pub inside : p.child < length (trees_at e.path t)
  pub other : p.other < length e.others
  pub only : IsOnlyChange (site_by e t) (trees_at e.path t) (child_of (trees_at e.path t) p.child) (child_of e.others p.other)
  pub ends : EndsOnAs (child_of (trees_at e.path t) p.child) (child_of e.others p.other)

-- The edit f is the lowest one, and a leaf goes on there. Or no leaf goes on there, and f is the narrowest edit.
abbrev pub IsNarrowedTo : Edit → Tree → Edit → Option Pair → Type 0
IsNarrowedTo e t f (Some pair) = IsLowest e t f × IsLeafPair f t pair
IsNarrowedTo e t f None = IsNarrowest e t f × EndsWithoutLeaf e t
