-- What an iterator over children still has to give, and what it gives.
use Rattle.std.specs.Prelude.{◌+◌, ◌-◌, ◌<◌, ◌≤◌, ◌≡◌, length, Option, Result, Some, MatchOption, IfOk}
use Rattle.std.specs.Option.{ForSome}
use Rattle.std.specs.declared.alloc.AllocError.{AllocError}
use Rattle.typst_node.specs.Tree.{Tree, trees}
use Rattle.typst_linked.specs.Place.{Place, subtree, child_place, BeginsAt}
use Rattle.typst_linked.specs.Below.{Below}
use Rattle.typst_linked.specs.declared.children.LinkedChildren.TheInside.{Inside}

-- the children that are left are children of the parent, and the text of the first of them begins at this offset
pub record IsBelow (a : Inside) : Type 0 where
  pub ordered : a.from ≤ a.to
  pub within : ForSome (subtree a.parent.value) (λ t. a.to ≤ length (trees t.children))
  pub begins : BeginsAt a.parent.value a.from a.begin

-- all children of a place
abbrev pub IsAllOf : Place → Below → Type 0
IsAllOf place all = (t : Tree) → subtree place ≡ Some t → all ≡ record { parent = place; from = 0; to = length (trees t.children) }

-- The first of the children that are left comes, or an error if memory runs out. If no child is left, nothing changes.
abbrev pub GivesFirst : Below → Option (Result Place AllocError) → Below → Type 0
GivesFirst before answer after = MatchOption answer
    ((before.from ≡ before.to) × (after ≡ before))
    (λ child. (before.from < before.to) × (after ≡ record before { from = before.from + 1 }) × IfOk child (λ l. l ≡ child_place before.parent before.from))

-- the same for the last of the children that are left
abbrev pub GivesLast : Below → Option (Result Place AllocError) → Below → Type 0
GivesLast before answer after = MatchOption answer
    ((before.from ≡ before.to) × (after ≡ before))
    (λ child. (before.from < before.to) × (after ≡ record before { to = before.to - 1 }) × IfOk child (λ l. l ≡ child_place before.parent (before.to - 1)))
