-- What an iterator over a subtree in preorder still has to give.
use Rattle.std.specs.Prelude.{◌≤◌, List, length, take}
use Rattle.std.specs.Option.{ForSome}
use Rattle.typst_linked.specs.Place.{Place}
use Rattle.typst_linked.specs.Onwards.{places_from}
use Rattle.typst_linked.specs.Preorder.{listed_of}
use Rattle.typst_linked.specs.declared.preorder.LinkedPreorder.TheInside.{Inside}

-- the places that are left, from the next place on
abbrev pub left_of : Inside → List Place
left_of a = take a.left (listed_of places_from a.next)

-- the number of places that are left is at least 1 and at most the number of places from the next place on
abbrev pub IsWalk : Inside → Type 0
IsWalk a = ForSome a.next (λ place. (1 ≤ a.left) × (a.left ≤ length (places_from place)))
