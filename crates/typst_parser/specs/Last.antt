-- The last element of a list.
use Rattle.std.specs.Prelude.{List, [], ◌∷◌, Option, Some, None}

-- the last element of a list, and the elements before it
abbrev pub last_of : {X : Type 0} → List X → Option (List X × X)
last_of [] = None
last_of (x ∷ xs) = elim (last_of xs) [ None ↦ Some ([], x) | Some p ↦ Some (x ∷ p.0, p.1) ]
