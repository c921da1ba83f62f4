-- Events: pieces of finished syntax, in the order of the text. A node comes after its children.
use Rattle.std.specs.Prelude.{ℕ, ◌+◌, ◌-◌, suc, Bool, true, false, List, [], ◌∷◌, ◌++◌, length, drop, take, max}
use Rattle.std.specs.Str.{IsCharBoundary}
use Rattle.typst_base.specs.declared.kind.SyntaxKind.{SyntaxKind}
use Rattle.typst_base.specs.declared.kind.SyntaxKind.TheVariants as kinds
use Rattle.typst_parser.specs.declared.event.Event.{Event}
use Rattle.typst_parser.specs.declared.event.Event.TheVariants.{Leaf, Error, Node}

-- how many bytes an event takes from the text
abbrev pub bytes_of : Event → ℕ
bytes_of (Leaf kind len) = len
bytes_of (Error fault len) = len
bytes_of (Node kind children) = 0

-- the kind of an event's tree
abbrev pub kind_of : Event → SyntaxKind
kind_of (Leaf kind len) = kind
kind_of (Error fault len) = kinds.Error
kind_of (Node kind children) = kind

-- whether an event is a leaf
abbrev pub is_leaf : Event → Bool
is_leaf (Leaf kind len) = true
is_leaf _ = false

-- how many bytes the trees of some events have
abbrev pub bytes : List Event → ℕ
bytes [] = 0
bytes (e ∷ es) = bytes_of e + bytes es

-- how many trees there are after an event, if so many were before it
abbrev pub trees_after : Event → ℕ → ℕ
trees_after (Leaf kind len) n = suc n
trees_after (Error fault len) n = suc n
trees_after (Node kind children) n = suc (n - children)

-- how many trees there are after some events, if so many were before them
abbrev pub trees_onto : ℕ → List Event → ℕ
trees_onto n [] = n
trees_onto n (e ∷ es) = trees_onto (trees_after e n) es

-- how many trees some events make
abbrev pub trees : List Event → ℕ
trees es = trees_onto 0 es

-- the greatest of some numbers
abbrev pub greatest : List ℕ → ℕ
greatest [] = 0
greatest (n ∷ ns) = max n (greatest ns)

-- the last so many elements of a list
abbrev pub last_some : {X : Type 0} → ℕ → List X → List X
last_some n xs = drop (length xs - n) xs

-- all elements of a list but the last so many
abbrev pub but_last : {X : Type 0} → ℕ → List X → List X
but_last n xs = take (length xs - n) xs

-- how many levels each tree has after an event, by those of the trees before it
abbrev pub levels_after : Event → List ℕ → List ℕ
levels_after (Leaf kind len) ns = ns ++ 1 ∷ []
levels_after (Error fault len) ns = ns ++ 1 ∷ []
levels_after (Node kind children) ns = but_last children ns ++ suc (greatest (last_some children ns)) ∷ []

-- how many levels each tree has after some events, by those of the trees before them
abbrev pub levels_onto : List ℕ → List Event → List ℕ
levels_onto ns [] = ns
levels_onto ns (e ∷ es) = levels_onto (levels_after e ns) es

-- how many levels each of the trees of some events has
abbrev pub levels : List Event → List ℕ
levels es = levels_onto [] es

-- The text can be cut where each event's piece of it ends. So many bytes are before the first piece.
abbrev pub CanBeCutFrom : ℕ → List ℕ → List Event → Type 0
CanBeCutFrom n text [] = Unit {0}
CanBeCutFrom n text (e ∷ es) = IsCharBoundary text (n + bytes_of e) × CanBeCutFrom (n + bytes_of e) text es

-- The text can be cut where each event's piece of it ends, from its first byte on.
abbrev pub CanBeCut : List ℕ → List Event → Type 0
CanBeCut text es = CanBeCutFrom 0 text es
