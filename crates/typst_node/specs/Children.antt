-- The first, the second, the last and all children of a class.
use Rattle.std.specs.Prelude.{List, [], ◌∷◌, cond, filter, Option, Some, None}
use Rattle.std.specs.List.{last_or}
use Rattle.typst_node.specs.Tree.{Tree, trees}
use Rattle.typst_node.specs.Views.{Class, node_kind}

-- the children of a node; none if there is no node
abbrev pub children_in : Option Tree → List Tree
children_in (Some t) = trees t.children
children_in None = []

-- the nodes whose kind lies in the class, in order
abbrev pub all_in : Class → List Tree → List Tree
all_in c ts = filter (λ t. c (node_kind t)) ts

-- the first item of a list
abbrev pub first_of : {A : Type 0} → List A → Option A
first_of [] = None
first_of (x ∷ xs) = Some x

-- the second item of a list
abbrev pub second_of : {A : Type 0} → List A → Option A
second_of [] = None
second_of (x ∷ xs) = first_of xs

-- the last item of a list
abbrev pub last_of : {A : Type 0} → List A → Option A
last_of xs = last_or None xs

-- all children of the class
abbrev pub all_children : Class → Option Tree → List Tree
all_children c node = all_in c (children_in node)

-- the first child of the class
abbrev pub first_child : Class → Option Tree → Option Tree
first_child c node = first_of (all_children c node)

-- the second child of the class
abbrev pub second_child : Class → Option Tree → Option Tree
second_child c node = second_of (all_children c node)

-- the last child of the class
abbrev pub last_child : Class → Option Tree → Option Tree
last_child c node = last_of (all_children c node)

-- the nodes after the first whose kind lies in the class; none if there is no such node
abbrev pub behind_first : Class → List Tree → List Tree
behind_first c [] = []
behind_first c (t ∷ ts) = cond (c (node_kind t)) ts (behind_first c ts)
