-- Parts of lists of nodes.
use Rattle.std.specs.Prelude.{not, cond, List, [], ◌∷◌, Option, Some, None}
use Rattle.std.specs.List.{list_any}
use Rattle.typst_node.specs.Children.{all_in, second_of, last_of}
use Rattle.typst_base.specs.KindClasses.{is_trivia_kind}
use Rattle.typst_node.specs.Tree.{Tree}
use Rattle.typst_node.specs.Views.{Class, node_kind}

-- the third item of a list
abbrev pub third_of : {A : Type 0} → List A → Option A
third_of [] = None
third_of (x ∷ xs) = second_of xs

-- a list without its last element
abbrev pub all_but_last : {A : Type 0} → List A → List A
all_but_last [] = []
all_but_last (x ∷ []) = []
all_but_last (x ∷ (y ∷ xs)) = x ∷ all_but_last (y ∷ xs)

-- the node, if there is one and its kind lies in the class
abbrev pub of_class : Class → Option Tree → Option Tree
of_class c (Some t) = cond (c (node_kind t)) (Some t) None
of_class c None = None

-- the last node that isn't trivia
abbrev pub last_significant : List Tree → Option Tree
last_significant ts = last_of (all_in (λ k. not (is_trivia_kind k)) ts)

-- the nodes before the last node whose kind lies in the class; none if there is no such node
abbrev pub before_last : Class → List Tree → List Tree
before_last c [] = []
before_last c (t ∷ ts) = cond (list_any (λ s. c (node_kind s)) ts) (t ∷ before_last c ts) []
