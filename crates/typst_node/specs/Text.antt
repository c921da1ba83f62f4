-- The text of a tree.
use Rattle.std.specs.Prelude.{ℕ, ◌==◌, ◌&&◌, Bool, true, false, List, [], ◌∷◌, length, Option, Some, None}
use Rattle.std.specs.List.{flat_map, before_first}
use Rattle.typst_node.specs.Tree.{Content, AsLeaf, AsError, AsInner, Label, Tree, forest}
use Rattle.typst_node.specs.Preorder.{preorder, nodes, paths, at}

-- the own text of a node, which a leaf or an error has
abbrev pub content_text : Content → List ℕ
content_text (AsLeaf kind text) = text
content_text (AsError text message hints) = text
content_text (AsInner kind bound) = []

-- the own text of a node with this label
abbrev pub own_text : Label → List ℕ
own_text l = content_text l.content

-- the own texts of these nodes, joined
abbrev pub joined : List Label → List ℕ
joined ls = flat_map own_text ls

-- the texts of a tree's leaves and errors in preorder, joined
abbrev pub text : Tree → List ℕ
text t = joined (nodes t)

-- the texts of trees, joined
abbrev pub text_of_all : List Tree → List ℕ
text_of_all ts = joined (preorder (forest ts))

-- whether two paths are the same
abbrev pub is_same_path : List ℕ → List ℕ → Bool
is_same_path [] [] = true
is_same_path [] (j ∷ q) = false
is_same_path (i ∷ p) [] = false
is_same_path (i ∷ p) (j ∷ q) = (i == j) && is_same_path p q

-- the own text of the node at a path
abbrev pub text_there : Option Tree → List ℕ
text_there None = []
text_there (Some t) = own_text t.label

-- the paths before a path in preorder
abbrev pub paths_before : List ℕ → Tree → List (List ℕ)
paths_before path t = before_first (is_same_path path) (paths t)

-- the byte length of the own texts at the paths before a path in preorder
abbrev pub offset : List ℕ → Tree → ℕ
offset path t = length (flat_map (λ other. text_there (at other t)) (paths_before path t))
