-- The place of a linked node.
use Rattle.std.specs.Prelude.{ℕ, ◌<◌, ◌≡◌, take, List, [], ◌∷◌, ◌++◌, length, Option, refl}
use Rattle.std.specs.Coded.{Coded, code_by, coded×, coded_ℕ, coded_list}
use Rattle.std.specs.Option.{ForSome}
use Rattle.typst_node.specs.Tree.{Tree, trees}
use Rattle.typst_node.specs.Preorder.{at}
use Rattle.typst_node.specs.Text.{text_of_all}
use Rattle.typst_node.specs.Codes.{tree_code}

-- a place in a tree: its root and a path
pub record Place : Type 0 where
  pub root : Tree
  pub path : List ℕ

-- a code that tells places apart in proofs
abbrev pub place_code : Coded Place
place_code = code_by (Tree × List ℕ) (coded× tree_code (coded_list coded_ℕ)) (λ p. (p.root, p.path)) (λ p. record { root = p.0; path = p.1 }) (λ _. refl)

-- the place of a tree's root
abbrev pub root_place : Tree → Place
root_place t = record { root = t; path = [] }

-- the subtree at a place, if its path leads to a node
abbrev pub subtree : Place → Option Tree
subtree place = at place.path place.root

-- the place that a path leads to from another place
abbrev pub below : Place → List ℕ → Place
below place path = record { root = place.root; path = place.path ++ path }

-- the place of the child at an index
abbrev pub child_place : Place → ℕ → Place
child_place place index = below place (index ∷ [])

-- there is a child at this index
abbrev pub HasChild : Place → ℕ → Type 0
HasChild place index = ForSome (subtree place) (λ t. index < length (trees t.children))

-- how many bytes of the children's text come before the child at this index
abbrev pub BeginsAt : Place → ℕ → ℕ → Type 0
BeginsAt place index begin = ForSome (subtree place) (λ t. begin ≡ length (text_of_all (take index (trees t.children))))

-- the last step of a path, or 0 if it has none
abbrev pub last_step : List ℕ → ℕ
last_step [] = 0
last_step (i ∷ []) = i
last_step (i ∷ (j ∷ path)) = last_step (j ∷ path)
