-- Trees whose numbers are in order.
use Rattle.std.specs.Prelude.{ℕ, ◌≡◌, ◌+◌, ◌-◌, ◌/◌, ◌^◌, ◌<◌, ◌≤◌, List, [], ◌∷◌, ◌++◌, map}
use Rattle.std.specs.List.{AllByRecursion}
use Rattle.typst_node.specs.Tree.{Label, Forest, none, tree, Tree}
use Rattle.typst_node.specs.Preorder.{preorder, nodes}
use Rattle.typst_node.specs.Labels.{number, bound}

-- each number is below all numbers after it
abbrev pub Rise : List ℕ → Type 0
Rise [] = Unit {0}
Rise (x ∷ xs) = AllByRecursion (λ y. x < y) xs × Rise xs

-- a node's span is of the file, with a number in 2..2^47
abbrev pub IsNumberOf : ℕ → Label → Type 0
IsNumberOf file l = (l.span.file ≡ file) × (2 ≤ number l) × (number l < 2 ^ 47)

-- the number is at most that of the first of these nodes, if there is one
abbrev pub IsAtMostFirst : ℕ → List Label → Type 0
IsAtMostFirst n [] = Unit {0}
IsAtMostFirst n (l ∷ ls) = n ≤ number l

-- The bounds of these trees hold. `limits` are the bounds of their ancestors and 2^47. `behind` are the nodes after all
-- of them in preorder. Each bound is above every number of its subtree. It is at most the number of the first node
-- after the subtree, and at most each limit.
abbrev pub BoundsHold : List ℕ → List Label → Forest → Type 0
BoundsHold limits behind none = Unit {0}
BoundsHold limits behind (tree l c r) =
    AllByRecursion (λ m. number m < bound l) (l ∷ preorder c)
    × IsAtMostFirst (bound l) (preorder r ++ behind)
    × AllByRecursion (λ limit. bound l ≤ limit) limits
    × BoundsHold (bound l ∷ limits) (preorder r ++ behind) c
    × BoundsHold limits behind r

-- A tree that is numbered for a file. Every span is of the file, with a number in 2..2^47. The numbers strictly
-- increase in preorder. Each bound is above the numbers of its subtree. It is at most the next number after the
-- subtree, and at most each ancestor's bound and 2^47.
pub record IsNumberedFor (file : ℕ) (t : Tree) : Type 0 where
  pub in_file : AllByRecursion (IsNumberOf file) (nodes t)
  pub in_order : Rise (map number (nodes t))
  pub bounds : BoundsHold (2 ^ 47 ∷ []) [] (tree t.label t.children none)

-- a tree that is numbered for some file
abbrev pub IsNumbered : Tree → Type 0
IsNumbered t = (file : ℕ) × (1 ≤ file) × IsNumberedFor file t

-- all numbers of the tree are at least the first number and below the second
abbrev pub AllIn : ℕ → ℕ → Tree → Type 0
AllIn start end t = AllByRecursion (λ l. (start ≤ number l) × (number l < end)) (nodes t)

-- the end of the first half of a range
abbrev pub halfway : ℕ → ℕ → ℕ
halfway start end = start + (end - start) / 2
