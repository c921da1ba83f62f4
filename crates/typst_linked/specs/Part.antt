-- The first of adjacent trees whose text ends at or after a goal.
use Rattle.std.specs.Prelude.{ℕ, ◌+◌, ◌<◌, ◌≤◌, ◌≡◌, List, length, take, Option, Some, MatchOption, slice_get}
use Rattle.typst_node.specs.Tree.{Tree, trees}
use Rattle.typst_node.specs.Text.{own_text, text_of_all}
use Rattle.typst_linked.specs.Place.{Place, child_place}
use Rattle.typst_linked.specs.Ranges.{Covers, IsFirstCover}
use Rattle.typst_linked.specs.declared.floor.Part.{Part}

-- how many bytes of text come before the tree at an index
abbrev pub begin_at : List Tree → ℕ → ℕ
begin_at ts i = length (text_of_all (take i ts))

-- this tree's text ends at or after the goal, and the text of each tree before it ends before the goal
pub record IsFirstEnding (goal : ℕ) (ts : List Tree) (part : Part) : Type 0 where
  pub within : part.index < length ts
  pub begin_is : part.begin ≡ begin_at ts part.index
  pub ends : goal ≤ begin_at ts (part.index + 1)
  pub before : 0 < part.index → part.begin < goal

-- all texts end before the goal
abbrev pub EndsBefore : ℕ → List Tree → Type 0
EndsBefore goal ts = 0 < length ts → begin_at ts (length ts) < goal

-- the last tree, if no text comes before it
pub record IsLastAtOnce (ts : List Tree) (part : Part) : Type 0 where
  pub last : part.index + 1 ≡ length ts
  pub begin_is : part.begin ≡ 0
  pub nothing : begin_at ts part.index ≡ 0

-- some text comes before the last tree
abbrev pub IsLastLate : List Tree → Type 0
IsLastLate ts = (i : ℕ) → i + 1 ≡ length ts → 0 < begin_at ts i

-- a node that has children has no text of its own
abbrev pub HasNoOwnText : Tree → Type 0
HasNoOwnText t = (i : ℕ) (c : Tree) → slice_get (trees t.children) i ≡ Some c → length (own_text t.label) ≡ 0

-- the index of a tree, and where its text begins
abbrev pub IsPart : List Tree → Part → Type 0
IsPart ts part = (part.index < length ts) × (part.begin ≡ begin_at ts part.index)

-- the answer is the first child of the place whose range covers the wanted range, or there is none
abbrev pub AnswersFirstCover : ℕ → ℕ → List Tree → Option Part → Place → Type 0
AnswersFirstCover start end children answer place =
    MatchOption answer ((i : ℕ) → ¬ (Covers start end (child_place place i)))
    (λ part. IsFirstCover start end place part.index × IsPart children part)
