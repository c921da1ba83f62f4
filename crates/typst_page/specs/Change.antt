-- Where the list of a node's children changed, and the windows of children around the change.
use Rattle.std.specs.Prelude.{ℕ, ◌≡◌, ◌+◌, ◌-◌, ◌^◌, ◌<◌, ◌≤◌, List, length, min, slice_range}
use Rattle.typst_node.specs.Tree.{Tree}
use Rattle.typst_node.specs.ChangedChildren.{kept_first, kept_last}
use Rattle.typst_node.specs.Window.{width}
use Rattle.typst_linked.specs.Part.{begin_at}
use Rattle.typst_page.specs.declared.windows.Change.{Change}

-- the first n trees are all that end at or before a byte
pub record EndBy (byte : ℕ) (ts : List Tree) (n : ℕ) : Type 0 where
  pub within : n ≤ length ts
  pub ends : begin_at ts n ≤ byte
  pub most : (m : ℕ) → m ≤ length ts → begin_at ts m ≤ byte → m ≤ n

-- the first n trees are all that begin before a byte
pub record BeginBefore (byte : ℕ) (ts : List Tree) (n : ℕ) : Type 0 where
  pub within : n ≤ length ts
  pub begins : (m : ℕ) → m < n → begin_at ts m < byte
  pub most : n < length ts → byte ≤ begin_at ts n

-- where the old children end that are in place of the new ones before an index: as many come after them
abbrev pub old_end : List Tree → List Tree → ℕ → ℕ
old_end olds news to = length olds - (length news - to)

-- how many of the new children from one index up to another are what they were, counted from the first one
abbrev pub same_first : List Tree → List Tree → ℕ → ℕ → ℕ
same_first olds news from to = kept_first from (old_end olds news to) (slice_range news from to) olds

-- how many of the rest of them are what they were, counted from the last one
abbrev pub same_last : List Tree → List Tree → ℕ → ℕ → ℕ
same_last olds news from to = kept_last from (old_end olds news to) (slice_range news from to) olds

-- the change is the new children from one index up to another, without those that are what they were
pub record IsAmong (olds news : List Tree) (from to : ℕ) (change : Change) : Type 0 where
  pub before : change.before ≡ from + same_first olds news from to
  pub changed : change.changed ≡ length (slice_range news from to) - same_first olds news from to - same_last olds news from to
  pub behind : change.behind ≡ (length news - to) + same_last olds news from to

-- the change is among the new children from the byte `start` up to the byte `end`, also those without a text
pub record IsChange (olds news : List Tree) (start end : ℕ) (change : Change) : Type 0 where
  pub from : ℕ
  pub to : ℕ
  pub first : BeginBefore start news from
  pub last : EndBy end news to
  pub among : IsAmong olds news from to change

-- where the window of a turn begins: 0, 1, 2, 4, .. children before the change, or at the first child
abbrev pub window_start : Change → ℕ → ℕ
window_start change turn = change.before - width turn

-- where it ends: 0, 1, 2, 4, .. children after the change, or after the last child; no number is above the largest usize
abbrev pub window_end : Change → ℕ → ℕ
window_end change turn = min (change.before + change.changed + min (width turn) change.behind) (2 ^ 64 - 1)

-- the window of the last turn, if there was any, is from one child up to another
pub record IsLastWindow (change : Change) (tried start end : ℕ) : Type 0 where
  pub some : 1 ≤ tried
  pub begins : start ≡ window_start change (tried - 1)
  pub ends : end ≡ window_end change (tried - 1)
