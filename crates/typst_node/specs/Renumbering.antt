-- The answer of an accepted replacement, and the children's numbers after it.
use Rattle.std.specs.Prelude.{ℕ, ◌≡◌, suc, ◌+◌, ◌*◌, ◌/◌, ◌<◌, ◌≤◌, List, take, drop, slice_range}
use Rattle.std.specs.List.{AllByRecursion}
use Rattle.std.specs.declared.ops.Range.{Range}
use Rattle.typst_node.specs.Tree.{Tree, forest}
use Rattle.typst_node.specs.Preorder.{preorder}
use Rattle.typst_node.specs.Labels.{number}
use Rattle.typst_node.specs.Count.{count_of_all}
use Rattle.typst_node.specs.Window.{Site, width, window_start, window_end, trees_before, trees_in, trees_behind}
use Rattle.typst_node.specs.WindowNumbers.{open_start, open_count}
use Rattle.typst_node.specs.FirstWindow.{IsFirst}
use Rattle.typst_node.specs.declared.node.replace.Renumbered.{Renumbered}

-- all numbers of the trees are at least the first number and below the second
abbrev pub AreIn : ℕ → ℕ → List Tree → Type 0
AreIn start end ts = AllByRecursion (λ l. (start ≤ number l) × (number l < end)) (preorder (forest ts))

-- The window with at most w neighbours on each side has these places in the new child list. The trees before and after
-- it stay. If its open numbers are at least twice its nodes, all its numbers are in the first half of the open numbers.
pub record IsRenumberedIn (s : Site) (w : ℕ) (window : Range ℕ) (new : List Tree) : Type 0 where
  pub start : window.start ≡ window_start s w
  pub end : window.end ≡ window_end s w
  pub before : take window.start new ≡ trees_before s w
  pub behind : drop window.end new ≡ trees_behind s w
  pub half :
      2 * count_of_all (trees_in s w) ≤ open_count s w
      → AreIn (open_start s w) (open_start s w + open_count s w / 2) (slice_range new window.start window.end)

-- Window k is the first window with room, and only this window is renumbered. The windows 0 through k were tried.
pub record IsRenumbering (s : Site) (r : Renumbered) (new : List Tree) : Type 0 where
  pub k : ℕ
  pub tried : r.tried ≡ suc k
  pub first : IsFirst s k
  pub window : IsRenumberedIn s (width k) r.window new

-- the answer on a leaf or an error, which stays as it is
abbrev pub no_window : Renumbered
no_window = record { window = record { start = 0; end = 0 }; tried = 0 }
