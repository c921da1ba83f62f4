-- The place of a change in a child list, and the windows of children around the change.
use Rattle.std.specs.Prelude.{ℕ, zero, suc, ◌+◌, ◌-◌, ◌^◌, List, ◌++◌, length, take, drop, min, slice_range}
use Rattle.typst_node.specs.Tree.{Tree, trees}
use Rattle.typst_node.specs.Labels.{number, bound}
use Rattle.typst_node.specs.ChangedChildren.{kept_first, kept_last}

-- The new child list: the neighbours before the changed children, the changed children, and the neighbours after them.
-- All of them may have numbers from `first` up to `end`: from after the parent's own number up to its bound.
pub record Site : Type 0 where
  pub before : List Tree
  pub changed : List Tree
  pub behind : List Tree
  pub first : ℕ
  pub end : ℕ

-- others in place of some children, all of which change
abbrev pub site_at : ℕ → ℕ → ℕ → ℕ → List Tree → List Tree → Site
site_at first end from to others ts = record {
  before = take from ts;
  changed = others;
  behind = drop to ts;
  first = first;
  end = end;
}

-- others in place of some children; the children that are alike at the beginning and at the end stay
abbrev pub site_among : ℕ → ℕ → ℕ → ℕ → List Tree → List Tree → Site
site_among first end from to others ts =
    site_at first end (from + kept_first from to others ts) (to - kept_last from to others ts)
    (slice_range others (kept_first from to others ts) (length others - kept_last from to others ts)) ts

-- others in place of some children of a node
abbrev pub site_of : ℕ → ℕ → List Tree → Tree → Site
site_of from to others t = site_among (number t.label + 1) (bound t.label) from to others (trees t.children)

-- the width of window k, which is the largest number of neighbours that it takes in on each side: 0, 1, 2, 4, 8 and so on
abbrev pub width : ℕ → ℕ
width zero = 0
width (suc k) = 2 ^ k

-- the start of the window with at most w neighbours on each side, in the new child list
abbrev pub window_start : Site → ℕ → ℕ
window_start s w = length s.before - w

-- the end of that window
abbrev pub window_end : Site → ℕ → ℕ
window_end s w = length s.before + length s.changed + min w (length s.behind)

-- the trees before that window
abbrev pub trees_before : Site → ℕ → List Tree
trees_before s w = take (length s.before - w) s.before

-- the trees in that window
abbrev pub trees_in : Site → ℕ → List Tree
trees_in s w = drop (length s.before - w) s.before ++ (s.changed ++ take w s.behind)

-- the trees after that window
abbrev pub trees_behind : Site → ℕ → List Tree
trees_behind s w = drop w s.behind
