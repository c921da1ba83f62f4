-- The open numbers of a window: those between its neighbours.
use Rattle.std.specs.Prelude.{ℕ, ◌-◌}
use Rattle.typst_node.specs.OpenNumbers.{open_from, open_to}
use Rattle.typst_node.specs.Window.{Site, trees_before, trees_behind}

-- their start: the bound of the child before the window, or the number after the parent's
abbrev pub open_start : Site → ℕ → ℕ
open_start s w = open_from s.first (trees_before s w)

-- their end: the number of the child after the window, or the parent's bound
abbrev pub open_end : Site → ℕ → ℕ
open_end s w = open_to s.end (trees_behind s w)

-- how many numbers there are
abbrev pub open_count : Site → ℕ → ℕ
open_count s w = open_end s w - open_start s w
