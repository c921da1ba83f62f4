-- The windows with room for new numbers.
use Rattle.std.specs.Prelude.{ℕ, suc, ◌*◌, ◌≤◌, ◌⊎◌, ◌++◌}
use Rattle.typst_node.specs.Count.{count_of_all}
use Rattle.typst_node.specs.Window.{Site, trees_in}
use Rattle.typst_node.specs.WindowNumbers.{open_count}

-- the parent's node count after the edit, itself included
abbrev pub new_count : Site → ℕ
new_count s = suc (count_of_all (s.before ++ (s.changed ++ s.behind)))

-- the numbers are at least twice as many as the nodes of a window, or at least as many as all nodes
abbrev pub Suffice : ℕ → ℕ → ℕ → Type 0
Suffice numbers nodes total = (2 * nodes ≤ numbers) ⊎ (total ≤ numbers)

-- the open numbers suffice for the window's nodes, out of all that the parent has after the edit
abbrev pub HasRoom : Site → ℕ → Type 0
HasRoom s w = Suffice (open_count s w) (count_of_all (trees_in s w)) (new_count s)
