use Rattle.std.proofs.Common.{◌≡◌, ℕ, ◌+◌, ◌-◌, ◌<◌, ◌≤◌, length}
use Rattle.typst_node.specs.Count.{count_of_all}
use Rattle.typst_node.specs.Room.{HasRoom}
use Rattle.typst_node.specs.FirstWindow.{HoldsAll}
use Rattle.typst_node.specs.Window.{width, trees_in}
use Rattle.typst_node.specs.Sites.{recorded}
use Rattle.typst_node.proofs.node.window.find.Given as goal

abbrev pub invariant-loop-numbering : goal.invariant-loop-numbering
invariant-loop-numbering l = record {
  positive : 1 ≤ l.tried;
  few : l.tried ≤ l.width + 1;
  wide : l.width ≡ width (l.tried - 1);
  nodes : l.nodes ≡ count_of_all (trees_in (recorded l.site) l.width);
  least : (j : ℕ) → j < l.tried - 1 → ¬ (HasRoom (recorded l.site) (width j));
  among : (j : ℕ) → j < l.tried - 1 → ¬ (HoldsAll (recorded l.site) (width j));
}

abbrev pub decreases-loop-numbering : goal.decreases-loop-numbering
decreases-loop-numbering l = length l.site.before.now + length l.site.behind.now - l.width
