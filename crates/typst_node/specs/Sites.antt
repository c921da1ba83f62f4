-- What the program records of a site, of the numbers for a window and of the first window.
use Rattle.std.specs.Prelude.{ℕ, ◌≡◌, ◌-◌, ◌*◌, ◌≤◌}
use Rattle.typst_node.specs.Count.{count_of_all}
use Rattle.typst_node.specs.Window.{Site, width, trees_in}
use Rattle.typst_node.specs.WindowNumbers.{open_start, open_count}
use Rattle.typst_node.specs.Room.{HasRoom}
use Rattle.typst_node.specs.FirstWindow.{IsFirst}
use Rattle.typst_node.specs.declared.node.window.Site.{Site as SiteRecord}
use Rattle.typst_node.specs.declared.node.window.Numbering.{Numbering}
use Rattle.typst_node.specs.declared.node.window.Found.{Found}

-- the site that the program records
abbrev pub recorded : SiteRecord → Site
recorded e = record { before = e.before.now; changed = e.changed.now; behind = e.behind.now; first = e.first; end = e.end }

-- the window with at most w neighbours on each side has room, and these numbers for it fit; if the open numbers are at
-- least twice its nodes, the numbers for it are in the first half of the open numbers
pub record AreNumbersFor (s : Site) (w : ℕ) (n : Numbering) : Type 0 where
  pub room : HasRoom s w
  pub start : n.start ≡ open_start s w
  pub positive : 1 ≤ n.stride
  pub fits : n.stride * count_of_all (trees_in s w) ≤ open_count s w
  pub half : 2 * count_of_all (trees_in s w) ≤ open_count s w → 2 * (n.stride * count_of_all (trees_in s w)) ≤ open_count s w

-- this is the first window, with numbers for it
pub record IsFound (s : Site) (f : Found) : Type 0 where
  pub first : IsFirst s (f.tried - 1)
  pub tried : 1 ≤ f.tried
  pub width : f.width ≡ width (f.tried - 1)
  pub numbering : AreNumbersFor s f.width f.numbering
