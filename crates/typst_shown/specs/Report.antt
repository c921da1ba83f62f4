-- What a report says about an edit.
use Rattle.std.specs.Prelude.{ℕ, zero, suc, ◌≡◌, ◌+◌, ◌-◌, ◌==◌, if◌then◌else◌, List, [], ◌∷◌, length, slice_range, slice_get, get_or, Option, Some, None}
use Rattle.std.specs.List.{position_or_len}
use Rattle.std.specs.Option.{ForSome}
use Rattle.std.specs.declared.ops.Range.{Range}
use Rattle.typst_node.specs.Tree.{Tree, trees}
use Rattle.typst_node.specs.Text.{text}
use Rattle.typst_node.specs.Count.{count, count_of_all}
use Rattle.typst_node.specs.Labels.{number, bound}
use Rattle.typst_node.specs.Moves.{NumberMoves, is_within}
use Rattle.typst_node.specs.Paths.{tree_at}
use Rattle.typst_node.specs.declared.node.reconcile.Touched.{Touched}
use Rattle.typst_node.specs.declared.node.reconcile.Touched.TheVariants.{Leaf, Window}
use Rattle.typst_source.specs.declared.edited.Edited.{Edited}
use Rattle.typst_shown.specs.declared.report.EditReport.{EditReport}
use Rattle.typst_shown.specs.declared.report.NodeStatus.{NodeStatus}
use Rattle.typst_shown.specs.declared.report.NodeStatus.TheVariants.{Kept, Moved, New}

-- the children in the window, of the children of the edited node
abbrev pub in_window : Touched → List Tree → List Tree
in_window (Leaf index) ts = []
in_window (Window r) ts = slice_range ts r.window.start r.window.end

-- the children of the new tree that are in the window of an edit
abbrev pub touched_nodes : Edited → Tree → List Tree
touched_nodes done new = in_window done.touched (trees (tree_at done.path.items new).children)

-- the numbers of adjacent trees: from that of the first tree up to the bound of the last one
abbrev pub numbers_of : List Tree → Range ℕ
numbers_of [] = record { start = 0; end = 0 }
numbers_of (t ∷ ts) = record { start = number t.label; end = bound (get_or (t ∷ ts) (length ts) t).label }

-- how many numbers differ from those at the same places of the other list
abbrev pub differing : List ℕ → List ℕ → ℕ
differing [] ys = 0
differing (x ∷ xs) [] = 0
differing (x ∷ xs) (y ∷ ys) = (if x == y then 0 else 1) + differing xs ys

-- The report of an edit has its answer, and counts the bytes and nodes of the tree that the edit left. The nodes in the
-- window that aren't among the moves are new, and the nodes whose numbers differ were moved.
pub record Reports (done : Edited) (after : Tree) (report : EditReport) : Type 0 where
  pub done_is : report.done ≡ done
  pub bytes : report.bytes ≡ length (text after)
  pub nodes : report.nodes ≡ count after
  pub new : report.new ≡ count_of_all (touched_nodes done after) - length done.moves.news
  pub moved : report.moved ≡ differing done.moves.olds done.moves.news
  pub numbers : report.numbers ≡ numbers_of (touched_nodes done after)

-- a node in the window is new if the moves don't lead to its number, and else it was moved, unless its number is the old one
abbrev pub status_before : Option ℕ → ℕ → NodeStatus
status_before None n = New
status_before (Some before) n = if before == n then Kept else Moved

-- what an edit did to the node with a number: nothing, outside the numbers of the window
abbrev pub status_of : Range ℕ → NumberMoves → ℕ → NodeStatus
status_of numbers m n =
    if is_within numbers n then status_before (slice_get m.olds (position_or_len (λ x. x == n) m.news)) n else Kept
