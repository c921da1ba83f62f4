-- Where the nodes of a tree are after an edit, by their numbers.
use Rattle.std.specs.Prelude.{ℕ, Bool, ◌≡◌, ◌-◌, ◌+◌, ◌^◌, ◌<◌, ◌≤◌, ◌&&◌, ◌==◌, false, nat_le, nat_lt, if◌then◌else◌, List, [], ◌++◌, length, map, take, drop, slice_range, get_or, Option, Some, None, option_map, Result, IfOk, IfSome}
use Rattle.std.specs.List.{position_or_len}
use Rattle.typst_base.specs.Span.{SpanParts, numbered}
use Rattle.std.specs.declared.ops.Range.{Range}
use Rattle.typst_node.specs.Tree.{Tree, forest}
use Rattle.typst_node.specs.Preorder.{preorder}
use Rattle.typst_node.specs.Labels.{number}
use Rattle.typst_node.specs.Window.{Site, site_of}
use Rattle.typst_node.specs.WindowNumbers.{open_start, open_end}
use Rattle.typst_node.specs.Numbered.{Rise}
use Rattle.typst_node.specs.declared.node.moves.Noted.{Noted}
use Rattle.typst_node.specs.declared.node.replace.Renumbered.{Renumbered}
use Rattle.typst_node.specs.declared.node.replace.ReplaceError.{ReplaceError}

-- the numbers of the trees' nodes, in preorder
abbrev pub numbers : List Tree → List ℕ
numbers ts = map number (preorder (forest ts))

-- a number that a node may have
abbrev pub IsNodeNumber : ℕ → Type 0
IsNodeNumber n = (2 ≤ n) × (n < 2 ^ 47)

-- The file of a tree, unless nothing moves; the old numbers of nodes that get new numbers, the new numbers of these
-- nodes, and a range of numbers whose nodes are gone.
pub record NumberMoves : Type 0 where
  pub file : Option ℕ
  pub olds : List ℕ
  pub news : List ℕ
  pub gone : Range ℕ

-- the number is in the range
abbrev pub is_within : Range ℕ → ℕ → Bool
is_within range n = nat_le range.start n && nat_lt n range.end

-- the new number of the node that had this number, if it is not gone
abbrev pub followed : NumberMoves → ℕ → Option ℕ
followed m n = if is_within m.gone n then None else Some (get_or m.news (position_or_len (λ x. x == n) m.olds) n)

-- whether this is the file
abbrev pub is_file : Option ℕ → ℕ → Bool
is_file None id = false
is_file (Some file) id = file == id

-- whether a span is that of a number in the file of the moves
abbrev pub is_span_in : NumberMoves → SpanParts → Bool
is_span_in m s = nat_lt 0 s.file && is_file m.file s.file && is_within record { start = 2; end = 2 ^ 47 } s.low

-- The new span of the node that had this span, if it is not gone. Any other span stays as it is.
abbrev pub followed_span : NumberMoves → SpanParts → Option SpanParts
followed_span m s = if is_span_in m s then option_map (numbered s.file) (followed m s.low) else Some s

-- no node moves, and none is gone
abbrev pub no_moves : NumberMoves
no_moves = record { file = None; olds = []; news = []; gone = record { start = 0; end = 0 } }

-- the children that stay in a window around a change, before the edit
abbrev pub stay_before : Site → Range ℕ → List Tree
stay_before s window = drop window.start s.before ++ take (window.end - (length s.before + length s.changed)) s.behind

-- the same children after the edit, among all children then
abbrev pub stay_after : Site → Range ℕ → List Tree → List Tree
stay_after s window kids =
    slice_range kids window.start (length s.before) ++ slice_range kids (length s.before + length s.changed) window.end

-- What is noted of such an edit before it is made: the numbers of the children that stay in its window, room for others,
-- the numbers that are gone, and how many children stay on each side.
pub record AreNoted (s : Site) (window : Range ℕ) (m : Noted) : Type 0 where
  pub olds : m.olds.items ≡ numbers (stay_before s window)
  pub rise : Rise m.olds.items
  pub room : length m.room.items ≡ length m.olds.items
  pub gone : m.gone ≡ record { start = open_start s 0; end = open_end s 0 }
  pub ahead : window.start + m.ahead ≡ length s.before
  pub behind : m.behind + (length s.before + length s.changed) ≡ window.end

-- The moves of an edit with this window and with these children after it: the children that stay in the window have new
-- numbers. The numbers between the neighbours of the replaced children are those of nodes that are gone.
pub record AreMoves (s : Site) (window : Range ℕ) (kids : List Tree) (m : NumberMoves) : Type 0 where
  pub olds : m.olds ≡ numbers (stay_before s window)
  pub news : m.news ≡ numbers (stay_after s window kids)
  pub gone : m.gone ≡ record { start = open_start s 0; end = open_end s 0 }

-- what is noted, if it is asked for, is that of the answer to a replacement of children of a node
abbrev pub AreNotedFor : ℕ → ℕ → List Tree → Tree → Option Noted → Result Renumbered ReplaceError → Type 0
AreNotedFor from to others old noted result = IfOk result (λ r. IfSome noted (AreNoted (site_of from to others old) r.window))
