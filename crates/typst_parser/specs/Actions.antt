-- What actions do with the stack.
use Rattle.std.specs.List.{slice_get}
use Rattle.std.specs.Prelude.{ℕ, suc, ◌+◌, ◌-◌, ◌==◌, max, min, nat_lt, Bool, true, List, [], ◌∷◌, ◌++◌, length, take, Option, Some, None, if◌then◌else◌}
use Rattle.typst_base.specs.contracts.kind.SyntaxKind.{the_type}
use Rattle.typst_base.specs.declared.kind.SyntaxKind.{SyntaxKind}
use Rattle.typst_base.specs.declared.kind.SyntaxKind.TheVariants as kinds
use Rattle.typst_parser.specs.Events.{is_leaf}
use Rattle.typst_parser.specs.Frames.{events_end, placed, pushed, settled}
use Rattle.typst_parser.specs.Last.{last_of}
use Rattle.typst_parser.specs.Lists.{changed_at}
use Rattle.typst_parser.specs.Mistakes.{mistaken}
use Rattle.typst_parser.specs.Retag.{retagged}
use Rattle.typst_parser.specs.Rows.{is_last}
use Rattle.typst_parser.specs.Stack.{Stack}
use Rattle.typst_parser.specs.Sums.{capped_sum}
use Rattle.typst_parser.specs.Unique.{made_unique}
use Rattle.typst_parser.specs.declared.event.Event.{Event}
use Rattle.typst_parser.specs.declared.event.Event.TheVariants.{Error, Leaf, Node}
use Rattle.typst_parser.specs.declared.fault.Fault.TheVariants as faults
use Rattle.typst_parser.specs.declared.stack.Frame.{Frame}
use Rattle.typst_grammar.specs.declared.expectation.Expectation.{Expectation}
use Rattle.typst_grammar.specs.declared.row.Action.{Action}
use Rattle.typst_grammar.specs.declared.row.Action.TheVariants as actions
use Rattle.typst_grammar.specs.declared.row.Call.{Call}
use Rattle.typst_grammar.specs.declared.row.Newline.{Newline}
use Rattle.typst_grammar.specs.declared.row.Newline.TheVariants.{Column}
use Rattle.typst_grammar.specs.declared.rows.State.{State}
use denote.Enum.Bare.{sameb}

-- what a line feed does in a frame that opens in another one
abbrev pub inherited : Option Newline → Newline → Newline
inherited None old = old
inherited (Some new) old = new

-- the column of a frame that opens, where its line feeds depend on the column of the next token
abbrev pub column_of : Option Newline → ℕ → ℕ → ℕ
column_of (Some Column) token old = token
column_of _ token old = old

-- The frame that opens in another one, behind the white space before the next token or before it. The tree of a token has
-- at most two levels.
abbrev pub opened_frame : Call → Stack → Frame
opened_frame c s = record {
  state = c.state;
  start = if c.enters then length s.events else capped_sum (length s.events) (length s.white);
  trees = 0;
  number = c.number;
  newline = inherited c.newline s.top.newline;
  column = column_of c.newline s.next.place.column s.top.column;
  levels = 2;
  room = if c.is_deep then s.top.room - 1 else s.top.room;
}

-- A frame opens. If it enters the white space before the next token, that goes into it.
abbrev pub opened : Call → Stack → Stack
opened c s = record s {
  top = opened_frame c s;
  below = s.below ++ s.top ∷ [];
  judge = if c.enters then length s.below + 1 else s.judge;
}

-- What is missing becomes an error, and a frame opens behind it.
abbrev pub called : Call → Stack → Stack
called c s = opened c (settled s)

-- how many trees a frame that opens around the last tree takes over from one with so many: that tree, if it is a leaf
abbrev pub covered_by : Option Event → ℕ → ℕ
covered_by (Some e) trees = if is_leaf e then min trees 1 else 0
covered_by None trees = 0

-- how many trees a frame that opens around the last tree takes over
abbrev pub covered : Stack → ℕ
covered s = covered_by (slice_get s.events (length s.events - 1)) s.top.trees

-- A frame with a number opens around the last tree, if that is a leaf, and the frame that had it goes on in a state. White
-- space before the next token goes into the new frame.
abbrev pub surrounded : State → ℕ → Stack → Stack
surrounded state number s = let n : ℕ = covered s in record s {
  top = record s.top { start = length s.events - n; trees = n; number = number; levels = 2 };
  below = s.below ++ record s.top { state = state; trees = s.top.trees - n } ∷ [];
  judge = length s.below + 1;
}

-- the innermost frame goes on in another state
abbrev pub gone_to : State → Stack → Stack
gone_to state s = record s { top = record s.top { state = state } }

-- the innermost frame gets another number
abbrev pub numbered : ℕ → Stack → Stack
numbered n s = record s { top = record s.top { number = n } }

-- the frame around one that ends, which gets its trees
abbrev pub rejoined : Frame → Frame → Frame
rejoined ended f = record f { trees = capped_sum f.trees ended.trees; levels = max f.levels ended.levels }

-- The innermost frame ends, unless it is the outermost. If white space before the next token went into it, that now goes
-- into the frame around it.
abbrev pub returned_by : Option (List Frame × Frame) → Stack → Stack
returned_by None s = s
returned_by (Some p) s = record s { top = rejoined s.top p.1; below = p.0; judge = min s.judge (length p.0) }

-- The innermost frame ends, unless it is the outermost.
abbrev pub returned : Stack → Stack
returned s = returned_by (last_of s.below) s

-- White space before the next token goes into its frame now.
abbrev pub flushed : Stack → Stack
flushed s = let p : Stack = placed (settled s) in record p { next = record p.next { is_flushed = true } }

-- the kind of errors
abbrev pub is_error_kind : SyntaxKind → Bool
is_error_kind kind = sameb the_type kind kinds.Error

-- The trees of the innermost frame become the children of one node. White space before the next token goes behind it.
abbrev pub joined : SyntaxKind → Stack → Stack
joined kind s = record s {
  events = s.events ++ Node kind s.top.trees ∷ [];
  top = record s.top { trees = 1; levels = suc s.top.levels };
  judge = length s.below;
}

-- The same, but if the node would have more than `most` levels, an error says so.
abbrev pub wrapped : ℕ → SyntaxKind → Stack → Stack
wrapped most kind s =
    if is_error_kind kind then s
    else (if nat_lt s.top.levels most then joined kind s else pushed (Error faults.TooTall 0) s)

-- Something is missing behind the last tree, unless that is an error.
abbrev pub expected : Expectation → Stack → Stack
expected what s = if is_last kinds.Error s.events then s else record s { missing = Some what }

-- Something is missing behind the last tree, unless something is missing there already.
abbrev pub expected_once : Option Expectation → Expectation → Stack → Stack
expected_once None what s = expected what s
expected_once (Some old) what s = s

-- the events of the trees so far are others, if the innermost frame has trees
abbrev pub changed : (List Event → List Event) → Stack → Stack
changed f s = if s.top.trees == 0 then s else record s { events = f s.events }

-- a leaf gets a kind
abbrev pub as_kind : SyntaxKind → Event → Event
as_kind kind (Leaf old len) = Leaf kind len
as_kind kind e = e

-- the first and the last tree of the innermost frame get kinds, if they are leaves
abbrev pub delimited : SyntaxKind → SyntaxKind → Stack → Stack
delimited first last s =
    changed (changed_at (as_kind last) (length s.events - 1)) (changed (changed_at (as_kind first) s.top.start) s)

-- a leaf becomes an error
abbrev pub as_unclosed : Event → Event
as_unclosed (Leaf kind len) = Error faults.Unclosed len
as_unclosed e = e

-- the stack after an action, behind a text
abbrev pub act : ℕ → List ℕ → Action → Stack → Stack
act most text (actions.Goto state) s = gone_to state s
act most text actions.Return s = returned s
act most text (actions.Around state number) s = surrounded state number (settled s)
act most text (actions.Wrap kind) s = wrapped most kind (settled s)
act most text actions.Flush s = flushed s
act most text actions.Up s = numbered (capped_sum s.top.number 1) s
act most text actions.Down s = numbered (s.top.number - 1) s
act most text (actions.Expected what) s = expected_once s.missing what s
act most text (actions.Wrong what) s = changed (mistaken what (length text)) (settled s)
act most text (actions.Delimit first last) s = delimited first last (settled s)
act most text actions.Unclosed s = let u : Stack = settled s in changed (changed_at as_unclosed u.top.start) u
act most text (actions.Retag map) s = changed (retagged map (length text)) (settled s)
act most text (actions.Unique what) s = changed (made_unique what text) (settled s)

-- the stack after some actions, which see the text up to the end of the events
abbrev pub acts : ℕ → List ℕ → List Action → Stack → Stack
acts most text [] s = s
acts most text (a ∷ more) s = acts most text more (act most (take (events_end s) text) a s)
