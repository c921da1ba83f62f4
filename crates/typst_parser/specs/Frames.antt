-- What frames get: trees, errors of what is missing, and white space.
use Rattle.std.specs.Prelude.{ℕ, nat_lt, Bool, true, false, [], ◌∷◌, ◌++◌, length, slice_index_or, Option, Some, None, if◌then◌else◌}
use Rattle.typst_parser.specs.Lists.{changed_at}
use Rattle.typst_parser.specs.Stack.{Stack}
use Rattle.typst_parser.specs.Sums.{capped_sum}
use Rattle.typst_parser.specs.declared.event.Event.{Event}
use Rattle.typst_parser.specs.declared.event.Event.TheVariants.{Error}
use Rattle.typst_parser.specs.declared.fault.Fault.TheVariants.{Expected}
use Rattle.typst_parser.specs.declared.stack.Frame.{Frame}
use Rattle.typst_parser.specs.declared.stack.Phase.{Phase}
use Rattle.typst_parser.specs.declared.stack.Phase.TheVariants.{Looking, Over, Taken}
use Rattle.typst_grammar.specs.declared.expectation.Expectation.{Expectation}

-- a frame with so many trees more
abbrev pub grown : ℕ → Frame → Frame
grown n f = record f { trees = capped_sum f.trees n }

-- the frame that white space before the next token goes into, and that says what a line feed there does
abbrev pub judging : Stack → Frame
judging s = slice_index_or s.below s.judge s.top

-- An event that is a tree behind all others, in the innermost frame. White space before the next token goes behind it.
abbrev pub pushed : Event → Stack → Stack
pushed e s = record s { events = s.events ++ e ∷ []; top = grown 1 s.top; judge = length s.below }

-- where the events end: behind the last token, or behind white space that went into a frame
abbrev pub events_end : Stack → ℕ
events_end s = if s.next.is_flushed then s.next.place.at else s.from.at

-- What is missing becomes an error.
abbrev pub settled_by : Option Expectation → Stack → Stack
settled_by None s = s
settled_by (Some what) s = record (pushed (Error (Expected what) 0) s) { missing = None }

-- What is missing becomes an error, if anything is.
abbrev pub settled : Stack → Stack
settled s = settled_by s.missing s

-- so many trees more in the frame that judges
abbrev pub counted : ℕ → Stack → Stack
counted n s = record s {
  top = if nat_lt s.judge (length s.below) then s.top else grown n s.top;
  below = changed_at (grown n) s.judge s.below;
}

-- White space before the next token goes behind all events, into the frame that judges.
abbrev pub placed : Stack → Stack
placed s = record (counted (length s.white) s) { events = s.events ++ s.white; white = [] }

-- The block ends before the next token.
abbrev pub ended : Stack → Stack
ended s = let p : Stack = placed (settled s) in record p { from = p.next.place; phase = Over }

-- the next token is looked at
abbrev pub looking : Stack → Stack
looking s = record s { phase = Looking }

-- the next token is still looked at
abbrev pub is_looking : Phase → Bool
is_looking Looking = true
is_looking _ = false

-- the next token was taken
abbrev pub is_taken : Phase → Bool
is_taken Taken = true
is_taken _ = false
