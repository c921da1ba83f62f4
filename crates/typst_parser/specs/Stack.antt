-- The stack of the machine: the events so far, the open frames, and what was read of the next token.
use Rattle.std.specs.Prelude.{ℕ, false, List, [], Option, None}
use Rattle.typst_parser.specs.declared.event.Event.{Event}
use Rattle.typst_parser.specs.declared.next.Next.{Next}
use Rattle.typst_parser.specs.declared.next.Place.{Place}
use Rattle.typst_parser.specs.declared.stack.Frame.{Frame}
use Rattle.typst_parser.specs.declared.stack.Phase.{Phase}
use Rattle.typst_parser.specs.declared.stack.Phase.TheVariants.{Looking}
use Rattle.typst_grammar.specs.declared.expectation.Expectation.{Expectation}
use Rattle.typst_grammar.specs.declared.row.Newline.TheVariants.{Go}
use Rattle.typst_grammar.specs.declared.rows.State.TheVariants.{Document}
use Rattle.typst_lexer.specs.declared.place.Behind.TheVariants.{Start}

-- The events so far, and those of the white space before the next token, as far as they aren't among these yet. What is
-- missing before that white space, if it isn't an error yet. Where the last token ends, what was read of the next one, and
-- how many bytes of the text were looked at. What became of the next token. The innermost frame, the frames around it from
-- the outermost on, and how many of these are around the frame that white space before the next token goes into.
pub record Stack : Type 0 where
  pub events : List Event
  pub white : List Event
  pub missing : Option Expectation
  pub from : Place
  pub next : Next
  pub far : ℕ
  pub phase : Phase
  pub top : Frame
  pub below : List Frame
  pub judge : ℕ

-- the outermost frame, in the state of a document, in which so many deep frames may open
abbrev pub outermost : ℕ → Frame
outermost room = record { state = Document; start = 0; trees = 0; number = 0; newline = Go; column = 0; levels = 2; room = room }

-- the beginning of the text
abbrev pub beginning : Place
beginning = record { at = 0; behind = Start; column = 0 }

-- nothing was read of the token that comes behind a place
abbrev pub unread : Place → Next
unread p = record { space = None; line = false; blank = false; is_flushed = false; place = p; mode = None; kind = None; end = p.at; behind = p.behind }

-- the stack before the first token
abbrev pub start : ℕ → Stack
start room = record {
  events = [];
  white = [];
  missing = None;
  from = beginning;
  next = unread beginning;
  far = 0;
  phase = Looking;
  top = outermost room;
  below = [];
  judge = 0;
}
