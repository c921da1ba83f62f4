-- What the machine does with the next token, by the rows of a table.
use Rattle.std.specs.Prelude.{ℕ, zero, suc, ◌-◌, ◌==◌, ◌&&◌, not, Bool, false, List, [], ◌∷◌, ◌++◌, codes, length, drop, Option, Some, None, if◌then◌else◌}
use Rattle.typst_parser.specs.Actions.{acts, called}
use Rattle.typst_parser.specs.Columns.{column_after}
use Rattle.typst_parser.specs.Frames.{ended, grown, is_looking, is_taken, looking, placed, settled}
use Rattle.typst_parser.specs.Reads.{known, part, read, spaced}
use Rattle.typst_parser.specs.Rows.{Table, is_stopped, lexer_mode, row_for, seen}
use Rattle.typst_parser.specs.Stack.{Stack, unread}
use Rattle.typst_parser.specs.Tokens.{events_for}
use Rattle.typst_parser.specs.declared.event.Event.{Event}
use Rattle.typst_parser.specs.declared.event.Event.TheVariants.{Error}
use Rattle.typst_parser.specs.declared.fault.Fault.{Fault}
use Rattle.typst_parser.specs.declared.fault.Fault.TheVariants.{NoRow, TooDeep}
use Rattle.typst_parser.specs.declared.next.Next.{Next}
use Rattle.typst_parser.specs.declared.next.Place.{Place}
use Rattle.typst_parser.specs.declared.stack.Phase.TheVariants.{Taken}
use Rattle.typst_grammar.specs.Row.{Row}
use Rattle.typst_grammar.specs.declared.row.Call.{Call}
use Rattle.typst_grammar.specs.declared.row.Mode.{Mode as RowMode}
use Rattle.typst_grammar.specs.declared.row.Take.{Take}
use Rattle.typst_grammar.specs.declared.row.Take.TheVariants as takes
use Rattle.typst_grammar.specs.declared.rows.Class.TheVariants.{End}
use Rattle.typst_lexer.specs.Characters.{begins_with}
use Rattle.typst_lexer.specs.declared.mode.Mode.{Mode}
use Rattle.typst_lexer.specs.declared.token.TokenKind.{TokenKind}

-- the bytes of the next token
abbrev pub token_bytes : List ℕ → Next → List ℕ
token_bytes text n = part n.place.at (n.end - n.place.at) text

-- the place behind the next token, which has these bytes
abbrev pub behind_next : List ℕ → Next → Place
behind_next bs n = record { at = n.end; behind = n.behind; column = column_after n.place.column bs }

-- The next token was taken: nothing is read behind it, and white space there goes into the innermost frame.
abbrev pub advanced : List ℕ → Stack → Stack
advanced bs s = record s {
  from = behind_next bs s.next;
  next = unread (behind_next bs s.next);
  phase = Taken;
  judge = length s.below;
}

-- the next token, which has these bytes, becomes these events, which are a tree of the innermost frame
abbrev pub put : List ℕ → List Event → Stack → Stack
put bs es s = let p : Stack = placed (settled s) in advanced bs (record p { events = p.events ++ es; top = grown 1 p.top })

-- an expectation before a token that isn't expected is forgotten
abbrev pub forgotten : Take → Stack → Stack
forgotten takes.Unexpected s = record s { missing = None }
forgotten (takes.Mistake what) s = record s { missing = None }
forgotten _ s = s

-- the next token is taken as a row says; at the end of the text the block ends
abbrev pub taken_as : List ℕ → Take → Option TokenKind → Stack → Stack
taken_as text take None s = ended s
taken_as text take (Some kind) s = let bs = token_bytes text s.next in put bs (events_for take kind bs) (forgotten take s)

-- the next token, which was read, is taken as a row says
abbrev pub eaten : List ℕ → Take → Stack → Stack
eaten text take s = taken_as text take s.next.kind s

-- the next token is read and taken as a row says, unless the row takes none
abbrev pub taken : List ℕ → Take → Stack → Stack
taken text takes.Nothing s = s
taken text take s = eaten text take (known text s)

-- the next token becomes an error; at the end of the text the block ends
abbrev pub refused_as : List ℕ → Fault → Option TokenKind → Stack → Stack
refused_as text fault None s = ended s
refused_as text fault (Some kind) s = let bs = token_bytes text s.next in put bs (Error fault (length bs) ∷ []) s

-- the next token is read and becomes an error
abbrev pub refused : List ℕ → Fault → Stack → Stack
refused text fault s = let k : Stack = known text s in refused_as text fault k.next.kind k

-- a frame opens, if a row says so
abbrev pub called_if : Option Call → Stack → Stack
called_if None s = s
called_if (Some c) s = called c s

-- the stack after a row
abbrev pub after_row : Table → List ℕ → Row → Stack → Stack
after_row t text r s =
    called_if r.call (acts t.most_levels text r.after (taken text r.take (acts t.most_levels text r.before s)))

-- a row opens a deep frame, and as many as may be are open
abbrev pub is_too_deep : Option Call → Stack → Bool
is_too_deep None s = false
is_too_deep (Some c) s = c.is_deep && (s.top.room == 0)

-- The stack after the row that was found. Without a row, or where a frame would be one too many, the token is an error.
abbrev pub followed : Table → List ℕ → Option Row → Stack → Stack
followed t text None s = refused text NoRow s
followed t text (Some r) s = if is_too_deep r.call s then refused text TooDeep s else after_row t text r s

-- a newline is before the next token, and only the outermost frame is open
abbrev pub is_between : Stack → Bool
is_between s = s.next.line && (length s.below == 0)

-- The block ends before the next token: it begins a line, and no bracket is open. `#!` is another token at the beginning.
abbrev pub is_over : List ℕ → Stack → Bool
is_over text s =
    is_between s && (s.next.place.column == 0) && (s.top.number == 0)
    && not (begins_with (codes "#!") (drop s.next.place.at text))

-- an error of what is missing comes before a newline behind which only the outermost frame is open
abbrev pub between : Stack → Stack
between s = if is_between s then settled s else s

-- the stack after a look at a token that may be read
abbrev pub looked_at : Table → List ℕ → Mode → Stack → Stack
looked_at t text mode s =
    if is_stopped s then followed t text (row_for t End s) s
    else (let u : Stack = read mode text s in followed t text (row_for t (seen u) u) u)

-- the stack after a look in a mode, once white space was read
abbrev pub looked_in : Table → List ℕ → Mode → Stack → Stack
looked_in t text mode s = if is_over text s then ended s else looked_at t text mode (between s)

-- The stack after one look. A rest of a row, which has no mode, looks at no token.
abbrev pub looked_by : Option RowMode → Table → List ℕ → Stack → Stack
looked_by None t text s = followed t text (row_for t End s) s
looked_by (Some mode) t text s = looked_in t text (lexer_mode mode) (spaced (lexer_mode mode) text s)

-- the stack after one look, in the mode of the innermost frame's state
abbrev pub looked : Table → List ℕ → Stack → Stack
looked t text s = looked_by (t.modes s.top.state) t text s

-- the stack after at most so many looks at a token; if they don't suffice, the token is an error
abbrev pub looks : ℕ → Table → List ℕ → Stack → Stack
looks zero t text s = refused text NoRow s
looks (suc n) t text s = let u : Stack = looked t text s in if is_looking u.phase then looks n t text u else u

-- the stack after one more token
abbrev pub step : Table → List ℕ → Stack → Stack
step t text s = looks t.most_looks t text (looking s)

-- the stack after at most so many tokens, or at the end of the block
abbrev pub steps : ℕ → Table → List ℕ → Stack → Stack
steps zero t text s = s
steps (suc n) t text s = let u : Stack = step t text s in if is_taken u.phase then steps n t text u else u
