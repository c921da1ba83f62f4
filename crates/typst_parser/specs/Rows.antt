-- The table, and which of its rows is done.
use Rattle.std.specs.Prelude.{ℕ, ◌-◌, ◌==◌, ◌&&◌, not, nat_le, nat_lt, Bool, true, false, List, [], ◌∷◌, length, Option, Some, None, if◌then◌else◌}
use Rattle.std.specs.List.{slice_get}
use Rattle.typst_base.specs.contracts.kind.SyntaxKind.{the_type}
use Rattle.typst_base.specs.declared.kind.SyntaxKind.{SyntaxKind}
use Rattle.typst_parser.specs.Classes.{class_of}
use Rattle.typst_parser.specs.Events.{kind_of}
use Rattle.typst_parser.specs.Frames.{judging}
use Rattle.typst_parser.specs.Stack.{Stack}
use Rattle.typst_parser.specs.declared.event.Event.{Event}
use Rattle.typst_grammar.specs.Row.{Row}
use Rattle.typst_grammar.specs.declared.row.Condition.{Condition}
use Rattle.typst_grammar.specs.declared.row.Condition.TheVariants as conditions
use Rattle.typst_grammar.specs.declared.row.Mode.{Mode as RowMode}
use Rattle.typst_grammar.specs.declared.row.Mode.TheVariants as row_modes
use Rattle.typst_grammar.specs.declared.row.Newline.{Newline}
use Rattle.typst_grammar.specs.declared.row.Newline.TheVariants.{Column, Context, Go, Par, Stop}
use Rattle.typst_grammar.specs.declared.rows.Class.{Class}
use Rattle.typst_grammar.specs.declared.rows.Class.TheVariants as classes
use Rattle.typst_grammar.specs.declared.rows.State.{State}
use Rattle.typst_lexer.specs.declared.mode.Mode.{Mode}
use Rattle.typst_lexer.specs.declared.mode.Mode.TheVariants as modes
use Rattle.typst_lexer.specs.declared.token.TokenKind.{TokenKind}
use denote.Enum.Bare.{sameb}

-- the rows for each state and class, the mode of each state, how many deep frames may be open, how often a token is looked
-- at, and how many levels a tree may have
pub record Table : Type 0 where
  pub rows : State → Class → List Row
  pub modes : State → Option RowMode
  pub most_deep : ℕ
  pub most_looks : ℕ
  pub most_levels : ℕ

-- the class as which a token reads where markup stands alone: a hash and a dollar begin nothing there
abbrev pub as_markup : Class → Class
as_markup classes.Hash = classes.Plain
as_markup classes.Dollar = classes.Plain
as_markup class = class

-- how the lexer reads in a mode of the table
abbrev pub lexer_mode : RowMode → Mode
lexer_mode row_modes.Markup = modes.Markup
lexer_mode row_modes.Code = modes.Code
lexer_mode row_modes.Math = modes.Math
lexer_mode row_modes.Operator = modes.Operator
lexer_mode row_modes.Argument = modes.Argument

-- the class of a token, or of the end of the text
abbrev pub class_of_next : Option TokenKind → Class
class_of_next None = classes.End
class_of_next (Some kind) = class_of kind

-- `else` or a dot
abbrev pub goes_on : Class → Bool
goes_on classes.Else = true
goes_on classes.Dot = true
goes_on classes.Field = true
goes_on _ = false

-- the white space before the next token ends what is open in a frame, whatever the token is
abbrev pub stops : Newline → ℕ → Stack → Bool
stops Go column s = false
stops Stop column s = s.next.line
stops Context column s = false
stops Par column s = s.next.blank
stops Column column s = s.next.line && nat_le s.next.place.column column

-- the next token reads as the end, whatever it is
abbrev pub is_stopped : Stack → Bool
is_stopped s = stops (judging s).newline (judging s).column s

-- what a line feed does depends on the token behind it
abbrev pub is_context : Newline → Bool
is_context Context = true
is_context _ = false

-- the class as which the next token reads
abbrev pub seen : Stack → Class
seen s =
    if is_context (judging s).newline && s.next.line && not (goes_on (class_of_next s.next.kind)) then classes.End
    else class_of_next s.next.kind

-- a tree of this kind is the last one
abbrev pub is_of_kind : SyntaxKind → Option Event → Bool
is_of_kind kind None = false
is_of_kind kind (Some e) = sameb the_type (kind_of e) kind

-- the last of some events is a tree of this kind
abbrev pub is_last : SyntaxKind → List Event → Bool
is_last kind es = is_of_kind kind (slice_get es (length es - 1))

-- whether a condition holds
abbrev pub holds : Condition → Stack → Bool
holds conditions.Always s = true
holds conditions.Newline s = s.next.line
holds conditions.Direct s = s.next.place.at == s.from.at
holds conditions.Empty s = s.top.trees == 0
holds (conditions.Is n) s = s.top.number == n
holds (conditions.UpTo n) s = nat_le s.top.number n
holds (conditions.Only kind) s = (s.top.trees == 1) && is_last kind s.events
holds (conditions.Last kind) s = nat_lt 0 s.top.trees && is_last kind s.events

-- the first row that fits
abbrev pub first_row : List Row → Stack → Option Row
first_row [] s = None
first_row (r ∷ rs) s = if holds r.condition s then Some r else first_row rs s

-- the row for a class, if there is one
abbrev pub row_for : Table → Class → Stack → Option Row
row_for t class s = first_row (t.rows s.top.state class) s
