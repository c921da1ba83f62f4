-- The machine of the lexer: the states that a token goes through, byte by byte. `w` is the next ten bytes of the text,
-- or all that are left.
use Rattle.std.specs.Prelude.{ℕ, ◌-◌, ◌==◌, Bool, true, false, List, codes, Option, Some, None, if◌then◌else◌}
use Rattle.std.specs.Char.{is_whitespace}
use Rattle.typst_lexer.specs.declared.mode.Mode.{Mode}
use Rattle.typst_lexer.specs.declared.mode.Mode.TheVariants.{Markup, Math, Argument, Code, Operator}
use Rattle.typst_lexer.specs.declared.token.TokenKind.{TokenKind}
use Rattle.typst_lexer.specs.declared.token.TokenKind.TheVariants as kinds
use Rattle.typst_lexer.specs.declared.place.Behind.{Behind}
use Rattle.typst_lexer.specs.declared.place.Behind.TheVariants as behind
use Rattle.typst_lexer.specs.declared.place.Place.{Place}
use Rattle.typst_lexer.specs.declared.place.Place.TheVariants as place
use Rattle.typst_lexer.specs.declared.place.Reading.{Reading}
use Rattle.typst_lexer.specs.Characters.{goes_on, begins, begins_with}
use Rattle.typst_lexer.specs.Classes.{begins_char, is_name_part, is_wordy}
use Rattle.typst_lexer.specs.Code.{after_exponent, enter_code, enter_operator, stay_based, stay_fraction, stay_integer, stay_letters, stay_power, stay_sign, stay_string, stay_while}
use Rattle.typst_lexer.specs.Arguments.{enter_argument, stay_argument, stay_argument_name}
use Rattle.typst_lexer.specs.Math.{enter_math, stay_cluster, stay_math_fraction, stay_math_name, stay_math_number, stay_primes}
use Rattle.typst_lexer.specs.Names.{name_kind, plain_name}
use Rattle.typst_lexer.specs.Numbers.{based_kind, whole_kind}
use Rattle.typst_lexer.specs.Shared.{stay_line, stay_comment, stay_mark, stay_opening, stay_raw, stay_escape, escape_kind, stay_label}
use Rattle.typst_lexer.specs.Markup.{enter_markup, heading, stay_space, stay_link, stay_ref, stay_number, stay_large, stay_text}

-- what a token is inside of after its first character
abbrev pub enter : Mode → Behind → List ℕ → Place
enter Markup before w = enter_markup before w
enter Math before w = enter_math w
enter Argument before w = enter_argument w
enter Code before w = enter_code before w
enter Operator before w = enter_operator before w

-- what a token is inside of after one more character, if the character still belongs to it
abbrev pub stay_at : Place → List ℕ → Option Place
stay_at place.Space w = stay_space place.Space place.Line w
stay_at place.Line w = stay_space place.Line place.Parbreak w
stay_at place.Parbreak w = stay_space place.Parbreak place.Parbreak w
stay_at place.LineComment w = stay_line place.LineComment w
stay_at place.Shebang w = stay_line place.Shebang w
stay_at (place.BlockComment depth) w = Some (stay_comment depth w)
stay_at (place.CommentMark depth) w = Some (stay_mark depth)
stay_at (place.RawOpening n) w = stay_opening n w
stay_at (place.RawText n run) w = Some (stay_raw n run w)
stay_at (place.EscapeDigits left) w = stay_escape left w
stay_at place.EscapeEnd w = None
stay_at (place.Link brackets) w = stay_link brackets w
stay_at (place.LinkMark brackets) w = stay_link brackets w
stay_at place.Label w = stay_label w
stay_at place.Ref w = stay_ref w
stay_at place.RefMark w = stay_ref w
stay_at place.Heading w = Some (heading w)
stay_at (place.EnumNumber value) w = stay_number value w
stay_at place.LargeNumber w = stay_large w
stay_at place.Text w = stay_text w
stay_at place.Blank w = stay_while is_whitespace place.Blank w
stay_at place.Integer w = stay_integer w
stay_at place.Based w = stay_based w
stay_at place.Fraction w = stay_fraction w
stay_at place.Exponent w = after_exponent w
stay_at place.ExponentSign w = stay_sign w
stay_at place.Power w = stay_power w
stay_at (place.Letters kind) w = stay_letters kind w
stay_at place.Str w = Some (stay_string w)
stay_at place.StrEscape w = Some place.Str
stay_at place.Name w = stay_while is_name_part place.Name w
stay_at place.FieldName w = stay_while is_name_part place.FieldName w
stay_at (place.Cluster kind cluster) w = stay_cluster kind cluster w
stay_at (place.MathName single cluster) w = stay_math_name single cluster w
stay_at place.MathNumber w = stay_math_number w
stay_at place.MathFraction w = stay_math_fraction w
stay_at place.Primes w = stay_primes w
stay_at (place.ArgumentFirst kind) w = stay_argument w
stay_at (place.ArgumentName single cluster) w = stay_argument_name single cluster w
stay_at place.ArgumentRest w = stay_argument w
stay_at (place.Rest kind more) w = if more == 0 then None else Some (place.Rest kind (more - 1))

-- the kind of a token that ends inside of this
abbrev pub kind_of : Place → List ℕ → TokenKind
kind_of place.Space text = kinds.Space
kind_of place.Line text = kinds.Space
kind_of place.Parbreak text = kinds.Parbreak
kind_of place.LineComment text = kinds.LineComment
kind_of place.Shebang text = kinds.Shebang
kind_of (place.BlockComment depth) text = kinds.BlockComment
kind_of (place.CommentMark depth) text = kinds.BlockComment
kind_of (place.RawOpening n) text = if n == 2 then kinds.Raw else kinds.UnclosedRaw
kind_of (place.RawText n run) text = kinds.UnclosedRaw
kind_of (place.EscapeDigits left) text = kinds.UnclosedEscape
kind_of place.EscapeEnd text = escape_kind text
kind_of (place.Link brackets) text = if brackets == 0 then kinds.Link else kinds.UnbalancedLink
kind_of (place.LinkMark brackets) text = if brackets == 0 then kinds.Link else kinds.UnbalancedLink
kind_of place.Label text = kinds.UnclosedLabel
kind_of place.Ref text = kinds.RefMarker
kind_of place.RefMark text = kinds.RefMarker
kind_of place.Heading text = kinds.Text
kind_of (place.EnumNumber value) text = kinds.Text
kind_of place.LargeNumber text = kinds.Text
kind_of place.Text text = kinds.Text
kind_of place.Blank text = kinds.Space
kind_of place.Integer text = whole_kind text
kind_of place.Based text = based_kind text
kind_of place.Fraction text = kinds.Float
kind_of place.Exponent text = kinds.InvalidFloat
kind_of place.ExponentSign text = kinds.InvalidFloat
kind_of place.Power text = kinds.Float
kind_of (place.Letters kind) text = kind
kind_of place.Str text = kinds.UnclosedStr
kind_of place.StrEscape text = kinds.UnclosedStr
kind_of place.Name text = name_kind text
kind_of place.FieldName text = plain_name text
kind_of (place.Cluster kind cluster) text = kind
kind_of (place.MathName single cluster) text = if single then kinds.MathLetter else kinds.MathIdent
kind_of place.MathNumber text = kinds.MathText
kind_of place.MathFraction text = kinds.MathText
kind_of place.Primes text = kinds.MathPrimes
kind_of (place.ArgumentFirst kind) text = kind
kind_of (place.ArgumentName single cluster) text = if single then kinds.MathLetter else kinds.MathIdent
kind_of place.ArgumentRest text = kinds.ArgumentName
kind_of (place.Rest kind more) text = kind

-- A token may end inside of this: anywhere but after the marks that a link or a reference doesn't end with, and in a name
-- that can only be an argument's.
abbrev pub may_end : Place → Bool
may_end (place.LinkMark brackets) = false
may_end place.RefMark = false
may_end place.ArgumentRest = false
may_end _ = true

-- A token may end in this state.
abbrev pub accepts : Reading → Bool
accepts s = may_end s.place

-- there is a dot before the place
abbrev pub is_dot : Behind → Bool
is_dot behind.Dot = true
is_dot behind.Dots = true
is_dot _ = false

-- what is directly before the place after a character, given what was before the character
abbrev pub behind_char : Behind → List ℕ → Behind
behind_char before w =
    if begins_with (codes ".") w then (if is_dot before then behind.Dots else behind.Dot)
    else (if begins_with (codes "@") w then behind.At
    else (if begins_char is_wordy w then behind.Word
    else behind.Other))

-- The state after a byte. The first byte of a character decides what the character is.
abbrev pub reading : Place → Behind → List ℕ → Reading
reading now before w = record { place = now; behind = if begins goes_on w then before else behind_char before w }

-- the state after the first byte of a token
abbrev pub begin : Mode → Behind → List ℕ → Reading
begin mode before w = reading (enter mode before w) before w

-- A byte that continues a character belongs to the character's token.
abbrev pub stay_inside : Reading → List ℕ → Option Place
stay_inside s w = if begins goes_on w then Some s.place else stay_at s.place w

-- the state after one more byte, if the byte still belongs to the token
abbrev pub stay : Reading → List ℕ → Option Reading
stay s w = elim (stay_inside s w) [ None ↦ None | Some now ↦ Some (reading now s.behind w) ]

-- the largest number that is counted
abbrev pub count_of : Place → ℕ
count_of (place.BlockComment depth) = depth
count_of (place.CommentMark depth) = depth
count_of (place.RawOpening n) = n
count_of (place.RawText n run) = run
count_of _ = 0

-- the largest number that is counted in a state
abbrev pub count : Reading → ℕ
count s = count_of s.place
