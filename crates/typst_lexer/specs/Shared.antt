-- Tokens that several modes have: comments, raw text, escapes and labels. `w` is the next ten bytes of the text, or all
-- that are left.
use Rattle.std.specs.Prelude.{ℕ, ◌+◌, ◌-◌, ◌&&◌, ◌||◌, ◌==◌, nat_le, Bool, List, length, drop, codes, Option, Some, None, if◌then◌else◌}
use Rattle.std.specs.Char.{is_ascii_alphanumeric, is_whitespace}
use Rattle.std.specs.Str.Parse.{digits_value}
use Rattle.typst_lexer.specs.declared.token.TokenKind.{TokenKind}
use Rattle.typst_lexer.specs.declared.token.TokenKind.TheVariants as kinds
use Rattle.typst_lexer.specs.declared.place.Place.{Place}
use Rattle.typst_lexer.specs.declared.place.Place.TheVariants as place
use Rattle.typst_lexer.specs.Characters.{is_code, begins, begins_with}
use Rattle.typst_lexer.specs.Classes.{begins_char, is_newline, is_name_part, is_label_part}
use Rattle.typst_lexer.specs.Escapes.{escape_digits}

-- a comment, or the end of one that hasn't begun
abbrev pub enter_comment : List ℕ → Option Place
enter_comment w =
    if begins_with (codes "//") w then Some place.LineComment
    else (if begins_with (codes "/*") w then Some (place.CommentMark 1)
    else (if begins_with (codes "*/") w then Some (place.Rest kinds.UnexpectedCommentEnd 1)
    else None))

-- A comment of a line goes on to the next newline.
abbrev pub stay_line : Place → List ℕ → Option Place
stay_line here w = if begins_char is_newline w then None else Some here

-- A block comment ends with its own `*/`.
abbrev pub stay_comment : ℕ → List ℕ → Place
stay_comment depth w =
    if begins_with (codes "*/") w then place.CommentMark (depth - 1)
    else (if begins_with (codes "/*") w then place.CommentMark (depth + 1)
    else place.BlockComment depth)

-- After both bytes of a `/*` or `*/` the comment goes on, unless no comment is open.
abbrev pub stay_mark : ℕ → Place
stay_mark depth = if depth == 0 then place.Rest kinds.BlockComment 0 else place.BlockComment depth

-- All backticks that begin raw text open it, and two alone are raw text.
abbrev pub stay_opening : ℕ → List ℕ → Option Place
stay_opening n w =
    if begins_with (codes "`") w then Some (place.RawOpening (n + 1))
    else (if n == 2 then None else Some (place.RawText n 0))

-- Raw text ends with as many backticks as opened it.
abbrev pub stay_raw : ℕ → ℕ → List ℕ → Place
stay_raw n run w =
    if begins_with (codes "`") w then (if run + 1 == n then place.Rest kinds.Raw 0 else place.RawText n (run + 1))
    else place.RawText n 0

-- `\u{` begins an escape by number, `\` before white space or the end is a line break, and `\` before any other
-- character escapes it
abbrev pub enter_escape : List ℕ → Place
enter_escape w =
    if begins_with (codes "\\u{") w then place.EscapeDigits 2
    else (if begins_char is_whitespace (drop 1 w) || (length w == 1) then place.Rest kinds.Linebreak 0
    else place.Rest kinds.Escape 1)

-- After `\u{` come ASCII letters and digits, and `}`.
abbrev pub stay_escape : ℕ → List ℕ → Option Place
stay_escape left w =
    if nat_le 1 left then Some (place.EscapeDigits (left - 1))
    else (if begins is_ascii_alphanumeric w then Some (place.EscapeDigits 0)
    else (if begins_with (codes "}") w then Some place.EscapeEnd
    else None))

-- hexadecimal digits are between the braces of `\u{..}`, and nothing else
abbrev pub has_digits : List ℕ → Bool
has_digits text = nat_le 1 (length (escape_digits text)) && begins_with (codes "}") (drop (3 + length (escape_digits text)) text)

-- the digits of `\u{..}` are the number of a character
abbrev pub is_character : List ℕ → Bool
is_character text = is_code (digits_value 16 (escape_digits text))

-- the kind of `\u{..}`
abbrev pub escape_kind : List ℕ → TokenKind
escape_kind text = if has_digits text && is_character text then kinds.Escape else kinds.InvalidEscape

-- `<` before a character of a name
abbrev pub is_label_start : List ℕ → Bool
is_label_start w = begins_with (codes "<") w && begins_char is_name_part (drop 1 w)

-- A label goes on over characters of labels, and ends with `>`.
abbrev pub stay_label : List ℕ → Option Place
stay_label w =
    if begins_char is_label_part w then Some place.Label
    else (if begins_with (codes ">") w then Some (place.Rest kinds.Label 0) else None)
