-- Which token of markup begins at a place, and how it goes on: the first rule that fits decides. `w` is the next ten
-- bytes of the text, or all that are left.
use Rattle.std.specs.Prelude.{ℕ, ◌+◌, ◌-◌, ◌*◌, ◌/◌, ◌%◌, ◌^◌, ◌==◌, ◌&&◌, ◌||◌, not, nat_lt, Bool, true, false, List, [], ◌∷◌, drop, codes, Option, Some, None, if◌then◌else◌}
use Rattle.std.specs.Char.{is_ascii_digit, is_ascii_alphanumeric, is_whitespace}
use Rattle.std.specs.Char.Unicode.Numeric.{is_numeric}
use Rattle.typst_lexer.specs.declared.token.TokenKind.TheVariants as kinds
use Rattle.typst_lexer.specs.declared.place.Behind.{Behind}
use Rattle.typst_lexer.specs.declared.place.Behind.TheVariants as behind
use Rattle.typst_lexer.specs.declared.place.Place.{Place}
use Rattle.typst_lexer.specs.declared.place.Place.TheVariants as place
use Rattle.typst_lexer.specs.Characters.{begins, begins_with}
use Rattle.typst_lexer.specs.Classes.{begins_char, ends_line, is_blank, is_name_part, is_label_part, is_alphanumeric, is_wordy, is_at_blank}
use Rattle.typst_lexer.specs.Shared.{enter_comment, enter_escape, is_label_start}

-- nothing is before the place
abbrev pub is_start : Behind → Bool
is_start behind.Start = true
is_start _ = false

-- a wordy character is before the place
abbrev pub is_word : Behind → Bool
is_word behind.Word = true
is_word _ = false

-- wordy characters are on both sides of the next character
abbrev pub is_in_word : Behind → List ℕ → Bool
is_in_word before w = is_word before && begins_char is_wordy (drop 1 w)

-- White space of markup goes on over blanks. Its newlines are counted up to two.
abbrev pub stay_space : Place → Place → List ℕ → Option Place
stay_space same more w =
    if ends_line w then Some more
    else (if begins_char is_blank w then Some same else None)

-- `http://` or `https://`
abbrev pub is_link_start : List ℕ → Bool
is_link_start w = begins_with (codes "http://") w || begins_with (codes "https://") w

-- an ASCII letter, a digit, or one of `#$%&*+-/=@_~`
abbrev pub is_link : ℕ → Bool
is_link b =
    is_ascii_alphanumeric b || (b == 35) || (b == 36) || (b == 37) || (b == 38) || (b == 42) || (b == 43) || (b == 45) || (b == 47)
    || (b == 61) || (b == 64) || (b == 95) || (b == 126)

-- one of `!,.:;?'`, which a link has but doesn't end with
abbrev pub is_link_mark : ℕ → Bool
is_link_mark b = (b == 33) || (b == 44) || (b == 46) || (b == 58) || (b == 59) || (b == 63) || (b == 39)

-- A link goes on over its characters, over opening brackets, of which at least 62 may be open at once, and over a bracket
-- that closes the innermost open one.
abbrev pub stay_link : ℕ → List ℕ → Option Place
stay_link brackets w =
    if begins is_link w then Some (place.Link brackets)
    else (if begins is_link_mark w then Some (place.LinkMark brackets)
    else (if begins_with (codes "(") w && nat_lt brackets (2 ^ 62) then Some (place.Link (brackets * 2 + 1))
    else (if begins_with (codes "[") w && nat_lt brackets (2 ^ 62) then Some (place.Link (brackets * 2 + 2))
    else (if begins_with (codes ")") w && (brackets % 2 == 1) then Some (place.Link (brackets / 2))
    else (if begins_with (codes "]") w && (brackets % 2 == 0) && nat_lt 0 brackets then Some (place.Link (brackets / 2 - 1))
    else None)))))

-- `@` before a character of a name
abbrev pub is_ref_start : List ℕ → Bool
is_ref_start w = begins_with (codes "@") w && begins_char is_name_part (drop 1 w)

-- A reference goes on over characters of labels, but doesn't end with `.` or `:`.
abbrev pub stay_ref : List ℕ → Option Place
stay_ref w =
    if begins_with (codes ".") w || begins_with (codes ":") w then Some place.RefMark
    else (if begins_char is_name_part w then Some place.Ref else None)

-- the length of the shorthand that begins here, or 0
abbrev pub shorthand_len : List ℕ → ℕ
shorthand_len w =
    if begins_with (codes "...") w || begins_with (codes "---") w then 3
    else (if begins_with (codes "--") w || begins_with (codes "-?") w then 2
    else (if begins_with (codes "~") w || (begins_with (codes "-") w && begins_char is_numeric (drop 1 w)) then 1
    else 0))

-- after a `=`: another `=` follows, or the marker ends, or it is text
abbrev pub heading : List ℕ → Place
heading w =
    if begins_with (codes "=") (drop 1 w) then place.Heading
    else (if is_at_blank (drop 1 w) then place.Rest kinds.HeadingMarker 0
    else place.Text)

-- the number of digits that a marker may have, and of one digit more
abbrev pub digits_with : ℕ → ℕ → Place
digits_with value digit =
    if nat_lt (value * 10 + digit) (2 ^ 64) then place.EnumNumber (value * 10 + digit) else place.LargeNumber

-- the value of the digit that a text begins with
abbrev pub first_digit : List ℕ → ℕ
first_digit [] = 0
first_digit (b ∷ bs) = b - 48

-- one of ``/[]~-.'"*_:h`$<>@#`` or a backslash
abbrev pub is_sign : ℕ → Bool
is_sign c =
    (c == 92) || (c == 47) || (c == 91) || (c == 93) || (c == 126) || (c == 45) || (c == 46) || (c == 39) || (c == 34) || (c == 42)
    || (c == 95) || (c == 58) || (c == 104) || (c == 96) || (c == 36) || (c == 60) || (c == 62) || (c == 64) || (c == 35)

-- any other character but white space
abbrev pub is_plain : ℕ → Bool
is_plain c = not (is_whitespace c || is_sign c)

-- `/` that begins no comment
abbrev pub is_slash : List ℕ → Bool
is_slash w = begins_with (codes "/") w && not (begins_with (codes "//") w || begins_with (codes "/*") w)

-- `-` that begins no shorthand
abbrev pub is_hyphen : List ℕ → Bool
is_hyphen w =
    begins_with (codes "-") w && not (begins_with (codes "--") w || begins_with (codes "-?") w || begins_char is_numeric (drop 1 w))

-- a space before a letter or a number
abbrev pub is_space_in_text : List ℕ → Bool
is_space_in_text w = begins_with (codes " ") w && begins_char is_alphanumeric (drop 1 w)

-- `.` that begins no shorthand
abbrev pub is_period : List ℕ → Bool
is_period w = begins_with (codes ".") w && not (begins_with (codes "...") w)

-- `h` that begins no link
abbrev pub is_letter_h : List ℕ → Bool
is_letter_h w = begins_with (codes "h") w && not (is_link_start w)

-- `@` that no character of a label follows
abbrev pub is_at_sign : List ℕ → Bool
is_at_sign w = begins_with (codes "@") w && not (begins_char is_label_part (drop 1 w))

-- Text goes on over plain characters, over a space before a letter or a number, and over a sign where it begins no token.
abbrev pub text_goes_on : List ℕ → Bool
text_goes_on w =
    begins_char is_plain w || is_space_in_text w || is_slash w || is_hyphen w || is_period w || is_letter_h w || is_at_sign w

-- what text is inside of after one more character, if it goes on
abbrev pub stay_text : List ℕ → Option Place
stay_text w = if text_goes_on w then Some place.Text else None

-- Digits go on as a number. With a dot, at the end or before a blank, they are a marker, and otherwise text.
abbrev pub stay_number : ℕ → List ℕ → Option Place
stay_number value w =
    if begins is_ascii_digit w then Some (digits_with value (first_digit w))
    else (if begins_with (codes ".") w then Some (if is_at_blank (drop 1 w) then place.Rest kinds.EnumMarker 0 else place.Text)
    else stay_text w)

-- Digits whose number is too large are text, with the dot after them.
abbrev pub stay_large : List ℕ → Option Place
stay_large w =
    if begins is_ascii_digit w then Some place.LargeNumber
    else (if begins_with (codes ".") w then Some place.Text
    else stay_text w)

-- a marker at the end or before a blank, or text
abbrev pub enter_marker : List ℕ → Place
enter_marker w =
    if begins_with (codes "=") w then heading w
    else (if begins_with (codes "-") w && is_at_blank (drop 1 w) then place.Rest kinds.ListMarker 0
    else (if begins_with (codes "+") w && is_at_blank (drop 1 w) then place.Rest kinds.EnumMarker 0
    else (if begins_with (codes "/") w && is_at_blank (drop 1 w) then place.Rest kinds.TermMarker 0
    else (if begins is_ascii_digit w then place.EnumNumber (first_digit w)
    else place.Text))))

-- a sign that is a token by itself, or a marker, or text
abbrev pub enter_sign : Behind → List ℕ → Place
enter_sign before w =
    if begins_with (codes "*") w && not (is_in_word before w) then place.Rest kinds.Star 0
    else (if begins_with (codes "_") w && not (is_in_word before w) then place.Rest kinds.Underscore 0
    else (if begins_with (codes "#") w then place.Rest kinds.Hash 0
    else (if begins_with (codes "[") w then place.Rest kinds.LeftBracket 0
    else (if begins_with (codes "]") w then place.Rest kinds.RightBracket 0
    else (if begins_with (codes "'") w || begins_with (codes "\"") w then place.Rest kinds.SmartQuote 0
    else (if begins_with (codes "$") w then place.Rest kinds.Dollar 0
    else (if begins_with (codes ":") w then place.Rest kinds.Colon 0
    else enter_marker w)))))))

-- a token of more characters, or a sign, or a marker, or text
abbrev pub enter_content : Behind → List ℕ → Place
enter_content before w =
    if begins_with (codes "`") w then place.RawOpening 1
    else (if begins_with (codes "\\") w then enter_escape w
    else (if is_link_start w then place.Link 0
    else (if is_label_start w then place.Label
    else (if is_ref_start w then place.Ref
    else (if nat_lt 0 (shorthand_len w) then place.Rest kinds.Shorthand (shorthand_len w - 1)
    else enter_sign before w)))))

-- What a token of markup is inside of after its first character, given what is before the token: white space, `#!` at
-- the beginning, comments, and content.
abbrev pub enter_markup : Behind → List ℕ → Place
enter_markup before w =
    if ends_line w then place.Line
    else (if begins_char is_blank w then place.Space
    else (if is_start before && begins_with (codes "#!") w then place.Shebang
    else elim (enter_comment w) [ None ↦ enter_content before w | Some p ↦ p ]))
