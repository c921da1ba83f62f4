-- Which token of code begins at a place, and how it goes on: the first rule that fits decides. `w` is the next ten bytes
-- of the text, or all that are left.
use Rattle.std.specs.Prelude.{ℕ, ◌==◌, ◌&&◌, ◌||◌, not, Bool, true, false, List, length, drop, codes, Option, Some, None, if◌then◌else◌}
use Rattle.std.specs.Char.{is_ascii_digit, is_ascii_alphanumeric, is_whitespace}
use Rattle.std.specs.List.{take_while}
use Rattle.std.specs.Str.{bytes_eq}
use Rattle.typst_lexer.specs.declared.token.TokenKind.{TokenKind}
use Rattle.typst_lexer.specs.declared.token.TokenKind.TheVariants as kinds
use Rattle.typst_lexer.specs.declared.place.Behind.{Behind}
use Rattle.typst_lexer.specs.declared.place.Behind.TheVariants as behind
use Rattle.typst_lexer.specs.declared.place.Place.{Place}
use Rattle.typst_lexer.specs.declared.place.Place.TheVariants as place
use Rattle.typst_lexer.specs.Characters.{begins, begins_with}
use Rattle.typst_lexer.specs.Classes.{begins_char, is_name_start, is_name_part}
use Rattle.typst_lexer.specs.Shared.{enter_comment, is_label_start}

-- A place that goes on over characters of the class.
abbrev pub stay_while : (ℕ → Bool) → Place → List ℕ → Option Place
stay_while p here w = if begins_char p w then Some here else None

-- a dot or `@` is before the place, after which a keyword is a name
abbrev pub is_field : Behind → Bool
is_field behind.Dot = true
is_field behind.At = true
is_field _ = false

-- `0b`, `0o` or `0x`
abbrev pub is_based : List ℕ → Bool
is_based w = begins_with (codes "0b") w || begins_with (codes "0o") w || begins_with (codes "0x") w

-- a dot before a digit
abbrev pub is_fraction : List ℕ → Bool
is_fraction w = begins_with (codes ".") w && begins is_ascii_digit (drop 1 w)

-- an ASCII letter, a digit or `%`, of which the suffix of a number is made
abbrev pub is_suffix : ℕ → Bool
is_suffix b = is_ascii_alphanumeric b || (b == 37)

-- a unit of two letters
abbrev pub is_short_unit : List ℕ → Bool
is_short_unit s =
    bytes_eq s (codes "pt") || bytes_eq s (codes "mm") || bytes_eq s (codes "cm") || bytes_eq s (codes "in") || bytes_eq s (codes "em")
    || bytes_eq s (codes "fr")

-- a unit of three letters
abbrev pub is_long_unit : List ℕ → Bool
is_long_unit s = bytes_eq s (codes "deg") || bytes_eq s (codes "rad")

-- Letters that belong to a number of this kind go on.
abbrev pub stay_letters : TokenKind → List ℕ → Option Place
stay_letters kind w = if begins is_suffix w then Some (place.Letters kind) else None

-- A number that begins with `0b`, `0o` or `0x` goes on over letters and digits, which are judged at its end.
abbrev pub stay_based : List ℕ → Option Place
stay_based w = if begins is_suffix w then Some place.Based else None

-- the first character of a number's suffix, which is a unit or wrong
abbrev pub enter_suffix : List ℕ → Place
enter_suffix w =
    if bytes_eq (take_while is_suffix w) (codes "%") then place.Rest kinds.Numeric 0
    else (if is_short_unit (take_while is_suffix w) then place.Rest kinds.Numeric 1
    else (if is_long_unit (take_while is_suffix w) then place.Rest kinds.Numeric 2
    else place.Letters kinds.InvalidSuffix))

-- A number goes on with its suffix.
abbrev pub stay_unit : List ℕ → Option Place
stay_unit w = if begins is_suffix w then Some (enter_suffix w) else None

-- A number goes on with its exponent, which `em` isn't, or with its suffix.
abbrev pub stay_exponent : List ℕ → Option Place
stay_exponent w =
    if (begins_with (codes "e") w || begins_with (codes "E") w) && not (begins_with (codes "em") w) then Some place.Exponent
    else stay_unit w

-- A number goes on with digits, and with a dot if neither a dot nor a name follows that.
abbrev pub stay_integer : List ℕ → Option Place
stay_integer w =
    if begins is_ascii_digit w then Some place.Integer
    else (if begins_with (codes ".") w && not (begins_with (codes "..") w || begins_char is_name_start (drop 1 w)) then Some place.Fraction
    else stay_exponent w)

-- After the dot of a number come digits.
abbrev pub stay_fraction : List ℕ → Option Place
stay_fraction w = if begins is_ascii_digit w then Some place.Fraction else stay_exponent w

-- After the sign of an exponent come digits.
abbrev pub stay_sign : List ℕ → Option Place
stay_sign w = if begins is_ascii_digit w then Some place.Power else stay_letters kinds.InvalidFloat w

-- After the letter of an exponent come a sign and digits.
abbrev pub after_exponent : List ℕ → Option Place
after_exponent w =
    if begins_with (codes "+") w || begins_with (codes "-") w then Some place.ExponentSign else stay_sign w

-- The digits of an exponent go on.
abbrev pub stay_power : List ℕ → Option Place
stay_power w = if begins is_ascii_digit w then Some place.Power else stay_unit w

-- A string ends with a quote that isn't escaped.
abbrev pub stay_string : List ℕ → Place
stay_string w =
    if begins_with (codes "\"") w then place.Rest kinds.Str 0
    else (if begins_with (codes "\\") w then place.StrEscape else place.Str)

-- a minus sign, as it is written in mathematics
abbrev pub is_minus : ℕ → Bool
is_minus c = c == 0x2212

-- this name begins here, and ends with it
abbrev pub is_word_here : List ℕ → List ℕ → Bool
is_word_here word w = begins_with word w && not (begins_char is_name_part (drop (length word) w))

-- A name begins here that a field may have: it isn't `_` alone.
abbrev pub begins_field_name : List ℕ → Bool
begins_field_name w = begins_char is_name_start w && not (is_word_here (codes "_") w)

-- a dot, alone or directly before the name of a field
abbrev pub enter_dot : List ℕ → Place
enter_dot w = if begins_field_name (drop 1 w) then place.Rest kinds.Field 0 else place.Rest kinds.Dot 0

-- a bracket or a sign that separates, or another kind of token
abbrev pub enter_bracket : TokenKind → List ℕ → Place
enter_bracket other w =
    if begins_with (codes "{") w then place.Rest kinds.LeftBrace 0
    else (if begins_with (codes "}") w then place.Rest kinds.RightBrace 0
    else (if begins_with (codes "[") w then place.Rest kinds.LeftBracket 0
    else (if begins_with (codes "]") w then place.Rest kinds.RightBracket 0
    else (if begins_with (codes "(") w then place.Rest kinds.LeftParen 0
    else (if begins_with (codes ")") w then place.Rest kinds.RightParen 0
    else (if begins_with (codes "$") w then place.Rest kinds.Dollar 0
    else (if begins_with (codes ",") w then place.Rest kinds.Comma 0
    else (if begins_with (codes ";") w then place.Rest kinds.Semicolon 0
    else (if begins_with (codes ":") w then place.Rest kinds.Colon 0
    else place.Rest other 0)))))))))

-- a sign of one character
abbrev pub enter_one : TokenKind → List ℕ → Place
enter_one other w =
    if begins_with (codes ".") w then enter_dot w
    else (if begins_with (codes "+") w then place.Rest kinds.Plus 0
    else (if begins_with (codes "-") w || begins_char is_minus w then place.Rest kinds.Minus 0
    else (if begins_with (codes "*") w then place.Rest kinds.Star 0
    else (if begins_with (codes "/") w then place.Rest kinds.Slash 0
    else (if begins_with (codes "=") w then place.Rest kinds.Eq 0
    else (if begins_with (codes "<") w then place.Rest kinds.Lt 0
    else (if begins_with (codes ">") w then place.Rest kinds.Gt 0
    else enter_bracket other w)))))))

-- a sign of two characters or one, or another kind of token
abbrev pub enter_operator_sign : TokenKind → List ℕ → Place
enter_operator_sign other w =
    if begins_with (codes "==") w then place.Rest kinds.EqEq 1
    else (if begins_with (codes "!=") w then place.Rest kinds.ExclEq 1
    else (if begins_with (codes "<=") w then place.Rest kinds.LtEq 1
    else (if begins_with (codes ">=") w then place.Rest kinds.GtEq 1
    else (if begins_with (codes "+=") w then place.Rest kinds.PlusEq 1
    else (if begins_with (codes "-=") w || (begins_char is_minus w && begins_with (codes "=") (drop 3 w)) then place.Rest kinds.HyphEq 1
    else (if begins_with (codes "*=") w then place.Rest kinds.StarEq 1
    else (if begins_with (codes "/=") w then place.Rest kinds.SlashEq 1
    else (if begins_with (codes "..") w then place.Rest kinds.Dots 1
    else (if begins_with (codes "=>") w then place.Rest kinds.Arrow 1
    else enter_one other w)))))))))

-- raw text, a label, a number, a string, a name, or a sign
abbrev pub enter_expression : Behind → List ℕ → Place
enter_expression before w =
    if begins_with (codes "`") w then place.RawOpening 1
    else (if is_label_start w then place.Label
    else (if is_based w then place.Based
    else (if begins is_ascii_digit w then place.Integer
    else (if is_fraction w then place.Fraction
    else (if begins_with (codes "\"") w then place.Str
    else (if begins_char is_name_start w then (if is_field before then place.FieldName else place.Name)
    else enter_operator_sign kinds.InvalidCharacter w))))))

-- What a token of code is inside of after its first character, given what is before the token: white space, comments,
-- and expressions.
abbrev pub enter_code : Behind → List ℕ → Place
enter_code before w =
    if begins_char is_whitespace w then place.Blank
    else elim (enter_comment w) [ None ↦ enter_expression before w | Some p ↦ p ]

-- a keyword that may come where an operator may, or another token
abbrev pub enter_word : List ℕ → Place
enter_word w =
    if is_word_here (codes "not") w then place.Rest kinds.Not 2
    else (if is_word_here (codes "and") w then place.Rest kinds.And 2
    else (if is_word_here (codes "or") w then place.Rest kinds.Or 1
    else (if is_word_here (codes "in") w then place.Rest kinds.In 1
    else (if is_word_here (codes "if") w then place.Rest kinds.If 1
    else (if is_word_here (codes "else") w then place.Rest kinds.Else 3
    else (if is_word_here (codes "as") w then place.Rest kinds.As 1
    else place.Rest kinds.Other 0))))))

-- an operator, or another token, of which only the first character is read
abbrev pub enter_operation : Behind → List ℕ → Place
enter_operation before w =
    if is_label_start w || begins is_ascii_digit w || is_fraction w then place.Rest kinds.Other 0
    else (if begins_char is_name_start w then (if is_field before then place.Rest kinds.Other 0 else enter_word w)
    else enter_operator_sign kinds.Other w)

-- What a token is inside of after its first character, where only an operator may come: white space, comments, and
-- operators.
abbrev pub enter_operator : Behind → List ℕ → Place
enter_operator before w =
    if begins_char is_whitespace w then place.Blank
    else elim (enter_comment w) [ None ↦ enter_operation before w | Some p ↦ p ]
