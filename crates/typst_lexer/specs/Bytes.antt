-- What an ASCII byte decides at once. Private functions test for it before they go by the rules.
use Rattle.std.specs.Prelude.{ℕ, suc, ◌==◌, ◌&&◌, ◌||◌, not, nat_le, nat_lt, Bool, true, false, List, [], ◌∷◌, length, if◌then◌else◌}
use Rattle.std.specs.Char.{is_ascii_alphabetic, is_ascii_alphanumeric, is_ascii_digit, is_whitespace}
use Rattle.std.specs.List.{take_while}
use Rattle.ucd_breaks.specs.declared.GraphemeClusterBreak.{GraphemeClusterBreak}
use Rattle.ucd_breaks.specs.declared.GraphemeClusterBreak.TheVariants as breaks
use Rattle.typst_lexer.specs.declared.place.Behind.{Behind}
use Rattle.typst_lexer.specs.declared.place.Behind.TheVariants as behind
use Rattle.typst_lexer.specs.declared.place.Place.{Place}
use Rattle.typst_lexer.specs.declared.place.Place.TheVariants as place
use Rattle.typst_lexer.specs.Characters.{begins, is_name, is_white}
use Rattle.typst_lexer.specs.Classes.{is_blank, is_newline}
use Rattle.typst_lexer.specs.Code.{is_suffix}
use Rattle.typst_lexer.specs.Letters.{is_letter}

-- what is directly before a place after the byte, which is no dot
abbrev pub behind_byte : ℕ → Behind
behind_byte b = if b == 64 then behind.At else (if is_ascii_alphanumeric b then behind.Word else behind.Other)

-- the same after the first byte
abbrev pub behind_first : List ℕ → Behind
behind_first [] = behind.Other
behind_first (b ∷ bs) = behind_byte b

-- a byte of ASCII that is no dot
abbrev pub is_undotted : ℕ → Bool
is_undotted b = nat_lt b 128 && not (b == 46)

-- a byte of a string that neither ends it nor escapes, but no dot
abbrev pub is_quoted : ℕ → Bool
is_quoted b = nat_lt b 128 && not ((b == 34) || (b == 92) || (b == 46))

-- a byte of the comment of a line, but no dot
abbrev pub is_commented : ℕ → Bool
is_commented b = nat_lt b 128 && not (is_newline b || (b == 46))

-- a byte of raw text, but no dot
abbrev pub is_raw : ℕ → Bool
is_raw b = nat_lt b 128 && not ((b == 96) || (b == 46))

-- a digit, or one of `!%(),;?`
abbrev pub is_mark : ℕ → Bool
is_mark b = is_ascii_digit b || (b == 33) || (b == 37) || (b == 40) || (b == 41) || (b == 44) || (b == 59) || (b == 63)

-- a byte of ASCII, but no `t`
abbrev pub is_no_t : ℕ → Bool
is_no_t b = nat_lt b 128 && not (b == 116)

-- A text begins with a letter, a mark, a blank before a letter, or an `h` that begins no link.
abbrev pub goes_over_text : List ℕ → Bool
goes_over_text [] = false
goes_over_text (b ∷ bs) = is_letter b || is_mark b || ((b == 32) && begins is_ascii_alphabetic bs) || ((b == 104) && begins is_no_t bs)

-- how many bytes from the front on text goes over
abbrev pub text_len : List ℕ → ℕ
text_len [] = 0
text_len (b ∷ bs) = if goes_over_text (b ∷ bs) then suc (text_len bs) else 0

-- A token inside of this goes on over the first byte, and is inside of the same after it.
abbrev pub goes_over : Place → List ℕ → Bool
goes_over place.Text bytes = goes_over_text bytes
goes_over place.Blank bytes = begins is_white bytes
goes_over place.Name bytes = begins is_name bytes
goes_over place.FieldName bytes = begins is_name bytes
goes_over place.Str bytes = begins is_quoted bytes
goes_over place.LineComment bytes = begins is_commented bytes
goes_over (place.RawText n run) bytes = (run == 0) && begins is_raw bytes
goes_over _ bytes = false

-- how many bytes from the front on a token inside of this goes over
abbrev pub easy_len : Place → List ℕ → ℕ
easy_len place.Text bytes = text_len bytes
easy_len place.Blank bytes = length (take_while is_white bytes)
easy_len place.Name bytes = length (take_while is_name bytes)
easy_len place.FieldName bytes = length (take_while is_name bytes)
easy_len place.Str bytes = length (take_while is_quoted bytes)
easy_len place.LineComment bytes = length (take_while is_commented bytes)
easy_len (place.RawText n run) bytes = if run == 0 then length (take_while is_raw bytes) else 0
easy_len _ bytes = 0

-- white space but a blank, or one of `"#$'*:<>[\]_~` and a backtick, before which text ends, whatever comes next
abbrev pub is_text_end : ℕ → Bool
is_text_end b =
    (nat_le 9 b && nat_le b 13) || (b == 34) || (b == 35) || (b == 36) || (b == 39) || (b == 42) || (b == 58) || (b == 60) || (b == 62)
    || (b == 91) || (b == 92) || (b == 93) || (b == 95) || (b == 96) || (b == 126)

-- the class that most characters have
abbrev pub is_other : GraphemeClusterBreak → Bool
is_other breaks.Other = true
is_other _ = false

-- A token inside of this ends before the byte, if that is one of ASCII.
abbrev pub ends_before : Place → ℕ → Bool
ends_before place.Space b = not (is_blank b)
ends_before place.Line b = not (is_blank b)
ends_before place.Parbreak b = not (is_blank b)
ends_before place.Text b = is_text_end b
ends_before place.Blank b = not (is_whitespace b)
ends_before place.Integer b = not (is_suffix b || (b == 46))
ends_before place.Name b = not (is_name b)
ends_before place.FieldName b = not (is_name b)
ends_before (place.Cluster kind cluster) b = is_other cluster.last
ends_before (place.MathName single cluster) b = not (is_ascii_alphanumeric b)
ends_before place.MathNumber b = not (is_ascii_digit b || (b == 46))
ends_before (place.Rest kind more) b = more == 0
ends_before _ b = false

-- The byte is one of ASCII, and a token inside of this ends before it.
abbrev pub ends_at : Place → ℕ → Bool
ends_at p b = nat_lt b 128 && ends_before p b

-- a bracket, or one of `$,;:`, which is a token of code by itself
abbrev pub is_bracket : ℕ → Bool
is_bracket b =
    (b == 123) || (b == 125) || (b == 91) || (b == 93) || (b == 40) || (b == 41) || (b == 36) || (b == 44) || (b == 59) || (b == 58)

-- an ASCII byte with which no shorthand of math begins
abbrev pub is_alone : ℕ → Bool
is_alone b =
    nat_lt b 128
    && not ((b == 60) || (b == 45) || (b == 124) || (b == 62) || (b == 126) || (b == 61) || (b == 46) || (b == 58) || (b == 33) || (b == 91) || (b == 42))

-- a character of ASCII that is no control character
abbrev pub is_simple : ℕ → Bool
is_simple c = nat_le 32 c && nat_le c 126
