-- Classes of characters, and what a text begins with.
use Rattle.std.specs.Prelude.{ℕ, ◌==◌, ◌&&◌, ◌||◌, not, nat_lt, Bool, true, false, List, [], ◌∷◌, codes, Option, Some, None, if◌then◌else◌}
use Rattle.std.specs.Char.{is_whitespace}
use Rattle.std.specs.Char.Unicode.Alphabetic.{is_alphabetic}
use Rattle.std.specs.Char.Unicode.Numeric.{is_numeric}
use Rattle.std.specs.List.{slice_get}
use Rattle.std.specs.Option.{option_map_or}
use Rattle.std.specs.Str.{chars}
use Rattle.ucd_script.specs.Script.{script}
use Rattle.ucd_script.specs.declared.Script.{Script}
use Rattle.ucd_script.specs.declared.Script.TheVariants.{Han, Hiragana, Katakana, Hangul}
use Rattle.unicode_ident.specs.Ident.{is_xid_start, is_xid_continue}
use Rattle.typst_lexer.specs.Characters.{is_code, begins_with}

-- a code, if it is that of a character
abbrev pub char_of : ℕ → Option ℕ
char_of c = if is_code c then Some c else None

-- the first character of a text
abbrev pub first_char : List ℕ → Option ℕ
first_char text = elim (slice_get (chars text) 0) [ None ↦ None | Some c ↦ char_of c ]

-- a text begins with a character of the class
abbrev pub begins_char : (ℕ → Bool) → List ℕ → Bool
begins_char p text = option_map_or p (first_char text) false

-- a newline
abbrev pub is_newline : ℕ → Bool
is_newline c = (c == 10) || (c == 11) || (c == 12) || (c == 13) || (c == 0x85) || (c == 0x2028) || (c == 0x2029)

-- a blank of markup: a space, a tab or a newline
abbrev pub is_blank : ℕ → Bool
is_blank c = (c == 32) || (c == 9) || is_newline c

-- a newline ends here: `\r` and `\n` are one newline, which ends with the `\n`
abbrev pub ends_line : List ℕ → Bool
ends_line w = begins_char is_newline w && not (begins_with (codes "\r\n") w)

-- a character with which a name begins
abbrev pub is_name_start : ℕ → Bool
is_name_start c = is_xid_start c || (c == 95)

-- a character of a name
abbrev pub is_name_part : ℕ → Bool
is_name_part c = is_xid_continue c || (c == 95) || (c == 45)

-- a character of a label
abbrev pub is_label_part : ℕ → Bool
is_label_part c = is_name_part c || (c == 46) || (c == 58)

-- a letter or a number
abbrev pub is_alphanumeric : ℕ → Bool
is_alphanumeric c = is_alphabetic c || is_numeric c

-- a script that puts no spaces between words
abbrev pub is_unspaced : Script → Bool
is_unspaced Han = true
is_unspaced Hiragana = true
is_unspaced Katakana = true
is_unspaced Hangul = true
is_unspaced _ = false

-- a letter or a number of a script that puts spaces between words, as all of ASCII are
abbrev pub is_wordy : ℕ → Bool
is_wordy c = is_alphanumeric c && (nat_lt c 128 || not (is_unspaced (script c)))

-- the end of the text, a white space, or a comment
abbrev pub is_at_blank : List ℕ → Bool
is_at_blank [] = true
is_at_blank (b ∷ bs) =
    begins_char is_whitespace (b ∷ bs) || begins_with (codes "//") (b ∷ bs) || begins_with (codes "/*") (b ∷ bs)
