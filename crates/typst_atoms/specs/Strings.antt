-- The value of a quoted string, over the list of its characters.
use Rattle.std.specs.Prelude.{ℕ, zero, suc, ◌+◌, Bool, false, cond, ◌==◌, nat_lt, List, [], ◌∷◌, ◌++◌, take, drop, Option, Some, None, ◌&&◌, ◌≡◌, ◌≢◌, ◌⊎◌}
use Rattle.std.specs.Char.{is_digit}
use Rattle.std.specs.List.{prefix_len}
use Rattle.std.specs.Str.{chars}
use Rattle.std.specs.Str.Parse.{digits_value}
use Rattle.typst_atoms.specs.CodePoints.{hex_run, is_code}
use lib.Utf8.{encodes}

-- the body is the text between two quotes, which are byte 34; if they are missing, it is the whole text
abbrev pub IsStringBody : List ℕ → List ℕ → Type 0
IsStringBody bs body =
    (bs ≡ 34 ∷ (body ++ 34 ∷ []))
    ⊎ (((inner : List ℕ) → bs ≢ 34 ∷ (inner ++ 34 ∷ [])) × (body ≡ bs))

-- the character that a backslash and one character stand for: a backslash, a quote, a line feed, a carriage return or a
-- tab
abbrev pub simple_escape : ℕ → Option ℕ
simple_escape c =
    cond (c == 92) (Some 92)
    (cond (c == 34) (Some 34)
    (cond (c == 110) (Some 10) (cond (c == 114) (Some 13) (cond (c == 116) (Some 9) None))))

-- the first character is c
abbrev pub begins_with : ℕ → List ℕ → Bool
begins_with c [] = false
begins_with c (x ∷ xs) = x == c

-- the number of hexadecimal digits at the beginning
abbrev pub hex_len : List ℕ → ℕ
hex_len cs = prefix_len (λ c. is_digit c 16) cs

-- How many characters after a backslash belong to it: `u{`, the hexadecimal digits after it, and one `}` if it comes
-- next; otherwise one character, if there is one.
abbrev pub escape_len : List ℕ → ℕ
escape_len [] = 0
escape_len (c ∷ cs) =
    cond ((c == 117) && begins_with 123 cs)
    (cond (begins_with 125 (drop (hex_len (drop 1 cs)) (drop 1 cs))) (hex_len (drop 1 cs) + 3) (hex_len (drop 1 cs) + 2))
    1

-- the character whose code is the number of the hexadecimal digits, if there is a digit and such a character
abbrev pub code_char : List ℕ → Option ℕ
code_char cs =
    cond (nat_lt 0 (hex_len cs) && is_code (digits_value 16 (hex_run cs))) (Some (digits_value 16 (hex_run cs))) None

-- the character that a backslash and the characters after it stand for, unless they stand for themselves
abbrev pub escape_char : List ℕ → Option ℕ
escape_char [] = None
escape_char (c ∷ cs) = cond ((c == 117) && begins_with 123 cs) (code_char (drop 1 cs)) (simple_escape c)

-- the character that was read, or else the characters as they are written
abbrev pub char_or : List ℕ → Option ℕ → List ℕ
char_or cs (Some c) = c ∷ []
char_or cs None = cs

-- the characters that a backslash and what belongs to it stand for
abbrev pub escape_value : List ℕ → List ℕ
escape_value cs = char_or (92 ∷ take (escape_len cs) cs) (escape_char cs)

-- The characters that a text stands for after its first k characters, which belong to what was read before. A
-- backslash, which is 92, stands for what its escape sequence stands for, and any other character stands for itself.
abbrev pub unescaped : ℕ → List ℕ → List ℕ
unescaped k [] = []
unescaped (suc k) (c ∷ cs) = unescaped k cs
unescaped zero (c ∷ cs) = cond (c == 92) (escape_value cs ++ unescaped (escape_len cs) cs) (c ∷ unescaped zero cs)

-- the text that the characters of a body stand for
abbrev pub body_value : List ℕ → List ℕ
body_value body = encodes (unescaped 0 (chars body))

-- the value of a string is the value of its body
abbrev pub IsStringValue : List ℕ → List ℕ → Type 0
IsStringValue bs value = (body : List ℕ) × IsStringBody bs body × (value ≡ body_value body)
