-- Lines of raw text, and the white space in them.
use Rattle.std.specs.Prelude.{ℕ, zero, suc, ◌+◌, ◌==◌, ◌&&◌, ◌||◌, nat_le, Bool, List, [], ◌∷◌, length, take, drop, slice_index, if◌then◌else◌}
use Rattle.typst_lexer.specs.Characters.{begins_with}

-- the length of the newline with which a text begins, or 0: CR LF, LF, VT, FF, CR, U+0085, U+2028 or U+2029
abbrev pub newline_len : List ℕ → ℕ
newline_len bs =
    if begins_with (13 ∷ 10 ∷ []) bs then 2
    else (if nat_le 10 (slice_index bs 0) && nat_le (slice_index bs 0) 13 then 1
    else (if begins_with (0xC2 ∷ 0x85 ∷ []) bs then 2
    else (if begins_with (0xE2 ∷ 0x80 ∷ 0xA8 ∷ []) bs || begins_with (0xE2 ∷ 0x80 ∷ 0xA9 ∷ []) bs then 3
    else 0)))

-- U+2000 to U+200A, U+2028, U+2029 or U+202F
abbrev pub is_wide_space : List ℕ → Bool
is_wide_space bs =
    begins_with (0xE2 ∷ 0x80 ∷ []) bs
    && ((nat_le 0x80 (slice_index bs 2) && nat_le (slice_index bs 2) 0x8A) || (slice_index bs 2 == 0xA8) || (slice_index bs 2 == 0xA9) || (slice_index bs 2 == 0xAF))

-- the length of the white space character with which a text begins, or 0: one with the Unicode property `White_Space`
abbrev pub white_len : List ℕ → ℕ
white_len bs =
    if (nat_le 9 (slice_index bs 0) && nat_le (slice_index bs 0) 13) || (slice_index bs 0 == 32) then 1
    else (if begins_with (0xC2 ∷ 0x85 ∷ []) bs || begins_with (0xC2 ∷ 0xA0 ∷ []) bs then 2
    else (if is_wide_space bs || begins_with (0xE1 ∷ 0x9A ∷ 0x80 ∷ []) bs || begins_with (0xE2 ∷ 0x81 ∷ 0x9F ∷ []) bs || begins_with (0xE3 ∷ 0x80 ∷ 0x80 ∷ []) bs then 3
    else 0))

-- how many bytes the first so many white space characters of a text have, or all of them
abbrev pub whites_len : ℕ → List ℕ → ℕ
whites_len zero bs = 0
whites_len (suc n) bs = if white_len bs == 0 then 0 else white_len bs + whites_len n (drop (white_len bs) bs)

-- how many white space characters a text begins with, of so many
abbrev pub indent_of : ℕ → List ℕ → ℕ
indent_of zero bs = 0
indent_of (suc n) bs = if white_len bs == 0 then 0 else suc (indent_of n (drop (white_len bs) bs))

-- how many white space characters a text begins with
abbrev pub indent : List ℕ → ℕ
indent bs = indent_of (length bs) bs

-- a text is white space
abbrev pub is_blank : List ℕ → Bool
is_blank bs = whites_len (length bs) bs == length bs

-- how many bytes come before the first newline
abbrev pub line_len : List ℕ → ℕ
line_len [] = 0
line_len (b ∷ bs) = if newline_len (b ∷ bs) == 0 then suc (line_len bs) else 0

-- a line: where it begins and where it ends, and its text
pub record Line : Type 0 where
  pub from : ℕ
  pub to : ℕ
  pub text : List ℕ

-- a line with so many bytes of a text that begins at this place
abbrev pub line_at : ℕ → ℕ → List ℕ → Line
line_at from len bs = record { from = from; to = from + len; text = take len bs }

-- At most so many lines of a text that begins at this place.
abbrev pub lines_from : ℕ → ℕ → List ℕ → List Line
lines_from zero from bs = []
lines_from (suc n) from bs =
    let len = line_len bs in
    let next = newline_len (drop len bs) in
    line_at from len bs ∷ (if next == 0 then [] else lines_from n (from + (len + next)) (drop (len + next) bs))

-- the lines of a text that begins at this place
abbrev pub lines : ℕ → List ℕ → List Line
lines from bs = lines_from (suc (length bs)) from bs
