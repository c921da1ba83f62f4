-- Classes of characters, and what a text begins with.
use Rattle.std.specs.Prelude.{ℕ, ◌==◌, ◌&&◌, ◌||◌, nat_le, nat_lt, Bool, true, false, List, [], ◌∷◌, eqb}
use Rattle.std.specs.Char.{is_ascii_alphabetic, is_ascii_alphanumeric}
use Rattle.std.specs.Char.Unicode.Alphabetic.{is_alphabetic}
use Rattle.std.specs.Char.Unicode.Numeric.{is_numeric}
use Rattle.std.specs.List.{slice_get, starts_with}
use Rattle.std.specs.Option.{option_map_or}
use Rattle.std.specs.Str.{chars}

-- a blank, a tab, a line feed or a carriage return
abbrev pub is_white : ℕ → Bool
is_white b = (b == 32) || (b == 9) || (b == 10) || (b == 13)

-- a number is the code of a character
abbrev pub is_code : ℕ → Bool
is_code c = nat_lt c 0xD800 || (nat_lt 0xDFFF c && nat_lt c 0x11_0000)

-- a character that is alphabetic or numeric
abbrev pub is_word : ℕ → Bool
is_word c = is_code c && (is_alphabetic c || is_numeric c)

-- an ASCII letter, a digit, `_` or `-`
abbrev pub is_name : ℕ → Bool
is_name b = is_ascii_alphanumeric b || (b == 95) || (b == 45)

-- an ASCII letter or `_`, with which a name begins
abbrev pub is_name_start : ℕ → Bool
is_name_start b = is_ascii_alphabetic b || (b == 95)

-- an ASCII letter, a digit, `_`, `-`, `.` or `:`
abbrev pub is_label : ℕ → Bool
is_label b = is_name b || (b == 46) || (b == 58)

-- an ASCII letter, a digit, or one of `#$%&*+-/=@_~`
abbrev pub is_link : ℕ → Bool
is_link b =
    is_ascii_alphanumeric b || (b == 35) || (b == 36) || (b == 37) || (b == 38) || (b == 42) || (b == 43) || (b == 45) || (b == 47)
    || (b == 61) || (b == 64) || (b == 95) || (b == 126)

-- one of `!,.:;?'`
abbrev pub is_link_mark : ℕ → Bool
is_link_mark b = (b == 33) || (b == 44) || (b == 46) || (b == 58) || (b == 59) || (b == 63) || (b == 39)

-- a byte that continues a character
abbrev pub goes_on : ℕ → Bool
goes_on b = nat_le 128 b && nat_lt b 192

-- a text begins with a byte of the class
abbrev pub begins : (ℕ → Bool) → List ℕ → Bool
begins p [] = false
begins p (b ∷ bs) = p b

-- a text begins with these bytes
abbrev pub begins_with : List ℕ → List ℕ → Bool
begins_with bytes text = starts_with eqb text bytes

-- a text begins with a word character
abbrev pub begins_with_word : List ℕ → Bool
begins_with_word text = option_map_or is_word (slice_get (chars text) 0) false

-- a text begins with white space, or is empty
abbrev pub is_blank_or_end : List ℕ → Bool
is_blank_or_end [] = true
is_blank_or_end (b ∷ bs) = is_white b
