-- Bytes that private functions test for first: those of ASCII, and those that text goes on over in any case.
use Rattle.std.specs.Prelude.{ℕ, ◌==◌, ◌&&◌, not, nat_lt, Bool}
use Rattle.std.specs.Char.{is_ascii_alphabetic}

-- a byte of ASCII
abbrev pub is_low : ℕ → Bool
is_low b = nat_lt b 128

-- an ASCII letter, but not the `h` of a link
abbrev pub is_letter : ℕ → Bool
is_letter b = is_ascii_alphabetic b && not (b == 104)
