-- The first character of a text, as private functions read it, byte by byte.
use Rattle.std.specs.Prelude.{ℕ, ◌+◌, ◌-◌, ◌*◌, nat_lt, List, [], ◌∷◌, Option, Some, None, if◌then◌else◌}

-- the bits so far, followed by those of one more byte
abbrev pub with_byte : ℕ → ℕ → ℕ
with_byte code b = code * 64 + (b - 128)

-- the character of four bytes, of which the first three are these
abbrev pub code_of_four : ℕ → ℕ → ℕ → List ℕ → Option ℕ
code_of_four a b c [] = None
code_of_four a b c (d ∷ ds) = Some (with_byte (with_byte (with_byte (a - 240) b) c) d)

-- the character of three bytes or more, of which the first two are these
abbrev pub code_of_three : ℕ → ℕ → List ℕ → Option ℕ
code_of_three a b [] = None
code_of_three a b (c ∷ cs) = if nat_lt a 240 then Some (with_byte (with_byte (a - 224) b) c) else code_of_four a b c cs

-- the character of two bytes or more, of which the first is this
abbrev pub code_of_two : ℕ → List ℕ → Option ℕ
code_of_two a [] = None
code_of_two a (b ∷ bs) = if nat_lt a 224 then Some (with_byte (a - 192) b) else code_of_three a b bs

-- the first character of a text, if all of its bytes are there
abbrev pub first_code : List ℕ → Option ℕ
first_code [] = None
first_code (a ∷ bs) = if nat_lt a 128 then Some a else code_of_two a bs
