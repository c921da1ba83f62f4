-- The words of a line, and the numbers that they write.
use Rattle.std.specs.Prelude.{ℕ, ◌≡◌, ◌≢◌, ◌<◌, ◌^◌, List, ◌∷◌, ◌++◌, Contains}
use Rattle.std.specs.Str.Parse.{IsNumeral, digits_value}
use Rattle.typst_base.specs.KindNumber.{number_of}
use Rattle.typst_base.specs.declared.kind.SyntaxKind.{SyntaxKind}
use Rattle.typst_base.specs.declared.kind.SyntaxKind.TheVariants.{Error}

-- the byte between the words of a line
abbrev pub blank : ℕ
blank = 32

-- the byte between the message of an error and its text
abbrev pub tab : ℕ
tab = 9

-- the text is a part without this byte, then the byte, then the rest
abbrev pub IsSplitAt : ℕ → List ℕ → List ℕ → List ℕ → Type 0
IsSplitAt byte text first rest = (text ≡ first ++ byte ∷ rest) × ¬ (Contains first byte)

-- the text is a word without a blank, then a blank, then the rest
abbrev pub IsSplit : List ℕ → List ℕ → List ℕ → Type 0
IsSplit text word rest = IsSplitAt blank text word rest

-- the word is decimal digits that write this number, and a u64 holds it
abbrev pub IsNumber : List ℕ → ℕ → Type 0
IsNumber word n = IsNumeral 10 word × (digits_value 10 word ≡ n) × (n < 2 ^ 64)

-- the word is the number of this kind, which isn't the kind of errors
abbrev pub IsKindNumber : List ℕ → SyntaxKind → Type 0
IsKindNumber word kind = IsNumber word (number_of kind) × (kind ≢ Error)

-- the word is the number of this file, from 1 to 65535
abbrev pub IsFileNumber : List ℕ → ℕ → Type 0
IsFileNumber word file = IsNumber word file × (0 < file) × (file < 2 ^ 16)
