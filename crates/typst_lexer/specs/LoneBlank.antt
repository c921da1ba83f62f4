-- White space of one byte.
use Rattle.std.specs.Prelude.{ℕ, ◌≡◌, ◌==◌, ◌||◌, true, false, List, drop, slice_index}
use Rattle.typst_lexer.specs.declared.head.FirstToken.{FirstToken}
use Rattle.typst_lexer.specs.declared.mode.Mode.{Mode}
use Rattle.typst_lexer.specs.declared.place.Behind.{Behind}
use Rattle.typst_lexer.specs.declared.place.Behind.TheVariants.{Other}
use Rattle.typst_lexer.specs.declared.token.TokenKind.TheVariants.{Space}
use Rattle.typst_lexer.specs.FirstToken.{first}
use Rattle.typst_lexer.specs.White.{begins_white, is_solid}

-- a blank or a line feed
abbrev pub IsBlankByte : ℕ → Type 0
IsBlankByte byte = ((byte == 32) || (byte == 10)) ≡ true

-- a blank or a line feed at the beginning, and behind it a byte with which no white space and no comment begins
abbrev pub IsAlone : List ℕ → Type 0
IsAlone text = IsBlankByte (slice_index text 0) × (is_solid (slice_index text 1) ≡ true)

-- a token of white space with one byte
abbrev pub lone_blank : FirstToken
lone_blank = record { kind = Space; len = 1; look = 11; behind = Other }

-- In each mode white space of one byte is at the beginning, and then neither white space nor a comment.
abbrev pub IsLone : List ℕ → Type 0
IsLone text =
    (mode : Mode) (before : Behind) →
    (begins_white mode before text ≡ true) × (first mode before text ≡ lone_blank) × (begins_white mode Other (drop 1 text) ≡ false)
