-- Raw text as backticks and what is between them, apart from the machine.
use Rattle.std.specs.Prelude.{ℕ, ◌+◌, nat_lt, Bool, true, false, List, length, replicate, if◌then◌else◌}
use Rattle.typst_lexer.specs.declared.mode.Mode.{Mode}
use Rattle.typst_lexer.specs.declared.mode.Mode.TheVariants.{Markup, Code}
use Rattle.typst_lexer.specs.declared.token.TokenKind.{TokenKind}
use Rattle.typst_lexer.specs.declared.token.TokenKind.TheVariants as kinds
use Rattle.typst_lexer.specs.Before.{before}
use Rattle.typst_lexer.specs.Characters.{begins_with}

-- the modes that have raw text
abbrev pub has_raw : Mode → Bool
has_raw Markup = true
has_raw Code = true
has_raw _ = false

-- n backticks
abbrev pub ticks : ℕ → List ℕ
ticks n = replicate n 96

-- how many bytes come before the first n backticks in a row
abbrev pub body_len : ℕ → List ℕ → ℕ
body_len n rest = before (begins_with (ticks n)) rest

-- there are n backticks in a row
abbrev pub has_ticks : ℕ → List ℕ → Bool
has_ticks n rest = nat_lt (body_len n rest) (length rest)

-- n backticks, what comes before the first n backticks in a row, and these, or the rest of the text if they don't come
abbrev pub raw_len : ℕ → List ℕ → ℕ
raw_len n rest = if has_ticks n rest then n + body_len n rest + n else n + length rest

-- the kind of raw text, which is unclosed if n backticks in a row don't come
abbrev pub raw_kind : ℕ → List ℕ → TokenKind
raw_kind n rest = if has_ticks n rest then kinds.Raw else kinds.UnclosedRaw
