-- What a lexer hasn't read yet.
use Rattle.std.specs.Prelude.{ℕ, List, drop}
use Rattle.typst_lexer.specs.declared.lexer.Lexer.{Lexer}
use Rattle.typst_lexer.specs.declared.mode.Mode.{Mode}
use Rattle.typst_lexer.specs.declared.place.Behind.{Behind}
use Rattle.typst_lexer.specs.declared.place.Behind.TheVariants as behind
use Rattle.typst_lexer.specs.FirstToken.{first}
use Rattle.typst_lexer.specs.Tokens.{Piece, tokens}

-- what is left of a text: the mode in which it is read, what is directly before it, and its bytes
pub record Rest : Type 0 where
  pub mode : Mode
  pub before : Behind
  pub text : List ℕ

-- what a lexer hasn't read yet
abbrev pub left : Lexer → Rest
left lexer = record { mode = lexer.mode; before = lexer.behind; text = lexer.text.now }

-- a whole text
abbrev pub whole : Mode → List ℕ → Rest
whole mode text = record { mode = mode; before = behind.Start; text = text }

-- what is left after the first token
abbrev pub after_first : Rest → Rest
after_first r =
    let token = first r.mode r.before r.text in
    record { mode = r.mode; before = token.behind; text = drop token.len r.text }

-- the tokens of what is left, if the mode stays the same
abbrev pub tokens_left : Rest → List Piece
tokens_left r = tokens r.mode r.before r.text
