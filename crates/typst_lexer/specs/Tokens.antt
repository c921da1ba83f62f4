-- The tokens of a text that is read in one mode.
use Rattle.std.specs.Prelude.{ℕ, zero, suc, ◌-◌, ◌<◌, length, List, [], ◌∷◌, take}
use Rattle.std.specs.List.{flat_map, AllByRecursion}
use Rattle.typst_lexer.specs.declared.mode.Mode.{Mode}
use Rattle.typst_lexer.specs.declared.place.Behind.{Behind}
use Rattle.typst_lexer.specs.declared.head.FirstToken.{FirstToken}
use Rattle.typst_lexer.specs.declared.token.Token.{Token}
use Rattle.typst_lexer.specs.declared.token.TokenKind.{TokenKind}
use Rattle.typst_lexer.specs.FirstToken.{first}

-- a token: its kind and its bytes
pub record Piece : Type 0 where
  pub kind : TokenKind
  pub bytes : List ℕ

-- the bytes of tokens, one after the other
abbrev pub joined : List Piece → List ℕ
joined ps = flat_map (λ (p : Piece). p.bytes) ps

-- each token has at least one byte
abbrev pub AreFilled : List Piece → Type 0
AreFilled ps = AllByRecursion (λ (p : Piece). 0 < length p.bytes) ps

-- how contracts see a token of the lexer
abbrev pub piece_of : Token → Piece
piece_of token = record { kind = token.kind; bytes = token.text.now }

-- a token that is found at the beginning of a text
abbrev pub found_in : List ℕ → FirstToken → Piece
found_in text token = record { kind = token.kind; bytes = take token.len text }

-- The tokens of a text without its first n bytes: the one that is found first, and those of the text after it.
abbrev pub cut : (Behind → List ℕ → FirstToken) → ℕ → Behind → List ℕ → List Piece
cut find n before [] = []
cut find zero before (b ∷ bs) =
    let token = find before (b ∷ bs) in found_in (b ∷ bs) token ∷ cut find (token.len - 1) token.behind bs
cut find (suc n) before (b ∷ bs) = cut find n before bs

-- the tokens of a text, given what is before the text
abbrev pub tokens : Mode → Behind → List ℕ → List Piece
tokens mode before text = cut (first mode) 0 before text
