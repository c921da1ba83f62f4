-- The characters that shorthands stand for.
use Rattle.std.specs.Prelude.{ℕ, cond, ◌==◌, List, [], ◌∷◌, codes, map}
use Rattle.std.specs.Cmp.Lexicographic.{pointwise}
use denote.Ref.{Bor}

-- the character next to the first entry of the list with this text, or U+0000 if there is none
abbrev pub char_for : List (List ℕ × ℕ) → List ℕ → ℕ
char_for [] bs = 0
char_for (p ∷ ps) bs = cond (pointwise ◌==◌ p.0 bs) p.1 (char_for ps bs)

-- the texts of a list of references, with their characters
abbrev pub texts_and_chars : List (Bor (List ℕ) × ℕ) → List (List ℕ × ℕ)
texts_and_chars ps = map (λ p. (p.0.now, p.1)) ps

-- the shorthands of markup
abbrev pub markup_shorthands : List (List ℕ × ℕ)
markup_shorthands =
    (codes "...", 0x2026) ∷ (codes "~", 0x00A0) ∷ (codes "-", 0x2212)
    ∷ (codes "--", 0x2013) ∷ (codes "---", 0x2014) ∷ (codes "-?", 0x00AD) ∷ []

-- the shorthands of math
abbrev pub math_shorthands : List (List ℕ × ℕ)
math_shorthands =
    (codes "...", 0x2026) ∷ (codes "-", 0x2212) ∷ (codes "*", 0x2217)
    ∷ (codes "~", 0x223C) ∷ (codes "!=", 0x2260) ∷ (codes ":=", 0x2254)
    ∷ (codes "::=", 0x2A74) ∷ (codes "=:", 0x2255) ∷ (codes "<<", 0x226A)
    ∷ (codes "<<<", 0x22D8) ∷ (codes ">>", 0x226B) ∷ (codes ">>>", 0x22D9)
    ∷ (codes "<=", 0x2264) ∷ (codes ">=", 0x2265) ∷ (codes "->", 0x2192)
    ∷ (codes "-->", 0x27F6) ∷ (codes "|->", 0x21A6) ∷ (codes ">->", 0x21A3)
    ∷ (codes "->>", 0x21A0) ∷ (codes "<-", 0x2190) ∷ (codes "<--", 0x27F5)
    ∷ (codes "<-<", 0x21A2) ∷ (codes "<<-", 0x219E) ∷ (codes "<->", 0x2194)
    ∷ (codes "<-->", 0x27F7) ∷ (codes "~>", 0x21DD) ∷ (codes "~~>", 0x27FF)
    ∷ (codes "<~", 0x21DC) ∷ (codes "<~~", 0x2B33) ∷ (codes "=>", 0x21D2)
    ∷ (codes "|=>", 0x2907) ∷ (codes "==>", 0x27F9) ∷ (codes "<==", 0x27F8)
    ∷ (codes "<=>", 0x21D4) ∷ (codes "<==>", 0x27FA) ∷ (codes "[|", 0x27E6)
    ∷ (codes "|]", 0x27E7) ∷ (codes "||", 0x2016) ∷ []
