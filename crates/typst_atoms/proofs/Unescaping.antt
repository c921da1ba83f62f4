-- Reading strings from left to right.
use Rattle.std.proofs.Common.{◌≡◌, ℕ, zero, suc, List, [], ◌∷◌, ◌++◌, take, drop, Option, Bool, true, false, refl, sym, ap, ◌∙◌, ◌==◌, append_assoc, inl, inr, arith, ◌||◌}
use Rattle.std.specs.List.{list_any}
use Rattle.std.specs.Str.{IsUtf8, chars}
use Rattle.std.proofs.lemmas.Bool.{true≢false}
use Rattle.std.proofs.lemmas.Bool.Decides.{eqb_tells}
use Rattle.std.proofs.lemmas.List.Folds.{list_any-append}
use Rattle.std.proofs.lemmas.Str.{encode_ascii, encodes-append, encodes-chars}
use Rattle.typst_atoms.specs.Strings.{body_value, escape_len, escape_char, char_or, unescaped}
use lib.Utf8.{encode, encodes}

unescaped_skips : (k : ℕ) (cs : List ℕ) → unescaped k cs ≡ unescaped 0 (drop k cs)
unescaped_skips zero cs = refl
unescaped_skips (suc k) [] = refl
unescaped_skips (suc k) (c ∷ cs) = unescaped_skips k cs

-- what a step over an escape tells: n characters, `escape`, belong to the backslash c, and `behind` comes after them
pub escape_more : (read old cs escape behind : List ℕ) (c n : ℕ) (o : Option ℕ) → c ≡ 92 → n ≡ escape_len cs → escape ≡ take n cs → behind ≡ drop n cs → o ≡ escape_char cs → read ≡ old ++ encodes (char_or (92 ∷ escape) o) → read ++ encodes (unescaped 0 behind) ≡ old ++ encodes (unescaped 0 (c ∷ cs))
escape_more read old cs escape behind c n o e1 e2 e3 e4 e5 e6 =
    rw (e6, e5, e4, e3, e2, e1, append_assoc, ← encodes-append, ← unescaped_skips (escape_len cs) cs)

-- neither of two tests is passed where none is
neither : (a b : Bool) → (a || b) ≡ false → (a ≡ false) × (b ≡ false)
neither true b h = absurd (true≢false h)
neither false b h = (refl, h)

-- a character whose bytes are no backslash is none
no_backslash : (c : ℕ) → list_any (λ b. b == 92) (encode c) ≡ false → (c == 92) ≡ false
no_backslash c h = elim (eqb_tells c 92) [
  | inl e ↦
      let one : encode c ≡ c ∷ [] = encode_ascii c (omega (arith, e.1)) in
      let here : list_any (λ b. b == 92) (encode c) ≡ true = ap (λ bs. list_any (λ b. b == 92) bs) (one ∙ ap (λ d. d ∷ []) e.1) in
      absurd (true≢false (sym here ∙ h))
  | inr e ↦ e.0
]

-- characters among whose bytes is no backslash stand for themselves
unescaped_plain : (cs : List ℕ) → list_any (λ b. b == 92) (encodes cs) ≡ false → unescaped 0 cs ≡ cs
unescaped_plain [] h = refl
unescaped_plain (c ∷ cs) h =
    let apart = neither _ _ (sym (list_any-append (λ b. b == 92) (encode c) (encodes cs)) ∙ h) in
    rw (no_backslash c apart.0) (ap (λ ds. c ∷ ds) (unescaped_plain cs apart.1))

-- a text without a backslash is its own value
pub body_value_plain : (body : List ℕ) → IsUtf8 body → list_any (λ b. b == 92) body ≡ false → body ≡ body_value body
body_value_plain body utf8 h =
    let same = encodes-chars body utf8 in
    sym (ap encodes (unescaped_plain (chars body) (ap (λ bs. list_any (λ b. b == 92) bs) same ∙ h)) ∙ same)
