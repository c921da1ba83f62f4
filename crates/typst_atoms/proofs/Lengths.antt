-- Of a list of shorthands only the rows as long as the text need be looked at.
use Rattle.std.proofs.Common.{◌≡◌, ℕ, ◌==◌, Bool, true, false, cond, List, [], ◌∷◌, ap, ◌∙◌, refl}
use Rattle.std.proofs.Math.Bool.{◌&&◌, and-false}
use Rattle.std.specs.Cmp.Lexicographic.{pointwise}
use Rattle.typst_atoms.specs.Shorthands.{char_for}

pub and_false : (b : Bool) → (b && false) ≡ false
and_false b = and-false b

-- whether two texts have one length
abbrev pub same_length : List ℕ → List ℕ → Bool
same_length [] [] = true
same_length [] (y ∷ ys) = false
same_length (x ∷ xs) [] = false
same_length (x ∷ xs) (y ∷ ys) = same_length xs ys

-- the rows whose text is as long as this one
abbrev pub as_long : List (List ℕ × ℕ) → List ℕ → List (List ℕ × ℕ)
as_long [] bs = []
as_long (p ∷ ps) bs = cond (same_length p.0 bs) (p ∷ as_long ps bs) (as_long ps bs)

-- what two texts of one byte more have, where the rest of one is longer
longer_rest : (s t r : Bool) → r ≡ cond s r false → (t && r) ≡ cond s (t && r) false
longer_rest true t r h = refl
longer_rest false t r h = ap (λ q. t && q) h ∙ and-false t

-- only texts of one length are the same
same_texts : (xs ys : List ℕ) → pointwise ◌==◌ xs ys ≡ cond (same_length xs ys) (pointwise ◌==◌ xs ys) false
same_texts [] [] = refl
same_texts [] (y ∷ ys) = refl
same_texts (x ∷ xs) [] = refl
same_texts (x ∷ xs) (y ∷ ys) = longer_rest (same_length xs ys) (x == y) (pointwise ◌==◌ xs ys) (same_texts xs ys)

-- one row more
row : (s : Bool) (p : List ℕ × ℕ) (ps qs : List (List ℕ × ℕ)) (bs : List ℕ) → pointwise ◌==◌ p.0 bs ≡ cond s (pointwise ◌==◌ p.0 bs) false → char_for ps bs ≡ char_for qs bs → char_for (p ∷ ps) bs ≡ char_for (cond s (p ∷ qs) qs) bs
row true p ps qs bs h e = ap (λ n. cond (pointwise ◌==◌ p.0 bs) p.1 n) e
row false p ps qs bs h e = ap (λ t. cond t p.1 (char_for ps bs)) h ∙ e

pub among_as_long : (ps : List (List ℕ × ℕ)) (bs : List ℕ) → char_for ps bs ≡ char_for (as_long ps bs) bs
among_as_long [] bs = refl
among_as_long (p ∷ ps) bs = row (same_length p.0 bs) p ps (as_long ps bs) bs (same_texts p.0 bs) (among_as_long ps bs)
