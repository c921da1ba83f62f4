-- The last of the texts that an iterator gives, and the last dot of a part of a path.
use Rattle.std.proofs.Common.{◌≡◌, ◌≢◌, ◌==◌, ℕ, suc, List, [], ◌∷◌, ◌++◌, take, drop, map, Option, None, Some, refl, sym, ap, subst, ◌∙◌, arith, inl, inr, lit<}
use Rattle.std.proofs.lemmas.Iterator.{YieldsList, items_from_drains}
use Rattle.std.proofs.lemmas.List.{take-append-drop}
use Rattle.std.proofs.lemmas.Str.Pattern.{drop_at_char, NoCharPasses-char}
use Rattle.std.specs.Iterator.{Drains}
use Rattle.std.specs.List.{last_or}
use Rattle.std.specs.Option.{option_copied}
use Rattle.std.specs.Str.{NoCharPasses}
use Rattle.std.specs.Str.Pattern.{RFindsChar}
use Rattle.typst_ast.specs.Paths.{HasNoDot, IsStemOf}
use denote.Ref.{Bor}

last_copied : {A : Type 0} (o : Option (Bor A)) (xs : List (Bor A)) → option_copied (last_or o xs) ≡ last_or (option_copied o) (map (λ x. x.now) xs)
last_copied o [] = refl
last_copied o (x ∷ xs) = last_copied (Some x) xs

pub last_from_yields_List : {S A : Type 0} {steps : S → Option (Bor A) → S → Type 0} {s : S} {all : List A} (r : Option (Bor A))
    → (xs : List (Bor A)) × Drains steps s xs × (r ≡ last_or None xs) → YieldsList steps (λ x. x.now) s all → option_copied r ≡ last_or None all
last_from_yields_List r (xs, d, e) h =
    ap option_copied e ∙ last_copied None xs ∙ ap (last_or None) (items_from_drains xs (d.1.0, d.1.1, λ _. (d.0, d.1.2)) h)

-- the last dot of a part, and what stands on both sides
module _ (part front back : List ℕ) (i j : ℕ) (found : RFindsChar 46 part (Some (i, j))) (before : front ≡ take i part) (behind : back ≡ drop j part) where
  pub around_last_dot : part ≡ front ++ 46 ∷ back
  around_last_dot =
      sym (take-append-drop i part)
      ∙ ap (λ (s : List ℕ). take i part ++ s) (drop_at_char 46 part i j found.1 (lit< tt))
      ∙ (λ k. sym before k ++ 46 ∷ sym behind k)

  pub no_dot_behind : HasNoDot back
  no_dot_behind = subst HasNoDot (sym behind) (λ k l. NoCharPasses-char 46 (drop j part) k found.0 (lit< tt) l)

no_dot_behind_first : (part : List ℕ) → HasNoDot part → HasNoDot (drop 1 part)
no_dot_behind_first [] h = h
no_dot_behind_first (b ∷ bs) h = λ k l. h (suc k) (omega arith)

pub stem_without_dot : (part : List ℕ) → NoCharPasses (λ d. d == 46) part → IsStemOf part part
stem_without_dot part h = inr (refl, no_dot_behind_first part (λ k l. NoCharPasses-char 46 part k h (lit< tt) l))

pub stem_behind_dot : (part back : List ℕ) → part ≡ 46 ∷ back → HasNoDot back → IsStemOf part part
stem_behind_dot part back e h = inr (refl, subst (λ (s : List ℕ). HasNoDot (drop 1 s)) (sym e) h)

pub stem_before_dot : (part front back : List ℕ) → part ≡ front ++ 46 ∷ back → HasNoDot back → front ≢ [] → IsStemOf part front
stem_before_dot part front back e h n = inl (n, (back, e, h))
