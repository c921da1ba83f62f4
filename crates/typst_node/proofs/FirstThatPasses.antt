-- What comes before and after the first element that passes a test.
use Rattle.std.proofs.Common.{◌≡◌, ℕ, suc, ◌+◌, List, [], ◌∷◌, ◌++◌, map, Bool, true, false, ◌⊎◌, inl, inr, refl, sym, ◌∙◌, ap, arith}
use Rattle.std.proofs.Math.Numerals.{one-add}
use Rattle.std.specs.Prelude.{drop, ◌||◌}
use Rattle.std.specs.List.{before_first, after_first, position_or_len, list_any, find}
use Rattle.std.specs.Option.{option_map}

pub bool_cases : (b : Bool) → (b ≡ true) ⊎ (b ≡ false)
bool_cases true = inl refl
bool_cases false = inr refl

pub before-hit : {X : Type 0} (p : X → Bool) (x : X) (xs : List X) → p x ≡ true → before_first p (x ∷ xs) ≡ []
before-hit p x xs e = rw e refl

pub before-miss : {X : Type 0} (p : X → Bool) (x : X) (xs : List X) → p x ≡ false → before_first p (x ∷ xs) ≡ x ∷ before_first p xs
before-miss p x xs e = rw (e, one-add) refl

pub after-hit : {X : Type 0} (p : X → Bool) (x : X) (xs : List X) → p x ≡ true → after_first p (x ∷ xs) ≡ xs
after-hit p x xs e = rw e refl

pub after-miss : {X : Type 0} (p : X → Bool) (x : X) (xs : List X) → p x ≡ false → after_first p (x ∷ xs) ≡ after_first p xs
after-miss p x xs e = rw e (let n : ℕ = position_or_len p xs in let k : (1 + n) + 1 ≡ suc (n + 1) = omega arith in ap (λ j. drop j (x ∷ xs)) k)

any-hit : {X : Type 0} (p : X → Bool) (x : X) (xs : List X) → p x ≡ false → list_any p (x ∷ xs) ≡ true → list_any p xs ≡ true
any-hit p x xs e h = sym (ap (λ b. b || list_any p xs) e) ∙ h

any-miss : {X : Type 0} (p : X → Bool) (x : X) (xs : List X) → list_any p (x ∷ xs) ≡ false → (p x ≡ false) × (list_any p xs ≡ false)
any-miss p x xs h = elim (bool_cases (p x)) [
  | inl e ↦
      let k : true ≡ false = sym (ap (λ b. b || list_any p xs) e) ∙ h in
      absurd (cc)
  | inr e ↦ (e, sym (ap (λ b. b || list_any p xs) e) ∙ h)
]

pub before-append_hit : {X : Type 0} (p : X → Bool) (xs ys : List X) → list_any p xs ≡ true → before_first p (xs ++ ys) ≡ before_first p xs
before-append_hit p [] ys h = absurd (cc)
before-append_hit p (x ∷ xs) ys h = elim (bool_cases (p x)) [
  | inl e ↦ before-hit p x (xs ++ ys) e ∙ sym (before-hit p x xs e)
  | inr e ↦ before-miss p x (xs ++ ys) e ∙ ap (λ zs. x ∷ zs) (before-append_hit p xs ys (any-hit p x xs e h)) ∙ sym (before-miss p x xs e)
]

pub before-append_miss : {X : Type 0} (p : X → Bool) (xs ys : List X) → list_any p xs ≡ false → before_first p (xs ++ ys) ≡ xs ++ before_first p ys
before-append_miss p [] ys h = refl
before-append_miss p (x ∷ xs) ys h =
    let k = any-miss p x xs h in
    before-miss p x (xs ++ ys) k.0 ∙ ap (λ zs. x ∷ zs) (before-append_miss p xs ys k.1)

pub after-append_hit : {X : Type 0} (p : X → Bool) (xs ys : List X) → list_any p xs ≡ true → after_first p (xs ++ ys) ≡ after_first p xs ++ ys
after-append_hit p [] ys h = absurd (cc)
after-append_hit p (x ∷ xs) ys h = elim (bool_cases (p x)) [
  | inl e ↦ after-hit p x (xs ++ ys) e ∙ sym (ap (λ zs. zs ++ ys) (after-hit p x xs e))
  | inr e ↦ after-miss p x (xs ++ ys) e ∙ after-append_hit p xs ys (any-hit p x xs e h) ∙ sym (ap (λ zs. zs ++ ys) (after-miss p x xs e))
]

pub after-append_miss : {X : Type 0} (p : X → Bool) (xs ys : List X) → list_any p xs ≡ false → after_first p (xs ++ ys) ≡ after_first p ys
after-append_miss p [] ys h = refl
after-append_miss p (x ∷ xs) ys h =
    let k = any-miss p x xs h in
    after-miss p x (xs ++ ys) k.0 ∙ after-append_miss p xs ys k.1

pub before-map : {X Y : Type 0} (p : Y → Bool) (g : X → Y) (xs : List X) → before_first p (map g xs) ≡ map g (before_first (λ x. p (g x)) xs)
before-map p g [] = refl
before-map p g (x ∷ xs) = elim (bool_cases (p (g x))) [
  | inl e ↦ before-hit p (g x) (map g xs) e ∙ sym (ap (map g) (before-hit (λ y. p (g y)) x xs e))
  | inr e ↦ before-miss p (g x) (map g xs) e ∙ ap (λ zs. g x ∷ zs) (before-map p g xs) ∙ sym (ap (map g) (before-miss (λ y. p (g y)) x xs e))
]

pub after-map : {X Y : Type 0} (p : Y → Bool) (g : X → Y) (xs : List X) → after_first p (map g xs) ≡ map g (after_first (λ x. p (g x)) xs)
after-map p g [] = refl
after-map p g (x ∷ xs) = elim (bool_cases (p (g x))) [
  | inl e ↦ after-hit p (g x) (map g xs) e ∙ sym (ap (map g) (after-hit (λ y. p (g y)) x xs e))
  | inr e ↦ after-miss p (g x) (map g xs) e ∙ after-map p g xs ∙ sym (ap (map g) (after-miss (λ y. p (g y)) x xs e))
]

pub list_any-map : {X Y : Type 0} (p : Y → Bool) (g : X → Y) (xs : List X) → list_any p (map g xs) ≡ list_any (λ x. p (g x)) xs
list_any-map p g [] = refl
list_any-map p g (x ∷ xs) = ap (λ b. p (g x) || b) (list_any-map p g xs)

pub find-map : {X Y : Type 0} (p : Y → Bool) (g : X → Y) (xs : List X) → find p (map g xs) ≡ option_map g (find (λ x. p (g x)) xs)
find-map p g [] = refl
find-map p g (x ∷ xs) = elim (bool_cases (p (g x))) [
  | inl e ↦ rw e refl
  | inr e ↦ rw e (find-map p g xs)
]
