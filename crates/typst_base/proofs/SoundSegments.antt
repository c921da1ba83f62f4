-- The first invalid segment, found one segment after another, is the one that comes after sound ones.
use Rattle.std.proofs.Common.{◌≡◌, ◌↔◌, ◌⊎◌, None, Some, ℕ, ◌≤◌, List, [], ◌∷◌, ◌++◌, refl, ap, sym, ◌∙◌, subst, arith, inl, inr}
use Rattle.std.proofs.lemmas.Bool.Decides.{nat_tests, leb_tells}
use Rattle.std.specs.List.{fold}
use Rattle.std.specs.declared.ops.Range.{Range}
use Rattle.typst_base.specs.Mapping.{AreSound, IsFirstUnsound}
use Rattle.typst_base.specs.Segments.{first_invalid}

-- where the last segment ends, or the place before without segments
abbrev pub end_from : ℕ → List (Range ℕ) → ℕ
end_from low segments = fold (λ _ segment. segment.end) low segments

-- the segment is sound where the last one before it ends at this place
abbrev pub Fits : ℕ → Range ℕ → Type 0
Fits low segment = (low ≤ segment.start) × (segment.start ≤ segment.end)

-- each segment is sound after those before it, the first after a place
abbrev pub AllFit : ℕ → List (Range ℕ) → Type 0
AllFit low segments =
    (before rest : List (Range ℕ)) (segment : Range ℕ) → segments ≡ before ++ (segment ∷ rest) → Fits (end_from low before) segment

fits_or_not : (low : ℕ) (r : Range ℕ) → Fits low r ⊎ ¬ (Fits low r)
fits_or_not low r =
    elim (leb_tells r.start r.end) [
      | inl along ↦ elim (leb_tells low r.start) [
        | inl high ↦ inl (omega arith, omega arith)
        | inr few ↦ inr (λ h. omega (arith, h.0))
      ]
      | inr back ↦ inr (λ h. omega (arith, h.1))
    ]

invalid_here : (low : ℕ) (r : Range ℕ) (rest : List (Range ℕ)) → ¬ (Fits low r) → first_invalid low (r ∷ rest) ≡ Some r
invalid_here low r rest h = grind (arith, nat_tests, h)

invalid_later : (low : ℕ) (r : Range ℕ) (rest : List (Range ℕ)) → Fits low r → first_invalid low (r ∷ rest) ≡ first_invalid r.end rest
invalid_later low r rest h = grind (arith, nat_tests, h)

-- the others are sound after the first
fit_behind : (low : ℕ) (r : Range ℕ) (rs : List (Range ℕ)) → AllFit low (r ∷ rs) → AllFit r.end rs
fit_behind low r rs h before rest s e = h (r ∷ before) rest s (ap (λ xs. r ∷ xs) e)

-- where no segment is invalid, all are sound
pub none_sound : (low : ℕ) (rs : List (Range ℕ)) → first_invalid low rs ≡ None → AllFit low rs
none_sound low [] h [] rest s e = absurd (cc)
none_sound low [] h (x ∷ before) rest s e = absurd (cc)
none_sound low (r ∷ rs) h before rest s e =
    elim (fits_or_not low r) [
      | inr bad ↦ let found = invalid_here low r rs bad in absurd (cc)
      | inl good ↦ behind good (none_sound r.end rs (sym (invalid_later low r rs good) ∙ h)) before e
    ]
  where
    behind : Fits low r → AllFit r.end rs → (before : List (Range ℕ)) → r ∷ rs ≡ before ++ (s ∷ rest) → Fits (end_from low before) s
    behind good others [] e = let same : r ≡ s = cc in subst (Fits low) same good
    behind good others (x ∷ before) e =
        let same : r ≡ x = cc in
        let parts : rs ≡ before ++ (s ∷ rest) = cc in
        subst (λ (y : Range ℕ). Fits (end_from y.end before) s) same (others before rest s parts)

-- after sound segments, one that isn't is the first invalid one
pub first_unsound : (low : ℕ) (sound rest : List (Range ℕ)) (s : Range ℕ) → AllFit low sound → ¬ (Fits (end_from low sound) s) → first_invalid low (sound ++ (s ∷ rest)) ≡ Some s
first_unsound low [] rest s fit bad = invalid_here low s rest bad
first_unsound low (r ∷ sound) rest s fit bad =
    invalid_later low r (sound ++ (s ∷ rest)) (fit [] sound r refl) ∙ first_unsound r.end sound rest s (fit_behind low r sound fit) bad

-- and the first invalid one comes after sound ones
abbrev pub Stands : ℕ → List (Range ℕ) → Range ℕ → Type 0
Stands low rs s =
    (sound : List (Range ℕ)) × (rest : List (Range ℕ)) × (rs ≡ sound ++ (s ∷ rest)) × AllFit low sound × ¬ (Fits (end_from low sound) s)

pub invalid_stands : (low : ℕ) (rs : List (Range ℕ)) (s : Range ℕ) → first_invalid low rs ≡ Some s → Stands low rs s
invalid_stands low [] s h = absurd (cc)
invalid_stands low (r ∷ rs) s h =
    elim (fits_or_not low r) [
      | inr bad ↦
          let found = invalid_here low r rs bad in
          let same : r ≡ s = cc in
          subst (λ (y : Range ℕ). Stands low (r ∷ rs) y) same ([], rs, refl, none_sound low [] refl, bad)
      | inl good ↦
          let at = invalid_stands r.end rs s (sym (invalid_later low r rs good) ∙ h) in
          (r ∷ at.0, at.1, ap (λ xs. r ∷ xs) at.2, more good at.0 at.3, at.4)
    ]
  where
    more : Fits low r → (sound : List (Range ℕ)) → AllFit r.end sound → AllFit low (r ∷ sound)
    more good sound fit [] rest x e = let same : r ≡ x = cc in subst (Fits low) same good
    more good sound fit (y ∷ before) rest x e =
        let same : r ≡ y = cc in
        let parts : sound ≡ before ++ (x ∷ rest) = cc in
        subst (λ (z : Range ℕ). Fits (end_from z.end before) x) same (fit before rest x parts)

-- what a mapper says of its segments
pub valid_sound : (rs : List (Range ℕ)) → first_invalid 0 rs ≡ None → AreSound rs
valid_sound rs h = none_sound 0 rs h

pub invalid_unsound : (rs : List (Range ℕ)) (s : Range ℕ) → first_invalid 0 rs ≡ Some s → IsFirstUnsound rs s
invalid_unsound rs s h =
    let at = invalid_stands 0 rs s h in record { sound = at.0; rest = at.1; parts = at.2; before = at.3; here = at.4 }

pub unsound_invalid : (rs : List (Range ℕ)) (s : Range ℕ) → IsFirstUnsound rs s → first_invalid 0 rs ≡ Some s
unsound_invalid rs s u = ap (first_invalid 0) u.parts ∙ first_unsound 0 u.sound u.rest s u.before u.here

pub by_unsound : {P : Type 0} → (rs : List (Range ℕ)) (s : Range ℕ) → P ↔ (first_invalid 0 rs ≡ Some s) → P ↔ IsFirstUnsound rs s
by_unsound rs s h = (λ p. invalid_unsound rs s (h.0 p), λ u. h.1 (unsound_invalid rs s u))
