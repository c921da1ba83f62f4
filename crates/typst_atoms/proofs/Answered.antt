-- Facts of some or all elements of a list, from its first element or its first part and the rest.
use Rattle.std.proofs.Common.{◌≡◌, List, [], ◌∷◌, ◌++◌, Bool, true, false, MatchBool, inl, inr, ◌⊎◌, ⊎_elim, sym, subst}
use Rattle.std.specs.List.{AllByRecursion}
use Rattle.typst_atoms.specs.Raws.{AnyByRecursion}

module _ {X : Type 0} (P : X → Type 0) where
  pub any_first : (xs ys : List X) (x : X) → xs ≡ x ∷ ys → P x → AnyByRecursion P xs
  any_first xs ys x e h = subst (AnyByRecursion P) (sym e) (inl h)

  pub any_rest : (xs ys : List X) (x : X) → xs ≡ x ∷ ys → AnyByRecursion P ys → AnyByRecursion P xs
  any_rest xs ys x e h = subst (AnyByRecursion P) (sym e) (inr h)

  pub all_first : (xs ys : List X) (x : X) → xs ≡ x ∷ ys → P x → AllByRecursion P ys → AllByRecursion P xs
  all_first xs ys x e h hs = subst (AllByRecursion P) (sym e) (h, hs)

  pub all_none : (xs : List X) → xs ≡ [] → AllByRecursion P xs
  all_none xs e = subst (AllByRecursion P) (sym e) tt

  any_left : (us vs : List X) → AnyByRecursion P us → AnyByRecursion P (us ++ vs)
  any_left [] vs h = absurd h
  any_left (u ∷ us) vs h = ⊎_elim inl (λ k. inr (any_left us vs k)) h

  any_right : (us vs : List X) → AnyByRecursion P vs → AnyByRecursion P (us ++ vs)
  any_right [] vs h = h
  any_right (u ∷ us) vs h = inr (any_right us vs h)

  all_joined : (us vs : List X) → AllByRecursion P us → AllByRecursion P vs → AllByRecursion P (us ++ vs)
  all_joined [] vs h k = k
  all_joined (u ∷ us) vs h k = (h.0, all_joined us vs h.1 k)

  pub any_part : (xs us vs : List X) → xs ≡ us ++ vs → AnyByRecursion P us → AnyByRecursion P xs
  any_part xs us vs e h = subst (AnyByRecursion P) (sym e) (any_left us vs h)

  pub any_behind : (xs us vs : List X) → xs ≡ us ++ vs → AnyByRecursion P vs → AnyByRecursion P xs
  any_behind xs us vs e h = subst (AnyByRecursion P) (sym e) (any_right us vs h)

  pub all_parts : (xs us vs : List X) → xs ≡ us ++ vs → AllByRecursion P us → AllByRecursion P vs → AllByRecursion P xs
  all_parts xs us vs e h k = subst (AllByRecursion P) (sym e) (all_joined us vs h k)

-- which side of a `MatchBool` holds
pub when_true : (P Q : Type 0) (b : Bool) → b ≡ true → MatchBool b P Q → P
when_true P Q true e h = h
when_true P Q false e h = cc

pub when_false : (P Q : Type 0) (b : Bool) → b ≡ false → MatchBool b P Q → Q
when_false P Q true e h = cc
when_false P Q false e h = h

-- an answer that holds where a condition does, and is negative where it does not
module _ {X : Type 0} (P Q : X → Type 0) where
  abbrev Conditional : Bool → Bool → List X → Type 0
  Conditional holds answer xs = MatchBool answer ((holds ≡ true) × AnyByRecursion P xs) ((holds ≡ false) ⊎ AllByRecursion Q xs)

  pub answered_where_held : (xs ys : List X) (holds b answer : Bool) → xs ≡ ys → holds ≡ true → answer ≡ b → MatchBool b (AnyByRecursion P xs) (AllByRecursion Q xs) → MatchBool answer ((holds ≡ true) × AnyByRecursion P ys) ((holds ≡ false) ⊎ AllByRecursion Q ys)
  answered_where_held xs ys holds true answer same held e h = subst (λ v. Conditional holds v ys) (sym e) (held, subst (AnyByRecursion P) same h)
  answered_where_held xs ys holds false answer same held e h = subst (λ v. Conditional holds v ys) (sym e) (inr (subst (AllByRecursion Q) same h))

  pub answered_elsewhere : (ys : List X) (holds answer : Bool) → holds ≡ false → answer ≡ false → MatchBool answer ((holds ≡ true) × AnyByRecursion P ys) ((holds ≡ false) ⊎ AllByRecursion Q ys)
  answered_elsewhere ys holds answer failed e = subst (λ v. Conditional holds v ys) (sym e) (inl failed)
