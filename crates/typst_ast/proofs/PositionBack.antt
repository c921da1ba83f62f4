-- What `rposition` finds in a slice.
use Rattle.std.proofs.Common.{◌≡◌, ℕ, ◌+◌, Bool, true, false, List, [], ◌∷◌, ◌++◌, length, Option, Some, None, MatchOption, sym, ap, subst, ◌∙◌, arith, length-append}
use Rattle.std.proofs.lemmas.List.{nil_from_length}
use Rattle.std.specs.Fn.{Called}
use Rattle.std.specs.Iterator.{FindsPositionBack, Yields}
use Rattle.std.specs.List.{FoldsTo}
use Rattle.std.specs.Option.{IsSomeAnd}
use Rattle.std.specs.Slice.Iter.{iter_rest, iter_steps_back}
use Rattle.std.specs.declared.slice.Iter.{Iter}
use denote.Param.Members.{Mut}
use denote.Ref.{Bor}

-- Each call leaves the function as it was, and answers the test of the item. `P` relates the slice and the answer.
module _ {A F : Type 0} (g : Mut F (Bor A × Unit {0}) Bool) (f : F) (test : A → Bool)
    (calls : (x : Bor A) (b : Bool) (q : F) → Called g f (x, tt) b q → (q ≡ f) × (b ≡ test x.now))
    (P : List A → Option ℕ → Type 0) (none : P [] None)
    (miss : (y : A) (ys : List A) (r : Option ℕ) → test y ≡ false → P ys r → P (ys ++ y ∷ []) r)
    (hit : (y : A) (ys : List A) → test y ≡ true → P (ys ++ y ∷ []) (Some (length ys))) where
  at_hit : (s u : Iter A) (x : Bor A) (r : Option ℕ) (m n : ℕ) → iter_steps_back s (Some x) u → m + length (iter_rest s) ≡ n → IsSomeAnd r (λ i. i + 1 + m ≡ n) → test x.now ≡ true → P (iter_rest s) r
  at_hit s u x None m n p l e t = absurd e
  at_hit s u x (Some i) m n p l e t =
      let i_is : length (iter_rest u) ≡ i = omega (arith, ap length p, length-append (iter_rest u) (x.now ∷ []), l, e) in
      subst (λ ys. P ys (Some i)) (sym p) (subst (λ k. P (iter_rest u ++ x.now ∷ []) (Some k)) i_is (hit x.now (iter_rest u) t))

  back : (xs : List (Bor A)) (s t u : Iter A) (o : Option (Bor A)) (q : F) (r : Option ℕ) (m n : ℕ) → Yields iter_steps_back s xs t → iter_steps_back t o u
      → FoldsTo (λ p x q. Called g p (x, tt) false q) f xs q → m + length (iter_rest s) ≡ n + length xs
      → MatchOption o (r ≡ None) (λ x. IsSomeAnd r (λ i. i + 1 + m ≡ n) × ((h : F) × Called g q (x, tt) true h)) → P (iter_rest s) r
  back [] s t u None q r m n y p k l e =
      subst (λ ys. P ys r) (sym (nil_from_length _ p.0) ∙ ap iter_rest (sym y)) (subst (λ r. P [] r) (sym e) none)
  back [] s t u (Some x) q r m n y p k l (e, (h, c)) =
      let w = (calls x true h (subst (λ f'. Called g f' (x, tt) true h) (sym k) c)).1 in
      at_hit s u x r m n (ap iter_rest y ∙ p) (omega (arith, l)) e (sym w)
  back (x ∷ xs) s t u o q r m n (j, p', y) p (f', k', k) l e =
      let w = calls x false f' k' in
      subst (λ ys. P ys r) (sym p')
      (miss x.now (iter_rest j) r (sym w.1)
      (back xs j t u o q r m n y p (subst (λ f''. FoldsTo (λ p x q. Called g p (x, tt) false q) f'' xs q) w.0 k)
      (omega (arith, l, ap length p', length-append (iter_rest j) (x.now ∷ []))) e))

  pub position_back : (s u : Iter A) (ys : List A) (n : ℕ) (r : Option ℕ) → iter_rest s ≡ ys → n ≡ length ys → FindsPositionBack iter_steps_back g s f n r u → P ys r
  position_back s u ys n r e l (xs, o, q, (t, y, p), k, h) =
      subst (λ zs. P zs r) e (back xs s t u o q r (length xs) n y p k (omega (arith, ap length e, l)) h)
