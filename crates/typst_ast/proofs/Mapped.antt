-- What `find_map` finds among what an iterator has left.
use Rattle.std.proofs.Common.{◌≡◌, ℕ, suc, true, List, [], ◌∷◌, Option, Some, None, MatchOption, IfSome, ◌<◌, ◌+◌, sym, ap, subst, ◌∙◌}
use Rattle.std.specs.Fn.{Called}
use Rattle.std.specs.Iterator.{Yields, FindsMapped}
use Rattle.std.specs.Iterator.Runs.{AllItemsGive, IsFirstToGive, SomeRun, YieldsRun}
use Rattle.std.specs.List.{AllByRecursion, FoldsTo, slice_get}
use Rattle.std.proofs.lemmas.List.{nil_from_length}
use Rattle.std.specs.Slice.Iter.{iter_rest, iter_steps}
use Rattle.std.specs.declared.slice.Iter.{Iter}
use denote.Param.Members.{Mut}
use denote.Ref.{Bor}

-- Each call leaves the function as it was, and answers what `Tells` says of the item. `P` relates what was left, the
-- answer, and what is left after it.
module _ {S A B C F : Type 0} (steps : S → Option A → S → Type 0) (v : A → B) (shown : S → List B)
    (stop : (s t : S) → steps s None t → (shown s ≡ []) × (shown t ≡ []))
    (go : (s : S) (x : A) (t : S) → steps s (Some x) t → shown s ≡ v x ∷ shown t)
    (g : Mut F (A × Unit {0}) (Option C)) (f : F) (Tells : B → Option C → Type 0)
    (calls : (x : A) (r : Option C) (q : F) → Called g f (x, tt) r q → (q ≡ f) × Tells (v x) r)
    (P : List B → Option C → List B → Type 0) (none : P [] None [])
    (miss : (y : B) (ys zs : List B) (r : Option C) → Tells y None → P ys r zs → P (y ∷ ys) r zs)
    (left : (y : B) (ys zs : List B) → Tells y None → P ys None zs → P ys None (y ∷ zs))
    (hit : (y : B) (z : C) (ys : List B) → Tells y (Some z) → P (y ∷ ys) (Some z) ys) where
  found : (xs : List A) (s t u : S) (z : C) (o : Option A) (q : F) → Yields steps s xs t → steps t o u → FoldsTo (λ p x q. Called g p (x, tt) None q) f xs q
      → MatchOption o (Some z ≡ None) (λ x. (h : F) × Called g q (x, tt) (Some z) h) → P (shown s) (Some z) (shown u)
  found [] s t u z None q y p k e = let e' : Some z ≡ None = e in cc
  found [] s t u z (Some x) q y p k (h, e) =
      let w : Tells (v x) (Some z) = (calls x (Some z) h (subst (λ f'. Called g f' (x, tt) (Some z) h) (sym k) e)).1 in
      subst (λ ys. P ys (Some z) (shown u)) (sym (go t x u p) ∙ ap shown (sym y)) (hit (v x) z (shown u) w)
  found (x ∷ xs) s t u z o q (j, p', y) p (m, k', k) e =
      let c = calls x None m k' in
      subst (λ ys. P ys (Some z) (shown u)) (sym (go s x j p'))
      (miss (v x) (shown j) (shown u) (Some z) c.1 (found xs j t u z o q y p (subst (λ f'. FoldsTo (λ p x q. Called g p (x, tt) None q) f' xs q) c.0 k) e))

  abbrev Misses : List B → Type 0
  Misses ys = AllByRecursion (λ y. Tells y None) ys

  all_missed : (xs : List A) (s t u : S) → Yields steps s xs t → steps t None u → ((k : ℕ) → IfSome (slice_get xs k) (λ x. Called g f (x, tt) None f)) → Misses (shown s)
  all_missed [] s t u y p e = subst Misses (sym (stop t u p).0 ∙ ap shown (sym y)) tt
  all_missed (x ∷ xs) s t u (j, p', y) p e =
      subst Misses (sym (go s x j p')) ((calls x None f (e 0)).1, all_missed xs j t u y p (λ k. e (suc k)))

  none_left : (ys : List B) → Misses ys → P ys None ys
  none_left [] h = none
  none_left (y ∷ ys) h = left y (y ∷ ys) ys h.0 (miss y ys ys None h.0 (none_left ys h.1))

  missed : (xs : List A) (s t u : S) (o : Option A) → Yields steps s xs t → steps t o u → Misses (shown s) → P (shown s) None (shown u)
  missed [] s t u None y p h =
      let e = stop t u p in
      subst (λ ys. P ys None (shown u)) (sym e.0 ∙ ap shown (sym y)) (subst (λ zs. P [] None zs) (sym e.1) none)
  missed [] s t u (Some x) y p h =
      let e = ap shown y ∙ go t x u p in
      let m = subst Misses e h in
      subst (λ ys. P ys None (shown u)) (sym e) (miss (v x) (shown u) (shown u) None m.0 (none_left (shown u) m.1))
  missed (x ∷ xs) s t u o (j, p', y) p h =
      let e = go s x j p' in
      let m = subst Misses e h in
      subst (λ ys. P ys None (shown u)) (sym e) (miss (v x) (shown j) (shown u) None m.0 (missed xs j t u o y p m.1))

  from_runs : (s : S) → SomeRun steps s (λ p. (p.whole ≡ true) × AllItemsGive p g f None) → Misses (shown s)
  unfolding YieldsRun
  from_runs s (p, from, (whole, gives)) =
      let d = p.gave.0 in
      let e = d.2 whole in
      let at = gives (λ a r q k. (calls a.0 r q k).0) in
      subst (λ t. Misses (shown t)) from
      (all_missed p.items p.from d.0 e.0 d.1 e.1 (λ k. subst (λ o. IfSome o (λ x. Called g f (x, tt) None f)) (p.gave.1 k) (at k)))

  pub mapped : (s u : S) (r : Option C) → FindsMapped steps g s f r u
      → SomeRun steps s (λ p. MatchOption r ((p.whole ≡ true) × AllItemsGive p g f None) (λ y. (i : ℕ) × (i < p.len) × (p.len ≡ i + 1) × IsFirstToGive p g f (Some y) None i))
      → P (shown s) r (shown u)
  mapped s u None (xs, o, q, (t, y, p), k, e) h = missed xs s t u o y p (from_runs s h)
  mapped s u (Some z) (xs, o, q, (t, y, p), k, e) h = found xs s t u z o q y p k e

-- the same of a slice, whatever is left of it
module _ {A C F : Type 0} (g : Mut F (Bor A × Unit {0}) (Option C)) (f : F) (Tells : A → Option C → Type 0)
    (calls : (x : Bor A) (r : Option C) (q : F) → Called g f (x, tt) r q → (q ≡ f) × Tells x.now r)
    (P : List A → Option C → Type 0) (none : P [] None)
    (miss : (y : A) (ys : List A) (r : Option C) → Tells y None → P ys r → P (y ∷ ys) r)
    (hit : (y : A) (z : C) (ys : List A) → Tells y (Some z) → P (y ∷ ys) (Some z)) where
  pub mapped_in_slice : (s u : Iter A) (xs : List A) (r : Option C) → iter_rest s ≡ xs → FindsMapped iter_steps g s f r u
      → SomeRun iter_steps s (λ p. MatchOption r ((p.whole ≡ true) × AllItemsGive p g f None) (λ y. (i : ℕ) × (i < p.len) × (p.len ≡ i + 1) × IsFirstToGive p g f (Some y) None i))
      → P xs r
  mapped_in_slice s u xs r e ran runs =
      subst (λ ys. P ys r) e
      (mapped iter_steps (λ y. y.now) iter_rest
      (λ s t p. let h = nil_from_length _ p.0 in (h, ap iter_rest p.1 ∙ h)) (λ s x t p. p)
      g f Tells calls (λ ys r zs. P ys r) none (λ y ys zs r. miss y ys r) (λ y ys zs h p. p) hit s u r ran runs)
