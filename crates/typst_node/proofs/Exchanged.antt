-- The first of the others are written over a part of a list. What is left of the part goes, and what is left of them comes.
use Rattle.std.proofs.Common.{◌≡◌, ℕ, ◌+◌, ◌≤◌, List, [], ◌++◌, length, take, drop, sym, ap, ◌∙◌, arith, append_assoc, length-append, length-take}
use Rattle.std.specs.List.{splice}
use Rattle.std.proofs.lemmas.List.{take_at, at_drop_all, take-append-drop}
use Rattle.std.proofs.lemmas.Slice.{drop-append-drop}

module _ {X : Type 0} (xs ys zs : List X) (a b k : ℕ) (low : a + k ≤ b) (high : b ≤ length xs) (most : k ≤ length ys) (written : zs ≡ splice xs a (a + k) (take k ys)) where
  put_together : take (a + k) zs ++ (drop k ys ++ drop b zs) ≡ splice xs a b ys
  put_together =
      let wide : length (take a xs ++ take k ys) ≡ a + k = omega (arith, length-append (take a xs) (take k ys), length-take a xs, length-take k ys) in
      let parts : zs ≡ (take a xs ++ take k ys) ++ drop (a + k) xs = written ∙ sym (append_assoc (take a xs) (take k ys) (drop (a + k) xs)) in
      let front : take (a + k) zs ≡ take a xs ++ take k ys = ap (take (a + k)) parts ∙ take_at (take a xs ++ take k ys) (drop (a + k) xs) (a + k) wide in
      let back : drop b zs ≡ drop b xs = ap (drop b) parts ∙ drop-append-drop (a + k) xs (take a xs ++ take k ys) b low wide in
      (λ i. front i ++ (drop k ys ++ back i)) ∙ append_assoc (take a xs) (take k ys) (drop k ys ++ drop b xs)
      ∙ ap (λ us. take a xs ++ us) (sym (append_assoc (take k ys) (drop k ys) (drop b xs)) ∙ ap (λ us. us ++ drop b xs) (take-append-drop k ys))

  -- all others are written, and what is left of the part goes
  pub splice-shrunk : length ys ≤ k → splice zs (a + k) b [] ≡ splice xs a b ys
  splice-shrunk all = sym (at_drop_all (λ us. take (a + k) zs ++ (us ++ drop b zs)) ys k all) ∙ put_together

  -- the whole part is written over, and what is left of the others comes after it
  pub splice-grown : b ≡ a + k → splice zs b b (drop k ys) ≡ splice xs a b ys
  splice-grown full = ap (λ n. take n zs ++ (drop k ys ++ drop b zs)) full ∙ put_together
