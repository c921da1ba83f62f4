-- Texts without the bytes at their end that pass a test, as trimming gives them.
use Rattle.std.proofs.Common.{◌≡◌, ℕ, ◌+◌, ◌-◌, ◌≤◌, ◌<◌, Bool, true, false, cond, List, [], ◌∷◌, ◌++◌, length, take, drop, reverse, Option, Some, None, arith, rules, eqb, eq-eqb, sym, ap, subst, ◌∙◌, refl, length-append, IfSome}
use Rattle.std.specs.List.{prefix_len, suffix_len}
use Rattle.std.specs.Str.Pattern.{CutsPrefixes, CutsSuffixes, FindsCharPrefix, FindsCharSuffix, FindsSuffixBy, IsFullyTrimmed, IsTrimStartMatches, IsTrimEndMatches}
use Rattle.std.proofs.lemmas.List.{reverse-append, reverse-reverse, take-append-le, take-append-drop, take_all, drop_all, length-take, length-take-le}
use Rattle.std.proofs.lemmas.Str.Pattern.{drop_at_char}
use Rattle.std.proofs.lemmas.Str.{encode_ascii, len_utf8_ascii, IsCharBoundary-from_take}
use Rattle.std.specs.Str.{IsUtf8, IsCharBoundary}
use Rattle.std.proofs.Math.Numerals.{one-add}
use Rattle.std.specs.Char.{IsScalar}
use Rattle.std.specs.Prelude.{encode_utf8}
use Rattle.std.proofs.lemmas.List.Sums.{suffix_len-le-length}
use Rattle.typst_atoms.specs.Trims.{without_leading, without_trailing}

reverse-cons : (b : ℕ) (bs : List ℕ) → reverse (b ∷ bs) ≡ reverse bs ++ b ∷ []
reverse-cons b bs = reverse-append (b ∷ []) bs

module _ (p : ℕ → Bool) where
  suffix_len-snoc : (xs : List ℕ) (b : ℕ) → suffix_len p (xs ++ b ∷ []) ≡ cond (p b) (1 + suffix_len p xs) 0
  suffix_len-snoc xs b = rw reverse-append refl

  without_trailing-passing : (xs : List ℕ) (b : ℕ) → p b ≡ true → without_trailing p (xs ++ b ∷ []) ≡ without_trailing p xs
  without_trailing-passing xs b h =
      let few : suffix_len p xs ≤ length xs = suffix_len-le-length p xs in
      let n : suffix_len p (xs ++ b ∷ []) ≡ 1 + suffix_len p xs = suffix_len-snoc xs b ∙ ap (λ t. cond t (1 + suffix_len p xs) 0) h in
      let m : length (xs ++ b ∷ []) - suffix_len p (xs ++ b ∷ []) ≡ length xs - suffix_len p xs = omega (arith, n, length-append xs (b ∷ [])) in
      ap (λ k. take k (xs ++ b ∷ [])) m ∙ take-append-le (length xs - suffix_len p xs) xs (b ∷ []) (omega (arith, few))

  without_trailing-failing : (xs : List ℕ) (b : ℕ) → p b ≡ false → without_trailing p (xs ++ b ∷ []) ≡ xs ++ b ∷ []
  without_trailing-failing xs b h =
      let n : suffix_len p (xs ++ b ∷ []) ≡ 0 = suffix_len-snoc xs b ∙ ap (λ t. cond t (1 + suffix_len p xs) 0) h in
      let m : length (xs ++ b ∷ []) ≤ length (xs ++ b ∷ []) - suffix_len p (xs ++ b ∷ []) = omega (arith, n) in
      take_all (length (xs ++ b ∷ []) - suffix_len p (xs ++ b ∷ [])) (xs ++ b ∷ []) m

  from_back : (r zs : List ℕ) → reverse r ≡ zs → ((front : List ℕ) (b : ℕ) → r ≡ front ++ b ∷ [] → p b ≡ false) → without_trailing p r ≡ r
  from_back r [] e h = let n : r ≡ [] = sym (reverse-reverse r) ∙ ap reverse e in subst (λ xs. without_trailing p xs ≡ xs) (sym n) refl
  from_back r (b ∷ bs) e h =
      let n : r ≡ reverse bs ++ b ∷ [] = sym (reverse-reverse r) ∙ (ap reverse e ∙ reverse-cons b bs) in
      subst (λ xs. without_trailing p xs ≡ xs) (sym n) (without_trailing-failing (reverse bs) b (h (reverse bs) b n))

  -- each match at the end is one byte that passes, and a text without a match ends in none that does
  module _ (R : List ℕ → Option ℕ → Type 0) (cuts : (m : List ℕ) (n : ℕ) → R m (Some n) → (b : ℕ) × (p b ≡ true) × (m ≡ take (length m - n) m ++ b ∷ [])) (stops : (m : List ℕ) → R m None → (front : List ℕ) (b : ℕ) → m ≡ front ++ b ∷ [] → p b ≡ false) where
    cut_suffixes : (s : List ℕ) (ns r : List ℕ) → CutsSuffixes R s ns r → without_trailing p s ≡ without_trailing p r
    cut_suffixes s [] r h = ap (without_trailing p) (sym h)
    cut_suffixes s (n ∷ ns) r h =
        let c = cuts h.0 n h.2 in
        cut_suffixes s ns h.0 h.1
        ∙ (ap (without_trailing p) c.2 ∙ (without_trailing-passing (take (length h.0 - n) h.0) c.0 c.1 ∙ ap (without_trailing p) (sym h.3)))

    snoc_cases : (r : List ℕ) → ((front : List ℕ) (b : ℕ) → r ≡ front ++ b ∷ [] → p b ≡ false) → without_trailing p r ≡ r
    snoc_cases r h = from_back r (reverse r) refl h

    fully_by : (r : List ℕ) (o : Option ℕ) → R r o → IfSome o (λ n. n ≡ 0) → without_trailing p r ≡ r
    fully_by r None q e = snoc_cases r (stops r q)
    fully_by r (Some n) q e =
        let c = cuts r n q in
        let l : length r ≡ length (take (length r - n) r) + 1 = ap length c.2 ∙ length-append (take (length r - n) r) (c.0 ∷ []) in
        absurd (omega (arith, l, e, length-take (length r - n) r))

    fully_trimmed : (r : List ℕ) → IsFullyTrimmed R r → without_trailing p r ≡ r
    fully_trimmed r h = fully_by r h.0 h.1 h.2

    -- so what is left is the text without all bytes at its end that pass
    pub trimmed_end : (s r : List ℕ) → IsTrimEndMatches R s r → r ≡ without_trailing p s
    trimmed_end s r h = sym (cut_suffixes s h.0.0 r h.0.1 ∙ fully_trimmed r h.1)

ascii_scalar : (b : ℕ) → b < 128 → IsScalar b
ascii_scalar b h = search rules

eqb_is : (b c : ℕ) → eqb b c ≡ true → b ≡ c
eqb_is b c h = search rules

-- one ASCII character as the pattern
module _ (c : ℕ) (small : c < 128) where
  suffix_cuts : (m : List ℕ) (n : ℕ) → FindsCharSuffix c m (Some n) → (b : ℕ) × (eqb b c ≡ true) × (m ≡ take (length m - n) m ++ b ∷ [])
  suffix_cuts m n h =
      let at = drop_at_char c m (length m - n) (length m) h.1 small in
      let none : drop (length m) m ≡ [] = drop_all (length m) m (omega arith) in
      (c, eq-eqb c c refl, sym (take-append-drop (length m - n) m) ∙ ap (λ xs. take (length m - n) m ++ xs) (at ∙ ap (λ xs. c ∷ xs) none))

  suffix_stops : (m : List ℕ) → FindsCharSuffix c m None → (front : List ℕ) (b : ℕ) → m ≡ front ++ b ∷ [] → eqb b c ≡ false
  suffix_stops m h front b e =
      elim (eqb b c) as (λ v. eqb b c ≡ v → v ≡ false) [
        | true ↦ λ q. absurd (h front (e ∙ ap (λ xs. front ++ xs) (ap (λ x. x ∷ []) (eqb_is b c q) ∙ sym (encode_ascii c small))))
        | false ↦ λ q. refl
      ] refl

  pub trimmed_end_of_char : (s r : List ℕ) → IsTrimEndMatches (FindsCharSuffix c) s r → r ≡ without_trailing (λ b. eqb b c) s
  trimmed_end_of_char = trimmed_end (λ b. eqb b c) (FindsCharSuffix c) suffix_cuts suffix_stops

-- a test of characters that only ASCII passes
module _ (t : ℕ → Bool) (small : (c : ℕ) → t c ≡ true → c < 128) where
  test_cuts : (m : List ℕ) (n : ℕ) → FindsSuffixBy t m (Some n) → (b : ℕ) × (t b ≡ true) × (m ≡ take (length m - n) m ++ b ∷ [])
  test_cuts m n h =
      let at = drop_at_char h.0 m (length m - n) (length m) h.2 (small h.0 h.1) in
      let none : drop (length m) m ≡ [] = drop_all (length m) m (omega arith) in
      (h.0, h.1, sym (take-append-drop (length m - n) m) ∙ ap (λ xs. take (length m - n) m ++ xs) (at ∙ ap (λ xs. h.0 ∷ xs) none))

  test_stops : (m : List ℕ) → FindsSuffixBy t m None → (front : List ℕ) (b : ℕ) → m ≡ front ++ b ∷ [] → t b ≡ false
  test_stops m h front b e =
      elim (t b) as (λ v. t b ≡ v → v ≡ false) [
        | true ↦ λ q. sym q ∙ h b front (ascii_scalar b (small b q)) (e ∙ ap (λ xs. front ++ xs) (sym (encode_ascii b (small b q))))
        | false ↦ λ q. refl
      ] refl

  pub trimmed_end_by : (s r : List ℕ) → IsTrimEndMatches (FindsSuffixBy t) s r → r ≡ without_trailing t s
  trimmed_end_by = trimmed_end t (FindsSuffixBy t) test_cuts test_stops

-- the same at the front
module _ (c : ℕ) (small : c < 128) where
  without_leading-passing : (xs : List ℕ) → without_leading (λ b. eqb b c) (c ∷ xs) ≡ without_leading (λ b. eqb b c) xs
  without_leading-passing xs = rw (eq-eqb c c refl, one-add) refl

  cut_prefixes : (s : List ℕ) (ns r : List ℕ) → CutsPrefixes (FindsCharPrefix c) s ns r → without_leading (λ b. eqb b c) s ≡ without_leading (λ b. eqb b c) r
  cut_prefixes s [] r h = ap (without_leading (λ b. eqb b c)) (sym h)
  cut_prefixes s (n ∷ ns) r h =
      let at : h.0 ≡ c ∷ drop n h.0 = drop_at_char c h.0 0 n h.2 small in
      cut_prefixes s ns h.0 h.1
      ∙ (ap (without_leading (λ b. eqb b c)) at ∙ (without_leading-passing (drop n h.0) ∙ ap (without_leading (λ b. eqb b c)) (sym h.3)))

  untouched : (r : List ℕ) → ((rest : List ℕ) → r ≡ encode_utf8 c ++ rest → ⊥) → without_leading (λ b. eqb b c) r ≡ r
  untouched [] h = refl
  untouched (b ∷ bs) h =
      elim (eqb b c) as (λ v. eqb b c ≡ v → drop (cond v (1 + prefix_len (λ x. eqb x c) bs) 0) (b ∷ bs) ≡ b ∷ bs) [
        | true ↦ λ q. absurd (h bs (ap (λ x. x ∷ bs) (eqb_is b c q) ∙ ap (λ xs. xs ++ bs) (sym (encode_ascii c small))))
        | false ↦ λ q. refl
      ] refl

  fully_leading : (r : List ℕ) (o : Option ℕ) → FindsCharPrefix c r o → IfSome o (λ n. n ≡ 0) → without_leading (λ b. eqb b c) r ≡ r
  fully_leading r None q e = untouched r q
  fully_leading r (Some n) q e = absurd (omega (arith, q.ends, e, len_utf8_ascii c small))

  pub trimmed_front_of_char : (s r : List ℕ) → IsTrimStartMatches (FindsCharPrefix c) s r → r ≡ without_leading (λ b. eqb b c) s
  trimmed_front_of_char s r h = sym (cut_prefixes s h.0.0 r h.0.1 ∙ fully_leading r h.1.0 h.1.1 h.1.2)

-- what trims by one relation trims by a weaker one
module _ (R Q : List ℕ → Option ℕ → Type 0) (weaker : (s : List ℕ) (o : Option ℕ) → R s o → Q s o) where
  weaker_cuts : (s : List ℕ) (ns r : List ℕ) → CutsSuffixes R s ns r → CutsSuffixes Q s ns r
  weaker_cuts s [] r h = h
  weaker_cuts s (n ∷ ns) r h = (h.0, weaker_cuts s ns h.0 h.1, weaker h.0 (Some n) h.2, h.3)

  pub weaker_trim : (s r : List ℕ) → IsTrimEndMatches R s r → IsTrimEndMatches Q s r
  weaker_trim s r h = ((h.0.0, weaker_cuts s h.0.0 r h.0.1), (h.1.0, weaker r h.1.0 h.1.1, h.1.2))

-- where the trimmed text ends, the text may be cut, and the ending comes after it
module _ (p : ℕ → Bool) (bs r : List ℕ) (e : r ≡ without_trailing p bs) where
  length-trimmed : length r ≡ length bs - suffix_len p bs
  length-trimmed = ap length e ∙ length-take-le (length bs - suffix_len p bs) bs (omega arith)

  pub trimmed_boundary : IsUtf8 bs → IsUtf8 r → IsCharBoundary bs (length r)
  trimmed_boundary whole cut =
      let front : take (length r) bs ≡ r = ap (λ k. take k bs) length-trimmed ∙ sym e in
      IsCharBoundary-from_take bs (length r) whole (omega (arith, length-trimmed)) (subst IsUtf8 (sym front) cut)

-- trimming by a function that tells of each character what the test tells
pub trimmed_end_by_function : (tells : (ℕ → Bool) → Type 0) (t : ℕ → Bool) → ((c : ℕ) → t c ≡ true → c < 128) → tells t → (s r : List ℕ) → IsTrimEndMatches (λ m o. (k : ℕ → Bool) → tells k → FindsSuffixBy k m o) s r → r ≡ without_trailing t s
trimmed_end_by_function tells t small told s r h =
    trimmed_end_by t small s r (weaker_trim (λ m o. (k : ℕ → Bool) → tells k → FindsSuffixBy k m o) (FindsSuffixBy t) (λ m o q. q t told) s r h)
