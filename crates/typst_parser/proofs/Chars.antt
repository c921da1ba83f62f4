-- A text may be cut behind white space characters and newlines, and before newlines.
use Rattle.std.proofs.Common.{◌≡◌, ℕ, zero, suc, ◌+◌, ◌≤◌, ◌<◌, ◌==◌, ◌&&◌, ◌||◌, nat_le, Bool, true, false, cond, List, [], ◌∷◌, ◌++◌, length, take, drop, get_or, refl, sym, ap, subst, ◌∙◌, ◌/◌, arith}
use Rattle.std.specs.Prelude.{eqb}
use lib.Pointwise.{pointwise}
use Rattle.std.specs.Str.{IsUtf8, IsCharBoundary}
use Rattle.std.proofs.lemmas.Bool.{eqb-true, ltb-true}
use Rattle.std.proofs.lemmas.Bool.Decides.{nat_tests}
use Rattle.std.proofs.lemmas.List.{get_or-drop, length-take}
use Rattle.std.proofs.lemmas.Str.{IsCharBoundary-after_ascii, IsCharBoundary-at_seam, IsCharBoundary-from_rest, IsCharBoundary-start, IsUtf8-drop}
use lib.Dec.{ltb}
use lib.Utf8.{encode, encodes, next, scalar, scalars}
use Rattle.typst_parser.specs.Lines.{is_wide_space, line_len, newline_len, white_len, whites_len}
use Rattle.typst_lexer.specs.Characters.{begins_with}

both : (a b : Bool) → (a && b) ≡ true → (a ≡ true) × (b ≡ true)
both true b e = (refl, e)
both false b e = cc

either : (a b : Bool) (A : Type 0) → (a || b) ≡ true → (a ≡ true → A) → (b ≡ true → A) → A
either true b A e p q = p refl
either false b A e p q = q e

-- behind a character of three bytes
after_three : (a b c : ℕ) (rest : List ℕ) → 224 ≤ a → a < 240 → IsUtf8 (a ∷ b ∷ c ∷ rest) → IsUtf8 rest
unfolding encode
after_three a b c rest low high ([], (s, e)) = cc
after_three a b c rest low high (k ∷ ks, (s, e)) = by (ltb k 128) (ltb k 2048) (ltb k 65536) refl refl refl e
  where
    by : (x y z : Bool) → ltb k 128 ≡ x → ltb k 2048 ≡ y → ltb k 65536 ≡ z
        → cond x (k ∷ []) (cond y ((192 + k / 64) ∷ next k ∷ []) (cond z ((224 + k / 4096) ∷ next (k / 64) ∷ next k ∷ []) ((240 + k / 262144) ∷ next (k / 4096) ∷ next (k / 64) ∷ next k ∷ []))) ++ encodes ks
        ≡ a ∷ b ∷ c ∷ rest → IsUtf8 rest
    by true y z p q r e = let first : k ≡ a = cc in absurd (grind (arith, nat_tests))
    by false true z p q r e = let first : 192 + k / 64 ≡ a = cc in absurd (grind (arith, nat_tests))
    by false false true p q r e = let same : encodes ks ≡ rest = cc in (ks, ((both (scalar k) (scalars ks) s).1, same))
    by false false false p q r e = let first : 240 + k / 262144 ≡ a = cc in absurd (omega arith)

-- behind a character of two bytes
after_two : (a b : ℕ) (rest : List ℕ) → 192 ≤ a → a < 224 → IsUtf8 (a ∷ b ∷ rest) → IsUtf8 rest
unfolding encode
after_two a b rest low high ([], (s, e)) = cc
after_two a b rest low high (k ∷ ks, (s, e)) = by (ltb k 128) (ltb k 2048) (ltb k 65536) refl refl refl e
  where
    by : (x y z : Bool) → ltb k 128 ≡ x → ltb k 2048 ≡ y → ltb k 65536 ≡ z
        → cond x (k ∷ []) (cond y ((192 + k / 64) ∷ next k ∷ []) (cond z ((224 + k / 4096) ∷ next (k / 64) ∷ next k ∷ []) ((240 + k / 262144) ∷ next (k / 4096) ∷ next (k / 64) ∷ next k ∷ []))) ++ encodes ks
        ≡ a ∷ b ∷ rest → IsUtf8 rest
    by true y z p q r e = let first : k ≡ a = cc in absurd (omega (arith, ltb-true k 128 p))
    by false true z p q r e = let same : encodes ks ≡ rest = cc in (ks, ((both (scalar k) (scalars ks) s).1, same))
    by false false true p q r e = let first : 224 + k / 4096 ≡ a = cc in absurd (omega arith)
    by false false false p q r e = let first : 240 + k / 262144 ≡ a = cc in absurd (omega arith)

boundary_three : (bs : List ℕ) → IsUtf8 bs → 224 ≤ get_or bs 0 0 → get_or bs 0 0 < 240 → 3 ≤ length bs → IsCharBoundary bs 3
boundary_three [] u low high n = absurd (omega arith)
boundary_three (a ∷ []) u low high n = absurd (omega arith)
boundary_three (a ∷ b ∷ []) u low high n = absurd (omega arith)
boundary_three (a ∷ b ∷ c ∷ rest) u low high n = IsCharBoundary-at_seam (a ∷ b ∷ c ∷ rest) (a ∷ b ∷ c ∷ []) rest refl (after_three a b c rest low high u)

boundary_two : (bs : List ℕ) → IsUtf8 bs → 192 ≤ get_or bs 0 0 → get_or bs 0 0 < 224 → 2 ≤ length bs → IsCharBoundary bs 2
boundary_two [] u low high n = absurd (omega arith)
boundary_two (a ∷ []) u low high n = absurd (omega arith)
boundary_two (a ∷ b ∷ rest) u low high n = IsCharBoundary-at_seam (a ∷ b ∷ rest) (a ∷ b ∷ []) rest refl (after_two a b rest low high u)

-- what a text begins with
same_length : (xs ys : List ℕ) → pointwise eqb xs ys ≡ true → length xs ≡ length ys
same_length [] [] e = refl
same_length [] (y ∷ ys) e = cc
same_length (x ∷ xs) [] e = cc
same_length (x ∷ xs) (y ∷ ys) e = ap suc (same_length xs ys (both (eqb x y) (pointwise eqb xs ys) e).1)

pub begins_length : (bytes text : List ℕ) → begins_with bytes text ≡ true → length bytes ≤ length text
begins_length bytes text e = omega (arith, same_length bytes (take (length bytes) text) e, length-take (length bytes) text)

begins_first : (b : ℕ) (bytes text : List ℕ) → begins_with (b ∷ bytes) text ≡ true → get_or text 0 0 ≡ b
begins_first b bytes [] e = cc
begins_first b bytes (t ∷ text) e = sym (eqb-true b t (both (eqb b t) (pointwise eqb bytes (take (length bytes) text)) e).0)

three : (bs : List ℕ) (b c d : ℕ) → IsUtf8 bs → 224 ≤ b → b < 240 → begins_with (b ∷ c ∷ d ∷ []) bs ≡ true → IsCharBoundary bs 3
three bs b c d u low high e =
    let first : get_or bs 0 0 ≡ b = begins_first b (c ∷ d ∷ []) bs e in
    boundary_three bs u (omega arith) (omega arith) (begins_length (b ∷ c ∷ d ∷ []) bs e)

two : (bs : List ℕ) (b c : ℕ) → IsUtf8 bs → 192 ≤ b → b < 224 → begins_with (b ∷ c ∷ []) bs ≡ true → IsCharBoundary bs 2
two bs b c u low high e =
    let first : get_or bs 0 0 ≡ b = begins_first b (c ∷ []) bs e in
    boundary_two bs u (omega arith) (omega arith) (begins_length (b ∷ c ∷ []) bs e)

pick : (P : ℕ → Type 0) (b : Bool) (x y : ℕ) → (b ≡ true → P x) → (b ≡ false → P y) → P (cond b x y)
pick P true x y p q = p refl
pick P false x y p q = q refl

one : (bs : List ℕ) → IsUtf8 bs → 0 < get_or bs 0 0 → get_or bs 0 0 < 128 → IsCharBoundary bs 1
one [] u some low = absurd (omega arith)
one (b ∷ bs) u some low = IsCharBoundary-after_ascii (b ∷ bs) 0 u (omega arith) low

-- behind a newline
newline_boundary : (bs : List ℕ) → IsUtf8 bs → IsCharBoundary bs (newline_len bs)
newline_boundary bs u =
    pick (IsCharBoundary bs) (begins_with (13 ∷ 10 ∷ []) bs) 2 _ (feed bs u)
    (λ p. pick (IsCharBoundary bs) (nat_le 10 (get_or bs 0 0) && nat_le (get_or bs 0 0) 13) 1 _ (λ e. one bs u (grind (arith, nat_tests)) (grind (arith, nat_tests)))
    (λ q. pick (IsCharBoundary bs) (begins_with (0xC2 ∷ 0x85 ∷ []) bs) 2 _ (two bs 0xC2 0x85 u (omega arith) (omega arith))
    (λ r. pick (IsCharBoundary bs) (begins_with (0xE2 ∷ 0x80 ∷ 0xA8 ∷ []) bs || begins_with (0xE2 ∷ 0x80 ∷ 0xA9 ∷ []) bs) 3 0
    (λ e. either _ _ _ e (three bs 0xE2 0x80 0xA8 u (omega arith) (omega arith)) (three bs 0xE2 0x80 0xA9 u (omega arith) (omega arith)))
    (λ e. IsCharBoundary-start bs u))))
  where
    feed : (cs : List ℕ) → IsUtf8 cs → begins_with (13 ∷ 10 ∷ []) cs ≡ true → IsCharBoundary cs 2
    feed [] v e = cc
    feed (a ∷ []) v e = absurd (omega (arith, begins_length (13 ∷ 10 ∷ []) (a ∷ []) e))
    feed (a ∷ b ∷ cs) v e =
        let parts = both (eqb 13 a) (eqb 10 b && true) e in
        let second : 10 ≡ b = eqb-true 10 b (both (eqb 10 b) true parts.1).0 in
        IsCharBoundary-after_ascii (a ∷ b ∷ cs) 1 v (omega arith) (omega arith)

in_range : (bs : List ℕ) (i : ℕ) → 0 < get_or bs i 0 → i < length bs
in_range [] i some = absurd (omega arith)
in_range (b ∷ bs) zero some = omega arith
in_range (b ∷ bs) (suc i) some = omega (arith, in_range bs i some)

wide : (bs : List ℕ) → IsUtf8 bs → is_wide_space bs ≡ true → IsCharBoundary bs 3
wide bs u e =
    let parts = both (begins_with (0xE2 ∷ 0x80 ∷ []) bs) _ e in
    let first : get_or bs 0 0 ≡ 0xE2 = begins_first 0xE2 (0x80 ∷ []) bs parts.0 in
    boundary_three bs u (omega arith) (omega arith) (omega (arith, in_range bs 2 (third (get_or bs 2 0) parts.1)))
  where
    third : (b : ℕ) → ((nat_le 0x80 b && nat_le b 0x8A) || (b == 0xA8) || (b == 0xA9) || (b == 0xAF)) ≡ true → 0 < b
    third b e = grind (arith, nat_tests)

-- behind a white space character
white_boundary : (bs : List ℕ) → IsUtf8 bs → IsCharBoundary bs (white_len bs)
white_boundary bs u =
    pick (IsCharBoundary bs) ((nat_le 9 (get_or bs 0 0) && nat_le (get_or bs 0 0) 13) || (get_or bs 0 0 == 32)) 1 _ (λ e. one bs u (some (get_or bs 0 0) e) (low (get_or bs 0 0) e))
    (λ p. pick (IsCharBoundary bs) (begins_with (0xC2 ∷ 0x85 ∷ []) bs || begins_with (0xC2 ∷ 0xA0 ∷ []) bs) 2 _
    (λ e. either _ _ _ e (two bs 0xC2 0x85 u (omega arith) (omega arith)) (two bs 0xC2 0xA0 u (omega arith) (omega arith)))
    (λ q. pick (IsCharBoundary bs) (is_wide_space bs || begins_with (0xE1 ∷ 0x9A ∷ 0x80 ∷ []) bs || begins_with (0xE2 ∷ 0x81 ∷ 0x9F ∷ []) bs || begins_with (0xE3 ∷ 0x80 ∷ 0x80 ∷ []) bs) 3 0
    (λ e. either _ _ _ e
    (λ f. either _ _ _ f
    (λ g. either _ _ _ g (wide bs u) (three bs 0xE1 0x9A 0x80 u (omega arith) (omega arith)))
    (three bs 0xE2 0x81 0x9F u (omega arith) (omega arith)))
    (three bs 0xE3 0x80 0x80 u (omega arith) (omega arith)))
    (λ e. IsCharBoundary-start bs u)))
  where
    some : (b : ℕ) → ((nat_le 9 b && nat_le b 13) || (b == 32)) ≡ true → 0 < b
    some b e = grind (arith, nat_tests)

    low : (b : ℕ) → ((nat_le 9 b && nat_le b 13) || (b == 32)) ≡ true → b < 128
    low b e = grind (arith, nat_tests)

pub whites_boundary : (n : ℕ) (bs : List ℕ) → IsUtf8 bs → IsCharBoundary bs (whites_len n bs)
whites_boundary zero bs u = IsCharBoundary-start bs u
whites_boundary (suc n) bs u =
    pick (IsCharBoundary bs) (white_len bs == 0) 0 (white_len bs + whites_len n (drop (white_len bs) bs)) (λ e. IsCharBoundary-start bs u)
    (λ e. let at = white_boundary bs u in
    IsCharBoundary-from_rest bs (white_len bs) (whites_len n (drop (white_len bs) bs)) at.0 (whites_boundary n (drop (white_len bs) bs) (IsUtf8-drop bs (white_len bs) u at)))

-- before a newline
newline_first : (bs : List ℕ) → 0 < newline_len bs → 128 ≤ get_or bs 0 0 → 192 ≤ get_or bs 0 0
newline_first bs =
    pick (λ n. 0 < n → 128 ≤ get_or bs 0 0 → 192 ≤ get_or bs 0 0) (begins_with (13 ∷ 10 ∷ []) bs) 2 _ (λ e some high. let first : get_or bs 0 0 ≡ 13 = begins_first 13 (10 ∷ []) bs e in absurd (omega arith))
    (λ p. pick (λ n. 0 < n → 128 ≤ get_or bs 0 0 → 192 ≤ get_or bs 0 0) (nat_le 10 (get_or bs 0 0) && nat_le (get_or bs 0 0) 13) 1 _ (λ e some high. absurd (feed (get_or bs 0 0) e high))
    (λ q. pick (λ n. 0 < n → 128 ≤ get_or bs 0 0 → 192 ≤ get_or bs 0 0) (begins_with (0xC2 ∷ 0x85 ∷ []) bs) 2 _ (λ e some high. let first : get_or bs 0 0 ≡ 0xC2 = begins_first 0xC2 (0x85 ∷ []) bs e in omega arith)
    (λ r. pick (λ n. 0 < n → 128 ≤ get_or bs 0 0 → 192 ≤ get_or bs 0 0) (begins_with (0xE2 ∷ 0x80 ∷ 0xA8 ∷ []) bs || begins_with (0xE2 ∷ 0x80 ∷ 0xA9 ∷ []) bs) 3 0
    (λ e some high. let first : get_or bs 0 0 ≡ 0xE2 = either _ _ _ e (begins_first 0xE2 (0x80 ∷ 0xA8 ∷ []) bs) (begins_first 0xE2 (0x80 ∷ 0xA9 ∷ []) bs) in omega arith)
    (λ e some high. absurd (omega arith)))))
  where
    feed : (b : ℕ) → (nat_le 10 b && nat_le b 13) ≡ true → 128 ≤ b → ⊥
    feed b e high = grind (arith, nat_tests)

pub line_within : (bs : List ℕ) → line_len bs ≤ length bs
line_within [] = omega arith
line_within (b ∷ bs) = by (newline_len (b ∷ bs) == 0) (line_within bs)
  where
    by : (c : Bool) → line_len bs ≤ length bs → cond c (suc (line_len bs)) 0 ≤ suc (length bs)
    by true low = omega (arith, low)
    by false low = omega arith

-- at the end of a line a newline is next, or the end
line_next : (bs : List ℕ) → line_len bs < length bs → 0 < newline_len (drop (line_len bs) bs)
line_next [] = λ less. absurd (omega arith)
line_next (b ∷ bs) = by (newline_len (b ∷ bs)) refl (λ less. line_next bs less)
  where
    by : (k : ℕ) → newline_len (b ∷ bs) ≡ k → (line_len bs < length bs → 0 < newline_len (drop (line_len bs) bs))
        → (let n : ℕ = cond (k == 0) (suc (line_len bs)) 0 in n < suc (length bs) → 0 < newline_len (drop n (b ∷ bs)))
    by zero e more = λ less. more (omega arith)
    by (suc k) e more = at (suc k == 0) (grind (arith, nat_tests))
      where
        at : (c : Bool) → c ≡ false → (let n : ℕ = cond c (suc (line_len bs)) 0 in n < suc (length bs) → 0 < newline_len (drop n (b ∷ bs)))
        at true q = cc
        at false q = λ less. omega (arith, e)

line_boundary : (bs : List ℕ) → IsCharBoundary bs (line_len bs)
line_boundary bs = (
  line_within bs,
  λ less high.
      let same : get_or (drop (line_len bs) bs) 0 0 ≡ get_or bs (line_len bs) 0 = get_or-drop (line_len bs) bs 0 0 ∙ (let zero_more : line_len bs + 0 ≡ line_len bs = omega arith in ap (λ n. get_or bs n 0) zero_more) in
      subst (λ b. 192 ≤ b) same (newline_first (drop (line_len bs) bs) (line_next bs less) (subst (λ b. 128 ≤ b) (sym same) high)),
)

-- both ends of a line's newline
pub line_end_boundary : (whole : List ℕ) (from : ℕ) → IsUtf8 whole → IsCharBoundary whole from → IsCharBoundary whole (from + line_len (drop from whole))
line_end_boundary whole from u at = IsCharBoundary-from_rest whole from (line_len (drop from whole)) at.0 (line_boundary (drop from whole))

pub newline_end_boundary : (whole : List ℕ) (from : ℕ) → IsUtf8 whole → IsCharBoundary whole from
    → IsCharBoundary whole (from + (line_len (drop from whole) + newline_len (drop (line_len (drop from whole)) (drop from whole))))
newline_end_boundary whole from u at =
    let bs : List ℕ = drop from whole in
    let v : IsUtf8 bs = IsUtf8-drop whole from u at in
    let end : IsCharBoundary bs (line_len bs) = line_boundary bs in
    IsCharBoundary-from_rest whole from (line_len bs + newline_len (drop (line_len bs) bs)) at.0
    (IsCharBoundary-from_rest bs (line_len bs) (newline_len (drop (line_len bs) bs)) end.0 (newline_boundary (drop (line_len bs) bs) (IsUtf8-drop bs (line_len bs) v end)))
