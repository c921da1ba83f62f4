-- A text may be cut after ASCII characters at its beginning.
use Rattle.std.proofs.Common.{◌≡◌, ℕ, zero, suc, ◌+◌, ◌<◌, ◌≤◌, ◌||◌, ◌&&◌, ◌==◌, not, Bool, true, false, cond, List, [], ◌∷◌, length, drop, get_or, refl, subst, sym, ap, ◌∙◌, add-one, arith}
use Rattle.std.specs.Char.{is_ascii_digit, is_ascii_alphanumeric}
use Rattle.std.specs.List.{prefix_len}
use Rattle.std.specs.Str.{IsUtf8, IsCharBoundary}
use Rattle.std.proofs.lemmas.Bool.Decides.{nat_tests}
use Rattle.std.proofs.lemmas.List.{get_or-drop, length-drop}
use Rattle.std.proofs.lemmas.List.Sums.{prefix_len-le-length, prefix_len_passes}
use Rattle.std.proofs.lemmas.Str.{IsCharBoundary-start, IsCharBoundary-after_ascii, IsCharBoundary-from_rest, IsUtf8-drop}
use Rattle.typst_parser.specs.Faults.{begins_exponent, exponent_len, is_base_mark, is_digit_or_dot, is_digit_or_sign, mantissa_len}

-- after the ASCII characters that a text begins with
pub boundary-prefix : (p : ℕ → Bool) → ((b : ℕ) → p b ≡ true → b < 128) → (bs : List ℕ) → IsUtf8 bs → IsCharBoundary bs (prefix_len p bs)
boundary-prefix p ascii bs utf8 = by (prefix_len p bs) refl
  where
    by : (n : ℕ) → prefix_len p bs ≡ n → IsCharBoundary bs n
    by zero e = IsCharBoundary-start bs utf8
    by (suc n) e = subst (IsCharBoundary bs) (add-one n) (IsCharBoundary-after_ascii bs n utf8 (omega (arith, prefix_len-le-length p bs)) (ascii (get_or bs n 0) (prefix_len_passes p bs n 0 (omega arith))))

-- after ASCII characters behind a place where the text may be cut
pub boundary-behind : (p : ℕ → Bool) → ((b : ℕ) → p b ≡ true → b < 128) → (bs : List ℕ) (i : ℕ) → IsUtf8 bs → IsCharBoundary bs i → IsCharBoundary bs (i + prefix_len p (drop i bs))
boundary-behind p ascii bs i utf8 at = IsCharBoundary-from_rest bs i (prefix_len p (drop i bs)) at.0 (boundary-prefix p ascii (drop i bs) (IsUtf8-drop bs i utf8 at))

pub digit_ascii : (b : ℕ) → is_ascii_digit b ≡ true → b < 128
digit_ascii b e = grind (arith, nat_tests)

pub letter_ascii : (b : ℕ) → is_ascii_alphanumeric b ≡ true → b < 128
letter_ascii b e = grind (arith, nat_tests)

pub dot_ascii : (b : ℕ) → is_digit_or_dot b ≡ true → b < 128
dot_ascii b e = grind (arith, nat_tests)

pub sign_ascii : (b : ℕ) → is_digit_or_sign b ≡ true → b < 128
sign_ascii b e = grind (arith, nat_tests)

-- the same of a list that is the text
pub prefix_boundary : (p : ℕ → Bool) → ((b : ℕ) → p b ≡ true → b < 128) → (text bs : List ℕ) (n : ℕ) → IsUtf8 text → bs ≡ text → n ≡ prefix_len p bs → IsCharBoundary text n
prefix_boundary p ascii text bs n utf8 same is = subst (IsCharBoundary text) (sym (is ∙ ap (prefix_len p) same)) (boundary-prefix p ascii text utf8)

-- behind `0b` or `0o` with digits
based_in : (text : List ℕ) (n : ℕ) → IsUtf8 text → 2 ≤ length text → is_base_mark (get_or text 1 0) ≡ true → n ≡ prefix_len is_ascii_digit (drop 2 text) → IsCharBoundary text (n + 2)
based_in text n utf8 two mark is =
    let ascii : get_or text 1 0 < 128 = mark_ascii (get_or text 1 0) mark in
    let at : IsCharBoundary text (1 + 1) = IsCharBoundary-after_ascii text 1 utf8 (omega arith) ascii in
    let same : 2 + prefix_len is_ascii_digit (drop 2 text) ≡ n + 2 = omega (arith, is) in
    subst (IsCharBoundary text) same (boundary-behind is_ascii_digit digit_ascii text 2 utf8 at)
  where
    mark_ascii : (b : ℕ) → is_base_mark b ≡ true → b < 128
    mark_ascii b e = grind (arith, nat_tests)

pub based_boundary : (text bs : List ℕ) (n : ℕ) → IsUtf8 text → bs ≡ text → 2 ≤ length bs → is_base_mark (get_or bs 1 0) ≡ true → n ≡ prefix_len is_ascii_digit (drop 2 bs) → IsCharBoundary text (n + 2)
based_boundary text bs n utf8 same two mark is =
    based_in text n utf8 (subst (λ s. 2 ≤ length s) same two) (ap (λ s. is_base_mark (get_or s 1 0)) (sym same) ∙ mark) (is ∙ ap (λ s. prefix_len is_ascii_digit (drop 2 s)) same)

exponent_first : (text : List ℕ) → begins_exponent text ≡ true → (0 < length text) × (get_or text 0 0 < 128)
exponent_first [] e = cc
exponent_first (b ∷ bs) e = (omega arith, first b (get_or (b ∷ bs) 1 0) e)
  where
    first : (b c : ℕ) → ((b == 69) || ((b == 101) && not (c == 109))) ≡ true → b < 128
    first b c e = grind (arith, nat_tests)

-- behind an exponent
exponent_boundary : (text : List ℕ) → IsUtf8 text → IsCharBoundary text (exponent_len text)
exponent_boundary text utf8 = by (begins_exponent text) refl
  where
    by : (b : Bool) → begins_exponent text ≡ b → IsCharBoundary text (cond b (prefix_len is_digit_or_sign (drop 1 text) + 1) 0)
    by true e =
        let first = exponent_first text e in
        let at : IsCharBoundary text (0 + 1) = IsCharBoundary-after_ascii text 0 utf8 first.0 first.1 in
        let same : 1 + prefix_len is_digit_or_sign (drop 1 text) ≡ prefix_len is_digit_or_sign (drop 1 text) + 1 = omega arith in
        subst (IsCharBoundary text) same (boundary-behind is_digit_or_sign sign_ascii text 1 utf8 at)
    by false e = IsCharBoundary-start text utf8

-- behind a number without its suffix
pub number_boundary : (text bs : List ℕ) (m n : ℕ) → IsUtf8 text → bs ≡ text → m ≡ mantissa_len bs → n ≡ exponent_len (drop m bs) → IsCharBoundary text (m + n)
number_boundary text bs m n utf8 same m_is n_is =
    let at : IsCharBoundary text m = prefix_boundary is_digit_or_dot dot_ascii text bs m utf8 same m_is in
    subst (λ k. IsCharBoundary text (m + k)) (sym (n_is ∙ ap (λ s. exponent_len (drop m s)) same)) (IsCharBoundary-from_rest text m (exponent_len (drop m text)) at.0 (exponent_boundary (drop m text) (IsUtf8-drop text m utf8 at)))

-- what may be cut behind a place may be cut in the rest from there
pub boundary_in_rest : (text : List ℕ) (n j : ℕ) → IsCharBoundary text (n + j) → IsCharBoundary (drop n text) j
boundary_in_rest text n j at =
    let same : get_or (drop n text) j 0 ≡ get_or text (n + j) 0 = get_or-drop n text j 0 in (
      omega (arith, length-drop n text, at.0),
      λ within high. subst (λ b. 192 ≤ b) (sym same) (at.1 (omega (arith, length-drop n text, within)) (subst (λ b. 128 ≤ b) same high)),
    )
