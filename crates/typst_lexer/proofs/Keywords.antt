-- A name that has another length or another first letter than each keyword is none.
use Rattle.std.proofs.Common.{◌≡◌, ◌≢◌, ℕ, Bool, true, false, List, length, refl, ap, ◌∙◌, arith}
use Rattle.std.specs.Prelude.{◌||◌, ◌==◌, codes, slice_index, if◌then◌else◌}
use Rattle.std.specs.Str.{bytes_eq}
use Rattle.std.proofs.lemmas.Bool.Decides.{nat_tests}
use Rattle.std.proofs.lemmas.Slice.Eq.{bytes_eq-Decides}
use Rattle.typst_lexer.specs.Names.{name_kind, plain_name}
use Rattle.typst_lexer.proofs.Ascii.{skip}

-- a keyword has so many bytes, of which this is the first one
abbrev is_like : ℕ → ℕ → Bool
is_like n b =
    if n == 2 then (b == 97) || (b == 105) || (b == 111)
    else (if n == 3 then (b == 97) || (b == 102) || (b == 108) || (b == 110) || (b == 115)
    else (if n == 4 then (b == 97) || (b == 101) || (b == 110) || (b == 115) || (b == 116)
    else (if n == 5 then (b == 98) || (b == 102) || (b == 119)
    else (if n == 6 then (b == 105) || (b == 114)
    else (if n == 7 then (b == 99) || (b == 105)
    else (if n == 8 then (b == 99)
    else false))))))

abbrev is_like_one : List ℕ → Bool
is_like_one name = is_like (length name) (slice_index name 0)

other : (name keyword : List ℕ) → is_like_one keyword ≡ true → is_like_one name ≡ false → bytes_eq name keyword ≡ false
other name keyword like unlike = by (bytes_eq name keyword) refl
  where
    clash : (u v : Bool) → u ≡ true → v ≡ false → v ≡ u → true ≡ false
    clash u v e f g = cc

    by : (v : Bool) → bytes_eq name keyword ≡ v → v ≡ false
    by false e = refl
    by true e = clash (is_like_one keyword) (is_like_one name) like unlike (ap is_like_one ((bytes_eq-Decides name keyword).0 e))

both_not : (u v : Bool) → u ≡ false → v ≡ false → (u || v) ≡ false
both_not true v e f = cc
both_not false v e f = f

plain : (name : List ℕ) → is_like_one name ≡ false → name_kind name ≡ plain_name name
plain name unlike =
    skip _ _ _ (is_not (codes "not") refl)
    ∙ skip _ _ _ (is_not (codes "and") refl)
    ∙ skip _ _ _ (is_not (codes "or") refl)
    ∙ skip _ _ _ (is_not (codes "none") refl)
    ∙ skip _ _ _ (is_not (codes "auto") refl)
    ∙ skip _ _ _ (both_not _ _ (is_not (codes "true") refl) (is_not (codes "false") refl))
    ∙ skip _ _ _ (is_not (codes "if") refl)
    ∙ skip _ _ _ (is_not (codes "else") refl)
    ∙ skip _ _ _ (is_not (codes "in") refl)
    ∙ skip _ _ _ (is_not (codes "as") refl)
    ∙ skip _ _ _ (is_not (codes "let") refl)
    ∙ skip _ _ _ (is_not (codes "set") refl)
    ∙ skip _ _ _ (is_not (codes "show") refl)
    ∙ skip _ _ _ (is_not (codes "context") refl)
    ∙ skip _ _ _ (is_not (codes "for") refl)
    ∙ skip _ _ _ (is_not (codes "while") refl)
    ∙ skip _ _ _ (is_not (codes "break") refl)
    ∙ skip _ _ _ (is_not (codes "continue") refl)
    ∙ skip _ _ _ (is_not (codes "return") refl)
    ∙ skip _ _ _ (is_not (codes "import") refl)
    ∙ skip _ _ _ (is_not (codes "include") refl)
  where
    is_not : (keyword : List ℕ) → is_like_one keyword ≡ true → bytes_eq name keyword ≡ false
    is_not keyword like = other name keyword like unlike

pub none_of_2 : (name : List ℕ) → length name ≡ 2 → slice_index name 0 ≢ 97 → slice_index name 0 ≢ 105 → slice_index name 0 ≢ 111 → name_kind name ≡ plain_name name
none_of_2 name len a b c = plain name (ap (λ n. is_like n (slice_index name 0)) len ∙ none (slice_index name 0) a b c)
  where
    none : (x : ℕ) → x ≢ 97 → x ≢ 105 → x ≢ 111 → ((x == 97) || (x == 105) || (x == 111)) ≡ false
    none x a b c = grind (arith, nat_tests)

pub none_of_3 : (name : List ℕ) → length name ≡ 3 → slice_index name 0 ≢ 97 → slice_index name 0 ≢ 102 → slice_index name 0 ≢ 108 → slice_index name 0 ≢ 110 → slice_index name 0 ≢ 115 → name_kind name ≡ plain_name name
none_of_3 name len a b c d e = plain name (ap (λ n. is_like n (slice_index name 0)) len ∙ none (slice_index name 0) a b c d e)
  where
    none : (x : ℕ) → x ≢ 97 → x ≢ 102 → x ≢ 108 → x ≢ 110 → x ≢ 115 → ((x == 97) || (x == 102) || (x == 108) || (x == 110) || (x == 115)) ≡ false
    none x a b c d e = grind (arith, nat_tests)

pub none_of_4 : (name : List ℕ) → length name ≡ 4 → slice_index name 0 ≢ 97 → slice_index name 0 ≢ 101 → slice_index name 0 ≢ 110 → slice_index name 0 ≢ 115 → slice_index name 0 ≢ 116 → name_kind name ≡ plain_name name
none_of_4 name len a b c d e = plain name (ap (λ n. is_like n (slice_index name 0)) len ∙ none (slice_index name 0) a b c d e)
  where
    none : (x : ℕ) → x ≢ 97 → x ≢ 101 → x ≢ 110 → x ≢ 115 → x ≢ 116 → ((x == 97) || (x == 101) || (x == 110) || (x == 115) || (x == 116)) ≡ false
    none x a b c d e = grind (arith, nat_tests)

pub none_of_5 : (name : List ℕ) → length name ≡ 5 → slice_index name 0 ≢ 98 → slice_index name 0 ≢ 102 → slice_index name 0 ≢ 119 → name_kind name ≡ plain_name name
none_of_5 name len a b c = plain name (ap (λ n. is_like n (slice_index name 0)) len ∙ none (slice_index name 0) a b c)
  where
    none : (x : ℕ) → x ≢ 98 → x ≢ 102 → x ≢ 119 → ((x == 98) || (x == 102) || (x == 119)) ≡ false
    none x a b c = grind (arith, nat_tests)

pub none_of_6 : (name : List ℕ) → length name ≡ 6 → slice_index name 0 ≢ 105 → slice_index name 0 ≢ 114 → name_kind name ≡ plain_name name
none_of_6 name len a b = plain name (ap (λ n. is_like n (slice_index name 0)) len ∙ none (slice_index name 0) a b)
  where
    none : (x : ℕ) → x ≢ 105 → x ≢ 114 → ((x == 105) || (x == 114)) ≡ false
    none x a b = grind (arith, nat_tests)

pub none_of_7 : (name : List ℕ) → length name ≡ 7 → slice_index name 0 ≢ 99 → slice_index name 0 ≢ 105 → name_kind name ≡ plain_name name
none_of_7 name len a b = plain name (ap (λ n. is_like n (slice_index name 0)) len ∙ none (slice_index name 0) a b)
  where
    none : (x : ℕ) → x ≢ 99 → x ≢ 105 → ((x == 99) || (x == 105)) ≡ false
    none x a b = grind (arith, nat_tests)

pub none_of_8 : (name : List ℕ) → length name ≡ 8 → slice_index name 0 ≢ 99 → name_kind name ≡ plain_name name
none_of_8 name len a = plain name (ap (λ n. is_like n (slice_index name 0)) len ∙ none (slice_index name 0) a)
  where
    none : (x : ℕ) → x ≢ 99 → ((x == 99)) ≡ false
    none x a = grind (arith, nat_tests)

pub none_longer : (name : List ℕ) → length name ≢ 2 → length name ≢ 3 → length name ≢ 4 → length name ≢ 5 → length name ≢ 6 → length name ≢ 7 → length name ≢ 8 → name_kind name ≡ plain_name name
none_longer name l2 l3 l4 l5 l6 l7 l8 =
    let is = apart (length name) in
    plain name
    (skip _ _ _ (is 2 l2) ∙ skip _ _ _ (is 3 l3) ∙ skip _ _ _ (is 4 l4) ∙ skip _ _ _ (is 5 l5) ∙ skip _ _ _ (is 6 l6) ∙ skip _ _ _ (is 7 l7) ∙ skip _ _ _ (is 8 l8))
  where
    apart : (n m : ℕ) → n ≢ m → (n == m) ≡ false
    apart n m e = grind (arith, nat_tests)
