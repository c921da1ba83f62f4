-- The first character of a text.
use Rattle.std.proofs.Common.{◌≡◌, ℕ, ◌-◌, nat_lt, Bool, true, false, cond, List, [], ◌∷◌, refl, ap, ◌∙◌}
use Rattle.std.specs.Prelude.{Option, Some, None}
use Rattle.std.specs.List.{slice_get}
use Rattle.std.specs.Str.{chars, continuation_len, lead_bits, chars_after}
use Rattle.typst_lexer.specs.FirstCodes.{with_byte, code_of_two, code_of_three, code_of_four, first_code}

-- the first character, of which this many bytes are still to come
abbrev front : ℕ → ℕ → List ℕ → Option ℕ
front n code bs = slice_get (chars_after n code bs) 0

whole : (code : ℕ) (bs : List ℕ) → Some code ≡ front 0 code bs
whole code [] = refl
whole code (b ∷ bs) = refl

-- how many bytes follow the first one, and what bits that holds, by its tests
abbrev length_by : Bool → Bool → Bool → ℕ
length_by u v w = cond u 0 (cond v 1 (cond w 2 3))

abbrev bits_by : ℕ → Bool → Bool → Bool → ℕ
bits_by a u v w = cond u a (cond v (a - 192) (cond w (a - 224) (a - 240)))

abbrev three_by : Bool → ℕ → ℕ → List ℕ → Option ℕ
three_by w a b [] = None
three_by w a b (c ∷ cs) = cond w (Some (with_byte (with_byte (a - 224) b) c)) (code_of_four a b c cs)

abbrev two_by : Bool → Bool → ℕ → List ℕ → Option ℕ
two_by v w a [] = None
two_by v w a (b ∷ bs) = cond v (Some (with_byte (a - 192) b)) (three_by w a b bs)

four : (a b c : ℕ) (bs : List ℕ) → code_of_four a b c bs ≡ front 1 (with_byte (with_byte (a - 240) b) c) bs
four a b c [] = refl
four a b c (d ∷ ds) = whole _ ds

three : (w : Bool) (a b : ℕ) (bs : List ℕ) → three_by w a b bs ≡ front (cond w 1 2) (with_byte (cond w (a - 224) (a - 240)) b) bs
three true a b [] = refl
three false a b [] = refl
three true a b (c ∷ cs) = whole _ cs
three false a b (c ∷ cs) = four a b c cs

two : (v w : Bool) (a : ℕ) (bs : List ℕ) → two_by v w a bs ≡ front (cond v 1 (cond w 2 3)) (cond v (a - 192) (cond w (a - 224) (a - 240))) bs
two true w a [] = refl
two false true a [] = refl
two false false a [] = refl
two true w a (b ∷ bs) = whole _ bs
two false true a (b ∷ bs) = three true a b bs
two false false a (b ∷ bs) = three false a b bs

one : (u v w : Bool) (a : ℕ) (bs : List ℕ) → cond u (Some a) (two_by v w a bs) ≡ front (length_by u v w) (bits_by a u v w) bs
one true v w a bs = whole a bs
one false v w a bs = two v w a bs

pub first_code_is : (text : List ℕ) → first_code text ≡ slice_get (chars text) 0
unfolding chars
first_code_is [] = refl
first_code_is (a ∷ bs) = same_two a bs
  where
    same_three : (a b : ℕ) (bs : List ℕ) → code_of_three a b bs ≡ three_by (nat_lt a 240) a b bs
    same_three a b [] = refl
    same_three a b (c ∷ cs) = refl

    same_pair : (a : ℕ) (bs : List ℕ) → code_of_two a bs ≡ two_by (nat_lt a 224) (nat_lt a 240) a bs
    same_pair a [] = refl
    same_pair a (b ∷ bs) = ap (λ (o : Option ℕ). cond (nat_lt a 224) (Some (with_byte (a - 192) b)) o) (same_three a b bs)

    same_two : (a : ℕ) (bs : List ℕ) → cond (nat_lt a 128) (Some a) (code_of_two a bs) ≡ front (continuation_len a) (lead_bits a) bs
    same_two a bs = ap (λ (o : Option ℕ). cond (nat_lt a 128) (Some a) o) (same_pair a bs) ∙ one (nat_lt a 128) (nat_lt a 224) (nat_lt a 240) a bs
