-- What holds of the tokens of any text.
use Rattle.std.proofs.Common.{◌≡◌, ℕ, zero, suc, ◌-◌, ◌<◌, List, [], ◌∷◌, ◌++◌, length, take, drop, refl, sym, ap, ◌∙◌, arith}
use Rattle.typst_lexer.specs.declared.mode.Mode.{Mode}
use Rattle.typst_lexer.specs.declared.place.Behind.{Behind}
use Rattle.typst_lexer.specs.declared.head.FirstToken.{FirstToken}
use Rattle.typst_lexer.specs.FirstToken.{first}
use Rattle.typst_lexer.specs.Tokens.{AreFilled, cut, found_in, joined, tokens}
use Rattle.typst_lexer.proofs.FirstTokens.{first_within}

less_one : (n : ℕ) → suc n - 1 ≡ n
less_one n = omega arith

drop_none : (n : ℕ) → (let nothing : List ℕ = [] in drop n nothing) ≡ []
drop_none zero = refl
drop_none (suc n) = refl

pub front_and_back : (n : ℕ) (t : List ℕ) → take n t ++ drop n t ≡ t
front_and_back zero t = refl
front_and_back (suc n) [] = refl
front_and_back (suc n) (b ∷ bs) = ap (λ l. b ∷ l) (front_and_back n bs)

-- a token of some bytes, and the rest of the text
rejoined : (n b : ℕ) (bs : List ℕ) → 0 < n → take n (b ∷ bs) ++ drop (n - 1) bs ≡ b ∷ bs
rejoined zero b bs some = absurd (omega arith)
rejoined (suc n) b bs some = ap (λ m. b ∷ (take n bs ++ drop m bs)) (less_one n) ∙ ap (λ l. b ∷ l) (front_and_back n bs)

some_taken : (n b : ℕ) (bs : List ℕ) → 0 < n → 0 < length (take n (b ∷ bs))
some_taken zero b bs some = absurd (omega arith)
some_taken (suc n) b bs some = omega arith

module _ (find : Behind → List ℕ → FirstToken) where
  cut_drop : (n : ℕ) (k : Behind) (t : List ℕ) → cut find n k t ≡ cut find 0 k (drop n t)
  cut_drop n k [] = ap (cut find 0 k) (sym (drop_none n))
  cut_drop zero k (b ∷ bs) = refl
  cut_drop (suc n) k (b ∷ bs) = cut_drop n k bs

  cut_after : (n : ℕ) (k : Behind) (b : ℕ) (bs : List ℕ) → 0 < n → cut find (n - 1) k bs ≡ cut find 0 k (drop n (b ∷ bs))
  cut_after zero k b bs some = absurd (omega arith)
  cut_after (suc n) k b bs some = ap (λ m. cut find m k bs) (less_one n) ∙ cut_drop n k bs

  module _ (some : (k : Behind) (b : ℕ) (bs : List ℕ) → 0 < (find k (b ∷ bs)).len) where
    -- the first token, and the tokens after it
    cut_step : (k : Behind) (t : List ℕ) → 0 < length t
        → cut find 0 k t ≡ found_in t (find k t) ∷ cut find 0 (find k t).behind (drop (find k t).len t)
    cut_step k [] h = absurd (omega arith)
    cut_step k (b ∷ bs) h =
        ap (λ ps. found_in (b ∷ bs) (find k (b ∷ bs)) ∷ ps) (cut_after (find k (b ∷ bs)).len (find k (b ∷ bs)).behind b bs (some k b bs))

    -- nothing of a text is lost
    cut_joined : (n : ℕ) (k : Behind) (t : List ℕ) → joined (cut find n k t) ≡ drop n t
    cut_joined n k [] = sym (drop_none n)
    cut_joined zero k (b ∷ bs) =
        let f : FirstToken = find k (b ∷ bs) in
        ap (λ l. take f.len (b ∷ bs) ++ l) (cut_joined (f.len - 1) f.behind bs) ∙ rejoined f.len b bs (some k b bs)
    cut_joined (suc n) k (b ∷ bs) = cut_joined n k bs

    -- no token is empty
    cut_filled : (n : ℕ) (k : Behind) (t : List ℕ) → AreFilled (cut find n k t)
    cut_filled n k [] = tt
    cut_filled zero k (b ∷ bs) =
        let f : FirstToken = find k (b ∷ bs) in
        (some_taken f.len b bs (some k b bs), cut_filled (f.len - 1) f.behind bs)
    cut_filled (suc n) k (b ∷ bs) = cut_filled n k bs

first_some : (how : Mode) (k : Behind) (b : ℕ) (bs : List ℕ) → 0 < (first how k (b ∷ bs)).len
first_some how k b bs = let some : 0 < length (b ∷ bs) = omega arith in (first_within how k (b ∷ bs) some).0

pub tokens_step : (how : Mode) (k : Behind) (text : List ℕ) → 0 < length text
    → tokens how k text ≡ found_in text (first how k text) ∷ tokens how (first how k text).behind (drop (first how k text).len text)
tokens_step how k text some = cut_step (first how) (first_some how) k text some

pub text_joined : (how : Mode) (k : Behind) (text : List ℕ) → joined (tokens how k text) ≡ text
text_joined how k text = cut_joined (first how) (first_some how) 0 k text

pub text_filled : (how : Mode) (k : Behind) (text : List ℕ) → AreFilled (tokens how k text)
text_filled how k text = cut_filled (first how) (first_some how) 0 k text
