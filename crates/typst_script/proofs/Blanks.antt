-- Where the first blank of a text splits it, and that numbers have no blank.
use Rattle.std.specs.Prelude.{ℕ, ◌≡◌, ◌≢◌, ◌<◌, List, ◌∷◌, Option, None, Some, IfSome, IsSomeAnd, Contains, true, not, ◌==◌, length, [], codes, refl, zero, suc}
use Rattle.std.specs.List.{list_all}
use Rattle.std.specs.Str.Parse.{AllDigits}
use Rattle.std.proofs.Common.{arith, ◌∙◌, inl, inr, get_or, Bor, length-append}
use Rattle.std.proofs.lemmas.List.{get_or_default}
use Rattle.std.proofs.lemmas.List.Elements.{Contains-append_cases}
use Rattle.std.proofs.lemmas.List.Sums.{AllPass-from_list_all}
use Rattle.std.proofs.lemmas.Grind.{common_steps}
use Rattle.std.proofs.Math.Seq.{get_or-append_seam}
use Rattle.std.proofs.lemmas.Str.Parse.{digit_at}
use Rattle.std.proofs.lemmas.Str.Pattern.{IsSplitOnceResult, split_parts, split_after}
use Rattle.typst_script.specs.Path.{dot, IsIndices, IsPathWord}
use Rattle.typst_script.specs.Word.{blank, IsSplit, IsSplitAt}

-- a list that has a byte at no index doesn't contain it
has_none : (byte : ℕ) (xs : List ℕ) → ((i : ℕ) → i < length xs → get_or xs i 0 ≢ byte) → ¬ (Contains xs byte)
has_none byte xs h (i, within, is) = h i within (get_or_default xs i 0 byte within ∙ is)

none_at : (byte : ℕ) (xs : List ℕ) → ¬ (Contains xs byte) → (i : ℕ) → i < length xs → get_or xs i 0 ≢ byte
none_at byte xs h i within is = h (i, within, get_or_default xs i byte 0 within ∙ is)

has_no_blank : (xs : List ℕ) → ((i : ℕ) → i < length xs → get_or xs i 0 ≢ blank) → ¬ (Contains xs blank)
has_no_blank xs h (i, within, is) = h i within (get_or_default xs i 0 blank within ∙ is)

pub split_reads : (byte : ℕ) → byte < 128 → (text : List ℕ) (r : Option (Bor (List ℕ) × Bor (List ℕ))) → IsSplitOnceResult byte text r
    → IfSome r (λ parts. IsSplitAt byte text parts.0.now parts.1.now)
split_reads byte ascii text None h = tt
split_reads byte ascii text (Some x) h =
    let parts = split_parts byte text (Some x) h (omega (arith, ascii)) in
    (parts.0, has_none byte x.0.now parts.1)

pub split_every : (byte : ℕ) → byte < 128 → (text : List ℕ) (r : Option (Bor (List ℕ) × Bor (List ℕ))) → IsSplitOnceResult byte text r
    → (word rest : List ℕ) → IsSplitAt byte text word rest → IsSomeAnd r (λ parts. (parts.0.now ≡ word) × (parts.1.now ≡ rest))
split_every byte ascii text None h word rest (is, none) =
    absurd (split_after byte text word rest None h (omega (arith, ascii)) is (none_at byte word none))
split_every byte ascii text (Some x) h word rest (is, none) =
    split_after byte text word rest (Some x) h (omega (arith, ascii)) is (none_at byte word none)

-- a word of digits has no dot
pub no_dot_in_digits : (word : List ℕ) → AllDigits 10 word → ¬ (Contains word 46)
no_dot_in_digits word digits = has_none 46 word (λ i within is. omega (arith, digit_at word i digits within, is))

-- a word of digits has no blank
pub no_blank_in_digits : (word : List ℕ) → AllDigits 10 word → ¬ (Contains word blank)
no_blank_in_digits word digits = has_no_blank word (λ i within is. omega (arith, digit_at word i digits within, is))

-- a word that is written out has no blank if a test of its bytes finds none
pub no_blank_by_test : (word : List ℕ) → list_all (λ byte. not (byte == blank)) word ≡ true → ¬ (Contains word blank)
no_blank_by_test word test (i, within, is) = grind (arith, common_steps, AllPass-from_list_all (λ byte. not (byte == blank)) word test i blank within, is)

-- a text that is split has a blank
pub blank_of_split : (text word rest : List ℕ) → IsSplit text word rest → Contains text blank
blank_of_split text word rest (is, none) = rw is (length word, omega (arith, length-append word (blank ∷ rest)), get_or-append_seam word blank rest blank)

-- a blank after a dot has a higher index
no_blank_behind_dot : (others : List ℕ) → ¬ (Contains others blank) → ¬ (Contains (dot ∷ others) blank)
no_blank_behind_dot others none (zero, within, is) = omega (arith, is)
no_blank_behind_dot others none (suc i, within, is) = none (i, omega (arith, within), is)

-- numbers joined by dots have no blank
no_blank_in_indices : (indices word : List ℕ) → IsIndices indices word → ¬ (Contains word blank)
no_blank_in_indices [] word h there = h
no_blank_in_indices (n ∷ []) word h there = no_blank_in_digits word h.0.1 there
no_blank_in_indices (n ∷ m ∷ more) word (first, others, joined, number, rest) there =
    elim (Contains-append_cases first (dot ∷ others) blank (rw joined at there)) as (λ _. ⊥) [
      | inl before ↦ no_blank_in_digits first number.0.1 before
      | inr behind ↦ no_blank_behind_dot others (no_blank_in_indices (m ∷ more) others rest) behind
    ]

pub no_blank_in_path : (word : List ℕ) → IsPathWord word → ¬ (Contains word blank)
no_blank_in_path word (path, inl (none, dash)) there = no_blank_by_test (codes "-") refl (rw dash at there)
no_blank_in_path word (path, inr indices) there = no_blank_in_indices path word indices there
