-- Words that are numbers joined by dots.
use Rattle.std.specs.Prelude.{ℕ, ◌≡◌, ◌<◌, List, [], ◌∷◌, length, refl, Contains, Option, Some, None, IfSome, IsSome}
use Rattle.std.proofs.Common.{arith, length-append}
use Rattle.std.proofs.lemmas.Grind.{common_steps}
use Rattle.std.proofs.Math.Seq.{get_or-append_seam}
use Rattle.typst_script.specs.Word.{IsSplitAt, IsNumber}
use Rattle.typst_script.specs.Path.{dot, IsIndices}
use Rattle.typst_script.proofs.Blanks.{no_dot_in_digits}

-- a word without a dot is one number
pub single_index : (indices word : List ℕ) → ((first rest : List ℕ) → IsSplitAt dot word first rest → ⊥) → IsIndices indices word
    → (n : ℕ) × (indices ≡ n ∷ []) × IsNumber word n
single_index [] word none h = absurd h
single_index (n ∷ []) word none h = (n, refl, h)
single_index (n ∷ m ∷ more) word none (first, others, joined, number, rest) =
    absurd (none first others (joined, no_dot_in_digits first number.0.1))

dot_of_split : (word first rest : List ℕ) → IsSplitAt dot word first rest → Contains word dot
dot_of_split word first rest (is, none) = rw is (length first, omega (arith, length-append first (dot ∷ rest)), get_or-append_seam first dot rest dot)

-- the part before the first dot is the first number, and the part after the dot is the others
pub first_index : (indices word first rest : List ℕ) → IsSplitAt dot word first rest
    → ((f r : List ℕ) → IsSplitAt dot word f r → (first ≡ f) × (rest ≡ r)) → IsIndices indices word
    → (n : ℕ) × (more : List ℕ) × (indices ≡ n ∷ more) × IsNumber first n × IsIndices more rest
first_index [] word first rest split only h = absurd h
first_index (n ∷ []) word first rest split only h = absurd (no_dot_in_digits word h.0.1 (dot_of_split word first rest split))
first_index (n ∷ m ∷ more) word first rest split only (f, others, joined, number, h) =
    let same = only f others (joined, no_dot_in_digits f number.0.1) in
    (n, m ∷ more, refl, rw same.0 number, rw same.1 h)

-- a number before a dot, and numbers after it, are numbers joined by dots
pub joined_indices : (more word first rest : List ℕ) (n : ℕ) → IsSplitAt dot word first rest → IsNumber first n → IsIndices more rest
    → IsIndices (n ∷ more) word
joined_indices [] word first rest n split number h = absurd h
joined_indices (m ∷ more) word first rest n split number h = (first, rest, split.0, number, h)

-- the part after the first dot is shorter than the word
pub shorter_rest : (word first rest : List ℕ) → IsSplitAt dot word first rest → length rest < length word
shorter_rest word first rest (is, none) = rw is (omega (arith, length-append first (dot ∷ rest)))

-- what holds for every answer holds for an answer that is there
pub value_of : (P : ℕ → Type 0) (answer : Option ℕ) → IfSome answer P → IsSome answer → (n : ℕ) × P n
value_of P None has there = absurd (grind (arith, common_steps, there))
value_of P (Some n) has there = (n, has)
