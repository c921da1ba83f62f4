-- What follows if a line asks for a remark.
use Rattle.std.specs.Prelude.{ℕ, ◌≡◌, ◌≢◌, List, ◌++◌, codes, refl}
use Rattle.std.proofs.Common.{arith, ap, drop, get_or}
use Rattle.typst_answers.specs.Remark.{WritesPart, IsRemarkLine}
use Rattle.typst_answers.specs.declared.remark.Remark.{Remark}
use Rattle.typst_answers.specs.declared.remark.Remark.TheVariants.{Hint, HintAt, WarnAt}
use Rattle.typst_script.specs.Word.{IsSplit}
use Rattle.typst_script.proofs.Blanks.{no_blank_by_test}

-- a part of a text
pub record Part (rest : List ℕ) : Type 0 where
  pub start : ℕ
  pub end_ : ℕ
  pub last : List ℕ
  pub is : WritesPart rest start end_ last

-- lists that differ at an index are not the same
differ : (i : ℕ) (xs ys : List ℕ) → xs ≡ ys → get_or xs i 0 ≢ get_or ys i 0 → ⊥
differ i xs ys same other = other (ap (λ l. get_or l i 0) same)

pub hint_at_rest : (remark : Remark) (rest : List ℕ) → IsRemarkLine remark (codes "hintat " ++ rest) → Part rest
hint_at_rest (Hint text) rest is = absurd (differ 4 _ _ is (omega arith))
hint_at_rest (HintAt start end text) rest (tail, is, part) =
    record { start = start; end_ = end; last = text.now; is = rw (ap (drop 7) is) part }
hint_at_rest (WarnAt start end message) rest (tail, is, part) = absurd (differ 0 _ _ is (omega arith))

pub warn_at_rest : (remark : Remark) (rest : List ℕ) → IsRemarkLine remark (codes "warnat " ++ rest) → Part rest
warn_at_rest (Hint text) rest is = absurd (differ 0 _ _ is (omega arith))
warn_at_rest (HintAt start end text) rest (tail, is, part) = absurd (differ 0 _ _ is (omega arith))
warn_at_rest (WarnAt start end message) rest (tail, is, part) =
    record { start = start; end_ = end; last = message.now; is = rw (ap (drop 7) is) part }

-- a line without a blank asks for no remark
pub no_lone_remark : (remark : Remark) (line : List ℕ) → ((word rest : List ℕ) → IsSplit line word rest → ⊥)
    → ¬ (IsRemarkLine remark line)
no_lone_remark (Hint text) line lone is = lone (codes "hint") _ (is, no_blank_by_test (codes "hint") refl)
no_lone_remark (HintAt start end text) line lone (tail, is, part) =
    lone (codes "hintat") _ (is, no_blank_by_test (codes "hintat") refl)
no_lone_remark (WarnAt start end message) line lone (tail, is, part) =
    lone (codes "warnat") _ (is, no_blank_by_test (codes "warnat") refl)

-- the first word of a line that asks for a remark is the remark's
pub no_other_remark : (remark : Remark) (line word rest : List ℕ)
    → ((w r : List ℕ) → IsSplit line w r → (word ≡ w) × (rest ≡ r))
    → word ≢ codes "hint" → word ≢ codes "hintat" → word ≢ codes "warnat" → ¬ (IsRemarkLine remark line)
no_other_remark (Hint text) line word rest only no_hint no_hint_at no_warn_at is =
    no_hint (only (codes "hint") _ (is, no_blank_by_test (codes "hint") refl)).0
no_other_remark (HintAt start end text) line word rest only no_hint no_hint_at no_warn_at (tail, is, part) =
    no_hint_at (only (codes "hintat") _ (is, no_blank_by_test (codes "hintat") refl)).0
no_other_remark (WarnAt start end message) line word rest only no_hint no_hint_at no_warn_at (tail, is, part) =
    no_warn_at (only (codes "warnat") _ (is, no_blank_by_test (codes "warnat") refl)).0
