-- When the two words of sets are those of one set.
use Rattle.std.proofs.Common.{◌≡◌, ℕ, ◌+◌, ◌*◌, ◌/◌, ◌%◌, ◌^◌, ◌<◌, ◌≢◌, ◌==◌, Bool, List, ap, sym, ◌∙◌}
use Rattle.std.specs.Bool.{Decides}
use Rattle.std.specs.Cmp.{unsigned_Decides}
use Rattle.typst_base.specs.Flags.{flags, flags_number, high_word, low_word}

-- sets with one low word are the same exactly where their high words are
pub by_high_word : (l h m k : ℕ) (a b : List Bool) → (l < 2 ^ 128) × (h < 2 ^ 9) → (m < 2 ^ 128) × (k < 2 ^ 9) → flags 137 (h * 2 ^ 128 + l) ≡ a → flags 137 (k * 2 ^ 128 + m) ≡ b → l ≡ m → Decides (h == k) (a ≡ b)
by_high_word l h m k a b s t p q low = (
  λ e. sym p ∙ ((λ i. flags 137 ((unsigned_Decides h k).0 e i * 2 ^ 128 + low i)) ∙ q),
  λ e. (unsigned_Decides h k).1 (sym (high_word l h s.0 s.1) ∙ (ap (λ f. flags_number f / 2 ^ 128) (p ∙ (e ∙ sym q)) ∙ high_word m k t.0 t.1)),
)

-- and sets with two low words never are
pub by_low_word : (l h m k : ℕ) (a b : List Bool) → (l < 2 ^ 128) × (h < 2 ^ 9) → (m < 2 ^ 128) × (k < 2 ^ 9) → flags 137 (h * 2 ^ 128 + l) ≡ a → flags 137 (k * 2 ^ 128 + m) ≡ b → l ≢ m → Decides (l == m) (a ≡ b)
by_low_word l h m k a b s t p q low = (
  λ e. absurd (low ((unsigned_Decides l m).0 e)),
  λ e. (unsigned_Decides l m).1 (sym (low_word l h s.0 s.1) ∙ (ap (λ f. flags_number f % 2 ^ 128) (p ∙ (e ∙ sym q)) ∙ low_word m k t.0 t.1)),
)
