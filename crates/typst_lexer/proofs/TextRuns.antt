-- How many bytes text goes over.
use Rattle.std.proofs.Common.{◌≡◌, ℕ, suc, ◌+◌, ◌<◌, ◌≤◌, Bool, true, false, List, [], ◌∷◌, length, drop, sym, ap, ◌∙◌, arith}
use Rattle.std.specs.Prelude.{if◌then◌else◌}
use Rattle.std.proofs.lemmas.List.{drop_more}
use Rattle.typst_lexer.specs.Bytes.{goes_over_text, text_len}
use Rattle.typst_lexer.proofs.Ascii.{pick}

-- one byte more
pub text_next : (bs : List ℕ) (at : ℕ) → at < length bs → goes_over_text (drop at bs) ≡ true → text_len (drop at bs) ≡ suc (text_len (drop (at + 1) bs))
text_next bs at h over = let e = drop_more bs at 0 h in ap text_len e ∙ pick _ _ _ (sym (ap goes_over_text e) ∙ over)

pub text_within : (bs : List ℕ) → text_len bs ≤ length bs
text_within [] = omega arith
text_within (b ∷ bs) = by_test (goes_over_text (b ∷ bs)) (text_within bs)
  where
    by_test : (v : Bool) → text_len bs ≤ length bs → (if v then suc (text_len bs) else 0) ≤ suc (length bs)
    by_test true ih = omega (arith, ih)
    by_test false ih = omega arith
