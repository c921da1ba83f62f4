-- What is read of a text.
use Rattle.std.proofs.Common.{◌≡◌, ℕ, ◌+◌, ◌^◌, ◌<◌, ◌≤◌, List, length, drop, ap, ◌∙◌, arith}
use Rattle.std.proofs.lemmas.List.{length-drop}
use Rattle.typst_lexer.specs.FirstToken.{first, run_of}
use Rattle.typst_lexer.specs.Machine.{accepts, begin, stay}
use Rattle.typst_lexer.specs.declared.head.FirstToken.{FirstToken}
use Rattle.typst_lexer.specs.declared.mode.Mode.{Mode}
use Rattle.typst_lexer.specs.declared.place.Behind.{Behind}
use Rattle.typst_lexer.proofs.FirstTokens.{first_within}
use Rattle.typst_lexer.proofs.Runs.{begun_passed}

-- a token is looked at no further than ten bytes behind the text
pub first_look : (m : Mode) (k : Behind) (text : List ℕ) → (first m k text).look ≤ length text + 10
first_look m k text =
    let passed : (run_of m k text).passed ≤ length text = begun_passed stay accepts 10 (begin m k) text in
    omega arith

-- a token at a place ends within the text
pub token_within : (m : Mode) (k : Behind) (at : ℕ) (text : List ℕ) → 0 < length (drop at text) → at + (first m k (drop at text)).len ≤ length text
token_within m k at text some =
    omega (arith, length-drop at text, (first_within m k (drop at text) some).1)

pub look_within : (m : Mode) (k : Behind) (at : ℕ) (text : List ℕ) → 0 < length (drop at text) → at + (first m k (drop at text)).look ≤ length text + 10
look_within m k at text some =
    omega (arith, length-drop at text, first_look m k (drop at text))

-- so its end and the place up to which it was looked at are numbers of the machine
pub token_fits : (m : Mode) (k : Behind) (at : ℕ) (text rest : List ℕ) (t : FirstToken) → t ≡ first m k rest → rest ≡ drop at text → 0 < length rest → length text < 2 ^ 63 → (at + t.len < 2 ^ 64) × (at + t.look < 2 ^ 64)
token_fits m k at text rest t is are some small =
    let same : t ≡ first m k (drop at text) = is ∙ ap (first m k) are in
    let here : 0 < length (drop at text) = omega (arith, some, ap length are) in (
      omega (arith, small, token_within m k at text here, ap (λ (p : FirstToken). p.len) same),
      omega (arith, small, look_within m k at text here, ap (λ (p : FirstToken). p.look) same),
    )
