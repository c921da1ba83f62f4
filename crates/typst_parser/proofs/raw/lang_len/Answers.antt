use Rattle.std.proofs.Common.{◌≡◌, ◌<◌, ◌≤◌, ◌==◌, false, List, ℕ, [], ◌∷◌, length, sym, subst, ◌∙◌, arith}
use Rattle.typst_lexer.specs.declared.head.FirstToken.{FirstToken}
use Rattle.typst_lexer.specs.declared.mode.Mode.TheVariants.{Code}
use Rattle.typst_lexer.specs.declared.place.Behind.TheVariants.{At}
use Rattle.typst_lexer.proofs.FirstTokens.{first_within}
use Rattle.typst_parser.proofs.raw.lang_len.Goals as goal

has_byte : (text : List ℕ) → (length text == 0) ≡ false → 0 < length text
has_byte [] e = cc
has_byte (b ∷ bs) e = omega arith

pub returns-in-Ident-clause-within : goal.returns-in-Ident-clause-within
returns-in-Ident-clause-within c =
    let text = c.args.text.now in
    let some : 0 < length text = has_byte text (sym c.is_empty.ensures ∙ c.if-is_empty.false) in
    subst (λ (k : FirstToken). k.len ≤ length text) (sym c.token_of_bytes-first.ensures) (first_within Code At text some).1
