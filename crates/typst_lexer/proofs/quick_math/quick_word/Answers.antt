use Rattle.std.proofs.Common.{sym, subst}
use Rattle.typst_lexer.specs.declared.mode.Mode.TheVariants.{Math}
use Rattle.typst_lexer.specs.declared.token.TokenKind.{TokenKind}
use Rattle.typst_lexer.specs.Quick.{IsQuick}
use Rattle.typst_lexer.proofs.QuickMath.{letter_found, name_found}
use Rattle.typst_lexer.proofs.quick_math.quick_word.Goals as goal
use Rattle.typst_lexer.proofs.quick_math.quick_word.Goals.{then-len-eq1, else-len-eq1}

pub returns-then-stops_word-clause-first : goal.returns-then-stops_word-clause-first
returns-then-stops_word-clause-first c = λ before letter.
    let letters = c.stops_word.ensures.letter c.if-stops_word.true in
    let names = c.stops_word.ensures.name c.if-stops_word.true in
    let of = λ (kind : TokenKind). IsQuick Math before c.args.bytes.now (record { kind = kind; len = c.word_len-len.result }) in
    elim c.if-len-eq1.branch [
      | then-len-eq1 w ↦ subst of (sym w.kind-is) (letter_found before c.args.bytes.now c.word_len-len.result letter c.word_len-len.ensures.value w.if-len-eq1.true letters names)
      | else-len-eq1 w ↦ subst of (sym w.kind-is) (name_found before c.args.bytes.now c.word_len-len.result letter c.word_len-len.ensures.value w.if-len-eq1.false names)
    ]
