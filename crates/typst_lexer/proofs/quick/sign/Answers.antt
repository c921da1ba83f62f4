use Rattle.std.proofs.Common.{refl, sym}
use Rattle.typst_lexer.specs.declared.token.TokenKind.TheVariants as kinds
use Rattle.typst_lexer.proofs.Ascii.{pick}
use Rattle.typst_lexer.proofs.QuickTokens.{blank_found, hash_found, line_found, list_found, mark_found, marker_found, star_found, underscore_found}
use Rattle.typst_lexer.proofs.quick.sign.Goals as goal

pub returns-in-32 : goal.returns-in-32
returns-in-32 c = blank_found c.args.before c.args.byte c.args.next c.in-32.is (sym c.if-is_ascii_graphic.ensures.value)

pub returns-in-10 : goal.returns-in-10
returns-in-10 c = line_found c.args.before c.args.byte c.args.next c.in-10.is (sym c.if-is_ascii_graphic-2.ensures.value)

pub returns-in-42 : goal.returns-in-42
returns-in-42 c = star_found c.args.before c.args.byte c.args.next c.in-42.is c.if-next-ge128.false c.if-next-ne47.true (sym c.if-not-is_in_word.ensures)

pub returns-in-95 : goal.returns-in-95
returns-in-95 c = underscore_found c.args.before c.args.byte c.args.next c.in-95.is c.if-next-ge128.false (sym c.if-not-is_in_word-2.ensures)

pub returns-in-35 : goal.returns-in-35
returns-in-35 c = hash_found c.args.before c.args.byte c.args.next c.in-35.is c.if-next-ge128.false c.if-next-ne33.true

pub returns-in-45 : goal.returns-in-45
returns-in-45 c = list_found c.args.before c.args.byte c.args.next c.in-45.is c.if-next-eq32.true

pub returns-in-91 : goal.returns-in-91
returns-in-91 c = mark_found c.args.before c.args.byte c.args.next 91 kinds.LeftBracket c.in-91.is refl c.if-next-ge128.false (λ cs. (refl, refl, refl))

pub returns-in-93 : goal.returns-in-93
returns-in-93 c = mark_found c.args.before c.args.byte c.args.next 93 kinds.RightBracket c.in-93.is refl c.if-next-ge128.false (λ cs. (refl, refl, refl))

pub returns-in-36 : goal.returns-in-36
returns-in-36 c = mark_found c.args.before c.args.byte c.args.next 36 kinds.Dollar c.in-36.is refl c.if-next-ge128.false (λ cs. (refl, refl, refl))

pub returns-in-58 : goal.returns-in-58
returns-in-58 c = mark_found c.args.before c.args.byte c.args.next 58 kinds.Colon c.in-58.is refl c.if-next-ge128.false (λ cs. (refl, refl, refl))

pub returns-in-39 : goal.returns-in-39
returns-in-39 c = mark_found c.args.before c.args.byte c.args.next 39 kinds.SmartQuote c.in-39.is refl c.if-next-ge128.false (λ cs. (refl, refl, refl))

pub returns-in-34 : goal.returns-in-34
returns-in-34 c = mark_found c.args.before c.args.byte c.args.next 34 kinds.SmartQuote c.in-34.is refl c.if-next-ge128.false (λ cs. (refl, refl, refl))

pub returns-in-43 : goal.returns-in-43
returns-in-43 c = marker_found c.args.before c.args.byte c.args.next 43 kinds.EnumMarker c.in-43.is refl c.if-next-eq32-2.true (λ cs e. (refl, refl, pick _ _ _ e))

pub returns-in-61 : goal.returns-in-61
returns-in-61 c = marker_found c.args.before c.args.byte c.args.next 61 kinds.HeadingMarker c.in-61.is refl c.if-next-eq32-3.true (λ cs e. (refl, refl, pick _ _ _ e))

pub returns-in-47 : goal.returns-in-47
returns-in-47 c = marker_found c.args.before c.args.byte c.args.next 47 kinds.TermMarker c.in-47.is refl c.if-next-eq32-4.true (λ cs e. (refl, refl, pick _ _ _ e))

pub returns-in-126 : goal.returns-in-126
returns-in-126 c = mark_found c.args.before c.args.byte c.args.next 126 kinds.Shorthand c.in-126.is refl c.if-next-ge128.false (λ cs. (refl, refl, refl))
