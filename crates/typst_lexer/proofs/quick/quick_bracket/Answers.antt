use Rattle.typst_lexer.specs.declared.mode.Mode.TheVariants.{Code, Operator}
use Rattle.typst_lexer.specs.declared.token.TokenKind.TheVariants as kinds
use Rattle.typst_lexer.proofs.QuickTokens.{bracket_found}
use Rattle.typst_lexer.proofs.Signs.{code_bracket, operator_bracket}
use Rattle.typst_lexer.proofs.quick.quick_bracket.Goals as goal

pub returns-then-stops_sign-clause-code : goal.returns-then-stops_sign-clause-code
returns-then-stops_sign-clause-code c k =
    bracket_found Code k c.args.bytes.now c.in-Some.kind kinds.InvalidCharacter (code_bracket k) c.in-len1-up.len_at_least c.in-Some.ensures.is c.in-Some.ensures.enters
    (c.stops_sign.ensures c.if-stops_sign.true c.in-Some.kind)

pub returns-then-stops_sign-clause-operator : goal.returns-then-stops_sign-clause-operator
returns-then-stops_sign-clause-operator c k =
    bracket_found Operator k c.args.bytes.now c.in-Some.kind kinds.Other (operator_bracket k) c.in-len1-up.len_at_least c.in-Some.ensures.is c.in-Some.ensures.enters
    (c.stops_sign.ensures c.if-stops_sign.true c.in-Some.kind)
