use Rattle.std.proofs.Common.{refl, sym}
use Rattle.typst_lexer.specs.declared.token.TokenKind.TheVariants as kinds
use Rattle.typst_lexer.specs.Bytes.{is_alone}
use Rattle.typst_lexer.proofs.QuickMathSigns.{bar_found, but_one_found, but_two_found, lone_found, sign_found}
use Rattle.typst_lexer.proofs.quick_math.sign.Goals as goal

pub returns-in-44 : goal.returns-in-44
returns-in-44 c = lone_found c.args.byte c.args.next 44 kinds.Comma c.in-44.is c.if-next-ge128.false refl refl

pub returns-in-59 : goal.returns-in-59
returns-in-59 c = lone_found c.args.byte c.args.next 59 kinds.Semicolon c.in-59.is c.if-next-ge128.false refl refl

pub returns-in-40 : goal.returns-in-40
returns-in-40 c = lone_found c.args.byte c.args.next 40 kinds.LeftParen c.in-40.is c.if-next-ge128.false refl refl

pub returns-in-41 : goal.returns-in-41
returns-in-41 c = lone_found c.args.byte c.args.next 41 kinds.RightParen c.in-41.is c.if-next-ge128.false refl refl

pub returns-in-123 : goal.returns-in-123
returns-in-123 c = lone_found c.args.byte c.args.next 123 kinds.LeftBrace c.in-123.is c.if-next-ge128.false refl refl

pub returns-in-125 : goal.returns-in-125
returns-in-125 c = lone_found c.args.byte c.args.next 125 kinds.RightBrace c.in-125.is c.if-next-ge128.false refl refl

pub returns-in-35 : goal.returns-in-35
returns-in-35 c = lone_found c.args.byte c.args.next 35 kinds.Hash c.in-35.is c.if-next-ge128.false refl refl

pub returns-in-36 : goal.returns-in-36
returns-in-36 c = lone_found c.args.byte c.args.next 36 kinds.Dollar c.in-36.is c.if-next-ge128.false refl refl

pub returns-in-95 : goal.returns-in-95
returns-in-95 c = lone_found c.args.byte c.args.next 95 kinds.Underscore c.in-95.is c.if-next-ge128.false refl refl

pub returns-in-94 : goal.returns-in-94
returns-in-94 c = lone_found c.args.byte c.args.next 94 kinds.Hat c.in-94.is c.if-next-ge128.false refl refl

pub returns-in-38 : goal.returns-in-38
returns-in-38 c = lone_found c.args.byte c.args.next 38 kinds.MathAlignPoint c.in-38.is c.if-next-ge128.false refl refl

pub returns-in-93 : goal.returns-in-93
returns-in-93 c = lone_found c.args.byte c.args.next 93 kinds.Closing c.in-93.is c.if-next-ge128.false refl refl

pub returns-in-91 : goal.returns-in-91
returns-in-91 c = but_one_found c.args.byte c.args.next 91 124 kinds.Opening c.in-91.is c.if-next-ge128.false c.if-next-ne124.true refl refl

pub returns-in-33 : goal.returns-in-33
returns-in-33 c = but_one_found c.args.byte c.args.next 33 61 kinds.Bang c.in-33.is c.if-next-ge128.false c.if-next-ne61.true refl refl

pub returns-in-47 : goal.returns-in-47
returns-in-47 c = but_two_found c.args.byte c.args.next 47 47 42 kinds.Slash c.in-47.is c.if-next-ge128.false c.if-next-ne47.true c.if-next-ne42.true refl refl

pub returns-in-42 : goal.returns-in-42
returns-in-42 c = but_one_found c.args.byte c.args.next 42 47 kinds.MathShorthand c.in-42.is c.if-next-ge128.false c.if-next-ne47-2.true refl refl

pub returns-in-45 : goal.returns-in-45
returns-in-45 c = but_two_found c.args.byte c.args.next 45 45 62 kinds.MathShorthand c.in-45.is c.if-next-ge128.false c.if-next-ne45.true c.if-next-ne62.true refl refl

pub returns-in-126 : goal.returns-in-126
returns-in-126 c = but_two_found c.args.byte c.args.next 126 126 62 kinds.MathShorthand c.in-126.is c.if-next-ge128.false c.if-next-ne126.true c.if-next-ne62-2.true refl refl

pub returns-in-37 : goal.returns-in-37
returns-in-37 c = lone_found c.args.byte c.args.next 37 kinds.MathText c.in-37.is c.if-next-ge128.false refl refl

pub returns-in-43 : goal.returns-in-43
returns-in-43 c = lone_found c.args.byte c.args.next 43 kinds.MathText c.in-43.is c.if-next-ge128.false refl refl

pub returns-in-63 : goal.returns-in-63
returns-in-63 c = lone_found c.args.byte c.args.next 63 kinds.MathText c.in-63.is c.if-next-ge128.false refl refl

pub returns-in-64 : goal.returns-in-64
returns-in-64 c = lone_found c.args.byte c.args.next 64 kinds.MathText c.in-64.is c.if-next-ge128.false refl refl

pub returns-in-96 : goal.returns-in-96
returns-in-96 c = lone_found c.args.byte c.args.next 96 kinds.MathText c.in-96.is c.if-next-ge128.false refl refl

pub returns-in-58 : goal.returns-in-58
returns-in-58 c = sign_found c.args.byte c.args.next 58 kinds.MathText is_alone c.in-58.is c.if-next-ge128.false (sym c.if-is_alone.ensures) refl refl

pub returns-in-60 : goal.returns-in-60
returns-in-60 c = sign_found c.args.byte c.args.next 60 kinds.MathText is_alone c.in-60.is c.if-next-ge128.false (sym c.if-is_alone-2.ensures) refl refl

pub returns-in-61 : goal.returns-in-61
returns-in-61 c = sign_found c.args.byte c.args.next 61 kinds.MathText is_alone c.in-61.is c.if-next-ge128.false (sym c.if-is_alone-3.ensures) refl refl

pub returns-in-62 : goal.returns-in-62
returns-in-62 c = sign_found c.args.byte c.args.next 62 kinds.MathText is_alone c.in-62.is c.if-next-ge128.false (sym c.if-is_alone-4.ensures) refl refl

pub returns-in-124 : goal.returns-in-124
returns-in-124 c = bar_found c.args.byte c.args.next c.in-124.is c.if-next-ge128.false (sym c.if-is_alone-5.ensures) c.if-next-ne93.true
