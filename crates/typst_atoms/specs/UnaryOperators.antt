-- Unary operators: their kinds, precedences and texts.
use Rattle.std.specs.Prelude.{ℕ, List, codes, Option, Some, None}
use Rattle.typst_atoms.specs.declared.operators.UnOp.{UnOp}
use Rattle.typst_atoms.specs.declared.operators.UnOp.TheVariants.{Pos, Neg, Not}
use Rattle.typst_base.specs.declared.kind.SyntaxKind.{SyntaxKind}
use Rattle.typst_base.specs.declared.kind.SyntaxKind.TheVariants.{Plus, Minus, Not as NotKind}

-- the operator of a token of the kind
abbrev pub unary_operator_of : SyntaxKind → Option UnOp
unary_operator_of Plus = Some Pos
unary_operator_of Minus = Some Neg
unary_operator_of NotKind = Some Not
unary_operator_of _ = None

-- the precedence of an operator
abbrev pub unary_precedence : UnOp → ℕ
unary_precedence Pos = 7
unary_precedence Neg = 7
unary_precedence Not = 4

-- the text of an operator
abbrev pub unary_text : UnOp → List ℕ
unary_text Pos = codes "+"
unary_text Neg = codes "-"
unary_text Not = codes "not"
