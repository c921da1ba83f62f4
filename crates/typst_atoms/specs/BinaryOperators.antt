-- Binary operators: their kinds, precedences and texts.
use Rattle.std.specs.Prelude.{ℕ, List, codes, Option, Some, None}
use Rattle.typst_atoms.specs.declared.operators.BinOp.{BinOp}
use Rattle.typst_atoms.specs.declared.operators.BinOp.TheVariants.{Mul, Div, Add, Sub, Eq, Neq, Lt, Leq, Gt, Geq, In, NotIn, And, Or, Assign, AddAssign, SubAssign, MulAssign, DivAssign}
use Rattle.typst_base.specs.declared.kind.SyntaxKind.{SyntaxKind}
use Rattle.typst_base.specs.declared.kind.SyntaxKind.TheVariants.{Star, Slash, Plus, Minus, EqEq, ExclEq, Lt as LtKind, LtEq, Gt as GtKind, GtEq, In as InKind, And as AndKind, Or as OrKind, Eq as EqKind, PlusEq, HyphEq, StarEq, SlashEq}

-- the operator of a token of the kind
abbrev pub binary_operator_of : SyntaxKind → Option BinOp
binary_operator_of Star = Some Mul
binary_operator_of Slash = Some Div
binary_operator_of Plus = Some Add
binary_operator_of Minus = Some Sub
binary_operator_of EqEq = Some Eq
binary_operator_of ExclEq = Some Neq
binary_operator_of LtKind = Some Lt
binary_operator_of LtEq = Some Leq
binary_operator_of GtKind = Some Gt
binary_operator_of GtEq = Some Geq
binary_operator_of InKind = Some In
binary_operator_of AndKind = Some And
binary_operator_of OrKind = Some Or
binary_operator_of EqKind = Some Assign
binary_operator_of PlusEq = Some AddAssign
binary_operator_of HyphEq = Some SubAssign
binary_operator_of StarEq = Some MulAssign
binary_operator_of SlashEq = Some DivAssign
binary_operator_of _ = None

-- the precedence of an operator
abbrev pub binary_precedence : BinOp → ℕ
binary_precedence Mul = 6
binary_precedence Div = 6
binary_precedence Add = 5
binary_precedence Sub = 5
binary_precedence Eq = 4
binary_precedence Neq = 4
binary_precedence Lt = 4
binary_precedence Leq = 4
binary_precedence Gt = 4
binary_precedence Geq = 4
binary_precedence In = 4
binary_precedence NotIn = 4
binary_precedence And = 3
binary_precedence Or = 2
binary_precedence Assign = 1
binary_precedence AddAssign = 1
binary_precedence SubAssign = 1
binary_precedence MulAssign = 1
binary_precedence DivAssign = 1

-- the text of an operator
abbrev pub binary_text : BinOp → List ℕ
binary_text Mul = codes "*"
binary_text Div = codes "/"
binary_text Add = codes "+"
binary_text Sub = codes "-"
binary_text Eq = codes "=="
binary_text Neq = codes "!="
binary_text Lt = codes "<"
binary_text Leq = codes "<="
binary_text Gt = codes ">"
binary_text Geq = codes ">="
binary_text In = codes "in"
binary_text NotIn = codes "not in"
binary_text And = codes "and"
binary_text Or = codes "or"
binary_text Assign = codes "="
binary_text AddAssign = codes "+="
binary_text SubAssign = codes "-="
binary_text MulAssign = codes "*="
binary_text DivAssign = codes "/="
