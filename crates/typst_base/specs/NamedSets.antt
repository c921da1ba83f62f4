-- The named sets of kinds. Each lists its kinds in the order of the kinds' numbers, or combines other sets.
use Rattle.std.specs.Prelude.{Bool, true, false, ◌||◌}
use Rattle.typst_base.specs.KindSet.{is_kind}
use Rattle.typst_base.specs.declared.kind.SyntaxKind.{SyntaxKind}
use Rattle.typst_base.specs.declared.kind.SyntaxKind.TheVariants.{Linebreak, Escape, Raw, Label, MathText, MathIdent, MathFieldAccess, MathShorthand, MathAlignPoint, MathPrimes, Hash, LeftBrace, RightBrace, LeftBracket, LeftParen, RightParen, Comma, Semicolon, Star, Underscore, Dollar, Plus, Minus, Slash, Dot, Eq, EqEq, ExclEq, Lt, LtEq, Gt, GtEq, PlusEq, HyphEq, StarEq, SlashEq, Dots, Root, Bang, Not, And, Or, None as NoneKind, Auto, Let, Set, Show, Context, If, For, In, While, Break, Continue, Return, Import, Include, Ident, Bool as BoolKind, Int, Float, Numeric, Str}

-- the kinds that a statement may begin with
abbrev pub stmt_set : SyntaxKind → Bool
stmt_set Let = true
stmt_set Set = true
stmt_set Show = true
stmt_set Return = true
stmt_set Import = true
stmt_set Include = true
stmt_set _ = false

-- the kinds that an expression in an equation may begin with
abbrev pub math_expr_set : SyntaxKind → Bool
math_expr_set Linebreak = true
math_expr_set Escape = true
math_expr_set MathText = true
math_expr_set MathIdent = true
math_expr_set MathFieldAccess = true
math_expr_set MathShorthand = true
math_expr_set MathAlignPoint = true
math_expr_set MathPrimes = true
math_expr_set Hash = true
math_expr_set LeftBrace = true
math_expr_set RightBrace = true
math_expr_set LeftParen = true
math_expr_set RightParen = true
math_expr_set Comma = true
math_expr_set Semicolon = true
math_expr_set Dot = true
math_expr_set Root = true
math_expr_set Bang = true
math_expr_set Str = true
math_expr_set _ = false

-- the kinds that a code expression without an operator may begin with
abbrev pub atomic_code_expr_set : SyntaxKind → Bool
atomic_code_expr_set Raw = true
atomic_code_expr_set Label = true
atomic_code_expr_set LeftBrace = true
atomic_code_expr_set LeftBracket = true
atomic_code_expr_set LeftParen = true
atomic_code_expr_set Dollar = true
atomic_code_expr_set NoneKind = true
atomic_code_expr_set Auto = true
atomic_code_expr_set Let = true
atomic_code_expr_set Set = true
atomic_code_expr_set Show = true
atomic_code_expr_set Context = true
atomic_code_expr_set If = true
atomic_code_expr_set For = true
atomic_code_expr_set While = true
atomic_code_expr_set Break = true
atomic_code_expr_set Continue = true
atomic_code_expr_set Return = true
atomic_code_expr_set Import = true
atomic_code_expr_set Include = true
atomic_code_expr_set Ident = true
atomic_code_expr_set BoolKind = true
atomic_code_expr_set Int = true
atomic_code_expr_set Float = true
atomic_code_expr_set Numeric = true
atomic_code_expr_set Str = true
atomic_code_expr_set _ = false

-- the kinds of operators before an operand
abbrev pub unary_op_set : SyntaxKind → Bool
unary_op_set Plus = true
unary_op_set Minus = true
unary_op_set Not = true
unary_op_set _ = false

-- the kinds of operators between two operands
abbrev pub binary_op_set : SyntaxKind → Bool
binary_op_set Star = true
binary_op_set Plus = true
binary_op_set Minus = true
binary_op_set Slash = true
binary_op_set Eq = true
binary_op_set EqEq = true
binary_op_set ExclEq = true
binary_op_set Lt = true
binary_op_set LtEq = true
binary_op_set Gt = true
binary_op_set GtEq = true
binary_op_set PlusEq = true
binary_op_set HyphEq = true
binary_op_set StarEq = true
binary_op_set SlashEq = true
binary_op_set And = true
binary_op_set Or = true
binary_op_set In = true
binary_op_set _ = false

-- the kinds that a code expression may begin with
abbrev pub code_expr_set : SyntaxKind → Bool
code_expr_set k = atomic_code_expr_set k || unary_op_set k || is_kind Underscore k

-- the kinds that an item of an array or a dictionary may begin with
abbrev pub array_or_dict_item_set : SyntaxKind → Bool
array_or_dict_item_set k = code_expr_set k || is_kind Dots k

-- the kinds that an argument of a call may begin with
abbrev pub arg_set : SyntaxKind → Bool
arg_set k = code_expr_set k || is_kind Dots k

-- the kinds that a pattern without parts may begin with
abbrev pub pattern_leaf_set : SyntaxKind → Bool
pattern_leaf_set k = atomic_code_expr_set k

-- the kinds that a pattern may begin with
abbrev pub pattern_set : SyntaxKind → Bool
pattern_set k = pattern_leaf_set k || is_kind LeftParen k || is_kind Underscore k

-- the kinds that a parameter of a closure may begin with
abbrev pub param_set : SyntaxKind → Bool
param_set k = pattern_set k || is_kind Dots k

-- the kinds that an item of a destructuring pattern may begin with
abbrev pub destructuring_item_set : SyntaxKind → Bool
destructuring_item_set k = pattern_set k || is_kind Dots k
