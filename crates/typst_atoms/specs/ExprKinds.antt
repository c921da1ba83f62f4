-- Written by bench/kinds.py from crates/kinds.txt: change that and run it.
-- The kinds of expressions, in the order of the kinds' numbers.
use Rattle.std.specs.Prelude.{Bool, true, false}
use Rattle.typst_base.specs.declared.kind.SyntaxKind.{SyntaxKind}
use Rattle.typst_base.specs.declared.kind.SyntaxKind.TheVariants.{Text, Linebreak, Parbreak, Escape, Shorthand, SmartQuote, Strong, Emph, Raw, Link, Label, Ref, Heading, ListItem, EnumItem, TermItem, Equation, Math, MathText, MathIdent, MathFieldAccess, MathShorthand, MathAlignPoint, MathCall, MathDelimited, MathAttach, MathPrimes, MathFrac, MathRoot, None as NoneKind, Auto, Ident, Bool as BoolKind, Int, Float, Numeric, Str, CodeBlock, ContentBlock, Parenthesized, Array, Dict, Unary, Binary, FieldAccess, FuncCall, Closure, LetBinding, SetRule, ShowRule, Contextual, Conditional, WhileLoop, ForLoop, ModuleImport, ModuleInclude, LoopBreak, LoopContinue, FuncReturn, DestructAssignment}

-- an expression: a variant of `Expr` that `from_untyped` answers, so not `Space`
abbrev pub is_expr_kind : SyntaxKind → Bool
is_expr_kind Text = true
is_expr_kind Linebreak = true
is_expr_kind Parbreak = true
is_expr_kind Escape = true
is_expr_kind Shorthand = true
is_expr_kind SmartQuote = true
is_expr_kind Strong = true
is_expr_kind Emph = true
is_expr_kind Raw = true
is_expr_kind Link = true
is_expr_kind Label = true
is_expr_kind Ref = true
is_expr_kind Heading = true
is_expr_kind ListItem = true
is_expr_kind EnumItem = true
is_expr_kind TermItem = true
is_expr_kind Equation = true
is_expr_kind Math = true
is_expr_kind MathText = true
is_expr_kind MathIdent = true
is_expr_kind MathFieldAccess = true
is_expr_kind MathShorthand = true
is_expr_kind MathAlignPoint = true
is_expr_kind MathCall = true
is_expr_kind MathDelimited = true
is_expr_kind MathAttach = true
is_expr_kind MathPrimes = true
is_expr_kind MathFrac = true
is_expr_kind MathRoot = true
is_expr_kind NoneKind = true
is_expr_kind Auto = true
is_expr_kind Ident = true
is_expr_kind BoolKind = true
is_expr_kind Int = true
is_expr_kind Float = true
is_expr_kind Numeric = true
is_expr_kind Str = true
is_expr_kind CodeBlock = true
is_expr_kind ContentBlock = true
is_expr_kind Parenthesized = true
is_expr_kind Array = true
is_expr_kind Dict = true
is_expr_kind Unary = true
is_expr_kind Binary = true
is_expr_kind FieldAccess = true
is_expr_kind FuncCall = true
is_expr_kind Closure = true
is_expr_kind LetBinding = true
is_expr_kind SetRule = true
is_expr_kind ShowRule = true
is_expr_kind Contextual = true
is_expr_kind Conditional = true
is_expr_kind WhileLoop = true
is_expr_kind ForLoop = true
is_expr_kind ModuleImport = true
is_expr_kind ModuleInclude = true
is_expr_kind LoopBreak = true
is_expr_kind LoopContinue = true
is_expr_kind FuncReturn = true
is_expr_kind DestructAssignment = true
is_expr_kind _ = false
