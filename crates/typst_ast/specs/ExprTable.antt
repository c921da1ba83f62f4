-- Written by bench/kinds.py from crates/kinds.txt: change that and run it.
-- The node and the kind of each variant of `Expr`.
use Rattle.std.specs.Prelude.{Option, IfSome, ◌≡◌}
use Rattle.typst_ast.specs.View.{node_of}
use Rattle.typst_ast.specs.declared.expr.Expr.{Expr}
use Rattle.typst_ast.specs.declared.expr.Expr.TheVariants.{Text, Space, Linebreak, Parbreak, Escape, Shorthand, SmartQuote, Strong, Emph, Raw, Link, Label, Ref, Heading, ListItem, EnumItem, TermItem, Equation, Math, MathText, MathIdent, MathFieldAccess, MathShorthand, MathAlignPoint, MathCall, MathDelimited, MathAttach, MathPrimes, MathFrac, MathRoot, None as NoneKind, Auto, Ident, Bool as BoolKind, Int, Float, Numeric, Str, CodeBlock, ContentBlock, Parenthesized, Array, Dict, Unary, Binary, FieldAccess, FuncCall, Closure, LetBinding, SetRule, ShowRule, Contextual, Conditional, WhileLoop, ForLoop, ModuleImport, ModuleInclude, LoopBreak, LoopContinue, FuncReturn, DestructAssignment}
use Rattle.typst_atoms.specs.OfKind.{kind_from_test}
use Rattle.typst_atoms.specs.View.{atom_node}
use Rattle.typst_base.specs.declared.kind.SyntaxKind.{SyntaxKind}
use Rattle.typst_base.specs.declared.kind.SyntaxKind.TheVariants as kinds
use Rattle.typst_node.specs.Tree.{Tree}
use Rattle.typst_node.specs.Views.{node_kind}

-- the node of the expression; a placeholder has none
abbrev pub expr_node : Expr → Option Tree
expr_node (Text v) = atom_node v
expr_node (Space v) = atom_node v
expr_node (Linebreak v) = atom_node v
expr_node (Parbreak v) = atom_node v
expr_node (Escape v) = atom_node v
expr_node (Shorthand v) = atom_node v
expr_node (SmartQuote v) = atom_node v
expr_node (Strong v) = node_of v
expr_node (Emph v) = node_of v
expr_node (Raw v) = atom_node v
expr_node (Link v) = atom_node v
expr_node (Label v) = atom_node v
expr_node (Ref v) = node_of v
expr_node (Heading v) = node_of v
expr_node (ListItem v) = node_of v
expr_node (EnumItem v) = node_of v
expr_node (TermItem v) = node_of v
expr_node (Equation v) = node_of v
expr_node (Math v) = node_of v
expr_node (MathText v) = atom_node v
expr_node (MathIdent v) = atom_node v
expr_node (MathFieldAccess v) = atom_node v
expr_node (MathShorthand v) = atom_node v
expr_node (MathAlignPoint v) = atom_node v
expr_node (MathCall v) = node_of v
expr_node (MathDelimited v) = node_of v
expr_node (MathAttach v) = node_of v
expr_node (MathPrimes v) = atom_node v
expr_node (MathFrac v) = node_of v
expr_node (MathRoot v) = node_of v
expr_node (NoneKind v) = atom_node v
expr_node (Auto v) = atom_node v
expr_node (Ident v) = atom_node v
expr_node (BoolKind v) = atom_node v
expr_node (Int v) = atom_node v
expr_node (Float v) = atom_node v
expr_node (Numeric v) = atom_node v
expr_node (Str v) = atom_node v
expr_node (CodeBlock v) = node_of v
expr_node (ContentBlock v) = node_of v
expr_node (Parenthesized v) = node_of v
expr_node (Array v) = node_of v
expr_node (Dict v) = node_of v
expr_node (Unary v) = node_of v
expr_node (Binary v) = node_of v
expr_node (FieldAccess v) = node_of v
expr_node (FuncCall v) = node_of v
expr_node (Closure v) = node_of v
expr_node (LetBinding v) = node_of v
expr_node (SetRule v) = node_of v
expr_node (ShowRule v) = node_of v
expr_node (Contextual v) = node_of v
expr_node (Conditional v) = node_of v
expr_node (WhileLoop v) = node_of v
expr_node (ForLoop v) = node_of v
expr_node (ModuleImport v) = node_of v
expr_node (ModuleInclude v) = node_of v
expr_node (LoopBreak v) = atom_node v
expr_node (LoopContinue v) = atom_node v
expr_node (FuncReturn v) = node_of v
expr_node (DestructAssignment v) = node_of v

-- the kind of the expression, with or without a node; it determines the variant
abbrev pub expr_kind : Expr → SyntaxKind
expr_kind (Text v) = kinds.Text
expr_kind (Space v) = kinds.Space
expr_kind (Linebreak v) = kinds.Linebreak
expr_kind (Parbreak v) = kinds.Parbreak
expr_kind (Escape v) = kinds.Escape
expr_kind (Shorthand v) = kinds.Shorthand
expr_kind (SmartQuote v) = kinds.SmartQuote
expr_kind (Strong v) = kinds.Strong
expr_kind (Emph v) = kinds.Emph
expr_kind (Raw v) = kinds.Raw
expr_kind (Link v) = kinds.Link
expr_kind (Label v) = kinds.Label
expr_kind (Ref v) = kinds.Ref
expr_kind (Heading v) = kinds.Heading
expr_kind (ListItem v) = kinds.ListItem
expr_kind (EnumItem v) = kinds.EnumItem
expr_kind (TermItem v) = kinds.TermItem
expr_kind (Equation v) = kinds.Equation
expr_kind (Math v) = kinds.Math
expr_kind (MathText v) = kinds.MathText
expr_kind (MathIdent v) = kinds.MathIdent
expr_kind (MathFieldAccess v) = kinds.MathFieldAccess
expr_kind (MathShorthand v) = kinds.MathShorthand
expr_kind (MathAlignPoint v) = kinds.MathAlignPoint
expr_kind (MathCall v) = kinds.MathCall
expr_kind (MathDelimited v) = kinds.MathDelimited
expr_kind (MathAttach v) = kinds.MathAttach
expr_kind (MathPrimes v) = kinds.MathPrimes
expr_kind (MathFrac v) = kinds.MathFrac
expr_kind (MathRoot v) = kinds.MathRoot
expr_kind (NoneKind v) = kinds.None
expr_kind (Auto v) = kinds.Auto
expr_kind (Ident v) = kinds.Ident
expr_kind (BoolKind v) = kinds.Bool
expr_kind (Int v) = kinds.Int
expr_kind (Float v) = kinds.Float
expr_kind (Numeric v) = kinds.Numeric
expr_kind (Str v) = kinds.Str
expr_kind (CodeBlock v) = kinds.CodeBlock
expr_kind (ContentBlock v) = kinds.ContentBlock
expr_kind (Parenthesized v) = kinds.Parenthesized
expr_kind (Array v) = kinds.Array
expr_kind (Dict v) = kinds.Dict
expr_kind (Unary v) = kinds.Unary
expr_kind (Binary v) = kinds.Binary
expr_kind (FieldAccess v) = kinds.FieldAccess
expr_kind (FuncCall v) = kinds.FuncCall
expr_kind (Closure v) = kinds.Closure
expr_kind (LetBinding v) = kinds.LetBinding
expr_kind (SetRule v) = kinds.SetRule
expr_kind (ShowRule v) = kinds.ShowRule
expr_kind (Contextual v) = kinds.Contextual
expr_kind (Conditional v) = kinds.Conditional
expr_kind (WhileLoop v) = kinds.WhileLoop
expr_kind (ForLoop v) = kinds.ForLoop
expr_kind (ModuleImport v) = kinds.ModuleImport
expr_kind (ModuleInclude v) = kinds.ModuleInclude
expr_kind (LoopBreak v) = kinds.LoopBreak
expr_kind (LoopContinue v) = kinds.LoopContinue
expr_kind (FuncReturn v) = kinds.FuncReturn
expr_kind (DestructAssignment v) = kinds.DestructAssignment

-- an `Expr` that has a node has the kind of that node
pub expr_kind_is_node_kind : (e : Expr) → IfSome (expr_node e) (λ t. expr_kind e ≡ node_kind t)
expr_kind_is_node_kind (Text v) = kind_from_test kinds.Text v.node v.of_kind
expr_kind_is_node_kind (Space v) = kind_from_test kinds.Space v.node v.of_kind
expr_kind_is_node_kind (Linebreak v) = kind_from_test kinds.Linebreak v.node v.of_kind
expr_kind_is_node_kind (Parbreak v) = kind_from_test kinds.Parbreak v.node v.of_kind
expr_kind_is_node_kind (Escape v) = kind_from_test kinds.Escape v.node v.of_kind
expr_kind_is_node_kind (Shorthand v) = kind_from_test kinds.Shorthand v.node v.of_kind
expr_kind_is_node_kind (SmartQuote v) = kind_from_test kinds.SmartQuote v.node v.of_kind
expr_kind_is_node_kind (Strong v) = kind_from_test kinds.Strong v.node v.of_kind
expr_kind_is_node_kind (Emph v) = kind_from_test kinds.Emph v.node v.of_kind
expr_kind_is_node_kind (Raw v) = kind_from_test kinds.Raw v.node v.of_kind
expr_kind_is_node_kind (Link v) = kind_from_test kinds.Link v.node v.of_kind
expr_kind_is_node_kind (Label v) = kind_from_test kinds.Label v.node v.of_kind
expr_kind_is_node_kind (Ref v) = kind_from_test kinds.Ref v.node v.of_kind
expr_kind_is_node_kind (Heading v) = kind_from_test kinds.Heading v.node v.of_kind
expr_kind_is_node_kind (ListItem v) = kind_from_test kinds.ListItem v.node v.of_kind
expr_kind_is_node_kind (EnumItem v) = kind_from_test kinds.EnumItem v.node v.of_kind
expr_kind_is_node_kind (TermItem v) = kind_from_test kinds.TermItem v.node v.of_kind
expr_kind_is_node_kind (Equation v) = kind_from_test kinds.Equation v.node v.of_kind
expr_kind_is_node_kind (Math v) = kind_from_test kinds.Math v.node v.of_kind
expr_kind_is_node_kind (MathText v) = kind_from_test kinds.MathText v.node v.of_kind
expr_kind_is_node_kind (MathIdent v) = kind_from_test kinds.MathIdent v.node v.of_kind
expr_kind_is_node_kind (MathFieldAccess v) = kind_from_test kinds.MathFieldAccess v.node v.of_kind
expr_kind_is_node_kind (MathShorthand v) = kind_from_test kinds.MathShorthand v.node v.of_kind
expr_kind_is_node_kind (MathAlignPoint v) = kind_from_test kinds.MathAlignPoint v.node v.of_kind
expr_kind_is_node_kind (MathCall v) = kind_from_test kinds.MathCall v.node v.of_kind
expr_kind_is_node_kind (MathDelimited v) = kind_from_test kinds.MathDelimited v.node v.of_kind
expr_kind_is_node_kind (MathAttach v) = kind_from_test kinds.MathAttach v.node v.of_kind
expr_kind_is_node_kind (MathPrimes v) = kind_from_test kinds.MathPrimes v.node v.of_kind
expr_kind_is_node_kind (MathFrac v) = kind_from_test kinds.MathFrac v.node v.of_kind
expr_kind_is_node_kind (MathRoot v) = kind_from_test kinds.MathRoot v.node v.of_kind
expr_kind_is_node_kind (NoneKind v) = kind_from_test kinds.None v.node v.of_kind
expr_kind_is_node_kind (Auto v) = kind_from_test kinds.Auto v.node v.of_kind
expr_kind_is_node_kind (Ident v) = kind_from_test kinds.Ident v.node v.of_kind
expr_kind_is_node_kind (BoolKind v) = kind_from_test kinds.Bool v.node v.of_kind
expr_kind_is_node_kind (Int v) = kind_from_test kinds.Int v.node v.of_kind
expr_kind_is_node_kind (Float v) = kind_from_test kinds.Float v.node v.of_kind
expr_kind_is_node_kind (Numeric v) = kind_from_test kinds.Numeric v.node v.of_kind
expr_kind_is_node_kind (Str v) = kind_from_test kinds.Str v.node v.of_kind
expr_kind_is_node_kind (CodeBlock v) = kind_from_test kinds.CodeBlock v.node v.of_kind
expr_kind_is_node_kind (ContentBlock v) = kind_from_test kinds.ContentBlock v.node v.of_kind
expr_kind_is_node_kind (Parenthesized v) = kind_from_test kinds.Parenthesized v.node v.of_kind
expr_kind_is_node_kind (Array v) = kind_from_test kinds.Array v.node v.of_kind
expr_kind_is_node_kind (Dict v) = kind_from_test kinds.Dict v.node v.of_kind
expr_kind_is_node_kind (Unary v) = kind_from_test kinds.Unary v.node v.of_kind
expr_kind_is_node_kind (Binary v) = kind_from_test kinds.Binary v.node v.of_kind
expr_kind_is_node_kind (FieldAccess v) = kind_from_test kinds.FieldAccess v.node v.of_kind
expr_kind_is_node_kind (FuncCall v) = kind_from_test kinds.FuncCall v.node v.of_kind
expr_kind_is_node_kind (Closure v) = kind_from_test kinds.Closure v.node v.of_kind
expr_kind_is_node_kind (LetBinding v) = kind_from_test kinds.LetBinding v.node v.of_kind
expr_kind_is_node_kind (SetRule v) = kind_from_test kinds.SetRule v.node v.of_kind
expr_kind_is_node_kind (ShowRule v) = kind_from_test kinds.ShowRule v.node v.of_kind
expr_kind_is_node_kind (Contextual v) = kind_from_test kinds.Contextual v.node v.of_kind
expr_kind_is_node_kind (Conditional v) = kind_from_test kinds.Conditional v.node v.of_kind
expr_kind_is_node_kind (WhileLoop v) = kind_from_test kinds.WhileLoop v.node v.of_kind
expr_kind_is_node_kind (ForLoop v) = kind_from_test kinds.ForLoop v.node v.of_kind
expr_kind_is_node_kind (ModuleImport v) = kind_from_test kinds.ModuleImport v.node v.of_kind
expr_kind_is_node_kind (ModuleInclude v) = kind_from_test kinds.ModuleInclude v.node v.of_kind
expr_kind_is_node_kind (LoopBreak v) = kind_from_test kinds.LoopBreak v.node v.of_kind
expr_kind_is_node_kind (LoopContinue v) = kind_from_test kinds.LoopContinue v.node v.of_kind
expr_kind_is_node_kind (FuncReturn v) = kind_from_test kinds.FuncReturn v.node v.of_kind
expr_kind_is_node_kind (DestructAssignment v) = kind_from_test kinds.DestructAssignment v.node v.of_kind
