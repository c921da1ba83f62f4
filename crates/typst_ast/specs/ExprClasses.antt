-- Written by bench/kinds.py from crates/kinds.txt: change that and run it.
-- Classes of expressions. Each definition lists its kinds, in the order of the kinds' numbers.
use Rattle.std.specs.Prelude.{Bool, true, false}
use Rattle.typst_base.specs.declared.kind.SyntaxKind.{SyntaxKind}
use Rattle.typst_base.specs.declared.kind.SyntaxKind.TheVariants.{None as NoneKind, Auto, Ident, Bool as BoolKind, Int, Float, Numeric, Str, CodeBlock, ContentBlock, Parenthesized, Array, Dict, FieldAccess, FuncCall, LetBinding, SetRule, ShowRule, Contextual, Conditional, WhileLoop, ForLoop, ModuleImport, ModuleInclude, LoopBreak, LoopContinue, FuncReturn}

-- a literal: `none`, `auto`, a boolean, a number with or without a unit, or a string
abbrev pub is_literal_kind : SyntaxKind → Bool
is_literal_kind NoneKind = true
is_literal_kind Auto = true
is_literal_kind BoolKind = true
is_literal_kind Int = true
is_literal_kind Float = true
is_literal_kind Numeric = true
is_literal_kind Str = true
is_literal_kind _ = false

-- an expression that may follow a hash in markup
abbrev pub is_hash_kind : SyntaxKind → Bool
is_hash_kind NoneKind = true
is_hash_kind Auto = true
is_hash_kind Ident = true
is_hash_kind BoolKind = true
is_hash_kind Int = true
is_hash_kind Float = true
is_hash_kind Numeric = true
is_hash_kind Str = true
is_hash_kind CodeBlock = true
is_hash_kind ContentBlock = true
is_hash_kind Parenthesized = true
is_hash_kind Array = true
is_hash_kind Dict = true
is_hash_kind FieldAccess = true
is_hash_kind FuncCall = true
is_hash_kind LetBinding = true
is_hash_kind SetRule = true
is_hash_kind ShowRule = true
is_hash_kind Contextual = true
is_hash_kind Conditional = true
is_hash_kind WhileLoop = true
is_hash_kind ForLoop = true
is_hash_kind ModuleImport = true
is_hash_kind ModuleInclude = true
is_hash_kind LoopBreak = true
is_hash_kind LoopContinue = true
is_hash_kind FuncReturn = true
is_hash_kind _ = false
