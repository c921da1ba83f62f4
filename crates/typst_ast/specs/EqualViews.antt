-- Equality of views: they have the same variant and the same node, spans and bounds included.
-- The lemmas stand here since the laws of a trait cite them.
use Rattle.std.specs.Prelude.{◌≡◌, ◌==◌, ◌&&◌, ⊤, ℕ, Bool, Option, Some, None}
use Rattle.std.specs.Bool.{beq}
use Rattle.std.specs.Cmp.{IsEquivalence, IsPartialEquivalence, and_equiv, bool_eq_equiv, nat_eq_equiv, on_equiv, partial_equiv_from_equiv}
use Rattle.typst_ast.specs.ExprTable.{expr_kind, expr_node}
use Rattle.typst_ast.specs.View.{node_of}
use Rattle.typst_ast.specs.declared.expr.Expr.{Expr}
use Rattle.typst_ast.specs.declared.math_args.MathArg.{MathArg}
use Rattle.typst_ast.specs.declared.pattern.Pattern.{Pattern}
use Rattle.typst_ast.specs.declared.pattern.Pattern.TheVariants.{Normal as Pattern_Normal, Placeholder as Pattern_Placeholder, Parenthesized as Pattern_Parenthesized, Destructuring as Pattern_Destructuring}
use Rattle.typst_ast.specs.declared.arg.Arg.{Arg}
use Rattle.typst_ast.specs.declared.arg.Arg.TheVariants.{Pos as Arg_Pos, Named as Arg_Named, Spread as Arg_Spread}
use Rattle.typst_ast.specs.declared.param.Param.{Param}
use Rattle.typst_ast.specs.declared.param.Param.TheVariants.{Pos as Param_Pos, Named as Param_Named, Spread as Param_Spread}
use Rattle.typst_ast.specs.declared.array_item.ArrayItem.{ArrayItem}
use Rattle.typst_ast.specs.declared.array_item.ArrayItem.TheVariants.{Pos as ArrayItem_Pos, Spread as ArrayItem_Spread}
use Rattle.typst_ast.specs.declared.dict_item.DictItem.{DictItem}
use Rattle.typst_ast.specs.declared.dict_item.DictItem.TheVariants.{Named as DictItem_Named, Keyed as DictItem_Keyed, Spread as DictItem_Spread}
use Rattle.typst_ast.specs.declared.destructuring_item.DestructuringItem.{DestructuringItem}
use Rattle.typst_ast.specs.declared.destructuring_item.DestructuringItem.TheVariants.{Pattern as DestructuringItem_Pattern, Named as DestructuringItem_Named, Spread as DestructuringItem_Spread}
use Rattle.typst_ast.specs.declared.imports.Imports.{Imports}
use Rattle.typst_ast.specs.declared.imports.Imports.TheVariants.{Wildcard as Imports_Wildcard, Items as Imports_Items}
use Rattle.typst_ast.specs.declared.lets.LetBindingKind.{LetBindingKind}
use Rattle.typst_ast.specs.declared.lets.LetBindingKind.TheVariants.{Normal as LetBindingKind_Normal, Closure as LetBindingKind_Closure}
use Rattle.typst_ast.specs.declared.math_args.MathArgItem.{MathArgItem}
use Rattle.typst_ast.specs.declared.math_args.MathArgItem.TheVariants.{Arg as MathArgItem_Arg, Space as MathArgItem_Space, Comma as MathArgItem_Comma, Semicolon as MathArgItem_Semicolon, LeftParen as MathArgItem_LeftParen, RightParen as MathArgItem_RightParen}
use Rattle.typst_atoms.specs.SameViews.{same_parts, same_views_equivalence}
use Rattle.typst_atoms.specs.View.{atom_node}
use Rattle.typst_base.specs.declared.kind.SyntaxKind.{SyntaxKind}
use Rattle.typst_base.specs.declared.kind.SyntaxKind.TheVariants as kinds
use Rattle.typst_node.specs.Tree.{Tree}

-- two expressions are the same: they have one kind, which determines the variant, and the same tree, or both are
-- placeholders
abbrev pub AreSameExprs : Expr → Expr → Type 0
AreSameExprs v w = (expr_kind v ≡ expr_kind w) × (expr_node v ≡ expr_node w)

-- Two patterns are the same: they have the same variant with the same content. The same holds for the other views of
-- several kinds.
abbrev pub AreSamePatterns : Pattern → Pattern → Type 0
AreSamePatterns (Pattern_Normal v) (Pattern_Normal w) = AreSameExprs v w
AreSamePatterns (Pattern_Placeholder v) (Pattern_Placeholder w) = atom_node v ≡ atom_node w
AreSamePatterns (Pattern_Parenthesized v) (Pattern_Parenthesized w) = node_of v ≡ node_of w
AreSamePatterns (Pattern_Destructuring v) (Pattern_Destructuring w) = node_of v ≡ node_of w
AreSamePatterns _ _ = ⊥

-- two arguments are the same
abbrev pub AreSameArgs : Arg → Arg → Type 0
AreSameArgs (Arg_Pos v) (Arg_Pos w) = AreSameExprs v w
AreSameArgs (Arg_Named v) (Arg_Named w) = node_of v ≡ node_of w
AreSameArgs (Arg_Spread v) (Arg_Spread w) = node_of v ≡ node_of w
AreSameArgs _ _ = ⊥

-- two parameters are the same
abbrev pub AreSameParams : Param → Param → Type 0
AreSameParams (Param_Pos v) (Param_Pos w) = AreSamePatterns v w
AreSameParams (Param_Named v) (Param_Named w) = node_of v ≡ node_of w
AreSameParams (Param_Spread v) (Param_Spread w) = node_of v ≡ node_of w
AreSameParams _ _ = ⊥

-- two items of arrays are the same
abbrev pub AreSameArrayItems : ArrayItem → ArrayItem → Type 0
AreSameArrayItems (ArrayItem_Pos v) (ArrayItem_Pos w) = AreSameExprs v w
AreSameArrayItems (ArrayItem_Spread v) (ArrayItem_Spread w) = node_of v ≡ node_of w
AreSameArrayItems _ _ = ⊥

-- two items of dictionaries are the same
abbrev pub AreSameDictItems : DictItem → DictItem → Type 0
AreSameDictItems (DictItem_Named v) (DictItem_Named w) = node_of v ≡ node_of w
AreSameDictItems (DictItem_Keyed v) (DictItem_Keyed w) = node_of v ≡ node_of w
AreSameDictItems (DictItem_Spread v) (DictItem_Spread w) = node_of v ≡ node_of w
AreSameDictItems _ _ = ⊥

-- two parts of destructurings are the same
abbrev pub AreSameDestructuringItems : DestructuringItem → DestructuringItem → Type 0
AreSameDestructuringItems (DestructuringItem_Pattern v) (DestructuringItem_Pattern w) = AreSamePatterns v w
AreSameDestructuringItems (DestructuringItem_Named v) (DestructuringItem_Named w) = node_of v ≡ node_of w
AreSameDestructuringItems (DestructuringItem_Spread v) (DestructuringItem_Spread w) = node_of v ≡ node_of w
AreSameDestructuringItems _ _ = ⊥

-- two imports are the same
abbrev pub AreSameImports : Imports → Imports → Type 0
AreSameImports Imports_Wildcard Imports_Wildcard = ⊤
AreSameImports (Imports_Items v) (Imports_Items w) = atom_node v ≡ atom_node w
AreSameImports _ _ = ⊥

-- two kinds of let bindings are the same
abbrev pub AreSameLetBindingKinds : LetBindingKind → LetBindingKind → Type 0
AreSameLetBindingKinds (LetBindingKind_Normal v) (LetBindingKind_Normal w) = AreSamePatterns v w
AreSameLetBindingKinds (LetBindingKind_Closure v) (LetBindingKind_Closure w) = atom_node v ≡ atom_node w
AreSameLetBindingKinds _ _ = ⊥

-- two parts of arguments in math are the same
abbrev pub AreSameMathArgItems : MathArgItem → MathArgItem → Type 0
AreSameMathArgItems (MathArgItem_Arg v) (MathArgItem_Arg w) = AreSameArgs v w
AreSameMathArgItems (MathArgItem_Space v) (MathArgItem_Space w) = atom_node v ≡ atom_node w
AreSameMathArgItems (MathArgItem_Comma c v) (MathArgItem_Comma d w) = (c ≡ d) × (v.now ≡ w.now)
AreSameMathArgItems (MathArgItem_Semicolon c v) (MathArgItem_Semicolon d w) = (c ≡ d) × (v.now ≡ w.now)
AreSameMathArgItems (MathArgItem_LeftParen c v) (MathArgItem_LeftParen d w) = (c ≡ d) × (v.now ≡ w.now)
AreSameMathArgItems (MathArgItem_RightParen c v) (MathArgItem_RightParen d w) = (c ≡ d) × (v.now ≡ w.now)
AreSameMathArgItems _ _ = ⊥

-- two arguments in math are the same
abbrev pub AreSameMathArgs : MathArg → MathArg → Type 0
AreSameMathArgs a b = AreSameArgs a.arg b.arg × (a.ends_in_semicolon ≡ b.ends_in_semicolon)

-- Equality as a test. The number of its variant, and the kind and the node of its content, determine a view.
abbrev Held : Type 0
Held = ℕ × (SyntaxKind × Option Tree)

abbrev held_eq : Held → Held → Bool
held_eq a b = a.0 == b.0 && same_parts a.1.0 a.1.1 b.1.0 b.1.1

held_eq_equivalence : IsEquivalence held_eq
held_eq_equivalence =
    and_equiv (on_equiv (λ (h : Held). h.0) nat_eq_equiv) (same_views_equivalence (λ (h : Held). h.1.0) (λ (h : Held). h.1.1))

abbrev twice_held_eq : ℕ × Held → ℕ × Held → Bool
twice_held_eq a b = a.0 == b.0 && held_eq a.1 b.1

twice_held_eq_equivalence : IsEquivalence twice_held_eq
twice_held_eq_equivalence =
    and_equiv (on_equiv (λ (h : ℕ × Held). h.0) nat_eq_equiv) (on_equiv (λ (h : ℕ × Held). h.1) held_eq_equivalence)

abbrev pattern_held : Pattern → Held
pattern_held (Pattern_Normal v) = (0, (expr_kind v, expr_node v))
pattern_held (Pattern_Placeholder v) = (1, (kinds.Underscore, atom_node v))
pattern_held (Pattern_Parenthesized v) = (2, (kinds.Parenthesized, node_of v))
pattern_held (Pattern_Destructuring v) = (3, (kinds.Destructuring, node_of v))

-- whether two patterns are the same
abbrev pub patterns_eq : Pattern → Pattern → Bool
patterns_eq v w = held_eq (pattern_held v) (pattern_held w)

-- Equality of patterns is an equivalence, as `Eq` requires.
pub patterns_equivalence : IsEquivalence patterns_eq
patterns_equivalence = on_equiv pattern_held held_eq_equivalence

-- Equality of patterns is symmetric and transitive, as `PartialEq` requires.
pub patterns_laws : IsPartialEquivalence patterns_eq
patterns_laws = partial_equiv_from_equiv patterns_equivalence

abbrev arg_held : Arg → Held
arg_held (Arg_Pos v) = (0, (expr_kind v, expr_node v))
arg_held (Arg_Named v) = (1, (kinds.Named, node_of v))
arg_held (Arg_Spread v) = (2, (kinds.Spread, node_of v))

-- whether two arguments are the same
abbrev pub args_eq : Arg → Arg → Bool
args_eq v w = held_eq (arg_held v) (arg_held w)

-- Equality of arguments is an equivalence, as `Eq` requires.
pub args_equivalence : IsEquivalence args_eq
args_equivalence = on_equiv arg_held held_eq_equivalence

-- Equality of arguments is symmetric and transitive, as `PartialEq` requires.
pub args_laws : IsPartialEquivalence args_eq
args_laws = partial_equiv_from_equiv args_equivalence

abbrev param_held : Param → ℕ × Held
param_held (Param_Pos v) = (0, pattern_held v)
param_held (Param_Named v) = (1, (0, (kinds.Named, node_of v)))
param_held (Param_Spread v) = (2, (0, (kinds.Spread, node_of v)))

-- whether two parameters are the same
abbrev pub params_eq : Param → Param → Bool
params_eq v w = twice_held_eq (param_held v) (param_held w)

-- Equality of parameters is an equivalence, as `Eq` requires.
pub params_equivalence : IsEquivalence params_eq
params_equivalence = on_equiv param_held twice_held_eq_equivalence

-- Equality of parameters is symmetric and transitive, as `PartialEq` requires.
pub params_laws : IsPartialEquivalence params_eq
params_laws = partial_equiv_from_equiv params_equivalence

abbrev array_item_held : ArrayItem → Held
array_item_held (ArrayItem_Pos v) = (0, (expr_kind v, expr_node v))
array_item_held (ArrayItem_Spread v) = (1, (kinds.Spread, node_of v))

-- whether two items of arrays are the same
abbrev pub array_items_eq : ArrayItem → ArrayItem → Bool
array_items_eq v w = held_eq (array_item_held v) (array_item_held w)

-- Equality of items of arrays is an equivalence, as `Eq` requires.
pub array_items_equivalence : IsEquivalence array_items_eq
array_items_equivalence = on_equiv array_item_held held_eq_equivalence

-- Equality of items of arrays is symmetric and transitive, as `PartialEq` requires.
pub array_items_laws : IsPartialEquivalence array_items_eq
array_items_laws = partial_equiv_from_equiv array_items_equivalence

abbrev dict_item_held : DictItem → Held
dict_item_held (DictItem_Named v) = (0, (kinds.Named, node_of v))
dict_item_held (DictItem_Keyed v) = (1, (kinds.Keyed, node_of v))
dict_item_held (DictItem_Spread v) = (2, (kinds.Spread, node_of v))

-- whether two items of dictionaries are the same
abbrev pub dict_items_eq : DictItem → DictItem → Bool
dict_items_eq v w = held_eq (dict_item_held v) (dict_item_held w)

-- Equality of items of dictionaries is an equivalence, as `Eq` requires.
pub dict_items_equivalence : IsEquivalence dict_items_eq
dict_items_equivalence = on_equiv dict_item_held held_eq_equivalence

-- Equality of items of dictionaries is symmetric and transitive, as `PartialEq` requires.
pub dict_items_laws : IsPartialEquivalence dict_items_eq
dict_items_laws = partial_equiv_from_equiv dict_items_equivalence

abbrev destructuring_item_held : DestructuringItem → ℕ × Held
destructuring_item_held (DestructuringItem_Pattern v) = (0, pattern_held v)
destructuring_item_held (DestructuringItem_Named v) = (1, (0, (kinds.Named, node_of v)))
destructuring_item_held (DestructuringItem_Spread v) = (2, (0, (kinds.Spread, node_of v)))

-- whether two parts of destructurings are the same
abbrev pub destructuring_items_eq : DestructuringItem → DestructuringItem → Bool
destructuring_items_eq v w = twice_held_eq (destructuring_item_held v) (destructuring_item_held w)

-- Equality of parts of destructurings is an equivalence, as `Eq` requires.
pub destructuring_items_equivalence : IsEquivalence destructuring_items_eq
destructuring_items_equivalence = on_equiv destructuring_item_held twice_held_eq_equivalence

-- Equality of parts of destructurings is symmetric and transitive, as `PartialEq` requires.
pub destructuring_items_laws : IsPartialEquivalence destructuring_items_eq
destructuring_items_laws = partial_equiv_from_equiv destructuring_items_equivalence

abbrev imports_held : Imports → Held
imports_held Imports_Wildcard = (0, (kinds.Star, None))
imports_held (Imports_Items v) = (1, (kinds.ImportItems, atom_node v))

-- whether two imports are the same
abbrev pub imports_eq : Imports → Imports → Bool
imports_eq v w = held_eq (imports_held v) (imports_held w)

-- Equality of imports is an equivalence, as `Eq` requires.
pub imports_equivalence : IsEquivalence imports_eq
imports_equivalence = on_equiv imports_held held_eq_equivalence

-- Equality of imports is symmetric and transitive, as `PartialEq` requires.
pub imports_laws : IsPartialEquivalence imports_eq
imports_laws = partial_equiv_from_equiv imports_equivalence

abbrev let_binding_kind_held : LetBindingKind → ℕ × Held
let_binding_kind_held (LetBindingKind_Normal v) = (0, pattern_held v)
let_binding_kind_held (LetBindingKind_Closure v) = (1, (0, (kinds.Ident, atom_node v)))

-- whether two kinds of let bindings are the same
abbrev pub let_binding_kinds_eq : LetBindingKind → LetBindingKind → Bool
let_binding_kinds_eq v w = twice_held_eq (let_binding_kind_held v) (let_binding_kind_held w)

-- Equality of kinds of let bindings is an equivalence, as `Eq` requires.
pub let_binding_kinds_equivalence : IsEquivalence let_binding_kinds_eq
let_binding_kinds_equivalence = on_equiv let_binding_kind_held twice_held_eq_equivalence

-- Equality of kinds of let bindings is symmetric and transitive, as `PartialEq` requires.
pub let_binding_kinds_laws : IsPartialEquivalence let_binding_kinds_eq
let_binding_kinds_laws = partial_equiv_from_equiv let_binding_kinds_equivalence

abbrev math_arg_item_held : MathArgItem → ℕ × Held
math_arg_item_held (MathArgItem_Arg v) = (0, arg_held v)
math_arg_item_held (MathArgItem_Space v) = (1, (0, (kinds.Space, atom_node v)))
math_arg_item_held (MathArgItem_Comma c v) = (2, (c, (kinds.Comma, Some v.now)))
math_arg_item_held (MathArgItem_Semicolon c v) = (3, (c, (kinds.Semicolon, Some v.now)))
math_arg_item_held (MathArgItem_LeftParen c v) = (4, (c, (kinds.LeftParen, Some v.now)))
math_arg_item_held (MathArgItem_RightParen c v) = (5, (c, (kinds.RightParen, Some v.now)))

-- whether two parts of arguments in math are the same
abbrev pub math_arg_items_eq : MathArgItem → MathArgItem → Bool
math_arg_items_eq v w = twice_held_eq (math_arg_item_held v) (math_arg_item_held w)

-- Equality of parts of arguments in math is an equivalence, as `Eq` requires.
pub math_arg_items_equivalence : IsEquivalence math_arg_items_eq
math_arg_items_equivalence = on_equiv math_arg_item_held twice_held_eq_equivalence

-- Equality of parts of arguments in math is symmetric and transitive, as `PartialEq` requires.
pub math_arg_items_laws : IsPartialEquivalence math_arg_items_eq
math_arg_items_laws = partial_equiv_from_equiv math_arg_items_equivalence

-- whether two arguments in math are the same
abbrev pub math_args_eq : MathArg → MathArg → Bool
math_args_eq a b = args_eq a.arg b.arg && beq a.ends_in_semicolon b.ends_in_semicolon

-- Equality of arguments in math is an equivalence, as `Eq` requires.
pub math_args_equivalence : IsEquivalence math_args_eq
math_args_equivalence =
    and_equiv (on_equiv (λ (a : MathArg). a.arg) args_equivalence) (on_equiv (λ (a : MathArg). a.ends_in_semicolon) bool_eq_equiv)

-- Equality of arguments in math is symmetric and transitive, as `PartialEq` requires.
pub math_args_laws : IsPartialEquivalence math_args_eq
math_args_laws = partial_equiv_from_equiv math_args_equivalence
