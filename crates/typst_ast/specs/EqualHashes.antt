-- Equal views of several kinds give a hasher the same input.
-- These lemmas stand here since the laws of a trait cite them.
use Rattle.std.specs.Prelude.{◌≡◌, ◌==◌, true}
use Rattle.std.specs.Bool.{beq}
use Rattle.std.specs.Cmp.{booleans_Decides, first_so, second_so, unsigned_Decides}
use Rattle.typst_ast.specs.declared.pattern.Pattern.{Pattern}
use Rattle.typst_ast.specs.declared.pattern.Pattern.TheVariants.{Normal as Pattern_Normal, Placeholder as Pattern_Placeholder, Parenthesized as Pattern_Parenthesized, Destructuring as Pattern_Destructuring}
use Rattle.typst_ast.specs.declared.arg.Arg.{Arg}
use Rattle.typst_ast.specs.declared.arg.Arg.TheVariants.{Pos as Arg_Pos, Named as Arg_Named, Spread as Arg_Spread}
use Rattle.typst_ast.specs.declared.param.Param.{Param}
use Rattle.typst_ast.specs.declared.param.Param.TheVariants.{Pos as Param_Pos, Named as Param_Named, Spread as Param_Spread}
use Rattle.typst_ast.specs.declared.array_item.ArrayItem.{ArrayItem}
use Rattle.typst_ast.specs.declared.array_item.ArrayItem.TheVariants.{Pos as ArrayItem_Pos, Spread as ArrayItem_Spread}
use Rattle.typst_ast.specs.declared.dict_item.DictItem.{DictItem}
use Rattle.typst_ast.specs.declared.dict_item.DictItem.TheVariants.{Named as DictItem_Named, Keyed as DictItem_Keyed, Spread as DictItem_Spread}
use Rattle.typst_ast.specs.declared.destructuring_item.DestructuringItem.{DestructuringItem}
use Rattle.typst_ast.specs.declared.destructuring_item.DestructuringItem.TheVariants.{Pattern as DestructuringItem_Pattern, Named as DestructuringItem_Named, Spread as DestructuringItem_Spread}
use Rattle.typst_ast.specs.declared.imports.Imports.{Imports}
use Rattle.typst_ast.specs.declared.imports.Imports.TheVariants.{Wildcard as Imports_Wildcard, Items as Imports_Items}
use Rattle.typst_ast.specs.declared.lets.LetBindingKind.{LetBindingKind}
use Rattle.typst_ast.specs.declared.lets.LetBindingKind.TheVariants.{Normal as LetBindingKind_Normal, Closure as LetBindingKind_Closure}
use Rattle.typst_ast.specs.declared.math_args.MathArg.{MathArg}
use Rattle.typst_ast.specs.declared.math_args.MathArgItem.{MathArgItem}
use Rattle.typst_ast.specs.declared.math_args.MathArgItem.TheVariants.{Arg as MathArgItem_Arg, Space as MathArgItem_Space, Comma as MathArgItem_Comma, Semicolon as MathArgItem_Semicolon, LeftParen as MathArgItem_LeftParen, RightParen as MathArgItem_RightParen}
use Rattle.typst_ast.specs.contracts.pattern.PatternHash.TheImpl.{ghosts as of_patterns}
use Rattle.typst_ast.specs.contracts.arg.ArgHash.TheImpl.{ghosts as of_args}
use Rattle.typst_ast.specs.contracts.param.ParamHash.TheImpl.{ghosts as of_params}
use Rattle.typst_ast.specs.contracts.array_item.ArrayItemHash.TheImpl.{ghosts as of_array_items}
use Rattle.typst_ast.specs.contracts.dict_item.DictItemHash.TheImpl.{ghosts as of_dict_items}
use Rattle.typst_ast.specs.contracts.destructuring_item.DestructuringItemHash.TheImpl.{ghosts as of_destructuring_items}
use Rattle.typst_ast.specs.contracts.imports.ImportsHash.TheImpl.{ghosts as of_imports}
use Rattle.typst_ast.specs.contracts.lets.LetBindingKindHash.TheImpl.{ghosts as of_let_binding_kinds}
use Rattle.typst_ast.specs.contracts.math_args.MathArgHash.TheImpl.{ghosts as of_math_args}
use Rattle.typst_ast.specs.contracts.math_args.MathArgItemHash.TheImpl.{ghosts as of_math_arg_items}
use Rattle.typst_ast.specs.EqualViews.{args_eq, array_items_eq, destructuring_items_eq, dict_items_eq, imports_eq, let_binding_kinds_eq, math_arg_items_eq, math_args_eq, params_eq, patterns_eq}
use Rattle.typst_ast.specs.ExprTable.{expr_kind, expr_node}
use Rattle.typst_ast.specs.View.{node_of}
use Rattle.typst_atoms.specs.SameViews.{same_by_node_alike, same_views_alike}
use Rattle.typst_atoms.specs.View.{atom_node}
use Rattle.typst_node.specs.Equal.{tree_eq, tree_same}

-- Equal patterns give a hasher the same input.
pub patterns_alike : (v w : Pattern) → patterns_eq v w ≡ true → of_patterns.hash_input v ≡ of_patterns.hash_input w
patterns_alike (Pattern_Normal v) (Pattern_Normal w) e = let same = same_views_alike expr_kind expr_node v w e in cc
patterns_alike (Pattern_Normal v) (Pattern_Placeholder w) e = cc
patterns_alike (Pattern_Normal v) (Pattern_Parenthesized w) e = cc
patterns_alike (Pattern_Normal v) (Pattern_Destructuring w) e = cc
patterns_alike (Pattern_Placeholder v) (Pattern_Normal w) e = cc
patterns_alike (Pattern_Placeholder v) (Pattern_Placeholder w) e = let same = same_by_node_alike atom_node v w e in cc
patterns_alike (Pattern_Placeholder v) (Pattern_Parenthesized w) e = cc
patterns_alike (Pattern_Placeholder v) (Pattern_Destructuring w) e = cc
patterns_alike (Pattern_Parenthesized v) (Pattern_Normal w) e = cc
patterns_alike (Pattern_Parenthesized v) (Pattern_Placeholder w) e = cc
patterns_alike (Pattern_Parenthesized v) (Pattern_Parenthesized w) e = let same = same_by_node_alike node_of v w e in cc
patterns_alike (Pattern_Parenthesized v) (Pattern_Destructuring w) e = cc
patterns_alike (Pattern_Destructuring v) (Pattern_Normal w) e = cc
patterns_alike (Pattern_Destructuring v) (Pattern_Placeholder w) e = cc
patterns_alike (Pattern_Destructuring v) (Pattern_Parenthesized w) e = cc
patterns_alike (Pattern_Destructuring v) (Pattern_Destructuring w) e = let same = same_by_node_alike node_of v w e in cc

-- Equal arguments give a hasher the same input.
pub args_alike : (v w : Arg) → args_eq v w ≡ true → of_args.hash_input v ≡ of_args.hash_input w
args_alike (Arg_Pos v) (Arg_Pos w) e = let same = same_views_alike expr_kind expr_node v w e in cc
args_alike (Arg_Pos v) (Arg_Named w) e = cc
args_alike (Arg_Pos v) (Arg_Spread w) e = cc
args_alike (Arg_Named v) (Arg_Pos w) e = cc
args_alike (Arg_Named v) (Arg_Named w) e = let same = same_by_node_alike node_of v w e in cc
args_alike (Arg_Named v) (Arg_Spread w) e = cc
args_alike (Arg_Spread v) (Arg_Pos w) e = cc
args_alike (Arg_Spread v) (Arg_Named w) e = cc
args_alike (Arg_Spread v) (Arg_Spread w) e = let same = same_by_node_alike node_of v w e in cc

-- Equal parameters give a hasher the same input.
pub params_alike : (v w : Param) → params_eq v w ≡ true → of_params.hash_input v ≡ of_params.hash_input w
params_alike (Param_Pos v) (Param_Pos w) e = let same = patterns_alike v w e in cc
params_alike (Param_Pos v) (Param_Named w) e = cc
params_alike (Param_Pos v) (Param_Spread w) e = cc
params_alike (Param_Named v) (Param_Pos w) e = cc
params_alike (Param_Named v) (Param_Named w) e = let same = same_by_node_alike node_of v w e in cc
params_alike (Param_Named v) (Param_Spread w) e = cc
params_alike (Param_Spread v) (Param_Pos w) e = cc
params_alike (Param_Spread v) (Param_Named w) e = cc
params_alike (Param_Spread v) (Param_Spread w) e = let same = same_by_node_alike node_of v w e in cc

-- Equal items of arrays give a hasher the same input.
pub array_items_alike : (v w : ArrayItem) → array_items_eq v w ≡ true → of_array_items.hash_input v ≡ of_array_items.hash_input w
array_items_alike (ArrayItem_Pos v) (ArrayItem_Pos w) e = let same = same_views_alike expr_kind expr_node v w e in cc
array_items_alike (ArrayItem_Pos v) (ArrayItem_Spread w) e = cc
array_items_alike (ArrayItem_Spread v) (ArrayItem_Pos w) e = cc
array_items_alike (ArrayItem_Spread v) (ArrayItem_Spread w) e = let same = same_by_node_alike node_of v w e in cc

-- Equal items of dictionaries give a hasher the same input.
pub dict_items_alike : (v w : DictItem) → dict_items_eq v w ≡ true → of_dict_items.hash_input v ≡ of_dict_items.hash_input w
dict_items_alike (DictItem_Named v) (DictItem_Named w) e = let same = same_by_node_alike node_of v w e in cc
dict_items_alike (DictItem_Named v) (DictItem_Keyed w) e = cc
dict_items_alike (DictItem_Named v) (DictItem_Spread w) e = cc
dict_items_alike (DictItem_Keyed v) (DictItem_Named w) e = cc
dict_items_alike (DictItem_Keyed v) (DictItem_Keyed w) e = let same = same_by_node_alike node_of v w e in cc
dict_items_alike (DictItem_Keyed v) (DictItem_Spread w) e = cc
dict_items_alike (DictItem_Spread v) (DictItem_Named w) e = cc
dict_items_alike (DictItem_Spread v) (DictItem_Keyed w) e = cc
dict_items_alike (DictItem_Spread v) (DictItem_Spread w) e = let same = same_by_node_alike node_of v w e in cc

-- Equal parts of destructurings give a hasher the same input.
pub destructuring_items_alike : (v w : DestructuringItem) → destructuring_items_eq v w ≡ true → of_destructuring_items.hash_input v ≡ of_destructuring_items.hash_input w
destructuring_items_alike (DestructuringItem_Pattern v) (DestructuringItem_Pattern w) e = let same = patterns_alike v w e in cc
destructuring_items_alike (DestructuringItem_Pattern v) (DestructuringItem_Named w) e = cc
destructuring_items_alike (DestructuringItem_Pattern v) (DestructuringItem_Spread w) e = cc
destructuring_items_alike (DestructuringItem_Named v) (DestructuringItem_Pattern w) e = cc
destructuring_items_alike (DestructuringItem_Named v) (DestructuringItem_Named w) e = let same = same_by_node_alike node_of v w e in cc
destructuring_items_alike (DestructuringItem_Named v) (DestructuringItem_Spread w) e = cc
destructuring_items_alike (DestructuringItem_Spread v) (DestructuringItem_Pattern w) e = cc
destructuring_items_alike (DestructuringItem_Spread v) (DestructuringItem_Named w) e = cc
destructuring_items_alike (DestructuringItem_Spread v) (DestructuringItem_Spread w) e = let same = same_by_node_alike node_of v w e in cc

-- Equal imports give a hasher the same input.
pub imports_alike : (v w : Imports) → imports_eq v w ≡ true → of_imports.hash_input v ≡ of_imports.hash_input w
imports_alike Imports_Wildcard Imports_Wildcard e = cc
imports_alike Imports_Wildcard (Imports_Items w) e = cc
imports_alike (Imports_Items v) Imports_Wildcard e = cc
imports_alike (Imports_Items v) (Imports_Items w) e = let same = same_by_node_alike atom_node v w e in cc

-- Equal kinds of let bindings give a hasher the same input.
pub let_binding_kinds_alike : (v w : LetBindingKind) → let_binding_kinds_eq v w ≡ true → of_let_binding_kinds.hash_input v ≡ of_let_binding_kinds.hash_input w
let_binding_kinds_alike (LetBindingKind_Normal v) (LetBindingKind_Normal w) e = let same = patterns_alike v w e in cc
let_binding_kinds_alike (LetBindingKind_Normal v) (LetBindingKind_Closure w) e = cc
let_binding_kinds_alike (LetBindingKind_Closure v) (LetBindingKind_Normal w) e = cc
let_binding_kinds_alike (LetBindingKind_Closure v) (LetBindingKind_Closure w) e = let same = same_by_node_alike atom_node v w e in cc

-- Equal parts of arguments in math give a hasher the same input.
pub math_arg_items_alike : (v w : MathArgItem) → math_arg_items_eq v w ≡ true → of_math_arg_items.hash_input v ≡ of_math_arg_items.hash_input w
math_arg_items_alike (MathArgItem_Arg v) (MathArgItem_Arg w) e = let same = args_alike v w e in cc
math_arg_items_alike (MathArgItem_Arg v) (MathArgItem_Space w) e = cc
math_arg_items_alike (MathArgItem_Arg v) (MathArgItem_Comma d w) e = cc
math_arg_items_alike (MathArgItem_Arg v) (MathArgItem_Semicolon d w) e = cc
math_arg_items_alike (MathArgItem_Arg v) (MathArgItem_LeftParen d w) e = cc
math_arg_items_alike (MathArgItem_Arg v) (MathArgItem_RightParen d w) e = cc
math_arg_items_alike (MathArgItem_Space v) (MathArgItem_Arg w) e = cc
math_arg_items_alike (MathArgItem_Space v) (MathArgItem_Space w) e = let same = same_by_node_alike atom_node v w e in cc
math_arg_items_alike (MathArgItem_Space v) (MathArgItem_Comma d w) e = cc
math_arg_items_alike (MathArgItem_Space v) (MathArgItem_Semicolon d w) e = cc
math_arg_items_alike (MathArgItem_Space v) (MathArgItem_LeftParen d w) e = cc
math_arg_items_alike (MathArgItem_Space v) (MathArgItem_RightParen d w) e = cc
math_arg_items_alike (MathArgItem_Comma c v) (MathArgItem_Arg w) e = cc
math_arg_items_alike (MathArgItem_Comma c v) (MathArgItem_Space w) e = cc
math_arg_items_alike (MathArgItem_Comma c v) (MathArgItem_Comma d w) e =
    let mark = (unsigned_Decides c d).0 (first_so (c == d) (tree_eq v.now w.now) e) in
    let node = tree_same v.now w.now (second_so (c == d) (tree_eq v.now w.now) e) in cc
math_arg_items_alike (MathArgItem_Comma c v) (MathArgItem_Semicolon d w) e = cc
math_arg_items_alike (MathArgItem_Comma c v) (MathArgItem_LeftParen d w) e = cc
math_arg_items_alike (MathArgItem_Comma c v) (MathArgItem_RightParen d w) e = cc
math_arg_items_alike (MathArgItem_Semicolon c v) (MathArgItem_Arg w) e = cc
math_arg_items_alike (MathArgItem_Semicolon c v) (MathArgItem_Space w) e = cc
math_arg_items_alike (MathArgItem_Semicolon c v) (MathArgItem_Comma d w) e = cc
math_arg_items_alike (MathArgItem_Semicolon c v) (MathArgItem_Semicolon d w) e =
    let mark = (unsigned_Decides c d).0 (first_so (c == d) (tree_eq v.now w.now) e) in
    let node = tree_same v.now w.now (second_so (c == d) (tree_eq v.now w.now) e) in cc
math_arg_items_alike (MathArgItem_Semicolon c v) (MathArgItem_LeftParen d w) e = cc
math_arg_items_alike (MathArgItem_Semicolon c v) (MathArgItem_RightParen d w) e = cc
math_arg_items_alike (MathArgItem_LeftParen c v) (MathArgItem_Arg w) e = cc
math_arg_items_alike (MathArgItem_LeftParen c v) (MathArgItem_Space w) e = cc
math_arg_items_alike (MathArgItem_LeftParen c v) (MathArgItem_Comma d w) e = cc
math_arg_items_alike (MathArgItem_LeftParen c v) (MathArgItem_Semicolon d w) e = cc
math_arg_items_alike (MathArgItem_LeftParen c v) (MathArgItem_LeftParen d w) e =
    let mark = (unsigned_Decides c d).0 (first_so (c == d) (tree_eq v.now w.now) e) in
    let node = tree_same v.now w.now (second_so (c == d) (tree_eq v.now w.now) e) in cc
math_arg_items_alike (MathArgItem_LeftParen c v) (MathArgItem_RightParen d w) e = cc
math_arg_items_alike (MathArgItem_RightParen c v) (MathArgItem_Arg w) e = cc
math_arg_items_alike (MathArgItem_RightParen c v) (MathArgItem_Space w) e = cc
math_arg_items_alike (MathArgItem_RightParen c v) (MathArgItem_Comma d w) e = cc
math_arg_items_alike (MathArgItem_RightParen c v) (MathArgItem_Semicolon d w) e = cc
math_arg_items_alike (MathArgItem_RightParen c v) (MathArgItem_LeftParen d w) e = cc
math_arg_items_alike (MathArgItem_RightParen c v) (MathArgItem_RightParen d w) e =
    let mark = (unsigned_Decides c d).0 (first_so (c == d) (tree_eq v.now w.now) e) in
    let node = tree_same v.now w.now (second_so (c == d) (tree_eq v.now w.now) e) in cc

-- Equal arguments in math give a hasher the same input.
pub math_args_alike : (a b : MathArg) → math_args_eq a b ≡ true → of_math_args.hash_input a ≡ of_math_args.hash_input b
math_args_alike a b e =
    let arg = args_alike a.arg b.arg (first_so (args_eq a.arg b.arg) (beq a.ends_in_semicolon b.ends_in_semicolon) e) in
    let end =
    (booleans_Decides a.ends_in_semicolon b.ends_in_semicolon).0 (second_so (args_eq a.arg b.arg) (beq a.ends_in_semicolon b.ends_in_semicolon) e) in cc
