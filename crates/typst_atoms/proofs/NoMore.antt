-- What is picked out of a list of nodes is no more than the list.
use Rattle.std.proofs.Common.{◌≤◌, ◌&&◌, Bool, true, false, cond, List, [], ◌∷◌, ◌++◌, length, arith}
use Rattle.typst_atoms.specs.Classes.{is_arg_kind}
use Rattle.typst_atoms.specs.KeptNodes.{kept_in}
use Rattle.typst_atoms.specs.Kinds.{is_kind}
use Rattle.typst_atoms.specs.MathItems.{args_in, ends_in_semicolon, is_behind_hash, is_item, items_in}
use Rattle.typst_base.specs.KindClasses.{is_stmt_kind}
use Rattle.typst_base.specs.declared.kind.SyntaxKind.TheVariants as kinds
use Rattle.typst_node.specs.Tree.{Tree}
use Rattle.typst_node.specs.Views.{node_kind}

pub no_more_kept : (d b : Bool) (ts : List Tree) → length (kept_in d b ts) ≤ length ts
no_more_kept d b [] = omega arith
no_more_kept d b (t ∷ ts) =
    let others = kept_in d (d && is_stmt_kind (node_kind t)) ts in
    let h = no_more_kept d (d && is_stmt_kind (node_kind t)) ts in
    elim (b && is_kind kinds.Space (node_kind t)) as (λ v. length (cond v [] (t ∷ []) ++ others) ≤ length (t ∷ ts)) [ true ↦ omega arith | false ↦ omega arith ]

pub no_more_items : (b : Bool) (ts : List Tree) → length (items_in b ts) ≤ length ts
no_more_items b [] = omega arith
no_more_items b (t ∷ ts) =
    let others = items_in (is_behind_hash b t) ts in
    let h = no_more_items (is_behind_hash b t) ts in
    elim (is_item b (node_kind t)) as (λ v. length (cond v (t ∷ []) [] ++ others) ≤ length (t ∷ ts)) [ true ↦ omega arith | false ↦ omega arith ]

pub no_more_args : (ts : List Tree) → length (args_in ts) ≤ length ts
no_more_args [] = omega arith
no_more_args (t ∷ ts) =
    let h = no_more_args ts in
    elim (is_arg_kind (node_kind t)) as (λ v. length (cond v ((t, ends_in_semicolon ts) ∷ args_in ts) (args_in ts)) ≤ length (t ∷ ts)) [ true ↦ omega arith | false ↦ omega arith ]
