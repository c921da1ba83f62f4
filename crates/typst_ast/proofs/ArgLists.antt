-- The arguments among the items of a function call in math that are searched from the front.
use Rattle.std.proofs.Common.{◌≡◌, false, cond, map, List, [], ◌∷◌, Option, Some, None, MatchOption, Bool, length, arith, sym, ap, subst, ◌∙◌}
use Rattle.std.proofs.lemmas.List.{length-map}
use Rattle.std.specs.Bool.{⊤}
use Rattle.std.specs.Iterator.{MakesProgress, item_count}
use Rattle.typst_ast.specs.Arg.{arg_kind, arg_node, IsProperArgOf}
use Rattle.typst_ast.specs.MathArgItem.{told_arg}
use Rattle.typst_ast.specs.MathArgs.{args_left, told_arg_of}
use Rattle.typst_ast.specs.declared.arg.Arg.{Arg}
use Rattle.typst_ast.specs.declared.math_args.MathArg.{MathArg}
use Rattle.typst_ast.specs.declared.math_args.MathArgList.{MathArgList}
use Rattle.typst_atoms.specs.Classes.{is_arg_kind}
use Rattle.typst_atoms.specs.MathItems.{args_in, ends_in_semicolon, items_left}
use Rattle.typst_base.specs.declared.kind.SyntaxKind.{SyntaxKind}
use Rattle.typst_node.specs.Tree.{Tree}
use Rattle.typst_node.specs.Views.{node_kind}

-- what is said of the arguments among items
abbrev told_in : List Tree → List (Option Tree × SyntaxKind × Bool)
told_in ts = map told_arg_of (args_in ts)

-- the view of a node as an argument
abbrev pub IsViewAsArg : Tree → Option Arg → Type 0
IsViewAsArg t view = MatchOption view (is_arg_kind (node_kind t) ≡ false) (IsProperArgOf t)

-- a step from some items to others
abbrev pub StepsToArg : List Tree → Option Arg → List Tree → Type 0
StepsToArg ts view us =
    MatchOption view ((told_in ts ≡ []) × (told_in us ≡ [])) (λ a. told_in ts ≡ (arg_node a, arg_kind a, ends_in_semicolon us) ∷ told_in us)

told_past : (t : Tree) (ts : List Tree) → IsViewAsArg t None → told_in (t ∷ ts) ≡ told_in ts
told_past t ts h = ap (λ v. map told_arg_of (cond v ((t, ends_in_semicolon ts) ∷ args_in ts) (args_in ts))) h

pub arg_past : (t : Tree) (ts us : List Tree) (view : Option Arg) → IsViewAsArg t None → StepsToArg ts view us → StepsToArg (t ∷ ts) view us
arg_past t ts us None h s = (told_past t ts h ∙ s.0, s.1)
arg_past t ts us (Some a) h s = told_past t ts h ∙ s

pub arg_left : (t : Tree) (ts us : List Tree) → IsViewAsArg t None → StepsToArg ts None us → StepsToArg ts None (t ∷ us)
arg_left t ts us h s = (s.0, told_past t us h ∙ s.1)

pub arg_found : (t : Tree) (a : Arg) (us : List Tree) → IsViewAsArg t (Some a) → StepsToArg (t ∷ us) (Some a) us
arg_found t a us h =
    ap (λ v. map told_arg_of (cond v ((t, ends_in_semicolon us) ∷ args_in us) (args_in us))) h.0
    ∙ (λ i. (sym h.1 i, sym h.2 i, ends_in_semicolon us) ∷ told_in us)

-- an argument and whether it ends in a semicolon, as a step of the iterator
abbrev StepsTo : List Tree → Option MathArg → List Tree → Type 0
StepsTo ts arg us = MatchOption arg ((told_in ts ≡ []) × (told_in us ≡ [])) (λ a. told_in ts ≡ told_arg a ∷ told_in us)

pub step_none : (ts us : List Tree) (view : Option Arg) (arg : Option MathArg) → view ≡ None → arg ≡ None → StepsToArg ts view us → StepsTo ts arg us
step_none ts us None arg e a h = subst (λ r. StepsTo ts r us) (sym a) h
step_none ts us (Some v) arg e a h = let none : Some v ≡ None = e in cc

pub step_some : (ts us : List Tree) (view : Option Arg) (a : Arg) (ends : Bool) → view ≡ Some a → ends ≡ ends_in_semicolon us → StepsToArg ts view us
    → told_in ts ≡ (arg_node a, arg_kind a, ends) ∷ told_in us
step_some ts us None a ends e d h = let none : None ≡ Some a = e in cc
step_some ts us (Some v) a ends e d h =
    let same : v ≡ a = cc in
    h ∙ (λ i. (arg_node (same i), arg_kind (same i), sym d i) ∷ told_in us)

pub step_goes : (s t : MathArgList) (arg : MathArg) → told_in (items_left s.nodes) ≡ told_arg arg ∷ told_in (items_left t.nodes) → MakesProgress (λ _. ⊤) (item_count args_left) s (Some arg) t
step_goes s t arg h = record {
  on = λ fin. (tt, fin, omega (arith, ap length h, length-map (args_left s) told_arg_of, length-map (args_left t) told_arg_of));
  keeps = tt;
  rests = λ _. tt;
}
