-- The expressions and spaces among nodes that are searched from both ends.
use Rattle.std.proofs.Common.{◌≡◌, ◌↔◌, Bool, true, false, cond, map, List, [], ◌∷◌, ◌++◌, Option, Some, None, MatchOption, IfSome, IsSome, ◌<◌, length, length-append, arith, refl, sym, ap, subst, ◌∙◌, append-nil}
use Rattle.std.proofs.lemmas.List.{length-map, map-append}
use Rattle.std.proofs.lemmas.List.Elements.{filter-append}
use Rattle.std.specs.Bool.{⊤}
use Rattle.std.specs.Fn.{CalledAt}
use Rattle.std.specs.Iterator.{FindsItem, MakesProgress, Yields, YieldsLastRef, item_count}
use Rattle.std.specs.List.{FoldsTo}
use Rattle.typst_ast.specs.Expr.{IsExprOf}
use Rattle.typst_ast.specs.ExprTable.{expr_kind, expr_node}
use Rattle.typst_ast.specs.Exprs.{exprs_left, is_expr_or_space_kind}
use Rattle.typst_ast.specs.declared.expr.Expr.{Expr}
use Rattle.typst_ast.specs.declared.exprs.Exprs.{Exprs}
use Rattle.typst_atoms.specs.KeptNodes.{kept_left}
use Rattle.typst_atoms.specs.declared.kept_nodes.KeptNodes.{KeptNodes}
use Rattle.typst_base.specs.declared.kind.SyntaxKind.{SyntaxKind}
use Rattle.typst_node.specs.Children.{all_in}
use Rattle.typst_node.specs.Tree.{Tree}
use Rattle.typst_node.specs.Views.{node_kind, told, told_of}
use denote.Param.Members.{Mut}
use denote.Ref.{Bor}

-- what is said of the expressions and spaces among nodes
abbrev told_in : List Tree → List (Option Tree × SyntaxKind × Bool)
told_in ts = map told_of (all_in is_expr_or_space_kind ts)

-- the view of a node as an expression or a space
abbrev pub IsViewAsExpr : Tree → Option Expr → Type 0
IsViewAsExpr t view = (IsSome view ↔ (is_expr_or_space_kind (node_kind t) ≡ true)) × IfSome view (IsExprOf (Some t))

-- a step from the front and a step from the back, from some nodes to others
abbrev pub StepsFromFront : List Tree → Option Expr → List Tree → Type 0
StepsFromFront ts view us =
    MatchOption view ((told_in ts ≡ []) × (told_in us ≡ [])) (λ e. told_in ts ≡ told expr_node expr_kind (λ _. true) e ∷ told_in us)

abbrev pub StepsFromBack : List Tree → Option Expr → List Tree → Type 0
StepsFromBack ts view us =
    MatchOption view ((told_in ts ≡ []) × (told_in us ≡ [])) (λ e. told_in ts ≡ told_in us ++ told expr_node expr_kind (λ _. true) e ∷ [])

-- a node without a view is neither an expression nor a space
none_of : (v : Bool) → (v ≡ true → false ≡ true) → v ≡ false
none_of true h = sym (h refl)
none_of false h = refl

-- a step that gives a view leaves fewer
fewer : (ts us : List Tree) (told_first : Option Tree × SyntaxKind × Bool) → told_in ts ≡ told_first ∷ told_in us → length (all_in is_expr_or_space_kind us) < length (all_in is_expr_or_space_kind ts)
fewer ts us p e = omega (arith, ap length e, length-map (all_in is_expr_or_space_kind ts) told_of, length-map (all_in is_expr_or_space_kind us) told_of)

fewer_back : (ts us : List Tree) (told_last : Option Tree × SyntaxKind × Bool) → told_in ts ≡ told_in us ++ told_last ∷ [] → length (all_in is_expr_or_space_kind us) < length (all_in is_expr_or_space_kind ts)
fewer_back ts us p e =
    omega (arith, ap length e, length-append (told_in us) (p ∷ []), length-map (all_in is_expr_or_space_kind ts) told_of, length-map (all_in is_expr_or_space_kind us) told_of)

pub front_goes : (s t : Exprs) (view : Option Expr) → StepsFromFront (kept_left s.nodes) view (kept_left t.nodes) → MakesProgress (λ _. ⊤) (item_count exprs_left) s view t
front_goes s t None h = record { on = λ _. tt; keeps = tt; rests = λ fin. fin }
front_goes s t (Some e) h = record { on = λ fin. (tt, fin, fewer (kept_left s.nodes) (kept_left t.nodes) _ h); keeps = tt; rests = λ _. tt }

pub back_goes : (s t : Exprs) (view : Option Expr) → StepsFromBack (kept_left s.nodes) view (kept_left t.nodes) → MakesProgress (λ _. ⊤) (item_count exprs_left) s view t
back_goes s t None h = record { on = λ _. tt; keeps = tt; rests = λ fin. fin }
back_goes s t (Some e) h = record { on = λ fin. (tt, fin, fewer_back (kept_left s.nodes) (kept_left t.nodes) _ h); keeps = tt; rests = λ _. tt }

told_past : (t : Tree) (ts : List Tree) → IsViewAsExpr t None → told_in (t ∷ ts) ≡ told_in ts
told_past t ts h =
    let all = all_in is_expr_or_space_kind ts in
    ap (λ v. map told_of (cond v (t ∷ all) all)) (none_of _ h.0.1)

pub front_past : (t : Tree) (ts us : List Tree) (view : Option Expr) → IsViewAsExpr t None → StepsFromFront ts view us → StepsFromFront (t ∷ ts) view us
front_past t ts us None h s = (told_past t ts h ∙ s.0, s.1)
front_past t ts us (Some e) h s = told_past t ts h ∙ s

pub front_left : (t : Tree) (ts us : List Tree) → IsViewAsExpr t None → StepsFromFront ts None us → StepsFromFront ts None (t ∷ us)
front_left t ts us h s = (s.0, told_past t us h ∙ s.1)

told_as : (t : Tree) (e : Expr) → IsExprOf (Some t) e → told_of t ≡ told expr_node expr_kind (λ _. true) e
told_as t e h = λ i. (sym h.node i, sym h.kind i, true)

pub front_found : (t : Tree) (e : Expr) (us : List Tree) → IsViewAsExpr t (Some e) → StepsFromFront (t ∷ us) (Some e) us
front_found t e us h =
    let all = all_in is_expr_or_space_kind us in
    ap (λ v. map told_of (cond v (t ∷ all) all)) (h.0.0 refl) ∙ ap (λ p. p ∷ told_in us) (told_as t e h.1)

-- the last expression or space, and those before it
abbrev IsLast : List Tree → Option (Bor Tree) → List Tree → Type 0
IsLast ts node us =
    MatchOption node
    ((all_in is_expr_or_space_kind ts ≡ []) × (all_in is_expr_or_space_kind us ≡ []))
    (λ t. (is_expr_or_space_kind (node_kind t.now) ≡ true) × (all_in is_expr_or_space_kind ts ≡ all_in is_expr_or_space_kind us ++ t.now ∷ []))

all_push : (ts : List Tree) (t : Tree) (v : Bool) → is_expr_or_space_kind (node_kind t) ≡ v → all_in is_expr_or_space_kind (ts ++ t ∷ []) ≡ all_in is_expr_or_space_kind ts ++ cond v (t ∷ []) []
all_push ts t v h =
    filter-append (λ u. is_expr_or_space_kind (node_kind u)) ts (t ∷ [])
    ∙ ap (λ w. all_in is_expr_or_space_kind ts ++ cond w (t ∷ []) []) h

last_past : (t : Tree) (all ts us : List Tree) (node : Option (Bor Tree)) → is_expr_or_space_kind (node_kind t) ≡ false → all ≡ ts ++ t ∷ [] → IsLast ts node us → IsLast all node us
last_past t all ts us None h e s = (ap (all_in is_expr_or_space_kind) e ∙ all_push ts t false h ∙ append-nil (all_in is_expr_or_space_kind ts) ∙ s.0, s.1)
last_past t all ts us (Some u) h e s = (s.0, ap (all_in is_expr_or_space_kind) e ∙ all_push ts t false h ∙ append-nil (all_in is_expr_or_space_kind ts) ∙ s.1)

module _ {F : Type 0} (g : Mut F (Bor (Bor Tree) × Unit {0}) Bool) (f : F)
    (calls : (t : Bor Tree) (b : Bool) (q : F) → CalledAt g f t b q → (q ≡ f) × (b ≡ is_expr_or_space_kind (node_kind t.now))) where
  back_to : (xs : List (Bor Tree)) (s t u : KeptNodes) (node : Option (Bor Tree)) (q : F) → Yields (YieldsLastRef kept_left) s xs t → YieldsLastRef kept_left t node u
      → FoldsTo (λ p x q. CalledAt g p x false q) f xs q → IfSome node (λ x. (h : F) × CalledAt g q x true h) → IsLast (kept_left s) node (kept_left u)
  back_to [] s t u None q y p k e = (ap (all_in is_expr_or_space_kind) (ap kept_left y ∙ p.0), ap (all_in is_expr_or_space_kind) p.1)
  back_to [] s t u (Some x) q y p k (h, e) =
      let w = sym (calls x true h (subst (λ f'. CalledAt g f' x true h) (sym k) e)).1 in
      (w, ap (all_in is_expr_or_space_kind) (ap kept_left y ∙ p) ∙ all_push (kept_left u) x.now true w)
  back_to (x ∷ xs) s t u node q (j, p', y) p (m, k', k) e =
      let c = calls x false m k' in
      last_past x.now (kept_left s) (kept_left j) (kept_left u) node (sym c.1) p'
      (back_to xs j t u node q y p (subst (λ f'. FoldsTo (λ p x q. CalledAt g p x false q) f' xs q) c.0 k) e)

  pub found_back : (s u : KeptNodes) (node : Option (Bor Tree)) → FindsItem (YieldsLastRef kept_left) g s f node u → IsLast (kept_left s) node (kept_left u)
  found_back s u node (xs, q, (t, y, p), k, e) = back_to xs s t u node q y p k e

-- so there is no expression or space if none is found, and what is found is the last one
pub back_none : (ts us : List Tree) (node : Option (Bor Tree)) (view : Option Expr) → node ≡ None → view ≡ None → IsLast ts node us → StepsFromBack ts view us
back_none ts us None view e v h = subst (λ r. StepsFromBack ts r us) (sym v) (ap (map told_of) h.0, ap (map told_of) h.1)
back_none ts us (Some t) view e v h = let none : Some t ≡ None = e in cc

pub back_found : (ts us : List Tree) (node : Option (Bor Tree)) (t : Bor Tree) (view : Option Expr) → node ≡ Some t → IsLast ts node us → IsViewAsExpr t.now view → StepsFromBack ts view us
back_found ts us None t view e h v = let none : None ≡ Some t = e in cc
back_found ts us (Some u) t None e h v =
    let same : u ≡ t = cc in
    let no : false ≡ true = v.0.1 (subst (λ (w : Bor Tree). is_expr_or_space_kind (node_kind w.now) ≡ true) same h.0) in cc
back_found ts us (Some u) t (Some x) e h v =
    let same : u ≡ t = cc in
    ap (map told_of) h.1
    ∙ map-append told_of (all_in is_expr_or_space_kind us) (u.now ∷ [])
    ∙ ap (λ (w : Bor Tree). told_in us ++ told_of w.now ∷ []) same
    ∙ ap (λ p. told_in us ++ p ∷ []) (told_as t.now x v.1)
