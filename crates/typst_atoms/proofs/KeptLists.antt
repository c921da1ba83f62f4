-- The children that are left of a list of nodes, read from its end; and those of a whole list.
use Rattle.std.proofs.Common.{◌≡◌, ◌<◌, arith, length, length-append, Bool, true, false, not, ◌&&◌, cond, map, filter, Option, Some, None, List, [], ◌∷◌, ◌++◌, refl, sym, ap, ◌∙◌, append-nil, append_assoc}
use Rattle.std.specs.List.{zip}
use Rattle.typst_atoms.specs.KeptNodes.{is_space_behind_stmt, is_stmt, kept, kept_in, markup_nodes}
use Rattle.typst_atoms.specs.Kinds.{is_kind}
use Rattle.typst_atoms.specs.StmtEnds.{ends_in_stmt}
use Rattle.typst_base.specs.KindClasses.{is_stmt_kind}
use Rattle.typst_base.specs.declared.kind.SyntaxKind.TheVariants as kinds
use Rattle.typst_node.specs.Tree.{Tree}
use Rattle.typst_node.specs.Views.{node_kind}

pub ends_in_stmt_append : (d b : Bool) (ts : List Tree) (t : Tree) → ends_in_stmt d b (ts ++ t ∷ []) ≡ (d && is_stmt_kind (node_kind t))
ends_in_stmt_append d b [] t = refl
ends_in_stmt_append d b (s ∷ ts) t = ends_in_stmt_append d (d && is_stmt_kind (node_kind s)) ts t

pub kept_in_append : (d b : Bool) (ts : List Tree) (t : Tree) → kept_in d b (ts ++ t ∷ []) ≡ kept_in d b ts ++ kept (ends_in_stmt d b ts) t
kept_in_append d b [] t = append-nil (kept b t)
kept_in_append d b (s ∷ ts) t =
    ap (λ x. kept b s ++ x) (kept_in_append d (d && is_stmt_kind (node_kind s)) ts t)
    ∙ sym (append_assoc (kept b s) (kept_in d (d && is_stmt_kind (node_kind s)) ts) (kept (ends_in_stmt d (d && is_stmt_kind (node_kind s)) ts) t))

-- what a step from the back tells
is_left : (behind dropped : Bool) (t : Tree) → dropped ≡ (behind && is_kind kinds.Space (node_kind t)) → kept behind t ≡ cond dropped [] (t ∷ [])
is_left behind dropped t f = ap (λ v. cond v [] (t ∷ [])) (sym f)

back_step : (d b behind dropped v : Bool) (all front : List Tree) (t : Tree) → all ≡ front ++ t ∷ [] → behind ≡ ends_in_stmt d b front → dropped ≡ (behind && is_kind kinds.Space (node_kind t)) → dropped ≡ v → kept_in d b all ≡ kept_in d b front ++ cond v [] (t ∷ [])
back_step d b behind dropped v all front t e f k h =
    ap (kept_in d b) e
    ∙ kept_in_append d b front t
    ∙ ap (λ w. kept_in d b front ++ kept w t) (sym f)
    ∙ ap (λ us. kept_in d b front ++ us) (is_left behind dropped t k ∙ ap (λ w. cond w [] (t ∷ [])) h)

pub back_none : (d b behind dropped : Bool) (all front : List Tree) (t : Tree) → all ≡ front ++ t ∷ [] → behind ≡ ends_in_stmt d b front → dropped ≡ (behind && is_kind kinds.Space (node_kind t)) → dropped ≡ true → kept_in d b all ≡ kept_in d b front
back_none d b behind dropped all front t e f k h = back_step d b behind dropped true all front t e f k h ∙ append-nil (kept_in d b front)

pub back_some : (d b behind dropped : Bool) (all front start : List Tree) (t : Tree) → kept_in d b all ≡ start → all ≡ front ++ t ∷ [] → behind ≡ ends_in_stmt d b front → dropped ≡ (behind && is_kind kinds.Space (node_kind t)) → dropped ≡ false → start ≡ kept_in d b front ++ t ∷ []
back_some d b behind dropped all front start t i e f k h = sym i ∙ back_step d b behind dropped false all front t e f k h

pub back_shorter : (d b behind dropped : Bool) (all front start : List Tree) (t : Tree) → kept_in d b all ≡ start → all ≡ front ++ t ∷ [] → behind ≡ ends_in_stmt d b front → dropped ≡ (behind && is_kind kinds.Space (node_kind t)) → dropped ≡ false → length (kept_in d b front) < length start
back_shorter d b behind dropped all front start t i e f k h =
    let j = simp length-append at (ap length (back_some d b behind dropped all front start t i e f k h)) in
    omega arith

-- where no space is left out, all nodes are left
pub all_are_kept : (ts : List Tree) → kept_in false false ts ≡ ts
all_are_kept [] = refl
all_are_kept (t ∷ ts) = ap (λ x. t ∷ x) (all_are_kept ts)

-- where spaces after statements are left out, they are the nodes of markup
second_alone : (v : Bool) (p : Option Tree × Tree) (ps : List (Option Tree × Tree)) →
    map (λ q. q.1) (cond (not v) (p ∷ ps) ps) ≡ cond v [] (p.1 ∷ []) ++ map (λ q. q.1) ps
second_alone true p ps = refl
second_alone false p ps = refl

markup_nodes_behind : (o : Option Tree) (ts : List Tree) →
    map (λ p. p.1) (filter (λ p. not (is_space_behind_stmt p)) (zip (o ∷ map (λ t. Some t) ts) ts)) ≡ kept_in true (is_stmt o) ts
markup_nodes_behind o [] = refl
markup_nodes_behind o (t ∷ ts) =
    second_alone (is_space_behind_stmt (o, t)) (o, t) (filter (λ p. not (is_space_behind_stmt p)) (zip (Some t ∷ map (λ u. Some u) ts) ts))
    ∙ ap (λ us. kept (is_stmt o) t ++ us) (markup_nodes_behind (Some t) ts)

pub kept_in_markup : (ts : List Tree) → kept_in true false ts ≡ markup_nodes ts
kept_in_markup ts = sym (markup_nodes_behind None ts)
