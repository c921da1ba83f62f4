-- The operator that a walk over the children of an operation finds, which notes whether it has met a `not`.
use Rattle.std.proofs.Common.{◌≡◌, Bool, true, false, ◌&&◌, ◌||◌, cond, unwrap_or, List, [], ◌∷◌, Option, Some, None, refl, sym, ap, ◌∙◌}
use Rattle.std.proofs.Math.Bool.{or_assoc}
use Rattle.std.specs.List.{find, list_any}
use Rattle.std.specs.Option.{is_some, option_and_then}
use Rattle.typst_ast.specs.Operators.{binary_operator_at, binary_operator_in, is_binary_operator, is_negated, is_not}
use Rattle.typst_atoms.specs.BinaryOperators.{binary_operator_of}
use Rattle.typst_atoms.specs.Kinds.{is_kind}
use Rattle.typst_atoms.specs.declared.operators.BinOp.{BinOp}
use Rattle.typst_atoms.specs.declared.operators.BinOp.TheVariants.{Add, NotIn}
use Rattle.typst_base.specs.contracts.kind.SyntaxKind.{the_type}
use Rattle.typst_base.specs.declared.kind.SyntaxKind.{SyntaxKind}
use Rattle.typst_base.specs.declared.kind.SyntaxKind.TheVariants as kinds
use Rattle.typst_node.proofs.FirstThatPasses.{before-hit, before-miss}
use Rattle.typst_node.specs.Tree.{Tree}
use Rattle.typst_node.specs.Views.{node_kind}
use denote.Enum.Bare.{same_true}

-- that of the first node that is a binary operator, else `+`; the flag says whether a `not` comes before the list
abbrev pub binary_operator_behind : Bool → List Tree → BinOp
binary_operator_behind negated [] = Add
binary_operator_behind negated (t ∷ ts) =
    unwrap_or (binary_operator_at negated (node_kind t)) (binary_operator_behind (negated || is_not t) ts)

-- that of the node, if there is one, else `+`
abbrev operator_of : Bool → Option Tree → BinOp
operator_of negated o = unwrap_or (option_and_then (λ t. binary_operator_at negated (node_kind t)) o) Add

-- that of the first operator of a list, negated by a `not` in the list, or where the flag says so
abbrev first_operator : Bool → List Tree → BinOp
first_operator negated ts = operator_of (negated || is_negated ts) (find is_binary_operator ts)

-- what is no operator is no `in`
no_operator_is_not_in : (k : SyntaxKind) → binary_operator_of k ≡ None → is_kind kinds.In k ≡ false
no_operator_is_not_in k h =
    elim (is_kind kinds.In k) as (λ v. is_kind kinds.In k ≡ v → v ≡ false) [
      | true ↦ λ q.
          let e : binary_operator_of kinds.In ≡ None = ap binary_operator_of (sym (same_true the_type tt k kinds.In q)) ∙ h in
          cc
      | false ↦ λ q. refl
    ] refl

and_false : (v w : Bool) → w ≡ false → (v && w) ≡ false
and_false true w h = h
and_false false w h = refl

or_false : (v : Bool) → (v || false) ≡ v
or_false true = refl
or_false false = refl

-- so there is nothing if a token is no operator
no_operator_at : (n : Bool) (k : SyntaxKind) → binary_operator_of k ≡ None → binary_operator_at n k ≡ None
no_operator_at n k h =
    ap (λ v. cond v (Some NotIn) (binary_operator_of k)) (and_false n (is_kind kinds.In k) (no_operator_is_not_in k h)) ∙ h

-- where it is one, nothing else counts
unwrap_either : (v : Bool) (a b c d : BinOp) →
    unwrap_or (cond v (Some a) (Some b)) c ≡ unwrap_or (cond v (Some a) (Some b)) d
unwrap_either true a b c d = refl
unwrap_either false a b c d = refl

-- whether a list is negated, by its first node
negated-hit : (t : Tree) (ts : List Tree) → is_binary_operator t ≡ true → is_negated (t ∷ ts) ≡ false
negated-hit t ts h = ap (list_any is_not) (before-hit is_binary_operator t ts h)

negated-miss : (t : Tree) (ts : List Tree) → is_binary_operator t ≡ false → is_negated (t ∷ ts) ≡ (is_not t || is_negated ts)
negated-miss t ts h = ap (list_any is_not) (before-miss is_binary_operator t ts h)

-- the walk passes over what is no operator
first_operator-miss : (n : Bool) (t : Tree) (ts : List Tree) → is_binary_operator t ≡ false →
    first_operator n (t ∷ ts) ≡ first_operator (n || is_not t) ts
first_operator-miss n t ts h =
    ap (λ v. operator_of (n || is_negated (t ∷ ts)) (cond v (Some t) (find is_binary_operator ts))) h
    ∙ ap (λ v. operator_of (n || v) (find is_binary_operator ts)) (negated-miss t ts h)
    ∙ ap (λ v. operator_of v (find is_binary_operator ts)) (sym (or_assoc n (is_not t) (is_negated ts)))

-- and ends at the first operator
first_operator-hit : (n : Bool) (t : Tree) (ts : List Tree) → is_binary_operator t ≡ true →
    first_operator n (t ∷ ts) ≡ operator_of n (Some t)
first_operator-hit n t ts h =
    ap (λ v. operator_of (n || is_negated (t ∷ ts)) (cond v (Some t) (find is_binary_operator ts))) h
    ∙ ap (λ v. operator_of (n || v) (Some t)) (negated-hit t ts h)
    ∙ ap (λ v. operator_of v (Some t)) (or_false n)

-- so after what the flag tells of, it finds the first operator
behind_is_first : (n : Bool) (ts : List Tree) → binary_operator_behind n ts ≡ first_operator n ts
behind_is_first n [] = refl
behind_is_first n (t ∷ ts) =
    let k = node_kind t in
    let later = binary_operator_behind (n || is_not t) ts in
    elim (binary_operator_of k) as
    (λ o. binary_operator_of k ≡ o → binary_operator_behind n (t ∷ ts) ≡ first_operator n (t ∷ ts)) [
      | None ↦ λ e.
          ap (λ o. unwrap_or o later) (no_operator_at n k e)
          ∙ behind_is_first (n || is_not t) ts
          ∙ sym (first_operator-miss n t ts (ap is_some e))
      | Some op ↦ λ e.
          ap (λ o. unwrap_or (cond (n && is_kind kinds.In k) (Some NotIn) o) later) e
          ∙ unwrap_either (n && is_kind kinds.In k) NotIn op later Add
          ∙ ap (λ o. unwrap_or (cond (n && is_kind kinds.In k) (Some NotIn) o) Add) (sym e)
          ∙ sym (first_operator-hit n t ts (ap is_some e))
    ] refl

-- the walk over a whole list finds the operator in it
pub behind_nothing_is_in : (ts : List Tree) → binary_operator_behind false ts ≡ binary_operator_in ts
behind_nothing_is_in ts = behind_is_first false ts
