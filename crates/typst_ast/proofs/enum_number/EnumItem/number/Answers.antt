use Rattle.std.proofs.Common.{◌≡◌, ℕ, true, false, cond, List, [], ◌∷◌, Option, Some, None, refl, ap, subst, ◌∙◌, inl, inr, rules, tests}
use Rattle.typst_ast.proofs.Mapped.{mapped_in_slice}
use Rattle.typst_ast.specs.EnumNumbers.{IsFirstNumber}
use Rattle.typst_atoms.specs.Kinds.{is_kind}
use Rattle.typst_base.specs.declared.kind.SyntaxKind.TheVariants as kinds
use Rattle.typst_node.specs.Children.{all_in, children_in}
use Rattle.typst_node.specs.Tree.{Tree}
use Rattle.typst_node.specs.Views.{node_kind}
use Rattle.typst_ast.proofs.enum_number.EnumItem.number.Goals as goal

abbrev IsNumberIn : List Tree → Option ℕ → Type 0
IsNumberIn ts number = IsFirstNumber (all_in (is_kind kinds.EnumMarker) ts) number

miss : (t : Tree) (ts : List Tree) (r : Option ℕ) → IsNumberIn (t ∷ []) None → IsNumberIn ts r → IsNumberIn (t ∷ ts) r
miss t ts r h e =
    let all = all_in (is_kind kinds.EnumMarker) ts in
    elim (is_kind kinds.EnumMarker (node_kind t)) as (λ v. IsFirstNumber (cond v (t ∷ []) []) None → IsFirstNumber (cond v (t ∷ all) all) r) [
      | true ↦ λ h. elim h [ inl n ↦ let none = n.1 in cc | inr n ↦ inr (n.0, e) ]
      | false ↦ λ h. e
    ] h

hit : (t : Tree) (n : ℕ) (ts : List Tree) → IsNumberIn (t ∷ []) (Some n) → IsNumberIn (t ∷ ts) (Some n)
hit t n ts h =
    let all = all_in (is_kind kinds.EnumMarker) ts in
    elim (is_kind kinds.EnumMarker (node_kind t)) as (λ v. IsFirstNumber (cond v (t ∷ []) []) (Some n) → IsFirstNumber (cond v (t ∷ all) all) (Some n)) [
      | true ↦ λ h. elim h [ inl s ↦ inl s | inr s ↦ let none = s.1 in cc ]
      | false ↦ λ h. let none : Some n ≡ None = h in cc
    ] h

pub returns : goal.returns
returns c =
    subst (λ ts. IsNumberIn ts c.find_map.result) (c.children.ensures ∙ ap children_in c.node.ensures)
    (mapped_in_slice _ _ (λ t r. IsNumberIn (t ∷ []) r) (λ x r q k. search (rules, tests)) IsNumberIn refl miss hit
    _ _ _ _ c.iter.ensures.rest c.find_map.ensures.ran c.find_map.ensures.runs)
