use Rattle.std.proofs.Common.{◌≡◌, true, false, cond, List, ◌∷◌, Option, Some, None, refl, ap, subst, ◌∙◌, rules, tests}
use Rattle.typst_ast.proofs.Mapped.{mapped_in_slice}
use Rattle.typst_ast.specs.Imports.{IsImportsOf, is_imports_kind}
use Rattle.typst_ast.specs.Lists.{of_class}
use Rattle.typst_ast.specs.declared.imports.Imports.{Imports}
use Rattle.typst_node.specs.Children.{all_in, children_in, first_of}
use Rattle.typst_node.specs.Tree.{Tree}
use Rattle.typst_node.specs.Views.{node_kind}
use Rattle.typst_ast.proofs.modules.ModuleImport.imports.Goals as goal

abbrev AreImportsIn : List Tree → Option Imports → Type 0
AreImportsIn ts imports = IsImportsOf (first_of (all_in is_imports_kind ts)) imports

miss : (t : Tree) (ts : List Tree) (r : Option Imports) → IsImportsOf (of_class is_imports_kind (Some t)) None → AreImportsIn ts r → AreImportsIn (t ∷ ts) r
miss t ts r h e =
    let all = all_in is_imports_kind ts in
    elim (is_imports_kind (node_kind t)) as (λ v. IsImportsOf (cond v (Some t) None) None → IsImportsOf (first_of (cond v (t ∷ all) all)) r) [
      | true ↦ λ h. absurd h
      | false ↦ λ h. e
    ] h

hit : (t : Tree) (imports : Imports) (ts : List Tree) → IsImportsOf (of_class is_imports_kind (Some t)) (Some imports) → AreImportsIn (t ∷ ts) (Some imports)
hit t imports ts h =
    let all = all_in is_imports_kind ts in
    elim (is_imports_kind (node_kind t)) as (λ v. IsImportsOf (cond v (Some t) None) (Some imports) → IsImportsOf (first_of (cond v (t ∷ all) all)) (Some imports)) [
      | true ↦ λ h. h
      | false ↦ λ h. let none : Some imports ≡ None = h in cc
    ] h

pub returns : goal.returns
returns c =
    subst (λ ts. AreImportsIn ts c.find_map.result) (c.children.ensures ∙ ap children_in c.node.ensures)
    (mapped_in_slice _ _ (λ t r. IsImportsOf (of_class is_imports_kind (Some t)) r) (λ x r q k. search (rules, tests)) AreImportsIn refl miss hit
    _ _ _ _ c.iter.ensures.rest c.find_map.ensures.ran c.find_map.ensures.runs)
