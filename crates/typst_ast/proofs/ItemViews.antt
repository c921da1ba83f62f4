-- What the view of an item tells of an iterator that gives its node.
use Rattle.std.proofs.Common.{◌≡◌, true, false, map, MatchOption, Option, Some, None, List, [], ◌∷◌, ◌++◌, sym, ap, ◌∙◌}
use Rattle.std.proofs.lemmas.List.{map-append}
use Rattle.typst_ast.specs.MathArgItem.{item_node, item_kind, is_proper_item}
use Rattle.typst_ast.specs.declared.math_args.MathArgItem.{MathArgItem}
use Rattle.typst_atoms.specs.MathItems.{is_item}
use Rattle.typst_node.specs.Tree.{Tree}
use Rattle.typst_node.specs.Views.{node_kind, told, told_of}

-- the view of a node that may be an item
abbrev IsItemOf : Tree → Option MathArgItem → Type 0
IsItemOf t view = MatchOption view (is_item false (node_kind t) ≡ false) (λ i. told item_node item_kind is_proper_item i ≡ told_of t)

pub first_told : (all rest : List Tree) (t : Tree) (view : Option MathArgItem) → is_item false (node_kind t) ≡ true → all ≡ t ∷ rest → IsItemOf t view
    → MatchOption view ((map told_of all ≡ []) × (map told_of rest ≡ [])) (λ i. map told_of all ≡ told item_node item_kind is_proper_item i ∷ map told_of rest)
first_told all rest t None is e h = let same : true ≡ false = sym is ∙ h in cc
first_told all rest t (Some i) is e h = ap (map told_of) e ∙ ap (λ p. p ∷ map told_of rest) (sym h)

pub last_told : (all rest : List Tree) (t : Tree) (view : Option MathArgItem) → is_item false (node_kind t) ≡ true → all ≡ rest ++ t ∷ [] → IsItemOf t view
    → MatchOption view ((map told_of all ≡ []) × (map told_of rest ≡ [])) (λ i. map told_of all ≡ map told_of rest ++ told item_node item_kind is_proper_item i ∷ [])
last_told all rest t None is e h = let same : true ≡ false = sym is ∙ h in cc
last_told all rest t (Some i) is e h = ap (map told_of) e ∙ map-append told_of rest (t ∷ []) ∙ ap (λ p. map told_of rest ++ p ∷ []) (sym h)
