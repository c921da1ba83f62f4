-- Lists and nodes whose parts are the same.
use Rattle.std.proofs.Common.{◌≡◌, ℕ, ◌+◌, ◌<◌, List, [], ◌∷◌, ◌++◌, length, map, take, get_or, reverse, sym, ap, ◌∙◌}
use Rattle.std.proofs.lemmas.List.{take_more, reverse-reverse, get_or_default}
use Rattle.typst_node.specs.Tree.{Tree, forest, trees}
use Rattle.typst_node.specs.View.{warning_text, warnings_in, content, below, tree_of}
use Rattle.typst_node.specs.declared.node.SyntaxNode.TheInside.{Inside}
use Rattle.typst_node.proofs.Trees.{trees_of_forest}

pub equal_at : {X : Type 0} (xs ys : List X) (i : ℕ) (x y : X) → i < length xs → xs ≡ ys → get_or xs i x ≡ get_or ys i y
equal_at xs ys i x y h e = get_or_default xs i x y h ∙ ap (λ zs. get_or zs i y) e

pub equal_more : {X : Type 0} (xs ys : List X) (i : ℕ) (x y : X) → i < length xs → i < length ys → take i xs ≡ take i ys → x ≡ get_or xs i x → y ≡ get_or ys i y → x ≡ y → take (i + 1) xs ≡ take (i + 1) ys
equal_more xs ys i x y h k e p q s = take_more xs i x h ∙ ((λ j. e j ++ (sym p ∙ s ∙ q) j ∷ []) ∙ sym (take_more ys i y k))

-- what is the same in the parts of two nodes is the same of the nodes, and back
pub whole_same : (a b : Inside) → a.span ≡ b.span → map warning_text (warnings_in a.node) ≡ map warning_text (warnings_in b.node) → content a.node ≡ content b.node → below a.node ≡ below b.node → tree_of a ≡ tree_of b
whole_same a b s w e k = λ i. record { label = record { span = s i; warnings = reverse (w i); content = e i }; children = forest (k i) }

pub same_warning_texts : (a b : Inside) → tree_of a ≡ tree_of b → map warning_text (warnings_in a.node) ≡ map warning_text (warnings_in b.node)
same_warning_texts a b e = sym (reverse-reverse (map warning_text (warnings_in a.node))) ∙ (ap (λ (t : Tree). reverse t.label.warnings) e ∙ reverse-reverse (map warning_text (warnings_in b.node)))

pub same_below : (a b : Inside) → tree_of a ≡ tree_of b → below a.node ≡ below b.node
same_below a b e = sym (trees_of_forest (below a.node)) ∙ (ap (λ (t : Tree). trees t.children) e ∙ trees_of_forest (below b.node))
