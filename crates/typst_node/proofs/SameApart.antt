-- Lists that are the same under a function, and nodes that are the same apart from spans and bounds.
use Rattle.std.proofs.Common.{◌≡◌, ℕ, suc, zero, ◌+◌, ◌<◌, List, [], ◌∷◌, length, map, take, get_or, reverse, sym, ap, ◌∙◌, arith, add-one}
use Rattle.std.proofs.lemmas.List.{length-map, reverse-reverse}
use Rattle.typst_base.specs.Span.{detached}
use Rattle.typst_node.specs.Tree.{Tree, forest, trees}
use Rattle.typst_node.specs.Plain.{plain, plain_forest, unbounded}
use Rattle.typst_node.specs.View.{warning_text, warnings_in, content, below, tree_of}
use Rattle.typst_node.specs.declared.node.SyntaxNode.TheInside.{Inside}
use Rattle.typst_node.proofs.Plain.{forest_plain}
use Rattle.typst_node.proofs.Trees.{trees_of_forest}

pub same_length : {X Y : Type 0} (f : X → Y) (xs ys : List X) → map f xs ≡ map f ys → length xs ≡ length ys
same_length f xs ys e = sym (length-map xs f) ∙ ap length e ∙ length-map ys f

pub same_at : {X Y : Type 0} (f : X → Y) (xs ys : List X) (i : ℕ) (x y : X) → i < length xs → i < length ys → map f xs ≡ map f ys → f (get_or xs i x) ≡ f (get_or ys i y)
same_at f [] ys i x y h k e = absurd (omega arith)
same_at f (a ∷ xs) [] i x y h k e = absurd (omega arith)
same_at f (a ∷ xs) (b ∷ ys) zero x y h k e = cc
same_at f (a ∷ xs) (b ∷ ys) (suc i) x y h k e = same_at f xs ys i x y (omega arith) (omega arith) cc

same_more_suc : {X Y : Type 0} (f : X → Y) (xs ys : List X) (i : ℕ) (x y : X) → i < length xs → i < length ys → map f (take i xs) ≡ map f (take i ys) → f (get_or xs i x) ≡ f (get_or ys i y) → map f (take (suc i) xs) ≡ map f (take (suc i) ys)
same_more_suc f [] ys i x y h k e s = absurd (omega arith)
same_more_suc f (a ∷ xs) [] i x y h k e s = absurd (omega arith)
same_more_suc f (a ∷ xs) (b ∷ ys) zero x y h k e s = λ j. s j ∷ []
same_more_suc f (a ∷ xs) (b ∷ ys) (suc i) x y h k e s =
    let first : f a ≡ f b = cc in
    let rest = same_more_suc f xs ys i x y (omega arith) (omega arith) (cc) s in
    λ j. first j ∷ rest j

pub same_more : {X Y : Type 0} (f : X → Y) (xs ys : List X) (i : ℕ) (x y : X) → i < length xs → i < length ys → map f (take i xs) ≡ map f (take i ys) → x ≡ get_or xs i x → y ≡ get_or ys i y → f x ≡ f y → map f (take (i + 1) xs) ≡ map f (take (i + 1) ys)
same_more f xs ys i x y h k e p q s = rw add-one (same_more_suc f xs ys i x y h k e (sym (ap f p) ∙ s ∙ ap f q))

-- what is the same in the parts of two nodes is the same of the nodes
pub alike_whole : (a b : Inside) → map warning_text (warnings_in a.node) ≡ map warning_text (warnings_in b.node) → unbounded (content a.node) ≡ unbounded (content b.node) → map plain (below a.node) ≡ map plain (below b.node) → plain (tree_of a) ≡ plain (tree_of b)
alike_whole a b w e k =
    let kids : plain_forest (forest (below a.node)) ≡ plain_forest (forest (below b.node)) = sym (forest_plain (below a.node)) ∙ ap forest k ∙ forest_plain (below b.node) in
    λ i. record { label = record { span = detached; warnings = reverse (w i); content = e i }; children = kids i }

pub alike_warnings : (a b : Inside) → plain (tree_of a) ≡ plain (tree_of b) → map warning_text (warnings_in a.node) ≡ map warning_text (warnings_in b.node)
alike_warnings a b e = sym (reverse-reverse (map warning_text (warnings_in a.node))) ∙ ap (λ (t : Tree). reverse t.label.warnings) e ∙ reverse-reverse (map warning_text (warnings_in b.node))

pub alike_content : (a b : Inside) → plain (tree_of a) ≡ plain (tree_of b) → unbounded (content a.node) ≡ unbounded (content b.node)
alike_content a b e = ap (λ (t : Tree). t.label.content) e

pub alike_below : (a b : Inside) → plain (tree_of a) ≡ plain (tree_of b) → map plain (below a.node) ≡ map plain (below b.node)
alike_below a b e =
    sym (trees_of_forest (map plain (below a.node))) ∙ ap trees (forest_plain (below a.node) ∙ ap (λ (t : Tree). t.children) e ∙ sym (forest_plain (below b.node))) ∙ trees_of_forest (map plain (below b.node))
