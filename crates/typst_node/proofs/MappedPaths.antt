-- Trees with the places of mapped bytes, path by path.
use Rattle.std.proofs.Common.{◌≡◌, ℕ, zero, suc, ◌+◌, List, [], ◌∷◌, length, take, Option, Some, None, slice_get, refl, ap, ◌∙◌, arith}
use Rattle.std.specs.Option.{option_map}
use Rattle.typst_base.specs.Mapping.{Mapping}
use Rattle.typst_node.specs.Tree.{Forest, none, tree, Tree, trees}
use Rattle.typst_node.specs.Preorder.{at, if_some}
use Rattle.typst_node.specs.Text.{own_text, text, text_of_all, offset}
use Rattle.typst_node.specs.Mapped.{label_of, mapped_there, IsMapped}
use Rattle.typst_node.specs.MappedForest.{mapped_forest, mapped_tree}
use Rattle.typst_node.proofs.Offsets.{offset-cons}
use Rattle.typst_node.proofs.Trees.{length-text_of_all-cons}

-- a child of mapped trees is the mapped child, after the texts of those before it
child_mapped : (m : Mapping) (id start : ℕ) (f : Forest) (i : ℕ) → slice_get (trees (mapped_forest m id start f)) i
    ≡ option_map (mapped_tree m id (start + length (text_of_all (take i (trees f))))) (slice_get (trees f) i)
child_mapped m id start none i = refl
child_mapped m id start (tree l c r) zero =
    let same : start ≡ start + 0 = omega arith in
    ap (λ n. Some (mapped_tree m id n record { label = l; children = c })) same
child_mapped m id start (tree l c r) (suc i) =
    let x : Tree = record { label = l; children = c } in
    let same : (start + length (text x)) + length (text_of_all (take i (trees r))) ≡ start + length (text_of_all (x ∷ take i (trees r))) =
    omega (arith, length-text_of_all-cons x (take i (trees r))) in
    child_mapped m id (start + length (text x)) r i ∙ ap (λ n. option_map (mapped_tree m id n) (slice_get (trees r) i)) same

-- what is at a path of a child, counted from the child and from its parent
below_child : (m : Mapping) (id : ℕ) (path : List ℕ) (i start : ℕ) (t child : Tree) (o : Option Tree) → slice_get (trees t.children) i ≡ Some child → at path child ≡ o
    → option_map (mapped_tree m id (((start + length (own_text t.label)) + length (text_of_all (take i (trees t.children)))) + offset path child)) o
    ≡ option_map (mapped_tree m id (start + offset (i ∷ path) t)) o
below_child m id path i start t child None there leads = refl
below_child m id path i start t child (Some s) there leads =
    let same : ((start + length (own_text t.label)) + length (text_of_all (take i (trees t.children)))) + offset path child ≡ start + offset (i ∷ path) t =
    omega (arith, offset-cons i path t child s there leads) in
    ap (λ n. Some (mapped_tree m id n s)) same

-- what is at a path below a node, if the rest of the path leads to the mapped node from each child
below_mapped : (m : Mapping) (id : ℕ) (path : List ℕ) → ((start : ℕ) (t : Tree) → at path (mapped_tree m id start t) ≡ option_map (mapped_tree m id (start + offset path t)) (at path t))
    → (i start : ℕ) (t : Tree) (o : Option Tree) → slice_get (trees t.children) i ≡ o
    → if_some (at path) (option_map (mapped_tree m id ((start + length (own_text t.label)) + length (text_of_all (take i (trees t.children))))) o)
    ≡ option_map (mapped_tree m id (start + offset (i ∷ path) t)) (if_some (at path) o)
below_mapped m id path rest i start t None there = refl
below_mapped m id path rest i start t (Some child) there =
    rest ((start + length (own_text t.label)) + length (text_of_all (take i (trees t.children)))) child
    ∙ below_child m id path i start t child (at path child) there refl

-- what is at a path of a mapped tree: the mapped node, after the texts before it
at_mapped : (m : Mapping) (id : ℕ) (path : List ℕ) (start : ℕ) (t : Tree) → at path (mapped_tree m id start t) ≡ option_map (mapped_tree m id (start + offset path t)) (at path t)
at_mapped m id [] start t =
    let same : start ≡ start + 0 = omega arith in
    ap (λ n. Some (mapped_tree m id n t)) same
at_mapped m id (i ∷ path) start t =
    ap (if_some (at path)) (child_mapped m id (start + length (own_text t.label)) t.children i)
    ∙ below_mapped m id path (at_mapped m id path) i start t (slice_get (trees t.children) i) refl

label_mapped : (m : Mapping) (id : ℕ) (path : List ℕ) (t : Tree) (o : Option Tree) → option_map label_of (option_map (mapped_tree m id (0 + offset path t)) o) ≡ option_map (mapped_there m id t path) o
label_mapped m id path t None = refl
label_mapped m id path t (Some s) =
    let same : 0 + offset path t ≡ offset path t = omega arith in
    ap (λ n. Some (mapped_tree m id n s).label) same

-- a tree mapped from the start on has at each path what the path's bytes give
pub mapped_from_start : (m : Mapping) (id : ℕ) (old new : Tree) → new ≡ mapped_tree m id 0 old → IsMapped m id old new
mapped_from_start m id old new is path =
    ap (λ u. option_map label_of (at path u)) is ∙ (ap (option_map label_of) (at_mapped m id path 0 old) ∙ label_mapped m id path old (at path old))
