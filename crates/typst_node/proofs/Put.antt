-- Another tree in place of the one at a path.
use Rattle.std.proofs.Common.{◌≡◌, ℕ, ◌+◌, ◌<◌, ◌≤◌, List, [], ◌∷◌, ◌++◌, length, set, get_or, get_or-set_same, refl, sym, ap, subst, ◌∙◌, arith}
use Rattle.std.proofs.lemmas.List.{length-set}
use Rattle.typst_node.specs.Tree.{Tree, forest, trees}
use Rattle.typst_node.specs.Text.{text}
use Rattle.typst_node.specs.Count.{count, SumsFit}
use Rattle.typst_node.specs.Paths.{IsPath, no_tree, tree_at, with_children}
use Rattle.typst_node.specs.PlainEdit.{TreeFits}
use Rattle.typst_node.specs.Put.{with_tree}
use Rattle.typst_node.proofs.Trees.{count_at}
use Rattle.typst_node.proofs.EditsBelow.{text_at}
use Rattle.typst_node.proofs.WholeTreeEdited.{count_set, text_set, count_tree, text_tree, text_forest}

-- one step
pub put_cons : (path : List ℕ) (n : ℕ) (rest : List ℕ) (x t u : Tree) (olds news : List Tree) → path ≡ n ∷ rest → trees t.children ≡ olds → u.label ≡ t.label → u.children ≡ forest news
    → news ≡ set olds n (with_tree rest x (get_or olds n no_tree)) → u ≡ with_tree path x t
put_cons path n rest x t u olds news is kids same children put =
    let all : u.children ≡ forest (set (trees t.children) n (with_tree rest x (get_or (trees t.children) n no_tree))) =
    children ∙ ap forest (put ∙ (λ j. set (sym kids j) n (with_tree rest x (get_or (sym kids j) n no_tree)))) in
    let whole : u ≡ with_tree (n ∷ rest) x t = λ i. record { label = same i; children = all i } in
    subst (λ (p : List ℕ). u ≡ with_tree p x t) (sym is) whole

-- the sums of the children fit if those of their node do
pub kids_fit : (path : List ℕ) (n : ℕ) (rest : List ℕ) (x t : Tree) (olds : List Tree) → path ≡ n ∷ rest → trees t.children ≡ olds → TreeFits (with_tree path x t) → SumsFit (set olds n (with_tree rest x (get_or olds n no_tree)))
kids_fit path n rest x t olds is kids fits =
    let news : List Tree = set (trees t.children) n (with_tree rest x (get_or (trees t.children) n no_tree)) in
    let whole : TreeFits (with_tree (n ∷ rest) x t) = subst (λ (p : List ℕ). TreeFits (with_tree p x t)) is fits in
    let here : SumsFit news = (omega (arith, whole.0, text_forest t news), omega (arith, whole.1)) in
    subst (λ (ts : List Tree). SumsFit (set ts n (with_tree rest x (get_or ts n no_tree)))) kids here

-- and so do those of each child
pub child_fits : (ts : List Tree) (n : ℕ) (x d : Tree) → n < length ts → SumsFit (set ts n x) → TreeFits x
child_fits ts n x d h fits =
    let there : n < length (set ts n x) = omega (arith, length-set ts n x) in
    let is : get_or (set ts n x) n d ≡ x = get_or-set_same ts n x d h in
    (omega (arith, fits.0, text_at (set ts n x) n d there, ap (λ (t : Tree). length (text t)) is), omega (arith, fits.1, count_at (set ts n x) n d there, ap count is))

-- the sums of the whole
pub text_put : (path : List ℕ) (x t : Tree) → IsPath path t → length (text (with_tree path x t)) + length (text (tree_at path t)) ≡ length (text t) + length (text x)
text_put [] x t h = omega arith
text_put (i ∷ path) x t h =
    let old = get_or (trees t.children) i no_tree in
    let new = set (trees t.children) i (with_tree path x old) in
    omega (arith, text_tree t, text_forest t new, text_set (trees t.children) i (with_tree path x old) no_tree h.0, text_put path x old h.1)

pub count_put : (path : List ℕ) (x t : Tree) → IsPath path t → count (with_tree path x t) + count (tree_at path t) ≡ count t + count x
count_put [] x t h = omega arith
count_put (i ∷ path) x t h =
    let old = get_or (trees t.children) i no_tree in
    omega (arith, count_tree t, count_set (trees t.children) i (with_tree path x old) no_tree h.0, count_put path x old h.1)

-- a child in place of another is other children of its node
pub put_child : (path : List ℕ) (i : ℕ) (x t : Tree) → with_tree (path ++ i ∷ []) x t ≡ with_children path (set (trees (tree_at path t).children) i x) t
put_child [] i x t = refl
put_child (n ∷ path) i x t =
    let kids = trees t.children in
    ap (λ (u : Tree). record { label = t.label; children = forest (set kids n u) }) (put_child path i x (get_or kids n no_tree))

-- other children of a child
pub kids_of_child : (path : List ℕ) (i : ℕ) (ks : List Tree) (t : Tree)
    → with_children (path ++ i ∷ []) ks t ≡ with_children path (set (trees (tree_at path t).children) i (with_children [] ks (get_or (trees (tree_at path t).children) i no_tree))) t
kids_of_child [] i ks t = refl
kids_of_child (n ∷ path) i ks t =
    let kids = trees t.children in
    ap (λ (u : Tree). record { label = t.label; children = forest (set kids n u) }) (kids_of_child path i ks (get_or kids n no_tree))

-- the path to a child
pub child_at : (path : List ℕ) (i : ℕ) (t : Tree) → tree_at (path ++ i ∷ []) t ≡ get_or (trees (tree_at path t).children) i no_tree
child_at [] i t = refl
child_at (n ∷ path) i t = child_at path i (get_or (trees t.children) n no_tree)

pub path_to_child : (path : List ℕ) (i : ℕ) (t : Tree) → IsPath path t → i < length (trees (tree_at path t).children) → IsPath (path ++ i ∷ []) t
path_to_child [] i t p h = (h, tt)
path_to_child (n ∷ path) i t p h = (p.0, path_to_child path i (get_or (trees t.children) n no_tree) p.1 h)

-- a tree is at least as large as each of its subtrees
pub text_below : (path : List ℕ) (t : Tree) → IsPath path t → length (text (tree_at path t)) ≤ length (text t)
text_below [] t h = omega arith
text_below (i ∷ path) t h =
    omega (arith, text_tree t, text_at (trees t.children) i no_tree h.0, text_below path (get_or (trees t.children) i no_tree) h.1)

pub count_below : (path : List ℕ) (t : Tree) → IsPath path t → count (tree_at path t) ≤ count t
count_below [] t h = omega arith
count_below (i ∷ path) t h =
    omega (arith, count_tree t, count_at (trees t.children) i no_tree h.0, count_below path (get_or (trees t.children) i no_tree) h.1)
