-- Edits below a node.
use Rattle.std.proofs.Common.{◌≡◌, ℕ, suc, zero, ◌+◌, ◌<◌, ◌≤◌, ◌⊎◌, inl, inr, List, [], ◌∷◌, length, map, set, get_or, refl, sym, ap, subst, ◌∙◌, arith, length-append}
use Rattle.typst_node.specs.Tree.{Tree, Forest, none, tree, forest, trees}
use Rattle.typst_node.specs.Text.{joined, own_text, text, text_of_all}
use Rattle.typst_node.specs.Labels.{number, bound}
use Rattle.typst_node.specs.Preorder.{preorder}
use Rattle.typst_node.specs.Plain.{plain, plain_label}
use Rattle.typst_node.specs.Interval.{IsWithin, IsTreeWithin}
use Rattle.typst_node.specs.Numbered.{IsNumbered}
use Rattle.typst_node.specs.Paths.{no_tree, with_children}
use Rattle.typst_node.proofs.Trees.{forest-trees, length-text_of_all-cons}
use Rattle.typst_node.proofs.Plain.{forest_plain}
use Rattle.typst_node.proofs.Within.{within_le, within_wider}
use Rattle.typst_node.proofs.Ordered.{within_from_numbered, numbered_from_within}

abbrev pub tree_forest : Tree → Forest
tree_forest t = tree t.label t.children none

pub own_shorter : (t : Tree) → length (joined (preorder t.children)) ≤ length (text t)
own_shorter t = omega (arith, length-append (own_text t.label) (joined (preorder t.children)))

pub set_plain : (ts : List Tree) (i : ℕ) (t u : Tree) → plain t ≡ plain u → map plain (set ts i t) ≡ map plain (set ts i u)
set_plain [] i t u e = refl
set_plain (x ∷ xs) zero t u e = λ j. e j ∷ map plain xs
set_plain (x ∷ xs) (suc i) t u e = ap (λ ys. plain x ∷ ys) (set_plain xs i t u e)

pub text_at : (ts : List Tree) (i : ℕ) (d : Tree) → i < length ts → length (text (get_or ts i d)) ≤ length (text_of_all ts)
text_at [] i d h = absurd (omega arith)
text_at (t ∷ ts) zero d h = omega (arith, length-text_of_all-cons t ts)
text_at (t ∷ ts) (suc i) d h = omega (arith, length-text_of_all-cons t ts, text_at ts i d (omega arith))

-- a child of a numbered tree is numbered
pub child_within : (file a b : ℕ) (ts : List Tree) (i : ℕ) (d : Tree) → i < length ts → IsWithin file a b (forest ts) → IsTreeWithin file a b (get_or ts i d)
child_within file a b [] i d h w = absurd (omega arith)
child_within file a b (t ∷ ts) zero d h w = (w.0, w.1, w.2, within_le file (bound t.label) b (forest ts) w.3)
child_within file a b (t ∷ ts) (suc i) d h w =
    let rest = child_within file (bound t.label) b ts i d (omega arith) w.3 in
    let low = within_le file (number t.label + 1) (bound t.label) t.children w.2 in
    within_wider file (bound t.label) b a b (tree_forest (get_or ts i d)) rest (omega (arith, w.1)) (omega arith)

pub child_numbered : (t : Tree) (i : ℕ) → i < length (trees t.children) → IsNumbered t → IsNumbered (get_or (trees t.children) i no_tree)
child_numbered t i h n =
    let w = within_from_numbered n.0 t n.2 in
    let kids : IsWithin n.0 (number t.label + 1) (bound t.label) (forest (trees t.children)) = subst (IsWithin n.0 (number t.label + 1) (bound t.label)) (sym (forest-trees t.children)) w.2 in
    (n.0, n.1, numbered_from_within n.0 (number t.label + 1) (bound t.label) (get_or (trees t.children) i no_tree) (omega (arith, w.1)) (omega (arith, w.3)) (child_within n.0 (number t.label + 1) (bound t.label) (trees t.children) i no_tree h kids))

pub numbered_below : (P : Type 0) (t : Tree) (i : ℕ) → i < length (trees t.children) → P ⊎ IsNumbered t → P ⊎ IsNumbered (get_or (trees t.children) i no_tree)
numbered_below P t i h (inl p) = inl p
numbered_below P t i h (inr n) = inr (child_numbered t i h n)

-- the plain tree, with other children that are the same
pub plain_kids : (path : List ℕ) (ts us : List Tree) (t : Tree) → map plain ts ≡ map plain us → plain (with_children path ts t) ≡ plain (with_children path us t)
plain_kids [] ts us t e = λ i. record { label = plain_label t.label; children = (sym (forest_plain ts) ∙ (ap forest e ∙ forest_plain us)) i }
plain_kids (n ∷ path) ts us t e =
    let kids = trees t.children in
    let d = get_or kids n no_tree in
    let one = plain_kids path ts us d e in
    let all : map plain (set kids n (with_children path ts d)) ≡ map plain (set kids n (with_children path us d)) = set_plain kids n (with_children path ts d) (with_children path us d) one in
    λ i. record { label = plain_label t.label; children = (sym (forest_plain (set kids n (with_children path ts d))) ∙ (ap forest all ∙ forest_plain (set kids n (with_children path us d)))) i }
