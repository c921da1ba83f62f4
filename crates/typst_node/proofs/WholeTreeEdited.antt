-- The whole tree after an edit at a path.
use Rattle.std.proofs.Common.{◌≡◌, ℕ, suc, zero, ◌+◌, ◌<◌, ◌≤◌, ◌^◌, inl, inr, List, [], ◌∷◌, length, set, get_or, refl, sym, ap, subst, ◌∙◌, arith, length-append}
use Rattle.std.specs.Prelude.{Result, Ok, Err, OnOk}
use Rattle.std.proofs.lemmas.Bool.{cases_lt}
use Rattle.std.specs.List.{splice}
use Rattle.typst_node.specs.Tree.{Tree, forest, trees}
use Rattle.typst_node.specs.Text.{text, text_of_all, own_text, joined}
use Rattle.typst_node.specs.Count.{count, count_of_all, SumsFit}
use Rattle.typst_node.specs.Preorder.{preorder}
use Rattle.typst_node.specs.Labels.{number, bound}
use Rattle.typst_node.specs.Interval.{IsWithin, IsTreeWithin}
use Rattle.typst_node.specs.Numbered.{IsNumberedFor}
use Rattle.typst_node.specs.Paths.{no_tree, IsPath, tree_at, with_children}
use Rattle.typst_node.specs.PlainEdit.{TreeFits}
use Rattle.typst_node.specs.Edit.{IsNumberedOrUnfiled}
use Rattle.typst_node.specs.Growth.{CanGrow, ChildrenCanGrow, GrowWithin, IsLargestGrowth}
use Rattle.typst_node.specs.EditBelow.{IsReplacement}
use Rattle.typst_node.specs.declared.node.replace.Growth.{Growth}
use Rattle.typst_node.specs.declared.node.replace.ReplaceError.TheVariants.{Overflow}
use Rattle.typst_node.specs.declared.node.replace.Renumbered.{Renumbered}
use Rattle.typst_node.specs.declared.node.replace.ReplaceError.{ReplaceError}
use Rattle.typst_node.proofs.Trees.{forest-trees, count_at, count_of_all-cons, length-text_of_all-cons, count_of_trees}
use Rattle.typst_node.proofs.EditsBelow.{child_within, text_at}
use Rattle.typst_node.proofs.Ordered.{within_from_numbered, numbered_from_within}
use Rattle.typst_node.proofs.Edited.{below_within, file_within}

-- counts
pub count_set : (ts : List Tree) (i : ℕ) (new d : Tree) → i < length ts → count_of_all (set ts i new) + count (get_or ts i d) ≡ count_of_all ts + count new
count_set [] i new d h = absurd (omega arith)
count_set (t ∷ ts) zero new d h = omega (arith, count_of_all-cons t ts, count_of_all-cons new ts)
count_set (t ∷ ts) (suc i) new d h = omega (arith, count_of_all-cons t ts, count_of_all-cons t (set ts i new), count_set ts i new d (omega arith))

pub text_set : (ts : List Tree) (i : ℕ) (new d : Tree) → i < length ts → length (text_of_all (set ts i new)) + length (text (get_or ts i d)) ≡ length (text_of_all ts) + length (text new)
text_set [] i new d h = absurd (omega arith)
text_set (t ∷ ts) zero new d h = omega (arith, length-text_of_all-cons t ts, length-text_of_all-cons new ts)
text_set (t ∷ ts) (suc i) new d h = omega (arith, length-text_of_all-cons t ts, length-text_of_all-cons t (set ts i new), text_set ts i new d (omega arith))

pub count_tree : (t : Tree) → count t ≡ suc (count_of_all (trees t.children))
count_tree t = ap suc (sym (count_of_trees t.children))

pub text_tree : (t : Tree) → length (text t) ≡ length (own_text t.label) + length (text_of_all (trees t.children))
text_tree t = length-append (own_text t.label) (joined (preorder t.children)) ∙ ap (λ f. length (own_text t.label) + length (joined (preorder f))) (sym (forest-trees t.children))

pub text_forest : (t : Tree) (ts : List Tree) → length (text (with_children [] ts t)) ≡ length (own_text t.label) + length (text_of_all ts)
text_forest t ts = length-append (own_text t.label) (joined (preorder (forest ts)))

count_kids : (path : List ℕ) (ks : List Tree) (t : Tree) → IsPath path t → count (with_children path ks t) + count_of_all (trees (tree_at path t).children) ≡ count t + count_of_all ks
count_kids [] ks t h = omega (arith, count_tree t)
count_kids (i ∷ path) ks t h =
    let old = get_or (trees t.children) i no_tree in
    omega (arith, count_tree t, count_set (trees t.children) i (with_children path ks old) no_tree h.0, count_kids path ks old h.1)

text_kids : (path : List ℕ) (ks : List Tree) (t : Tree) → IsPath path t → length (text (with_children path ks t)) + length (text_of_all (trees (tree_at path t).children)) ≡ length (text t) + length (text_of_all ks)
text_kids [] ks t h = omega (arith, text_tree t, text_forest t ks)
text_kids (i ∷ path) ks t h =
    let old = get_or (trees t.children) i no_tree in
    let new = set (trees t.children) i (with_children path ks old) in
    omega (arith, text_tree t, text_forest t new, text_set (trees t.children) i (with_children path ks old) no_tree h.0, text_kids path ks old h.1)

-- a child, and the children together, may grow as much as their node
pub children_can_grow : (g : Growth) (t : Tree) → CanGrow g t → ChildrenCanGrow g (trees t.children)
children_can_grow g t can = (omega (arith, can.0, text_tree t), omega (arith, can.1, count_tree t))

pub child_can_grow : (g : Growth) (t : Tree) (i : ℕ) → i < length (trees t.children) → CanGrow g t → CanGrow g (get_or (trees t.children) i no_tree)
child_can_grow g t i h can =
    (omega (arith, can.0, text_tree t, text_at (trees t.children) i no_tree h), omega (arith, can.1, count_tree t, count_at (trees t.children) i no_tree h))

-- the whole grows as the children of the edited node do
pub whole_grows : (g : Growth) (path : List ℕ) (ks : List Tree) (t : Tree) → IsPath path t → GrowWithin g (trees (tree_at path t).children) ks → (length (text (with_children path ks t)) ≤ length (text t) + g.len) × (count (with_children path ks t) ≤ count t + g.descendants)
whole_grows g path ks t h grow = (omega (arith, text_kids path ks t h, grow.0), omega (arith, count_kids path ks t h, grow.1))

pub fits_grown : (g : Growth) (path : List ℕ) (ks : List Tree) (t : Tree) → IsPath path t → IsLargestGrowth g t → GrowWithin g (trees (tree_at path t).children) ks → TreeFits (with_children path ks t)
fits_grown g path ks t h largest grow =
    let whole = whole_grows g path ks t h grow in
    (omega (arith, whole.0, largest.0), omega (arith, whole.1, largest.1))

pub grown_fits : (g : Growth) (path : List ℕ) (ks : List Tree) (t : Tree) → IsPath path t → IsLargestGrowth g t → TreeFits (with_children path ks t) → GrowWithin g (trees (tree_at path t).children) ks
grown_fits g path ks t h largest fits =
    (omega (arith, text_kids path ks t h, largest.0, fits.0), omega (arith, count_kids path ks t h, largest.1, fits.1))

-- the children with one of them changed
pub sums_set : (g : Growth) (ts : List Tree) (i : ℕ) (new : Tree) → i < length ts → ChildrenCanGrow g ts → length (text new) ≤ length (text (get_or ts i no_tree)) + g.len → count new ≤ count (get_or ts i no_tree) + g.descendants → SumsFit (set ts i new)
sums_set g ts i new h can len descendants =
    (omega (arith, can.0, text_set ts i new no_tree h, len), omega (arith, can.1, count_set ts i new no_tree h, descendants))

-- two numbers are at most two others, unless they aren't
within_unless_not : (a b c d : ℕ) → ¬ (¬ ((a ≤ b) × (c ≤ d))) → (a ≤ b) × (c ≤ d)
within_unless_not a b c d h = (
  elim (cases_lt b a) [ inl more ↦ absurd (h (λ both. omega (arith, both.0, more))) | inr not_more ↦ not_more ],
  elim (cases_lt d c) [ inl more ↦ absurd (h (λ both. omega (arith, both.1, more))) | inr not_more ↦ not_more ],
)

-- what isn't refused for its size grows within bounds
pub grow_within : (from to : ℕ) (others : List Tree) (g : Growth) (old new : Tree) (r : Result Renumbered ReplaceError) → IsReplacement from to others g old new r → ¬ (r ≡ Err Overflow) → GrowWithin g (trees old.children) (splice (trees old.children) from to others)
grow_within from to others g old new r at none =
    let ks = splice (trees old.children) from to others in
    within_unless_not (length (text_of_all ks)) (length (text_of_all (trees old.children)) + g.len) (count_of_all ks) (count_of_all (trees old.children) + g.descendants) (λ no. none (at.overflow.1 no))

-- numbers
within_set : (file a b : ℕ) (ts : List Tree) (i : ℕ) (new d : Tree) → i < length ts → new.label ≡ (get_or ts i d).label → IsWithin file (number new.label + 1) (bound new.label) new.children → IsWithin file a b (forest ts) → IsWithin file a b (forest (set ts i new))
within_set file a b [] i new d h same below w = absurd (omega arith)
within_set file a b (t ∷ ts) zero new d h same below w = (coe 1 0 (i. (same i).span.file ≡ file) w.0, coe 1 0 (i. a ≤ number (same i)) w.1, below, coe 1 0 (i. IsWithin file (bound (same i)) b (forest ts)) w.3)
within_set file a b (t ∷ ts) (suc i) new d h same below w = (w.0, w.1, w.2, within_set file (bound t.label) b ts i new d (omega arith) same below w.3)

pub label_kids : (path : List ℕ) (ks : List Tree) (t : Tree) → (with_children path ks t).label ≡ t.label
label_kids [] ks t = refl
label_kids (i ∷ path) ks t = refl

pub below_kids : (path : List ℕ) (file : ℕ) (ks : List Tree) (t : Tree) → IsPath path t → IsWithin file (number t.label + 1) (bound t.label) t.children → IsWithin file (number (tree_at path t).label + 1) (bound (tree_at path t).label) (forest ks)
    → IsWithin file (number t.label + 1) (bound t.label) (with_children path ks t).children
below_kids [] file ks t h w k = k
below_kids (i ∷ path) file ks t h w k =
    let old = get_or (trees t.children) i no_tree in
    let kids = subst (λ f. IsWithin file (number t.label + 1) (bound t.label) f) (sym (forest-trees t.children)) w in
    let child = child_within file (number t.label + 1) (bound t.label) (trees t.children) i no_tree h.0 kids in
    let new = below_kids path file ks old h.1 child.2 k in
    within_set file (number t.label + 1) (bound t.label) (trees t.children) i (with_children path ks old) no_tree h.0 (label_kids path ks old)
    (coe 1 0 (j. IsWithin file (number (label_kids path ks old j) + 1) (bound (label_kids path ks old j)) (with_children path ks old).children) new) kids

pub file_at : (path : List ℕ) (file a b : ℕ) (t : Tree) → IsPath path t → IsTreeWithin file a b t → (tree_at path t).label.span.file ≡ file
file_at [] file a b t h w = w.0
file_at (i ∷ path) file a b t h w =
    let kids = subst (λ f. IsWithin file (number t.label + 1) (bound t.label) f) (sym (forest-trees t.children)) w.2 in
    file_at path file (number t.label + 1) (bound t.label) (get_or (trees t.children) i no_tree) h.1 (child_within file (number t.label + 1) (bound t.label) (trees t.children) i no_tree h.0 kids)

pub numbered_kids : (path : List ℕ) (file : ℕ) (t u : Tree) → IsPath path t → IsNumberedFor file t → u ≡ with_children path (trees (tree_at path u).children) t → (tree_at path u).label ≡ (tree_at path t).label → IsNumberedFor (tree_at path t).label.span.file (tree_at path u) → IsNumberedFor file u
numbered_kids path file t u h n frame same at =
    let w = within_from_numbered file t n in
    let ks = trees (tree_at path u).children in
    let here : IsNumberedFor file (tree_at path u) = subst (λ f. IsNumberedFor f (tree_at path u)) (file_at path file 2 (2 ^ 47) t h w) at in
    let kids : IsWithin file (number (tree_at path t).label + 1) (bound (tree_at path t).label) (forest ks) =
    coe 0 1 (i. IsWithin file (number (same i) + 1) (bound (same i)) (sym (forest-trees (tree_at path u).children) i)) (below_within file (tree_at path u) here) in
    let below = below_kids path file ks t h w.2 kids in
    let whole : IsTreeWithin file 2 (2 ^ 47) (with_children path ks t) = coe 1 0 (i. let l = label_kids path ks t i in (l.span.file ≡ file) × (2 ≤ number l) × IsWithin file (number l + 1) (bound l) (with_children path ks t).children × (bound l ≤ 2 ^ 47)) (w.0, w.1, below, w.3) in
    subst (IsNumberedFor file) (sym frame) (numbered_from_within file 2 (2 ^ 47) (with_children path ks t) (omega arith) (omega arith) whole)

numbered_ok : (path : List ℕ) (from to : ℕ) (others : List Tree) (g : Growth) (t u : Tree) (x : Renumbered) → IsPath path t → IsReplacement from to others g (tree_at path t) (tree_at path u) (Ok x)
    → u ≡ with_children path (trees (tree_at path u).children) t → IsNumberedOrUnfiled path t → IsNumberedFor t.label.span.file u
numbered_ok path from to others g t u x h at frame (inl z) =
    let e = at.unnumberable.1 (grow_within from to others g (tree_at path t) (tree_at path u) (Ok x) at (λ is. cc), inl z) in cc
numbered_ok path from to others g t u x h at frame (inr n) =
    numbered_kids path t.label.span.file t u h (subst (λ f. IsNumberedFor f t) (sym (file_within n.0 t n.2)) n.2) frame at.label at.numbered

pub numbered_whole : (path : List ℕ) (from to : ℕ) (others : List Tree) (g : Growth) (t u : Tree) (r : Result Renumbered ReplaceError) → IsPath path t → IsReplacement from to others g (tree_at path t) (tree_at path u) r
    → u ≡ with_children path (trees (tree_at path u).children) t → IsNumberedOrUnfiled path t → OnOk r (IsNumberedFor t.label.span.file u)
numbered_whole path from to others g t u (Ok x) h at frame n = numbered_ok path from to others g t u x h at frame n
numbered_whole path from to others g t u (Err e) h at frame n = tt
