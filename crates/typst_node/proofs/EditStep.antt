-- One step of an edit at a path.
use Rattle.std.proofs.Common.{◌≡◌, ◌+◌, ◌<◌, ◌≤◌, ℕ, List, [], ◌∷◌, length, map, set, get_or, refl, sym, ap, subst, ◌∙◌, arith}
use Rattle.std.specs.Prelude.{◌↔◌, Option, None, Some, Result, Ok, Err, OnErr, IfNone, IfSome, IsSome}
use Rattle.std.proofs.lemmas.List.{set-get_or}
use Rattle.std.specs.List.{splice}
use Rattle.typst_node.specs.Tree.{Tree, Forest, forest, trees}
use Rattle.typst_node.specs.Text.{text}
use Rattle.typst_node.specs.Count.{count, SumsFit}
use Rattle.typst_node.specs.Plain.{plain, plain_forest}
use Rattle.typst_node.specs.PlainEdit.{edited, edited_at, FitsInner}
use Rattle.typst_node.specs.Paths.{IsPath, no_tree, tree_at, with_children}
use Rattle.typst_node.specs.Growth.{ChildrenCanGrow}
use Rattle.typst_node.specs.EditBelow.{IsReplacement}
use Rattle.typst_node.specs.declared.node.replace.Growth.{Growth}
use Rattle.typst_node.specs.declared.node.replace.Renumbered.{Renumbered}
use Rattle.typst_node.specs.declared.node.replace.ReplaceError.{ReplaceError}
use Rattle.typst_node.proofs.Trees.{trees_of_forest, forest-trees}
use Rattle.typst_node.proofs.Plain.{forest_plain}
use Rattle.typst_node.proofs.Trimmed.{fits_same}
use Rattle.typst_node.proofs.EditsBelow.{plain_kids, set_plain}
use Rattle.typst_node.proofs.WholeTreeEdited.{grow_within, sums_set, whole_grows}

pub frame_nil : (path : List ℕ) (t u : Tree) → length path ≡ 0 → u.label ≡ t.label → u ≡ with_children path (trees (tree_at path u).children) t
frame_nil [] t u h e = λ i. record { label = e i; children = sym (forest-trees u.children) i }
frame_nil (n ∷ path) t u h e = absurd (omega arith)

-- a tree stays beside any path where nothing changes
pub frame_same : (path : List ℕ) (t : Tree) → t ≡ with_children path (trees (tree_at path t).children) t
frame_same [] t = λ i. record { label = t.label; children = sym (forest-trees t.children) i }
frame_same (n ∷ path) t =
    let kids = trees t.children in
    let one : set kids n (with_children path (trees (tree_at path (get_or kids n no_tree)).children) (get_or kids n no_tree)) ≡ kids = sym (ap (set kids n) (frame_same path (get_or kids n no_tree))) ∙ set-get_or kids n no_tree in
    λ i. record { label = t.label; children = sym (ap forest one ∙ forest-trees t.children) i }

pub frame_cons : (path : List ℕ) (n : ℕ) (rest : List ℕ) (t u : Tree) (olds news : List Tree) → path ≡ n ∷ rest → trees t.children ≡ olds → u.label ≡ t.label → u.children ≡ forest news
    → news ≡ set olds n (with_children rest (trees (tree_at rest (get_or news n no_tree)).children) (get_or olds n no_tree)) → u ≡ with_children path (trees (tree_at path u).children) t
frame_cons path n rest t u olds news is kids same children frame =
    let now : news ≡ trees u.children = sym (ap trees children ∙ trees_of_forest news) in
    let all : u.children ≡ forest (set (trees t.children) n (with_children rest (trees (tree_at rest (get_or (trees u.children) n no_tree)).children) (get_or (trees t.children) n no_tree))) =
    children ∙ ap forest (frame ∙ (λ j. set (sym kids j) n (with_children rest (trees (tree_at rest (get_or (now j) n no_tree)).children) (get_or (sym kids j) n no_tree)))) in
    let whole : u ≡ with_children (n ∷ rest) (trees (tree_at (n ∷ rest) u).children) t = λ i. record { label = same i; children = all i } in
    subst (λ (p : List ℕ). u ≡ with_children p (trees (tree_at p u).children) t) (sym is) whole

-- whether an edit fits after the first step
pub fits_cons : (path : List ℕ) (n : ℕ) (rest : List ℕ) (from to : ℕ) (t : Tree) (olds : List Tree) → path ≡ n ∷ rest → trees t.children ≡ olds → n < length olds → FitsInner path from to t ↔ FitsInner rest from to (get_or olds n no_tree)
fits_cons path n rest from to t olds is kids there =
    let whole : FitsInner (n ∷ rest) from to t ↔ FitsInner rest from to (get_or (trees t.children) n no_tree) = ((λ h. (h.0.1, h.1, h.2, h.3)), (λ h. ((subst (λ (ts : List Tree). n < length ts) (sym kids) there, h.0), h.1, h.2, h.3))) in
    coe 0 1 (i. FitsInner (sym is i) from to t ↔ FitsInner rest from to (get_or (kids i) n no_tree)) whole

-- no edit fits where there is no such child
pub fits_not : (path : List ℕ) (n : ℕ) (rest : List ℕ) (from to : ℕ) (t : Tree) (olds : List Tree) → path ≡ n ∷ rest → trees t.children ≡ olds → length olds ≤ n → ¬ (FitsInner path from to t)
fits_not path n rest from to t olds is kids out h =
    let there : n < length (trees t.children) = (subst (λ (p : List ℕ). FitsInner p from to t) is h).0.0 in
    omega (arith, subst (λ (ts : List Tree). n < length ts) kids there, out)

pub at_cons : (path : List ℕ) (n : ℕ) (rest : List ℕ) (from to : ℕ) (others : List Tree) (g : Growth) (t u : Tree) (olds news : List Tree) (o : Option (Result Renumbered ReplaceError)) → path ≡ n ∷ rest → trees t.children ≡ olds → u.children ≡ forest news
    → IfSome o (IsReplacement from to others g (tree_at rest (get_or olds n no_tree)) (tree_at rest (get_or news n no_tree))) → IfSome o (IsReplacement from to others g (tree_at path t) (tree_at path u))
at_cons path n rest from to others g t u olds news o is kids children h =
    let now : news ≡ trees u.children = sym (ap trees children ∙ trees_of_forest news) in
    let whole : IfSome o (IsReplacement from to others g (tree_at (n ∷ rest) t) (tree_at (n ∷ rest) u)) =
    coe 0 1 (i. IfSome o (IsReplacement from to others g (tree_at rest (get_or (sym kids i) n no_tree)) (tree_at rest (get_or (now i) n no_tree)))) h in
    subst (λ (p : List ℕ). IfSome o (IsReplacement from to others g (tree_at p t) (tree_at p u))) (sym is) whole

-- what holds of the trees at the rest of a path holds of those at the path
pub here_cons : (P : Tree → Type 0) (path : List ℕ) (n : ℕ) (rest : List ℕ) (t : Tree) (olds : List Tree) → path ≡ n ∷ rest → trees t.children ≡ olds → P (tree_at rest (get_or olds n no_tree)) → P (tree_at path t)
here_cons P path n rest t olds is kids h =
    let whole : P (tree_at (n ∷ rest) t) = subst (λ (ts : List Tree). P (tree_at rest (get_or ts n no_tree))) (sym kids) h in
    subst (λ (p : List ℕ). P (tree_at p t)) (sym is) whole

-- the plain trees of children
plain_trees : (f : Forest) → map plain (trees f) ≡ trees (plain_forest f)
plain_trees f = sym (trees_of_forest (map plain (trees f))) ∙ ap trees (forest_plain (trees f) ∙ ap plain_forest (forest-trees f))

pub kids_plain : (t u : Tree) → plain t ≡ plain u → map plain (trees t.children) ≡ map plain (trees u.children)
kids_plain t u e = plain_trees t.children ∙ (ap (λ (v : Tree). trees v.children) e ∙ sym (plain_trees u.children))

-- the plain tree of the whole, from that at the path's end
pub plain_at : (path : List ℕ) (from to : ℕ) (others : List Tree) (t u : Tree) → u ≡ with_children path (trees (tree_at path u).children) t → plain (tree_at path u) ≡ plain (edited from to others (tree_at path t)) → plain u ≡ plain (edited_at path from to others t)
plain_at path from to others t u frame e =
    let new = splice (trees (tree_at path t).children) from to others in
    let kids : map plain (trees (tree_at path u).children) ≡ map plain new = kids_plain (tree_at path u) (edited from to others (tree_at path t)) e ∙ ap (map plain) (trees_of_forest new) in
    ap plain frame ∙ plain_kids path (trees (tree_at path u).children) new t kids

-- the sums of the children fit afterwards
fits_done : (path : List ℕ) (from to : ℕ) (others : List Tree) (g : Growth) (ts : List Tree) (n : ℕ) (old new : Tree) (r : Result Renumbered ReplaceError) → old ≡ get_or ts n no_tree → n < length ts → ChildrenCanGrow g ts → OnErr r (new ≡ old)
    → new ≡ with_children path (trees (tree_at path new).children) old → IsReplacement from to others g (tree_at path old) (tree_at path new) r → IsPath path old → SumsFit (set ts n new)
fits_done path from to others g ts n old new (Ok x) is there can err frame at path_is =
    let edit = edited_at path from to others old in
    let same : plain edit ≡ plain new = sym (plain_at path from to others old new frame at.plain) in
    let grow = whole_grows g path (splice (trees (tree_at path old).children) from to others) old path_is (grow_within from to others g (tree_at path old) (tree_at path new) (Ok x) at (λ none. cc)) in
    let len : length (text edit) ≤ length (text (get_or ts n no_tree)) + g.len = omega (arith, grow.0, ap (λ (t : Tree). length (text t)) is) in
    let descendants : count edit ≤ count (get_or ts n no_tree) + g.descendants = omega (arith, grow.1, ap count is) in
    fits_same (set ts n edit) (set ts n new) (set_plain ts n edit new same) (sums_set g ts n edit there can len descendants)
fits_done path from to others g ts n old new (Err e) is there can err frame at path_is =
    let same : set ts n new ≡ ts = ap (set ts n) (err ∙ is) ∙ set-get_or ts n no_tree in
    subst SumsFit (sym same) (omega (arith, can.0), omega (arith, can.1))

pub fits_after : (path : List ℕ) (from to : ℕ) (others : List Tree) (g : Growth) (ts : List Tree) (n : ℕ) (old new : Tree) (o : Option (Result Renumbered ReplaceError)) → old ≡ get_or ts n no_tree → n < length ts → ChildrenCanGrow g ts → IfNone o (new ≡ old) → IfSome o (λ r. OnErr r (new ≡ old))
    → new ≡ with_children path (trees (tree_at path new).children) old → IfSome o (IsReplacement from to others g (tree_at path old) (tree_at path new)) → (IsSome o → FitsInner path from to old) → SumsFit (set ts n new)
fits_after path from to others g ts n old new (Some r) is there can misfit err frame at inner =
    fits_done path from to others g ts n old new r is there can err frame at (inner refl).0
fits_after path from to others g ts n old new None is there can misfit err frame at inner =
    let same : set ts n new ≡ ts = ap (set ts n) (misfit ∙ is) ∙ set-get_or ts n no_tree in
    subst SumsFit (sym same) (omega (arith, can.0), omega (arith, can.1))
