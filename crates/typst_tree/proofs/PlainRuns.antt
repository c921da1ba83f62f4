-- The plain tree after an edit depends on the plain tree before it alone.
use Rattle.std.proofs.Common.{◌≡◌, ℕ, zero, suc, List, [], ◌∷◌, ◌++◌, map, set, get_or, take, drop, refl, sym, ap, ◌∙◌}
use Rattle.std.specs.List.{splice, take-map}
use Rattle.std.proofs.lemmas.List.{map-append}
use Rattle.std.proofs.Math.ListN.{get_or-map}
use Rattle.typst_node.specs.Tree.{Label, Tree, trees, forest}
use Rattle.typst_node.specs.Plain.{plain, plain_label}
use Rattle.typst_node.specs.Paths.{no_tree}
use Rattle.typst_node.specs.PlainEdit.{edited_at}
use Rattle.typst_node.proofs.Plain.{forest_plain}
use Rattle.typst_node.proofs.EditStep.{kids_plain}

drop_map : {X Y : Type 0} (h : X → Y) (n : ℕ) (xs : List X) → drop n (map h xs) ≡ map h (drop n xs)
drop_map h zero xs = refl
drop_map h (suc n) [] = refl
drop_map h (suc n) (x ∷ xs) = drop_map h n xs

set_map : {X Y : Type 0} (h : X → Y) (i : ℕ) (x : X) (xs : List X) → set (map h xs) i (h x) ≡ map h (set xs i x)
set_map h i x [] = refl
set_map h zero x (y ∷ ys) = refl
set_map h (suc i) x (y ∷ ys) = ap (λ zs. h y ∷ zs) (set_map h i x ys)

-- with alike lists for others
splice_alike : (ts us others : List Tree) (from to : ℕ) → map plain ts ≡ map plain us → map plain (splice ts from to others) ≡ map plain (splice us from to others)
splice_alike ts us others from to same =
    let parts : (vs : List Tree) → map plain (splice vs from to others) ≡ take from (map plain vs) ++ (map plain others ++ drop to (map plain vs)) = λ vs.
    map-append plain (take from vs) (others ++ drop to vs)
    ∙ (λ i. sym (take-map plain from vs) i ++ (map-append plain others (drop to vs) ∙ ap (λ ws. map plain others ++ ws) (sym (drop_map plain to vs))) i) in
    parts ts ∙ (ap (λ vs. take from vs ++ (map plain others ++ drop to vs)) same ∙ sym (parts us))

whole_alike : (l m : Label) (ts us : List Tree) → plain_label l ≡ plain_label m → map plain ts ≡ map plain us
    → plain (record { label = l; children = forest ts }) ≡ plain (record { label = m; children = forest us })
whole_alike l m ts us same_label same =
    λ i. record { label = same_label i; children = (sym (forest_plain ts) ∙ (ap forest same ∙ forest_plain us)) i }

label_alike : (t u : Tree) → plain t ≡ plain u → plain_label t.label ≡ plain_label u.label
label_alike t u same = ap (λ (v : Tree). v.label) same

child_alike : (t u : Tree) (i : ℕ) → plain t ≡ plain u → plain (get_or (trees t.children) i no_tree) ≡ plain (get_or (trees u.children) i no_tree)
child_alike t u i same =
    sym (get_or-map plain (trees t.children) i no_tree) ∙ (ap (λ ts. get_or ts i (plain no_tree)) (kids_plain t u same) ∙ get_or-map plain (trees u.children) i no_tree)

-- the plain edit of trees that are alike
pub edited_alike : (path : List ℕ) (from to : ℕ) (others : List Tree) (t u : Tree) → plain t ≡ plain u → plain (edited_at path from to others t) ≡ plain (edited_at path from to others u)
edited_alike [] from to others t u same =
    whole_alike t.label u.label (splice (trees t.children) from to others) (splice (trees u.children) from to others) (label_alike t u same) (splice_alike (trees t.children) (trees u.children) others from to (kids_plain t u same))
edited_alike (i ∷ path) from to others t u same =
    let old = get_or (trees t.children) i no_tree in
    let new = get_or (trees u.children) i no_tree in
    let below = edited_alike path from to others old new (child_alike t u i same) in
    let kids : map plain (set (trees t.children) i (edited_at path from to others old)) ≡ map plain (set (trees u.children) i (edited_at path from to others new)) =
    sym (set_map plain i (edited_at path from to others old) (trees t.children)) ∙ ((λ k. set (kids_plain t u same k) i (below k)) ∙ set_map plain i (edited_at path from to others new) (trees u.children)) in
    whole_alike t.label u.label (set (trees t.children) i (edited_at path from to others old)) (set (trees u.children) i (edited_at path from to others new)) (label_alike t u same) kids
