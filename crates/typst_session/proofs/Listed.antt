-- Infos of trees that are written one after the other.
use Rattle.std.proofs.Common.{◌≡◌, ◌∙◌, ℕ, ◌+◌, ◌<◌, ◌≤◌, ◌-◌, suc, refl, set, subst, drop, arith, List, [], ◌∷◌, ◌++◌, length, take, get_or, ap, sym, append_assoc}
use Rattle.std.proofs.Math.Seq.{take-add}
use Rattle.std.proofs.lemmas.List.{append-nil, drop-drop, drop-take, length-map, take-take, take_all, take_more, take_more_set}
use Rattle.std.specs.List.{AllZip}
use Rattle.typst_node.specs.Tree.{Tree, forest, trees}
use Rattle.typst_node.specs.Preorder.{preorder, subtrees, subtrees_of}
use Rattle.typst_node.specs.Count.{count, count_of_all}
use Rattle.typst_node.proofs.Opens.{count_split}
use Rattle.typst_node.proofs.PathsInPreorder.{labels-subtrees}
use Rattle.typst_node.proofs.Trees.{count_drop, count_of_trees, forest-trees}

-- facts of two lists, and of two that follow them
pub all_zip_append : {A B : Type 0} (R : A → B → Type 0) (xs us : List A) (ys vs : List B) → AllZip R xs ys → AllZip R us vs → AllZip R (xs ++ us) (ys ++ vs)
all_zip_append R [] us [] vs h k = k
all_zip_append R [] us (y ∷ ys) vs h k = absurd h
all_zip_append R (x ∷ xs) us [] vs h k = absurd h
all_zip_append R (x ∷ xs) us (y ∷ ys) vs h k = (h.0, all_zip_append R xs us ys vs h.1 k)

-- the subtrees of trees, and of those that follow them
pub subtrees-append : (ts us : List Tree) → subtrees_of (forest (ts ++ us)) ≡ subtrees_of (forest ts) ++ subtrees_of (forest us)
subtrees-append [] us = refl
subtrees-append (t ∷ ts) us =
    ap (λ l. t ∷ (subtrees_of t.children ++ l)) (subtrees-append ts us)
    ∙ ap (λ l. t ∷ l) (sym (append_assoc (subtrees_of t.children) (subtrees_of (forest ts)) (subtrees_of (forest us))))

-- one tree more
pub subtrees-more : (ts : List Tree) (i : ℕ) (d : Tree) → i < length ts → subtrees_of (forest (take (i + 1) ts)) ≡ subtrees_of (forest (take i ts)) ++ subtrees (get_or ts i d)
subtrees-more ts i d h =
    ap (λ l. subtrees_of (forest l)) (take_more ts i d h)
    ∙ (subtrees-append (take i ts) (get_or ts i d ∷ [])
    ∙ ap (λ l. subtrees_of (forest (take i ts)) ++ (get_or ts i d ∷ l)) (append-nil (subtrees_of (get_or ts i d).children)))

-- as many subtrees as nodes
pub length_subtrees : (t : Tree) → length (subtrees t) ≡ count t
length_subtrees t = sym (length-map (subtrees t) (λ (s : Tree). s.label)) ∙ ap length (labels-subtrees t)

-- the nodes of one tree more
pub count_more : (ts : List Tree) (i : ℕ) (d : Tree) → i < length ts → count_of_all (take (i + 1) ts) ≡ count_of_all (take i ts) + count (get_or ts i d)
count_more ts i d h = omega (arith, count_split i ts, count_split (i + 1) ts, count_drop ts i d h)

-- what is told from an index on, and what is told after it
pub told_more : {A B : Type 0} (R : A → B → Type 0) (xs us : List A) (out new : List B) (at m n : ℕ) → take (at + m) new ≡ take (at + m) out
    → AllZip R xs (take m (drop at out)) → AllZip R us (take n (drop (at + m) new)) → AllZip R (xs ++ us) (take (m + n) (drop at new))
told_more R xs us out new at m n same first more =
    let begin : take m (drop at out) ≡ take m (drop at new) = sym (drop-take at m out) ∙ (ap (drop at) (sym same) ∙ drop-take at m new) in
    let rest : drop (at + m) new ≡ drop m (drop at new) = sym (drop-drop m at new) in
    let whole : take m (drop at new) ++ take n (drop m (drop at new)) ≡ take (m + n) (drop at new) = sym (take-add m n (drop at new)) in
    subst (AllZip R (xs ++ us)) whole
    (all_zip_append R xs us (take m (drop at new)) (take n (drop m (drop at new))) (subst (AllZip R xs) begin first) (subst (λ l. AllZip R us (take n l)) rest more))

-- the nodes before a child, with those of the child
pub told_child : {B : Type 0} (R : Tree → B → Type 0) (t : Tree) (ts : List Tree) (i : ℕ) (child : Tree) (out new : List B) (at next : ℕ) → i < length ts → child ≡ get_or ts i child
    → next ≡ at + suc (count_of_all (take i ts)) → take next new ≡ take next out
    → AllZip R (t ∷ subtrees_of (forest (take i ts))) (take (suc (count_of_all (take i ts))) (drop at out)) → AllZip R (subtrees child) (take (count child) (drop next new))
    → AllZip R (t ∷ subtrees_of (forest (take (i + 1) ts))) (take (suc (count_of_all (take (i + 1) ts))) (drop at new))
told_child {B} R t ts i child out new at next h is here same first more =
    let m = suc (count_of_all (take i ts)) in
    let same : take (at + m) new ≡ take (at + m) out = subst (λ (k : ℕ). take k new ≡ take k out) here same in
    let more : AllZip R (subtrees child) (take (count child) (drop (at + m) new)) = subst (λ (k : ℕ). AllZip R (subtrees child) (take (count child) (drop k new))) here more in
    let both = told_more R (t ∷ subtrees_of (forest (take i ts))) (subtrees child) out new at m (count child) same first more in
    let many : m + count child ≡ suc (count_of_all (take (i + 1) ts)) = omega (arith, count_more ts i child h, ap count is) in
    let all : (t ∷ subtrees_of (forest (take i ts))) ++ subtrees child ≡ t ∷ subtrees_of (forest (take (i + 1) ts)) =
    ap (λ l. t ∷ l) (ap (λ c. subtrees_of (forest (take i ts)) ++ subtrees c) is ∙ sym (subtrees-more ts i child h)) in
    subst (λ (k : ℕ). AllZip R (t ∷ subtrees_of (forest (take (i + 1) ts))) (take k (drop at new))) many
    (subst (λ (l : List Tree). AllZip R l (take (m + count child) (drop at new))) all both)

-- one item more is told
pub told_next : {A B : Type 0} (R : A → B → Type 0) (xs : List A) (out : List B) (i : ℕ) (x : A) (v : B) → i < length xs → length xs ≤ length out → x ≡ get_or xs i x
    → AllZip R (take i xs) (take i out) → R x v → AllZip R (take (i + 1) xs) (take (i + 1) (set out i v))
told_next R xs out i x v h room is first one =
    let inside : i < length out = omega (arith, h, room) in
    let items : take i xs ++ x ∷ [] ≡ take (i + 1) xs = ap (λ y. take i xs ++ y ∷ []) is ∙ sym (take_more xs i x h) in
    let infos : take i out ++ v ∷ [] ≡ take (i + 1) (set out i v) = sym (take_more_set out i v inside) in
    subst (λ l. AllZip R l (take (i + 1) (set out i v))) items
    (subst (AllZip R (take i xs ++ x ∷ [])) infos (all_zip_append R (take i xs) (x ∷ []) (take i out) (v ∷ []) first (one, tt)))

-- a child has fewer nodes than its parent, which has as many as it has with the children before it
pub room_for : (t : Tree) (items : List Tree) (i : ℕ) (child : Tree) → items ≡ trees t.children → i < length items → child ≡ get_or items i child
    → (count child < count t) × (suc (count_of_all (take i items)) + count child ≤ count t)
room_for t items i child kids h is =
    let more = count_more items i child h in
    let split = count_split (i + 1) items in
    let all : count_of_all items ≡ length (preorder t.children) = ap count_of_all kids ∙ count_of_trees t.children in
    let same = ap count is in
    (omega (arith, more, split, all, same), omega (arith, more, split, all, same))

-- lists that begin alike begin alike in a shorter part, and lists that end alike end alike in one
pub begin_alike : {B : Type 0} (a m : ℕ) (xs ys : List B) → a ≤ m → take m xs ≡ take m ys → take a xs ≡ take a ys
begin_alike a m xs ys less same = sym (take-take a m xs less) ∙ (ap (take a) same ∙ take-take a m ys less)

pub end_alike : {B : Type 0} (a b : ℕ) (xs ys : List B) → a ≤ b → drop a xs ≡ drop a ys → drop b xs ≡ drop b ys
end_alike a b xs ys less same =
    let far : a + (b - a) ≡ b = omega (arith, less) in
    subst (λ (k : ℕ). drop k xs ≡ drop k ys) far (sym (drop-drop (b - a) a xs) ∙ (ap (drop (b - a)) same ∙ drop-drop (b - a) a ys))

-- the nodes of all children, and their parent
pub told_count : (t : Tree) (items : List Tree) (i : ℕ) → items ≡ trees t.children → length items ≤ i → suc (count_of_all (take i items)) ≡ count t
told_count t items i kids done =
    ap (λ l. suc (count_of_all l)) (take_all i items done ∙ kids) ∙ ap suc (count_of_trees t.children)

-- all children are told after their parent
pub told_all : {B : Type 0} (R : Tree → B → Type 0) (t : Tree) (items : List Tree) (i : ℕ) (out : List B) (at : ℕ) → items ≡ trees t.children → length items ≤ i
    → AllZip R (t ∷ subtrees_of (forest (take i items))) (take (suc (count_of_all (take i items))) (drop at out)) → AllZip R (subtrees t) (take (count t) (drop at out))
told_all R t items i out at kids done told =
    let whole : take i items ≡ trees t.children = take_all i items done ∙ kids in
    let below : subtrees_of (forest (take i items)) ≡ subtrees_of t.children = ap (λ l. subtrees_of (forest l)) whole ∙ ap subtrees_of (forest-trees t.children) in
    let many : suc (count_of_all (take i items)) ≡ count t = ap (λ l. suc (count_of_all l)) whole ∙ ap suc (count_of_trees t.children) in
    subst (λ (k : ℕ). AllZip R (subtrees t) (take k (drop at out))) many
    (subst (λ (l : List Tree). AllZip R (t ∷ l) (take (suc (count_of_all (take i items))) (drop at out))) below told)
