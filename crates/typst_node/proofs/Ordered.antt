-- Trees numbered one after the other are those whose numbers are in order and whose bounds hold.
use Rattle.std.proofs.Common.{◌≡◌, ℕ, ◌+◌, ◌<◌, ◌≤◌, ◌^◌, List, [], ◌∷◌, ◌++◌, map, sym, ap, subst, arith, append-nil}
use Rattle.std.specs.List.{AllByRecursion}
use Rattle.typst_node.specs.Tree.{Label, Forest, none, tree, Tree}
use Rattle.typst_node.specs.Preorder.{preorder, nodes}
use Rattle.typst_node.specs.Labels.{number, bound}
use Rattle.typst_node.specs.Numbered.{Rise, IsNumberOf, IsAtMostFirst, BoundsHold, IsNumberedFor, AllIn}
use Rattle.typst_node.specs.Interval.{IsWithin, IsTreeWithin}
use Rattle.typst_node.proofs.Within.{within_le, within_wider}

all_append : {X : Type 0} (P : X → Type 0) (xs ys : List X) → AllByRecursion P xs → AllByRecursion P ys → AllByRecursion P (xs ++ ys)
all_append P [] ys h k = k
all_append P (x ∷ xs) ys h k = (h.0, all_append P xs ys h.1 k)

all_front : {X : Type 0} (P : X → Type 0) (xs ys : List X) → AllByRecursion P (xs ++ ys) → AllByRecursion P xs
all_front P [] ys h = tt
all_front P (x ∷ xs) ys h = (h.0, all_front P xs ys h.1)

all_back : {X : Type 0} (P : X → Type 0) (xs ys : List X) → AllByRecursion P (xs ++ ys) → AllByRecursion P ys
all_back P [] ys h = h
all_back P (x ∷ xs) ys h = all_back P xs ys h.1

pub all_weaker : {X : Type 0} (P Q : X → Type 0) → ((x : X) → P x → Q x) → (xs : List X) → AllByRecursion P xs → AllByRecursion Q xs
all_weaker P Q f [] h = tt
all_weaker P Q f (x ∷ xs) h = (f x h.0, all_weaker P Q f xs h.1)

all_numbers : (P : ℕ → Type 0) (ls : List Label) → AllByRecursion (λ l. P (number l)) ls → AllByRecursion P (map number ls)
all_numbers P [] h = tt
all_numbers P (l ∷ ls) h = (h.0, all_numbers P ls h.1)

all_labels : (P : ℕ → Type 0) (ls : List Label) → AllByRecursion P (map number ls) → AllByRecursion (λ l. P (number l)) ls
all_labels P [] h = tt
all_labels P (l ∷ ls) h = (h.0, all_labels P ls h.1)

-- a node's span is of the file, with a number of a range
abbrev pub IsIn : ℕ → ℕ → ℕ → Label → Type 0
IsIn file a b l = (l.span.file ≡ file) × (a ≤ number l) × (number l < b)

-- ---- from the nested form to the lists
pub all_in : (file a b : ℕ) (f : Forest) → IsWithin file a b f → AllByRecursion (IsIn file a b) (preorder f)
all_in file a b none h = tt
all_in file a b (tree l c r) h =
    let low = within_le file (number l + 1) (bound l) c h.2 in
    let high = within_le file (bound l) b r h.3 in (
      (h.0, h.1, omega (arith, h.1)),
      all_append (IsIn file a b) (preorder c) (preorder r)
          (all_in file a b c (within_wider file (number l + 1) (bound l) a b c h.2 (omega (arith, h.1)) high))
          (all_in file a b r (within_wider file (bound l) b a b r h.3 (omega (arith, h.1)) (omega arith))),
    )

rise_append : (m : ℕ) (xs ys : List Label) → Rise (map number xs) → Rise (map number ys) → AllByRecursion (λ l. number l < m) xs → AllByRecursion (λ l. m ≤ number l) ys → Rise (map number (xs ++ ys))
rise_append m [] ys h k low high = k
rise_append m (x ∷ xs) ys h k low high =
    let x_below : number x < m = low.0 in (
      all_numbers (λ y. number x < y) (xs ++ ys)
          (all_append (λ l. number x < number l) xs ys (all_labels (λ y. number x < y) xs h.0) (all_weaker (λ l. m ≤ number l) (λ l. number x < number l) (λ l e. omega arith) ys high)),
      rise_append m xs ys h.1 k low.1 high,
    )

pub rise_in : (file a b : ℕ) (f : Forest) → IsWithin file a b f → Rise (map number (preorder f))
rise_in file a b none h = tt
rise_in file a b (tree l c r) h =
    let low = within_le file (number l + 1) (bound l) c h.2 in
    let children = all_in file (number l + 1) (bound l) c h.2 in
    let others = all_in file (bound l) b r h.3 in (
      all_numbers (λ y. number l < y) (preorder c ++ preorder r)
          (all_append (λ m. number l < number m) (preorder c) (preorder r)
          (all_weaker (IsIn file (number l + 1) (bound l)) (λ m. number l < number m) (λ m e. omega (arith, e.1)) (preorder c) children)
          (all_weaker (IsIn file (bound l) b) (λ m. number l < number m) (λ m e. omega (arith, e.1)) (preorder r) others)),
      rise_append (bound l) (preorder c) (preorder r) (rise_in file (number l + 1) (bound l) c h.2) (rise_in file (bound l) b r h.3)
          (all_weaker (IsIn file (number l + 1) (bound l)) (λ m. number m < bound l) (λ m e. e.2) (preorder c) children)
          (all_weaker (IsIn file (bound l) b) (λ m. bound l ≤ number m) (λ m e. e.1) (preorder r) others),
    )

first_weaker : (a b : ℕ) (ls : List Label) → a ≤ b → IsAtMostFirst b ls → IsAtMostFirst a ls
first_weaker a b [] e h = tt
first_weaker a b (l ∷ ls) e h = omega arith

first_in : (file a b : ℕ) (f : Forest) (behind : List Label) → IsWithin file a b f → IsAtMostFirst b behind → IsAtMostFirst a (preorder f ++ behind)
first_in file a b none behind h k = first_weaker a b behind h k
first_in file a b (tree l c r) behind h k = h.1

pub bounds_in : (file a b : ℕ) (limits : List ℕ) (behind : List Label) (f : Forest) → IsWithin file a b f → AllByRecursion (λ limit. b ≤ limit) limits → IsAtMostFirst b behind → BoundsHold limits behind f
bounds_in file a b limits behind none h low next = tt
bounds_in file a b limits behind (tree l c r) h low next =
    let inner = within_le file (number l + 1) (bound l) c h.2 in
    let outer = within_le file (bound l) b r h.3 in
    let first = first_in file (bound l) b r behind h.3 next in
    let lower = all_weaker (λ limit. b ≤ limit) (λ limit. bound l ≤ limit) (λ limit e. omega arith) limits low in (
      (omega arith, all_weaker (IsIn file (number l + 1) (bound l)) (λ m. number m < bound l) (λ m e. e.2) (preorder c) (all_in file (number l + 1) (bound l) c h.2)),
      first,
      lower,
      bounds_in file (number l + 1) (bound l) (bound l ∷ limits) (preorder r ++ behind) c h.2 (omega arith, lower) first,
      bounds_in file (bound l) b limits behind r h.3 low next,
    )

-- ---- and back
rise_front : (xs ys : List Label) → Rise (map number (xs ++ ys)) → Rise (map number xs)
rise_front [] ys h = tt
rise_front (x ∷ xs) ys h = (all_numbers (λ y. number x < y) xs (all_front (λ l. number x < number l) xs ys (all_labels (λ y. number x < y) (xs ++ ys) h.0)), rise_front xs ys h.1)

rise_back : (xs ys : List Label) → Rise (map number (xs ++ ys)) → Rise (map number ys)
rise_back [] ys h = h
rise_back (x ∷ xs) ys h = rise_back xs ys h.1

first_below_all : (m : ℕ) (xs behind : List Label) → IsAtMostFirst m (xs ++ behind) → Rise (map number xs) → AllByRecursion (λ l. m ≤ number l) xs
first_below_all m [] behind h k = tt
first_below_all m (x ∷ xs) behind h k = (h, all_weaker (λ l. number x < number l) (λ l. m ≤ number l) (λ l e. omega arith) xs (all_labels (λ y. number x < y) xs k.0))

pub within_from : (file a b : ℕ) (limits : List ℕ) (behind : List Label) (f : Forest) → a ≤ b → AllByRecursion (λ l. l.span.file ≡ file) (preorder f) → AllByRecursion (λ l. a ≤ number l) (preorder f)
    → Rise (map number (preorder f)) → BoundsHold (b ∷ limits) behind f → IsWithin file a b f
within_from file a b limits behind none e of low rise holds = e
within_from file a b limits behind (tree l c r) e of low rise holds =
    let below = rise_front (preorder c) (preorder r) rise.1 in
    let later = rise_back (preorder c) (preorder r) rise.1 in (
      of.0,
      low.0,
      within_from file (number l + 1) (bound l) (b ∷ limits) (preorder r ++ behind) c (omega (arith, holds.0.0)) (all_front (λ m. m.span.file ≡ file) (preorder c) (preorder r) of.1)
          (all_weaker (λ m. number l < number m) (λ m. number l + 1 ≤ number m) (λ m k. omega arith) (preorder c) (all_front (λ m. number l < number m) (preorder c) (preorder r) (all_labels (λ y. number l < y) (preorder c ++ preorder r) rise.0)))
          below holds.3,
      within_from file (bound l) b limits behind r holds.2.0 (all_back (λ m. m.span.file ≡ file) (preorder c) (preorder r) of.1)
          (first_below_all (bound l) (preorder r) behind holds.1 later) later holds.4,
    )

-- ---- of one tree
preorder_one : (t : Tree) → preorder (tree t.label t.children none) ≡ nodes t
preorder_one t = ap (λ ls. t.label ∷ ls) (append-nil (preorder t.children))

pub numbered_from_within : (file a b : ℕ) (t : Tree) → 2 ≤ a → b ≤ 2 ^ 47 → IsTreeWithin file a b t → IsNumberedFor file t
numbered_from_within file a b t low high h = record {
  in_file = subst (AllByRecursion (IsNumberOf file)) (preorder_one t)
      (all_weaker (IsIn file a b) (IsNumberOf file) (λ l e. (e.0, omega (arith, e.1), omega (arith, e.2))) (preorder (tree t.label t.children none)) (all_in file a b (tree t.label t.children none) h));
  in_order = subst (λ ls. Rise (map number ls)) (preorder_one t) (rise_in file a b (tree t.label t.children none) h);
  bounds = bounds_in file a b (2 ^ 47 ∷ []) [] (tree t.label t.children none) h (high, tt) tt;
}

pub within_from_numbered : (file : ℕ) (t : Tree) → IsNumberedFor file t → IsTreeWithin file 2 (2 ^ 47) t
within_from_numbered file t n =
    let in_file = subst (AllByRecursion (IsNumberOf file)) (sym (preorder_one t)) n.in_file in
    within_from file 2 (2 ^ 47) [] [] (tree t.label t.children none) (omega arith)
    (all_weaker (IsNumberOf file) (λ l. l.span.file ≡ file) (λ l e. e.0) (preorder (tree t.label t.children none)) in_file)
    (all_weaker (IsNumberOf file) (λ l. 2 ≤ number l) (λ l e. e.1) (preorder (tree t.label t.children none)) in_file)
    (subst (λ ls. Rise (map number ls)) (sym (preorder_one t)) n.in_order) n.bounds

-- all numbers of a tree that is numbered within a range
pub all_in_range : (file a b : ℕ) (t : Tree) → IsTreeWithin file a b t → AllIn a b t
all_in_range file a b t h =
    subst (AllByRecursion (λ l. (a ≤ number l) × (number l < b))) (preorder_one t)
    (all_weaker (IsIn file a b) (λ l. (a ≤ number l) × (number l < b)) (λ l e. (e.1, e.2)) (preorder (tree t.label t.children none)) (all_in file a b (tree t.label t.children none) h))
