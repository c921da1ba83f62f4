-- Where numbers are in a numbered tree.
use Rattle.std.proofs.Common.{◌≡◌, ℕ, suc, zero, ◌+◌, ◌<◌, ◌≤◌, inl, inr, List, [], ◌∷◌, length, None, Some, refl, sym, ◌∙◌, ap, subst, arith, length-append}
use Rattle.std.specs.Prelude.{slice_get}
use Rattle.std.proofs.lemmas.Bool.{cases_order}
use Rattle.typst_node.specs.Tree.{Forest, none, tree, Tree, trees}
use Rattle.typst_node.specs.Preorder.{preorder, at}
use Rattle.typst_node.specs.Count.{count}
use Rattle.typst_node.specs.Labels.{number, bound}
use Rattle.typst_node.specs.Numbered.{IsNumbered}
use Rattle.typst_node.specs.Interval.{IsWithin}
use Rattle.typst_node.proofs.Within.{within_le}
use Rattle.typst_node.proofs.Ordered.{within_from_numbered}
use Rattle.typst_node.proofs.PathSteps.{if_some_value}

-- the children of a node are numbered one after the other, up to its bound
abbrev pub IsInOrder : ℕ → Tree → Type 0
IsInOrder file t = IsWithin file (number t.label + 1) (bound t.label) t.children

pub numbered_order : (t : Tree) → IsNumbered t → (file : ℕ) × IsInOrder file t
numbered_order t n = (n.0, (within_from_numbered n.0 t n.2).2)

-- one of the trees side by side
pub one_within : (file a b : ℕ) (f : Forest) (i : ℕ) (c : Tree) → IsWithin file a b f → slice_get (trees f) i ≡ Some c → (a ≤ number c.label) × (bound c.label ≤ b) × IsInOrder file c
one_within file a b none i c h s = absurd (let s : None ≡ Some c = s in cc)
one_within file a b (tree l d r) zero c h s =
    let s : Some (record { label = l; children = d }) ≡ Some c = s in
    let same : record { label = l; children = d } ≡ c = cc in
    subst (λ (t : Tree). (a ≤ number t.label) × (bound t.label ≤ b) × IsInOrder file t) same (h.1, within_le file (bound l) b r h.3, h.2)
one_within file a b (tree l d r) (suc i) c h s =
    let rest = one_within file (bound l) b r i c h.3 s in
    (omega (arith, rest.0, h.1, within_le file (number l + 1) (bound l) d h.2), rest.1, rest.2)

-- an earlier tree ends before a later one begins
pub one_before : (file a b : ℕ) (f : Forest) (i j : ℕ) (c e : Tree) → IsWithin file a b f → slice_get (trees f) i ≡ Some c → slice_get (trees f) j ≡ Some e → i < j → bound c.label ≤ number e.label
one_before file a b none i j c e h s t l = absurd (let s : None ≡ Some c = s in cc)
one_before file a b (tree m d r) i zero c e h s t l = absurd (omega arith)
one_before file a b (tree m d r) zero (suc j) c e h s t l =
    let s : Some (record { label = m; children = d }) ≡ Some c = s in
    let same : record { label = m; children = d } ≡ c = cc in
    let ends : bound m ≡ bound c.label = ap (λ (u : Tree). bound u.label) same in
    omega (arith, (one_within file (bound m) b r j e h.3 t).0)
one_before file a b (tree m d r) (suc i) (suc j) c e h s t l = one_before file (bound m) b r i j c e h.3 s t (omega arith)

-- a child of a numbered tree
pub child_in_order : (file : ℕ) (t c : Tree) (i : ℕ) → IsInOrder file t → slice_get (trees t.children) i ≡ Some c → (number t.label < number c.label) × (bound c.label ≤ bound t.label) × IsInOrder file c
child_in_order file t c i h s =
    let x = one_within file (number t.label + 1) (bound t.label) t.children i c h s in
    (omega (arith, x.0), x.1, x.2)

-- a node of a numbered tree: its number is from the root's on, and below the root's bound
pub node_in_order : (file : ℕ) (q : List ℕ) (t m : Tree) → IsInOrder file t → at q t ≡ Some m → (number t.label ≤ number m.label) × (number m.label < bound t.label) × IsInOrder file m
node_in_order file [] t m h e =
    let e : Some t ≡ Some m = e in
    let same : t ≡ m = cc in
    subst (λ (u : Tree). (number t.label ≤ number u.label) × (number u.label < bound t.label) × IsInOrder file u) same
    (omega arith, omega (arith, within_le file (number t.label + 1) (bound t.label) t.children h), h)
node_in_order file (i ∷ q) t m h e =
    let x = if_some_value (at q) (slice_get (trees t.children) i) m e in
    let c = child_in_order file t x.0 i h x.1 in
    let rest = node_in_order file q x.0 m c.2 x.2 in
    (omega (arith, c.0, rest.0), omega (arith, c.1, rest.1), rest.2)

-- below the root the numbers are larger
pub deeper : (file j : ℕ) (p : List ℕ) (t m : Tree) → IsInOrder file t → at (j ∷ p) t ≡ Some m → number t.label < number m.label
deeper file j p t m h e =
    let x = if_some_value (at p) (slice_get (trees t.children) j) m e in
    let c = child_in_order file t x.0 j h x.1 in
    omega (arith, c.0, (node_in_order file p x.0 m c.2 x.2).0)

-- A number from that of a child up to n is below that child, where each later child's number is above n.
pub narrow : (file : ℕ) (t c : Tree) (i n : ℕ) → IsInOrder file t → slice_get (trees t.children) i ≡ Some c →
    ((k : ℕ) (e : Tree) → i < k → slice_get (trees t.children) k ≡ Some e → n < number e.label) →
    (q : List ℕ) (m : Tree) → at q t ≡ Some m → number c.label ≤ number m.label → number m.label ≤ n → (p : List ℕ) × (q ≡ i ∷ p) × (at p c ≡ Some m)
narrow file t c i n h s later [] m e low high =
    let e : Some t ≡ Some m = e in
    let same : t ≡ m = cc in
    let same_number : number t.label ≡ number m.label = ap (λ (u : Tree). number u.label) same in
    absurd (omega (arith, (child_in_order file t c i h s).0))
narrow file t c i n h s later (j ∷ q) m e low high =
    let x = if_some_value (at q) (slice_get (trees t.children) j) m e in
    let inside = child_in_order file t x.0 j h x.1 in
    let at_m = node_in_order file q x.0 m inside.2 x.2 in
    elim (cases_order i j) [
      | inl same ↦
          let both : Some c ≡ Some x.0 = sym s ∙ ap (slice_get (trees t.children)) same ∙ x.1 in
          let one : c ≡ x.0 = cc in
          (q, ap (λ (k : ℕ). k ∷ q) (sym same), ap (at q) one ∙ x.2)
      | inr r ↦ elim r [
        | inl l ↦ absurd (omega (arith, later j x.0 l x.1, at_m.0))
        | inr l ↦ absurd (omega (arith, one_before file (number t.label + 1) (bound t.label) t.children j i x.0 c h x.1 s l, at_m.1))
      ]
    ]

-- where each child's number is above n, only the root's is not
pub stop : (file : ℕ) (t : Tree) (n : ℕ) → IsInOrder file t →
    ((k : ℕ) (e : Tree) → slice_get (trees t.children) k ≡ Some e → n < number e.label) →
    (q : List ℕ) (m : Tree) → at q t ≡ Some m → number m.label ≤ n → q ≡ []
stop file t n h all [] m e high = refl
stop file t n h all (j ∷ q) m e high =
    let x = if_some_value (at q) (slice_get (trees t.children) j) m e in
    absurd (omega (arith, all j x.0 x.1, (node_in_order file q x.0 m (child_in_order file t x.0 j h x.1).2 x.2).0))

-- ---- how many nodes there are

count_each : (f : Forest) → length (trees f) ≤ length (preorder f)
count_each none = omega arith
count_each (tree l c r) = omega (arith, count_each r, length-append (preorder c) (preorder r))

count_one : (f : Forest) (i : ℕ) (c : Tree) → slice_get (trees f) i ≡ Some c → count c + length (trees f) ≤ length (preorder f) + 1
count_one none i c s = absurd (let s : None ≡ Some c = s in cc)
count_one (tree l d r) zero c s =
    let s : Some (record { label = l; children = d }) ≡ Some c = s in
    let same : record { label = l; children = d } ≡ c = cc in
    let l : length (preorder d) ≡ length (preorder c.children) = ap (λ (u : Tree). length (preorder u.children)) same in
    omega (arith, count_each r, length-append (preorder d) (preorder r))
count_one (tree l d r) (suc i) c s = omega (arith, count_one r i c s, length-append (preorder d) (preorder r))

-- a child's nodes and the number of children are within the nodes of the parent
pub count_child : (t c : Tree) (i : ℕ) → slice_get (trees t.children) i ≡ Some c → count c + length (trees t.children) ≤ count t
count_child t c i s = omega (arith, count_one t.children i c s)

pub count_children : (t : Tree) → length (trees t.children) + 1 ≤ count t
count_children t = omega (arith, count_each t.children)

pub count_at : (q : List ℕ) (t m : Tree) → at q t ≡ Some m → count m ≤ count t
count_at [] t m e =
    let e : Some t ≡ Some m = e in
    let same : t ≡ m = cc in
    let l : count t ≡ count m = ap count same in
    omega arith
count_at (i ∷ q) t m e =
    let x = if_some_value (at q) (slice_get (trees t.children) i) m e in
    omega (arith, count_at q x.0 m x.2, count_child t x.0 i x.1)
