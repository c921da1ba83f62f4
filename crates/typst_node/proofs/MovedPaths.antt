-- Where the numbers of a numbered tree are, said over paths.
use Rattle.std.proofs.Common.{eq-eqb, ◌≡◌, ℕ, suc, zero, ◌+◌, ◌-◌, ◌<◌, ◌≤◌, ◌⊎◌, inl, inr, Bool, true, false, ◌==◌, nat_lt, List, [], ◌∷◌, ◌++◌, length, set, get_or, take, drop, refl, sym, ap, subst, ◌∙◌, arith}
use Rattle.std.specs.Prelude.{if◌then◌else◌}
use Rattle.std.proofs.lemmas.Bool.{eqb-true, ltb-true, lt-ltb, le-ltb, cases_lt}
use Rattle.std.proofs.lemmas.List.{get_or-set_same, get_or-set_other, length-set}
use Rattle.typst_node.specs.Tree.{Tree, forest, trees}
use Rattle.typst_node.specs.Labels.{number, bound}
use Rattle.typst_node.specs.Interval.{IsWithin, IsTreeWithin}
use Rattle.typst_node.specs.OpenNumbers.{open_from, open_to}
use Rattle.typst_node.specs.Plain.{plain}
use Rattle.typst_node.specs.Paths.{no_tree, IsPath, tree_at, with_children}
use Rattle.typst_node.specs.Outside.{IsInWindow, old_index, old_place}
use Rattle.typst_node.proofs.Trees.{trees_of_forest, forest-trees}
use Rattle.typst_node.proofs.Within.{within_le}
use Rattle.typst_node.proofs.EditsBelow.{child_within}
use Rattle.typst_node.proofs.SamePlain.{path_alike}
use Rattle.typst_node.proofs.Outside.{not_below, not_equal}

-- the children of a tree that is numbered within a range
pub kids_within : (file a b : ℕ) (t : Tree) → IsTreeWithin file a b t → IsWithin file (number t.label + 1) (bound t.label) (forest (trees t.children))
kids_within file a b t h = subst (IsWithin file (number t.label + 1) (bound t.label)) (sym (forest-trees t.children)) h.2

-- the numbers of a node in a tree that is numbered within a range
pub record IsNodeIn (a b : ℕ) (t : Tree) : Type 0 where
  pub low : a ≤ number t.label
  pub some : number t.label < bound t.label
  pub high : bound t.label ≤ b

pub node_in : (q : List ℕ) (file a b : ℕ) (t : Tree) → IsPath q t → IsTreeWithin file a b t → IsNodeIn a b (tree_at q t)
node_in [] file a b t p h =
    let some = within_le file (number t.label + 1) (bound t.label) t.children h.2 in
    record { low = h.1; some = omega arith; high = h.3 }
node_in (i ∷ q) file a b t p h =
    let child = child_within file (number t.label + 1) (bound t.label) (trees t.children) i no_tree p.0 (kids_within file a b t h) in
    let there = node_in q file (number t.label + 1) (bound t.label) (get_or (trees t.children) i no_tree) p.1 child in
    record { low = omega (arith, there.low, h.1); some = there.some; high = omega (arith, there.high, h.3) }

opens_more : (file a b k : ℕ) (ts : List Tree) → IsWithin file a b (forest ts) → a ≤ open_from a (take k ts)
opens_more file a b zero ts h = omega arith
opens_more file a b (suc k) [] h = omega arith
opens_more file a b (suc k) (t ∷ ts) h =
    let some = within_le file (number t.label + 1) (bound t.label) t.children h.2 in
    omega (arith, h.1, opens_more file (bound t.label) b k ts h.3)

-- the same of nodes in adjacent trees, before a place and from a place on
pub node_before : (q : List ℕ) (file a b : ℕ) (ts : List Tree) (j k : ℕ) → j < k → j < length ts → IsPath q (get_or ts j no_tree) → IsWithin file a b (forest ts) → IsNodeIn a (open_from a (take k ts)) (tree_at q (get_or ts j no_tree))
node_before q file a b [] j k less there p h = absurd (omega arith)
node_before q file a b (t ∷ ts) j zero less there p h = absurd (omega arith)
node_before q file a b (t ∷ ts) zero (suc k) less there p h =
    let own : IsTreeWithin file a (bound t.label) t = (h.0, h.1, h.2, omega arith) in
    let in_own = node_in q file a (bound t.label) t p own in
    let more = opens_more file (bound t.label) b k ts h.3 in
    record { low = in_own.low; some = in_own.some; high = omega (arith, in_own.high, more) }
node_before q file a b (t ∷ ts) (suc j) (suc k) less there p h =
    let rest = node_before q file (bound t.label) b ts j k (omega arith) (omega arith) p h.3 in
    let some = within_le file (number t.label + 1) (bound t.label) t.children h.2 in
    record { low = omega (arith, rest.low, h.1); some = rest.some; high = rest.high }

pub node_after : (q : List ℕ) (file a b : ℕ) (ts : List Tree) (j k : ℕ) → k ≤ j → j < length ts → IsPath q (get_or ts j no_tree) → IsWithin file a b (forest ts) → IsNodeIn (open_to b (drop k ts)) b (tree_at q (get_or ts j no_tree))
node_after q file a b [] j k less there p h = absurd (omega arith)
node_after q file a b (t ∷ ts) zero zero less there p h =
    let own : IsTreeWithin file (number t.label) b t = (h.0, omega arith, h.2, within_le file (bound t.label) b (forest ts) h.3) in
    node_in q file (number t.label) b t p own
node_after q file a b (t ∷ ts) zero (suc k) less there p h = absurd (omega arith)
node_after q file a b (t ∷ ts) (suc j) zero less there p h =
    let rest = node_in q file (bound t.label) b (get_or ts j no_tree) p (child_within file (bound t.label) b ts j no_tree (omega arith) h.3) in
    let some = within_le file (number t.label + 1) (bound t.label) t.children h.2 in
    record { low = omega (arith, rest.low); some = rest.some; high = rest.high }
node_after q file a b (t ∷ ts) (suc j) (suc k) less there p h = node_after q file (bound t.label) b ts j k (omega arith) (omega arith) p h.3

-- the open numbers before a place are not above those after it
pub opens_meet : (file a b k : ℕ) (ts : List Tree) → IsWithin file a b (forest ts) → (open_from a (take k ts) ≤ open_to b (drop k ts)) × (a ≤ open_from a (take k ts)) × (open_to b (drop k ts) ≤ b)
opens_meet file a b zero [] h = (h, omega arith, omega arith)
opens_meet file a b zero (t ∷ ts) h =
    let some = within_le file (number t.label + 1) (bound t.label) t.children h.2 in
    (h.1, omega arith, omega (arith, within_le file (bound t.label) b (forest ts) h.3))
opens_meet file a b (suc k) [] h = (h, omega arith, omega arith)
opens_meet file a b (suc k) (t ∷ ts) h =
    let some = within_le file (number t.label + 1) (bound t.label) t.children h.2 in
    let rest = opens_meet file (bound t.label) b k ts h.3 in
    (rest.0, omega (arith, rest.1, h.1), rest.2)

-- the open numbers rise
pub opens_rise : (file a b k m : ℕ) (ts : List Tree) → k ≤ m → IsWithin file a b (forest ts) → open_from a (take k ts) ≤ open_from a (take m ts)
opens_rise file a b zero m ts less h = opens_more file a b m ts h
opens_rise file a b (suc k) zero ts less h = absurd (omega arith)
opens_rise file a b (suc k) (suc m) [] less h = omega arith
opens_rise file a b (suc k) (suc m) (t ∷ ts) less h = opens_rise file (bound t.label) b k m ts (omega arith) h.3

-- ---- a node that is outside of a window of the children at a path
abbrev pub IsBeside : ℕ → ℕ → ℕ → Type 0
IsBeside low high n = (n < low) ⊎ (high ≤ n)

beside_at : (file a b from to : ℕ) (q : List ℕ) (j : ℕ) (ts : List Tree) → from ≤ to → j < length ts → IsPath q (get_or ts j no_tree) → IsWithin file a b (forest ts) → ¬ ((from ≤ j) × (j < to))
    → (j < from) ⊎ (from ≤ j) → IsBeside (open_from a (take from ts)) (open_to b (drop to ts)) (number (tree_at q (get_or ts j no_tree)).label)
beside_at file a b from to q j ts order there p h out (inl less) =
    let at = node_before q file a b ts j from less there p h in
    inl (omega (arith, at.some, at.high))
beside_at file a b from to q j ts order there p h out (inr more) =
    let never : j < to → ⊥ = λ below. out (more, below) in
    let at = node_after q file a b ts j to (omega (arith, never)) there p h in
    inr at.low

-- of two children, the one that the path leads into and another
beside_child : (file a b low high : ℕ) (ts : List Tree) (i j : ℕ) (p q : List ℕ) → i < length ts → IsPath p (get_or ts i no_tree) → j < length ts → IsPath q (get_or ts j no_tree) → IsWithin file a b (forest ts)
    → number (tree_at p (get_or ts i no_tree)).label < low → high ≤ bound (tree_at p (get_or ts i no_tree)).label → (j < i) ⊎ (i ≤ j) → ¬ (i ≡ j) → IsBeside low high (number (tree_at q (get_or ts j no_tree)).label)
beside_child file a b low high ts i j p q there path there_too path_too h below above (inl less) differ =
    let one = node_before q file a b ts j i less there_too path_too h in
    let two = node_after p file a b ts i i (omega arith) there path h in
    let meet = opens_meet file a b i ts h in
    inl (omega (arith, one.some, one.high, two.low, meet.0))
beside_child file a b low high ts i j p q there path there_too path_too h below above (inr more) differ =
    let later : i + 1 ≤ j = omega (arith, differ) in
    let one = node_after q file a b ts j (i + 1) later there_too path_too h in
    let two = node_before p file a b ts i (i + 1) (omega arith) there path h in
    let meet = opens_meet file a b (i + 1) ts h in
    inr (omega (arith, one.low, two.high, meet.0))

-- the children of the node at a path
pub within_at : (path : List ℕ) (file a b : ℕ) (t : Tree) → IsPath path t → IsTreeWithin file a b t → IsWithin file (number (tree_at path t).label + 1) (bound (tree_at path t).label) (forest (trees (tree_at path t).children))
within_at [] file a b t p h = kids_within file a b t h
within_at (i ∷ path) file a b t p h =
    within_at path file (number t.label + 1) (bound t.label) (get_or (trees t.children) i no_tree) p.1 (child_within file (number t.label + 1) (bound t.label) (trees t.children) i no_tree p.0 (kids_within file a b t h))

beside_below : (i : ℕ) (path : List ℕ) (j : ℕ) (q : List ℕ) (file a b from to : ℕ) (t : Tree) → IsPath (i ∷ path) t → IsPath (j ∷ q) t → IsTreeWithin file a b t → ¬ (IsInWindow (i ∷ path) from to (j ∷ q)) → from ≤ to
    → (IsPath q (get_or (trees t.children) i no_tree) → ¬ (IsInWindow path from to q)
    → IsBeside (open_from (number (tree_at (i ∷ path) t).label + 1) (take from (trees (tree_at (i ∷ path) t).children))) (open_to (bound (tree_at (i ∷ path) t).label) (drop to (trees (tree_at (i ∷ path) t).children))) (number (tree_at q (get_or (trees t.children) i no_tree)).label))
    → (c : Bool) → (i == j) ≡ c
    → IsBeside (open_from (number (tree_at (i ∷ path) t).label + 1) (take from (trees (tree_at (i ∷ path) t).children))) (open_to (bound (tree_at (i ∷ path) t).label) (drop to (trees (tree_at (i ∷ path) t).children))) (number (tree_at (j ∷ q) t).label)
beside_below i path j q file a b from to t paths p h out order below true e =
    let same : i ≡ j = eqb-true i j e in
    let low = open_from (number (tree_at (i ∷ path) t).label + 1) (take from (trees (tree_at (i ∷ path) t).children)) in
    let high = open_to (bound (tree_at (i ∷ path) t).label) (drop to (trees (tree_at (i ∷ path) t).children)) in
    subst (λ k. IsBeside low high (number (tree_at q (get_or (trees t.children) k no_tree)).label)) same
    (below (subst (λ k. IsPath q (get_or (trees t.children) k no_tree)) (sym same) p.1) (λ inside. out (same, inside)))
beside_below i path j q file a b from to t paths p h out order below false e =
    let kids = kids_within file a b t h in
    let child = child_within file (number t.label + 1) (bound t.label) (trees t.children) i no_tree paths.0 kids in
    let own = within_at path file (number t.label + 1) (bound t.label) (get_or (trees t.children) i no_tree) paths.1 child in
    let f = number (tree_at (i ∷ path) t).label + 1 in
    let u = bound (tree_at (i ∷ path) t).label in
    let ts = trees (tree_at (i ∷ path) t).children in
    let more = opens_more file f u from ts own in
    let meet = opens_meet file f u to ts own in
    beside_child file (number t.label + 1) (bound t.label) (open_from f (take from ts)) (open_to u (drop to ts)) (trees t.children) i j path q paths.0 paths.1 p.0 p.1 kids (omega (arith, more)) meet.2 (cases_lt j i) (not_equal i j e)

pub beside : (path q : List ℕ) (file a b from to : ℕ) (t : Tree) → IsPath path t → IsPath q t → from ≤ to → IsTreeWithin file a b t → ¬ (IsInWindow path from to q)
    → IsBeside (open_from (number (tree_at path t).label + 1) (take from (trees (tree_at path t).children))) (open_to (bound (tree_at path t).label) (drop to (trees (tree_at path t).children))) (number (tree_at q t).label)
beside [] [] file a b from to t path p order h out =
    let more = opens_more file (number t.label + 1) (bound t.label) from (trees t.children) (kids_within file a b t h) in
    inl (omega (arith, more))
beside [] (j ∷ q) file a b from to t path p order h out =
    beside_at file (number t.label + 1) (bound t.label) from to q j (trees t.children) order p.0 p.1 (kids_within file a b t h) out (cases_lt j from)
beside (i ∷ path) [] file a b from to t paths p order h out =
    let child = child_within file (number t.label + 1) (bound t.label) (trees t.children) i no_tree paths.0 (kids_within file a b t h) in
    let at = node_in path file (number t.label + 1) (bound t.label) (get_or (trees t.children) i no_tree) paths.1 child in
    let own = within_at path file (number t.label + 1) (bound t.label) (get_or (trees t.children) i no_tree) paths.1 child in
    let more = opens_more file (number (tree_at (i ∷ path) t).label + 1) (bound (tree_at (i ∷ path) t).label) from (trees (tree_at (i ∷ path) t).children) own in
    inl (omega (arith, at.low, more))
beside (i ∷ path) (j ∷ q) file a b from to t paths p order h out =
    beside_below i path j q file a b from to t paths p h out order
    (λ there outside.
    beside path q file (number t.label + 1) (bound t.label) from to (get_or (trees t.children) i no_tree) paths.1 there order (child_within file (number t.label + 1) (bound t.label) (trees t.children) i no_tree paths.0 (kids_within file a b t h)) outside)
    (i == j) refl

-- ---- places
same_index : (j from to end old new : ℕ) → from ≤ end → end ≤ to → ¬ ((from ≤ j) × (j < to)) → (j < from) ⊎ (from ≤ j) → old_index to old new j ≡ old_index end old new j
same_index j from to end old new low high out (inl less) =
    let yes : nat_lt j to ≡ true = lt-ltb j to (omega arith) in
    let yes_too : nat_lt j end ≡ true = lt-ltb j end (omega arith) in
    (λ k. if yes k then j else j + old - new) ∙ sym (λ k. if yes_too k then j else j + old - new)
same_index j from to end old new low high out (inr more) =
    let never : j < to → ⊥ = λ below. out (more, below) in
    let no : nat_lt j to ≡ false = le-ltb j to (omega (arith, never)) in
    let no_too : nat_lt j end ≡ false = le-ltb j end (omega (arith, never)) in
    (λ k. if no k then j else j + old - new) ∙ sym (λ k. if no_too k then j else j + old - new)

same_below : (i : ℕ) (path : List ℕ) (j : ℕ) (q : List ℕ) (from to end old new : ℕ) → ¬ (IsInWindow (i ∷ path) from to (j ∷ q)) → (¬ (IsInWindow path from to q) → old_place path to old new q ≡ old_place path end old new q)
    → (c : Bool) → (i == j) ≡ c → (j ∷ (if c then old_place path to old new q else q)) ≡ (j ∷ (if c then old_place path end old new q else q))
same_below i path j q from to end old new out below true e = ap (λ p. j ∷ p) (below (λ inside. out (eqb-true i j e, inside)))
same_below i path j q from to end old new out below false e = refl

out_index : (j from to back old new : ℕ) → back + new ≡ to + old → ¬ ((from ≤ j) × (j < to)) → (c : Bool) → nat_lt j to ≡ c
    → ¬ ((from ≤ (if c then j else j + old - new)) × ((if c then j else j + old - new) < back))
out_index j from to back old new many out true e h = out (h.0, ltb-true j to e)
out_index j from to back old new many out false e h =
    let high = not_below j to e in
    omega (arith, h.1)

out_below : (i : ℕ) (path : List ℕ) (j : ℕ) (q : List ℕ) (from to back old new : ℕ) → ¬ (IsInWindow (i ∷ path) from to (j ∷ q)) → (¬ (IsInWindow path from to q) → ¬ (IsInWindow path from back (old_place path to old new q)))
    → (c : Bool) → (i == j) ≡ c → ¬ ((i ≡ j) × IsInWindow path from back (if c then old_place path to old new q else q))
out_below i path j q from to back old new out below true e h = below (λ inside. out (h.0, inside)) h.1
out_below i path j q from to back old new out below false e h = not_equal i j e h.0

-- outside of the window, the place before the edit is the same for each end within the window
pub same_place : (path q : List ℕ) (from to end old new : ℕ) → from ≤ end → end ≤ to → ¬ (IsInWindow path from to q) → old_place path to old new q ≡ old_place path end old new q
same_place [] [] from to end old new low high out = refl
same_place [] (j ∷ q) from to end old new low high out =
    ap (λ k. k ∷ q) (same_index j from to end old new low high out (cases_lt j from))
same_place (i ∷ path) [] from to end old new low high out = refl
same_place (i ∷ path) (j ∷ q) from to end old new low high out =
    same_below i path j q from to end old new out (λ o. same_place path q from to end old new low high o) (i == j) refl

-- a path that leads into a window leads into one of its children
pub into_window : (path q : List ℕ) (from to : ℕ) → IsInWindow path from to q → (j : ℕ) × (r : List ℕ) × (q ≡ path ++ (j ∷ r)) × (from ≤ j) × (j < to)
into_window [] [] from to h = absurd h
into_window [] (j ∷ r) from to h = (j, r, refl, h.0, h.1)
into_window (i ∷ path) [] from to h = absurd h
into_window (i ∷ path) (j ∷ q) from to h =
    let rest = into_window path q from to h.1 in
    (rest.0, rest.1, (λ k. sym h.0 k ∷ rest.2 k), rest.3, rest.4)

pub window_of : (path r : List ℕ) (j from to : ℕ) → from ≤ j → j < to → IsInWindow path from to (path ++ (j ∷ r))
window_of [] r j from to low high = (low, high)
window_of (i ∷ path) r j from to low high = (refl, window_of path r j from to low high)

pub at_append : (path r : List ℕ) (t : Tree) → tree_at (path ++ r) t ≡ tree_at r (tree_at path t)
at_append [] r t = refl
at_append (i ∷ path) r t = at_append path r (get_or (trees t.children) i no_tree)

pub path_append : (path r : List ℕ) (t : Tree) → IsPath path t → IsPath r (tree_at path t) → IsPath (path ++ r) t
path_append [] r t h k = k
path_append (i ∷ path) r t h k = (h.0, path_append path r (get_or (trees t.children) i no_tree) h.1 k)

pub path_rest : (path r : List ℕ) (t : Tree) → IsPath (path ++ r) t → IsPath r (tree_at path t)
path_rest [] r t h = h
path_rest (i ∷ path) r t h = path_rest path r (get_or (trees t.children) i no_tree) h.1

pub place_append : (path r : List ℕ) (j to old new : ℕ) → old_place path to old new (path ++ (j ∷ r)) ≡ path ++ (old_index to old new j ∷ r)
place_append [] r j to old new = refl
place_append (i ∷ path) r j to old new =
    let yes : (i == i) ≡ true = eq-eqb i i refl in
    ap (λ p. i ∷ p) (ap (λ b. if b then old_place path to old new (path ++ (j ∷ r)) else path ++ (j ∷ r)) yes ∙ place_append path r j to old new)

-- the place of a node outside of the new window is outside of the old one
pub out_of_old : (path q : List ℕ) (from to back old new : ℕ) → from ≤ back → back + new ≡ to + old → ¬ (IsInWindow path from to q) → ¬ (IsInWindow path from back (old_place path to old new q))
out_of_old [] [] from to back old new order many out h = h
out_of_old [] (j ∷ q) from to back old new order many out h = out_index j from to back old new many out (nat_lt j to) refl h
out_of_old (i ∷ path) [] from to back old new order many out h = h
out_of_old (i ∷ path) (j ∷ q) from to back old new order many out h =
    out_below i path j q from to back old new out (λ o. out_of_old path q from to back old new order many o) (i == j) refl h

-- ---- and back
back_index : (j from to end old new : ℕ) → from ≤ end → from ≤ to → end + old ≡ to + new → ¬ ((from ≤ j) × (j < to)) → (j < from) ⊎ (from ≤ j) → old_index end old new (old_index to new old j) ≡ j
back_index j from to end old new low order many out (inl less) =
    let yes : nat_lt j to ≡ true = lt-ltb j to (omega arith) in
    let yes_too : nat_lt j end ≡ true = lt-ltb j end (omega arith) in
    ap (λ b. old_index end old new (if b then j else j + new - old)) yes ∙ ap (λ b. if b then j else j + old - new) yes_too
back_index j from to end old new low order many out (inr more) =
    let never : j < to → ⊥ = λ below. out (more, below) in
    let no : nat_lt j to ≡ false = le-ltb j to (omega (arith, never)) in
    let k = j + new - old in
    let no_too : nat_lt k end ≡ false = le-ltb k end (omega (arith, never)) in
    let there : k + old - new ≡ j = omega (arith, never) in
    ap (λ b. old_index end old new (if b then j else j + new - old)) no ∙ (ap (λ b. if b then k else k + old - new) no_too ∙ there)

back_below : (path : List ℕ) (j : ℕ) (q r : List ℕ) (end old new : ℕ) (b : Bool) → (b ≡ true → old_place path end old new r ≡ q) → (j ∷ (if b then old_place path end old new (if b then r else q) else (if b then r else q))) ≡ (j ∷ q)
back_below path j q r end old new true h = ap (λ p. j ∷ p) (h refl)
back_below path j q r end old new false h = refl

-- the place before of the place after is the place itself
pub place_back : (path q : List ℕ) (from to end old new : ℕ) → from ≤ end → from ≤ to → end + old ≡ to + new → ¬ (IsInWindow path from to q) → old_place path end old new (old_place path to new old q) ≡ q
place_back [] [] from to end old new low order many out = refl
place_back [] (j ∷ q) from to end old new low order many out = ap (λ k. k ∷ q) (back_index j from to end old new low order many out (cases_lt j from))
place_back (i ∷ path) [] from to end old new low order many out = refl
place_back (i ∷ path) (j ∷ q) from to end old new low order many out =
    back_below path j q (old_place path to new old q) end old new (i == j) (λ yes. place_back path q from to end old new low order many (λ inside. out (eqb-true i j yes, inside)))

-- the old children that stay have their places among the new children
abbrev pub HavePlaces : ℕ → ℕ → List Tree → List Tree → Type 0
HavePlaces from to us ts =
    (j : ℕ) → j < length ts → ¬ ((from ≤ j) × (j < to)) → (old_index to (length us) (length ts) j < length us) × (plain (get_or ts j no_tree) ≡ plain (get_or us (old_index to (length us) (length ts) j) no_tree))

new_below : (i : ℕ) (path : List ℕ) (j : ℕ) (q : List ℕ) (us : List Tree) (t : Tree) (from to old new : ℕ) → i < length (trees t.children) → IsPath (j ∷ q) t → ¬ (IsInWindow (i ∷ path) from to (j ∷ q))
    → (IsPath q (get_or (trees t.children) i no_tree) → ¬ (IsInWindow path from to q) → IsPath (old_place path to old new q) (with_children path us (get_or (trees t.children) i no_tree)))
    → (b : Bool) → (i == j) ≡ b → IsPath (j ∷ (if b then old_place path to old new q else q)) (with_children (i ∷ path) us t)
new_below i path j q us t from to old new h p out below true e =
    let same : i ≡ j = eqb-true i j e in
    let kids = trees t.children in
    let child = with_children path us (get_or kids i no_tree) in
    let news = set kids i child in
    let at : get_or (trees (forest news)) j no_tree ≡ child = ap (λ ts. get_or ts j no_tree) (trees_of_forest news) ∙ (ap (λ k. get_or news k no_tree) (sym same) ∙ get_or-set_same kids i child no_tree h) in
    let many : length (trees (forest news)) ≡ length kids = ap length (trees_of_forest news) ∙ length-set kids i child in
    let kept = below (subst (λ k. IsPath q (get_or kids k no_tree)) (sym same) p.1) (λ inside. out (same, inside)) in
    (omega (arith, many, p.0), subst (IsPath (old_place path to old new q)) (sym at) kept)
new_below i path j q us t from to old new h p out below false e =
    let kids = trees t.children in
    let child = with_children path us (get_or kids i no_tree) in
    let news = set kids i child in
    let differ : ¬ (j ≡ i) = λ s. not_equal i j e (sym s) in
    let at : get_or (trees (forest news)) j no_tree ≡ get_or kids j no_tree = ap (λ ts. get_or ts j no_tree) (trees_of_forest news) ∙ get_or-set_other kids i j child no_tree differ in
    let many : length (trees (forest news)) ≡ length kids = ap length (trees_of_forest news) ∙ length-set kids i child in
    (omega (arith, many, p.0), subst (IsPath q) (sym at) p.1)

-- the place after the edit leads to a node of the new tree
pub new_path : (path q : List ℕ) (us : List Tree) (t : Tree) (from to : ℕ) → IsPath path t → IsPath q t → ¬ (IsInWindow path from to q) → HavePlaces from to us (trees (tree_at path t).children)
    → IsPath (old_place path to (length us) (length (trees (tree_at path t).children)) q) (with_children path us t)
new_path [] [] us t from to h p out places = tt
new_path [] (j ∷ q) us t from to h p out places =
    let at = places j p.0 out in
    let k = old_index to (length us) (length (trees t.children)) j in
    let long : length (trees (forest us)) ≡ length us = ap length (trees_of_forest us) in
    let there : get_or us k no_tree ≡ get_or (trees (forest us)) k no_tree = ap (λ ts. get_or ts k no_tree) (sym (trees_of_forest us)) in
    (omega (arith, at.0, long), subst (IsPath q) there (path_alike q (get_or (trees t.children) j no_tree) (get_or us k no_tree) at.1 p.1))
new_path (i ∷ path) [] us t from to h p out places = tt
new_path (i ∷ path) (j ∷ q) us t from to h p out places =
    new_below i path j q us t from to (length us) (length (trees (tree_at (i ∷ path) t).children)) h.0 p out
    (λ there outside. new_path path q us (get_or (trees t.children) i no_tree) from to h.1 there outside places) (i == j) refl
