-- A search by a number on its way down.
use Rattle.std.proofs.Common.{◌≡◌, ◌≢◌, ℕ, ◌+◌, ◌<◌, ◌≤◌, ◌^◌, length, List, [], ◌∷◌, ◌++◌, Some, None, Option, true, false, inl, inr, arith, sym, ap, ◌∙◌, refl, subst, append_assoc, append-nil, length-append, eq-eqb}
use Rattle.std.specs.Prelude.{slice_get, nat_le, sum_by, reverse, IfSome}
use Rattle.std.specs.Option.{option_map, option_and_then}
use Rattle.std.proofs.lemmas.Bool.{eqb-true}
use Rattle.std.proofs.lemmas.Option.{slice_get_within}
use Rattle.typst_node.specs.Tree.{Tree, trees}
use Rattle.typst_node.specs.Preorder.{at, paths}
use Rattle.typst_node.specs.Count.{count}
use Rattle.typst_node.specs.Labels.{number}
use Rattle.typst_node.specs.Numbered.{IsNumbered}
use Rattle.typst_linked.specs.Place.{Place, subtree, below, child_place}
use Rattle.typst_node.specs.BinaryDigits.{binary_digits}
use Rattle.typst_linked.specs.Search.{is_there, has_number, has_number_up_to, with_number, found_below, floor_path, weight_along, look_bound, bound_along, prefixes, child_count, each_child}
use Rattle.typst_linked.specs.Finds.{AreLooksFor, HasNumberBelow}
use Rattle.typst_linked.proofs.Digits.{digits_most}
use Rattle.std.proofs.lemmas.List.Sums.{sum_by-cons}
use Rattle.typst_linked.specs.Floor.{NumbersRise, AreAbove}
use Rattle.typst_node.proofs.PathSteps.{at-append, at-push}
use Rattle.typst_linked.proofs.Places.{same_node}
use Rattle.typst_linked.proofs.Ordered.{IsInOrder, numbered_order, child_in_order, node_in_order, one_before, deeper, narrow, stop, count_child, count_children}
use Rattle.typst_linked.proofs.Weights.{weight_along-root, weight_along-push, weight_along-append}
use Rattle.typst_linked.proofs.Found.{first_path_none, first_path_only, floor_largest, no_floor, option_cases, is_there_value, find_passes}
use Rattle.typst_node.proofs.FirstThatPasses.{bool_cases}
use Rattle.std.proofs.lemmas.Bool.Decides.{nat_tests}

-- Where a search from a tree at a place stands: at a node below it, whose number is at most the wanted one, and under which all wanted nodes stand.
pub record Searching (w : ℕ → ℕ) (s : Tree) (start here : Place) (wanted looks : ℕ) : Type 0 where
  pub done : List ℕ
  pub node : Tree
  pub place_is : here ≡ below start done
  pub node_is : at done s ≡ Some node
  pub most : number node.label ≤ wanted
  pub cost : looks + w (length (trees node.children)) ≤ 1 + weight_along w done s
  pub room : looks + count node ≤ 1 + count s
  pub least : 1 + length done ≤ looks
  pub narrowed : (file : ℕ) → IsInOrder file s → (q : List ℕ) (m : Tree) → at q s ≡ Some m → number node.label ≤ number m.label → number m.label ≤ wanted → (p : List ℕ) × (q ≡ done ++ p) × (at p node ≡ Some m)

pub searching_first : (w : ℕ → ℕ) (s : Tree) (start here : Place) (wanted looks : ℕ) → here ≡ start → looks ≡ 1 → number s.label ≤ wanted → Searching w s start here wanted looks
searching_first w s start here wanted looks e l h = record {
  done = [];
  node = s;
  place_is = e ∙ (λ x. record { root = start.root; path = sym (append-nil start.path) x });
  node_is = refl;
  most = h;
  cost = omega (arith, weight_along-root w s);
  room = omega arith;
  least = omega arith;
  narrowed = λ file o q m e low high. (q, refl, e);
}

child_below : (start : Place) (done : List ℕ) (i : ℕ) → child_place (below start done) i ≡ below start (done ++ i ∷ [])
child_below start done i = λ x. record { root = start.root; path = append_assoc start.path done (i ∷ []) x }

-- the numbers of children rise
rise_of : (file : ℕ) (t : Tree) → IsInOrder file t → NumbersRise (trees t.children)
rise_of file t o i j a b sa sb l =
    let ends = one_before file _ _ t.children i j a b o sa sb l in
    omega (arith, ends, (node_in_order file [] a a (child_in_order file t a i o sa).2 refl).1)

-- one child further down
pub searching_down : (w : ℕ → ℕ) (s : Tree) (start here : Place) (wanted looks looks' i : ℕ) (c : Tree) (x : Searching w s start here wanted looks) →
    slice_get (trees x.node.children) i ≡ Some c → number c.label ≤ wanted →
    (NumbersRise (trees x.node.children) → AreAbove (trees x.node.children) wanted (i + 1)) →
    looks' ≤ looks + w (length (trees x.node.children)) → looks' ≤ looks + length (trees x.node.children) → looks < looks' →
    Searching w s start (child_place here i) wanted looks'
searching_down w s start here wanted looks looks' i c x sl most later cost few least = record {
  done = x.done ++ i ∷ [];
  node = c;
  place_is = ap (λ (p : Place). child_place p i) x.place_is ∙ child_below start x.done i;
  node_is = at-push x.done i s x.node c x.node_is sl;
  most = most;
  cost = omega (arith, weight_along-push w x.done i s x.node c x.node_is sl, x.cost);
  room = omega (arith, count_child x.node c i sl, x.room);
  least = omega (arith, x.least, length-append x.done (i ∷ []));
  narrowed = λ file o q m e low high.
      let on = (node_in_order file x.done s x.node o x.node_is).2 in
      let rise : NumbersRise (trees x.node.children) = rise_of file x.node on in
      let first = x.narrowed file o q m e (omega (arith, (child_in_order file x.node c i on sl).0)) high in
      let second = narrow file x.node c i wanted on sl (λ k e l se. later rise k e (omega arith) se) first.0 m first.2 low high in
      (second.0, first.1 ∙ ap (λ (p : List ℕ). x.done ++ p) second.1 ∙ sym (append_assoc x.done (i ∷ []) second.0), second.2);
}

up_to : (n m : ℕ) → m ≤ n → nat_le m n ≡ true
up_to n m h = grind (arith, nat_tests)

up_to_le : (n m : ℕ) → nat_le m n ≡ true → m ≤ n
up_to_le n m h = grind (arith, nat_tests)

-- the number is another one
has_other : (wanted : ℕ) (m : Tree) → (number m.label ≡ wanted → ⊥) → has_number wanted m ≡ false
has_other wanted m h = elim (bool_cases (has_number wanted m)) [
  | inl e ↦ absurd (h (eqb-true (number m.label) wanted e))
  | inr e ↦ e
]

-- what is found below a place is found in its subtree
pub found_at : (search : Tree → Option (List ℕ)) (start : Place) (s : Tree) (answer : Option (List ℕ)) → subtree start ≡ Some s → search s ≡ answer → found_below search start ≡ option_map (below start) answer
found_at search start s answer hs e = ap (λ o. option_map (below start) (option_and_then search o)) hs ∙ ap (option_map (below start)) e

-- it is there
pub searching_found : (w : ℕ → ℕ) (s : Tree) (start here : Place) (wanted looks : ℕ) → subtree start ≡ Some s → (x : Searching w s start here wanted looks) → number x.node.label ≡ wanted → IsNumbered s → Some here ≡ found_below (with_number wanted) start
searching_found w s start here wanted looks hs x is num =
    let o = numbered_order s num in
    let on = (node_in_order o.0 x.done s x.node o.1 x.node_is).2 in
    let last : (p : List ℕ) (m : Tree) → at p x.node ≡ Some m → number m.label ≤ number x.node.label → p ≡ [] = only o.0 on in
    let there : with_number wanted s ≡ Some x.done = first_path_only (has_number wanted) s x.node x.done x.node_is (eq-eqb (number x.node.label) wanted is) (λ q m e t.
    let n = eqb-true (number m.label) wanted t in
    let f = x.narrowed o.0 o.1 q m e (omega arith) (omega arith) in
    f.1 ∙ ap (λ (p : List ℕ). x.done ++ p) (last f.0 m f.2 (omega arith)) ∙ append-nil x.done) in
    ap Some x.place_is ∙ sym (found_at (with_number wanted) start s (Some x.done) hs there)
  where
    only : (file : ℕ) → IsInOrder file x.node → (p : List ℕ) (m : Tree) → at p x.node ≡ Some m → number m.label ≤ number x.node.label → p ≡ []
    only file on [] m e l = refl
    only file on (j ∷ p) m e l = absurd (omega (arith, deeper file j p x.node m on e))

-- it is not there
pub searching_none : (w : ℕ → ℕ) (s : Tree) (start here : Place) (wanted looks : ℕ) → subtree start ≡ Some s → (x : Searching w s start here wanted looks) → number x.node.label ≢ wanted →
    (NumbersRise (trees x.node.children) → AreAbove (trees x.node.children) wanted 0) → IsNumbered s → None ≡ found_below (with_number wanted) start
searching_none w s start here wanted looks hs x ne later num =
    let o = numbered_order s num in
    let on = (node_in_order o.0 x.done s x.node o.1 x.node_is).2 in
    let absent : with_number wanted s ≡ None = first_path_none (has_number wanted) s (λ q m e. has_other wanted m (λ n.
    let f = x.narrowed o.0 o.1 q m e (omega (arith, x.most)) (omega arith) in
    let root = stop o.0 x.node wanted on (λ k c se. later (rise_of o.0 x.node on) k c (omega arith) se) f.0 m f.2 (omega arith) in
    let here : Some x.node ≡ Some m = ap (λ (p : List ℕ). at p x.node) (sym root) ∙ f.2 in
    let same : x.node ≡ m = cc in
    ne (ap (λ (t : Tree). number t.label) same ∙ n))) in
    sym (found_at (with_number wanted) start s None hs absent)

-- no number is below the start's
pub searching_below : (s : Tree) (start : Place) (wanted : ℕ) → subtree start ≡ Some s → wanted < number s.label → IsNumbered s → None ≡ found_below (with_number wanted) start
searching_below s start wanted hs l num =
    let o = numbered_order s num in
    let absent : with_number wanted s ≡ None = first_path_none (has_number wanted) s (λ q m e. has_other wanted m (λ n. omega (arith, (node_in_order o.0 q s m o.1 e).0))) in
    sym (found_at (with_number wanted) start s None hs absent)

-- the numbers that were read
pub searching_cost : (w : ℕ → ℕ) (s : Tree) (start here : Place) (wanted looks looks' : ℕ) (x : Searching w s start here wanted looks) → looks' ≤ looks + w (length (trees x.node.children)) → IsNumbered s → looks' ≤ look_bound w wanted s
searching_cost w s start here wanted looks looks' x h num =
    let o = numbered_order s num in
    elim (option_cases (floor_path wanted s)) [
      | inl e ↦
          let above : has_number_up_to wanted s ≡ false = no_floor wanted s e in
          let first : has_number_up_to wanted s ≡ true = up_to wanted (number s.label) (omega (arith, (node_in_order o.0 x.done s x.node o.1 x.node_is).0, x.most)) in
          let bad : true ≡ false = sym first ∙ above in
          absurd (cc)
      | inr e ↦
          let k = floor_largest wanted s num x.done x.node x.node_is (up_to wanted (number x.node.label) x.most) e.0 e.1 in
          let f = x.narrowed o.0 o.1 e.0 k.0 k.1 k.3 (up_to_le wanted (number k.0.label) k.2) in
          let same : weight_along w e.0 s ≡ weight_along w (x.done ++ f.0) s = ap (λ (p : List ℕ). weight_along w p s) f.1 in
          let some : looks' ≤ bound_along w s (Some e.0) = omega (arith, x.cost, weight_along-append w x.done f.0 s x.node x.node_is) in
          subst (λ p. looks' ≤ bound_along w s p) (sym e.1) some
    ]

-- the floor node is there
floor_found : (wanted : ℕ) (s : Tree) (q : List ℕ) → floor_path wanted s ≡ Some q → (m : Tree) × (at q s ≡ Some m) × (has_number_up_to wanted m ≡ true)
floor_found wanted s q e = is_there_value (has_number_up_to wanted) (at q s) (find_passes (λ path. is_there (has_number_up_to wanted) (at path s)) (reverse (paths s)) q e)

-- no number is at most the wanted one
no_floor_here : (s : Tree) (wanted : ℕ) → wanted < number s.label → IsNumbered s → floor_path wanted s ≡ None
no_floor_here s wanted l num =
    let o = numbered_order s num in
    elim (option_cases (floor_path wanted s)) [
      | inl e ↦ e
      | inr e ↦
          let k = floor_found wanted s e.0 e.1 in
          absurd (omega (arith, (node_in_order o.0 e.0 s k.0 o.1 k.1).0, up_to_le wanted (number k.0.label) k.2))
    ]

pub steps_below : (s t : Tree) (start : Place) (wanted looks : ℕ) → subtree start ≡ Some s → subtree start ≡ Some t → wanted < number s.label → IsNumbered t → IfSome (floor_path wanted t) (λ path. 1 + length path ≤ looks)
steps_below s t start wanted looks hs ht l num =
    let same = same_node s t start hs ht in
    subst (λ (o : Option (List ℕ)). IfSome o (λ path. 1 + length path ≤ looks)) (sym (no_floor_here t wanted (subst (λ (u : Tree). wanted < number u.label) same l) num)) tt

-- where the search ends at a node without such children, that is the floor node
pub steps_none : (w : ℕ → ℕ) (s : Tree) (start here : Place) (wanted looks looks' : ℕ) (x : Searching w s start here wanted looks) → (NumbersRise (trees x.node.children) → AreAbove (trees x.node.children) wanted 0) → looks ≤ looks' → IsNumbered s → IfSome (floor_path wanted s) (λ path. 1 + length path ≤ looks')
steps_none w s start here wanted looks looks' x later grows num =
    let o = numbered_order s num in
    let on = (node_in_order o.0 x.done s x.node o.1 x.node_is).2 in
    elim (option_cases (floor_path wanted s)) [
      | inl e ↦ subst (λ (p : Option (List ℕ)). IfSome p (λ path. 1 + length path ≤ looks')) (sym e) tt
      | inr e ↦
          let k = floor_largest wanted s num x.done x.node x.node_is (up_to wanted (number x.node.label) x.most) e.0 e.1 in
          let f = x.narrowed o.0 o.1 e.0 k.0 k.1 k.3 (up_to_le wanted (number k.0.label) k.2) in
          let root = stop o.0 x.node wanted on (λ n c se. later (rise_of o.0 x.node on) n c (omega arith) se) f.0 k.0 f.2 (up_to_le wanted (number k.0.label) k.2) in
          let is : e.0 ≡ x.done = f.1 ∙ (ap (λ (p : List ℕ). x.done ++ p) root ∙ append-nil x.done) in
          let few : 1 + length e.0 ≤ looks' = omega (arith, ap length is, x.least) in
          subst (λ (p : Option (List ℕ)). IfSome p (λ path. 1 + length path ≤ looks')) (sym e.1) few
    ]

-- the node of the place where the search stands
pub searching_here : (w : ℕ → ℕ) (s n : Tree) (start here : Place) (wanted looks : ℕ) → subtree start ≡ Some s → subtree here ≡ Some n → (x : Searching w s start here wanted looks) → x.node ≡ n
searching_here w s n start here wanted looks hs hn x =
    let both : Some x.node ≡ Some n = sym x.node_is ∙ sym (at-append start.path x.done start.root s hs) ∙ sym (ap subtree x.place_is) ∙ hn in
    cc

-- one turn of the search
pub next_turn : (w : ℕ → ℕ) (s n : Tree) (start here : Place) (wanted looks looks' i number_there : ℕ) (kids : List Tree) →
    subtree start ≡ Some s → subtree here ≡ Some n → kids ≡ trees n.children →
    Searching w s start here wanted looks →
    (number_there ≤ wanted) × ((c : Tree) × (slice_get kids i ≡ Some c) × (number c.label ≡ number_there)) →
    (NumbersRise kids → AreAbove kids wanted (i + 1)) →
    looks' ≤ looks + w (length kids) → looks' ≤ looks + length kids → looks < looks' →
    (y : Searching w s start (child_place here i) wanted looks') × (number y.node.label ≡ number_there)
unfolding searching_down
next_turn w s n start here wanted looks looks' i number_there kids hs hn hk x found later cost few least =
    let e : kids ≡ trees x.node.children = hk ∙ ap (λ (t : Tree). trees t.children) (sym (searching_here w s n start here wanted looks hs hn x)) in
    let c = found.1.0 in
    let sl : slice_get (trees x.node.children) i ≡ Some c = ap (λ (ks : List Tree). slice_get ks i) (sym e) ∙ found.1.1 in
    let l = subst (λ (ks : List Tree). NumbersRise ks → AreAbove ks wanted (i + 1)) e later in
    let a = subst (λ (ks : List Tree). looks' ≤ looks + w (length ks)) e cost in
    let b = subst (λ (ks : List Tree). looks' ≤ looks + length ks) e few in
    (searching_down w s start here wanted looks looks' i c x sl (omega (arith, found.1.2, found.0)) l a b least, found.1.2)

-- the node where the search stands
pub searching_node : (w : ℕ → ℕ) (s : Tree) (start here : Place) (wanted looks : ℕ) → subtree start ≡ Some s → (x : Searching w s start here wanted looks) → subtree here ≡ Some x.node
searching_node w s start here wanted looks hs x = ap subtree x.place_is ∙ at-append start.path x.done start.root s hs ∙ x.node_is

-- there is room for the looks at the children
pub searching_room : (w : ℕ → ℕ) (s n : Tree) (start here : Place) (wanted looks : ℕ) (kids : List Tree) →
    subtree start ≡ Some s → subtree here ≡ Some n → kids ≡ trees n.children → count s < 2 ^ 64 → Searching w s start here wanted looks → looks + length kids < 2 ^ 64
searching_room w s n start here wanted looks kids hs hn hk room x =
    let e = searching_here w s n start here wanted looks hs hn x in
    let a : count x.node ≡ count n = ap count e in
    omega (arith, ap length hk, count_children n, x.room)

-- how many nodes there are below a place
abbrev pub count_there : Option Tree → ℕ
count_there None = 0
count_there (Some t) = count t

-- each turn goes to a tree with fewer nodes
pub smaller_turn : (n c : Tree) (here next : Place) (i : ℕ) (kids : List Tree) → subtree here ≡ Some n → kids ≡ trees n.children → slice_get kids i ≡ Some c → next ≡ child_place here i →
    count_there (subtree next) < count_there (subtree here)
smaller_turn n c here next i kids hn hk sl e =
    let s : slice_get (trees n.children) i ≡ Some c = ap (λ (ks : List Tree). slice_get ks i) (sym hk) ∙ sl in
    let a : count_there (subtree next) ≡ count c = ap count_there (ap subtree e ∙ at-push here.path i here.root n c hn s) in
    let b : count_there (subtree here) ≡ count n = ap count_there hn in
    omega (arith, count_child n c i s, slice_get_within (trees n.children) i c s)

-- both look bounds, from that by binary digits
weights_less : (w v : ℕ → ℕ) → ((n : ℕ) → w n ≤ v n) → (f : List ℕ → ℕ) (ps : List (List ℕ)) → sum_by (λ p. w (f p)) ps ≤ sum_by (λ p. v (f p)) ps
weights_less w v h f [] = omega arith
weights_less w v h f (p ∷ ps) = omega (arith, sum_by-cons (λ q. w (f q)) p ps, sum_by-cons (λ q. v (f q)) p ps, h (f p), weights_less w v h f ps)

bound_less : (s : Tree) (o : Option (List ℕ)) → bound_along binary_digits s o ≤ bound_along each_child s o
bound_less s None = omega arith
bound_less s (Some path) = omega (arith, weights_less binary_digits each_child digits_most (λ p. child_count (at p s)) (prefixes path))

pub both_bounds : (s : Tree) (wanted looks : ℕ) → looks ≤ look_bound binary_digits wanted s → looks ≤ look_bound each_child wanted s
both_bounds s wanted looks h = omega (arith, bound_less s (floor_path wanted s))

-- the looks at the children of a node, once more
pub searching_looks : (s n : Tree) (start here : Place) (wanted looks looks' : ℕ) (kids : List Tree) → subtree start ≡ Some s → subtree here ≡ Some n → kids ≡ trees n.children → (x : Searching binary_digits s start here wanted looks) → looks' ≤ looks + binary_digits (length kids) → looks ≤ looks' → AreLooksFor wanted start looks'
unfolding searching_cost
searching_looks s n start here wanted looks looks' kids hs hn hk x cost grows = record {
  least = omega (arith, x.least);
  most = λ t ht num. both_bounds t wanted looks' (subst (λ (u : Tree). IsNumbered u → looks' ≤ look_bound binary_digits wanted u) (same_node s t start hs ht) bound num);
  halving = λ t ht num. subst (λ (u : Tree). IsNumbered u → looks' ≤ look_bound binary_digits wanted u) (same_node s t start hs ht) bound num;
}
  where
    bound : IsNumbered s → looks' ≤ look_bound binary_digits wanted s
    bound num =
        let e : kids ≡ trees x.node.children = hk ∙ ap (λ (t : Tree). trees t.children) (sym (searching_here binary_digits s n start here wanted looks hs hn x)) in
        searching_cost binary_digits s start here wanted looks looks' x (omega (arith, cost, ap (λ (ks : List Tree). binary_digits (length ks)) e)) num

pub below-nothing : (p : Place) → p ≡ below p []
below-nothing p = λ x. record { root = p.root; path = sym (append-nil p.path) x }

-- the search begins
pub searching_start : (w : ℕ → ℕ) (s : Tree) (start here : Place) (wanted looks : ℕ) → here ≡ start → looks ≡ 1 → number s.label < wanted → (x : Searching w s start here wanted looks) × (number x.node.label ≢ wanted)
unfolding searching_first
searching_start w s start here wanted looks e l h = (searching_first w s start here wanted looks e l (omega arith), λ same. omega arith)

-- the node of a search that is at a number
pub searching_hit : (w : ℕ → ℕ) (s : Tree) (start here : Place) (wanted looks : ℕ) → subtree start ≡ Some s → (x : Searching w s start here wanted looks) → number x.node.label ≡ wanted → HasNumberBelow wanted start here
searching_hit w s start here wanted looks hs x is = record {
  path = x.done;
  node = x.node;
  place_is = x.place_is;
  node_is = searching_node w s start here wanted looks hs x;
  number_is = is;
}
