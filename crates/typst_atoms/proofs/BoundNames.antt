-- What a pattern binds is told by the rule for patterns: as many levels as there are nodes are enough.
use Rattle.std.proofs.Common.{◌≡◌, ◌≤◌, ◌<◌, ℕ, zero, suc, Bool, true, false, cond, List, [], ◌∷◌, ◌++◌, map, filter, Option, Some, None, refl, sym, ap, ◌∙◌, arith, append_assoc}
use Rattle.std.proofs.lemmas.List.{map-append}
use Rattle.std.specs.List.{flat_map, last_or}
use Rattle.typst_atoms.specs.Bindings.{names_of_item, names_of_items, names_of_pattern, names_within, count_in, names_bound}
use Rattle.typst_atoms.specs.Classes.{is_destructuring_item_kind, is_pattern_kind}
use Rattle.typst_node.specs.Children.{all_in, all_children, children_in, first_child, first_of, last_child}
use Rattle.typst_atoms.specs.Kinds.{is_kind}
use Rattle.typst_base.specs.contracts.kind.SyntaxKind.{the_type}
use Rattle.typst_base.specs.declared.kind.SyntaxKind.{SyntaxKind}
use Rattle.typst_base.specs.declared.kind.SyntaxKind.TheVariants as kinds
use Rattle.typst_node.proofs.Trees.{count_of_all-cons, count_of_trees}
use Rattle.typst_node.specs.Count.{count, count_of_all}
use Rattle.typst_node.specs.Tree.{Tree}
use Rattle.typst_node.specs.Views.{Class, node_kind}
use denote.Enum.Bare.{false_same}

-- nodes that are picked from a list have no more nodes below them than the list's
count_filter : (p : Tree → Bool) (ts : List Tree) → count_of_all (filter p ts) ≤ count_of_all ts
count_filter p [] = omega arith
count_filter p (t ∷ ts) =
    let h = count_filter p ts in
    let all = count_of_all-cons t ts in
    let both = count_of_all-cons t (filter p ts) in
    elim (p t) as (λ v. count_of_all (cond v (t ∷ filter p ts) (filter p ts)) ≤ count_of_all (t ∷ ts)) [ true ↦ omega arith | false ↦ omega arith ]

count_first : (ts : List Tree) → count_in (first_of ts) ≤ count_of_all ts
count_first [] = omega arith
count_first (t ∷ ts) = omega (arith, count_of_all-cons t ts)

count_last : (o : Option Tree) (ts : List Tree) (n : ℕ) → count_in o ≤ n → count_of_all ts ≤ n → count_in (last_or o ts) ≤ n
count_last o [] n h k = h
count_last o (t ∷ ts) n h k = let e = count_of_all-cons t ts in count_last (Some t) ts n (omega arith) (omega arith)

pub count_children : (t : Tree) → suc (count_of_all (children_in (Some t))) ≡ count t
count_children t = ap suc (count_of_trees t.children)

pub count_all_children : (c : Class) (t : Tree) → count_of_all (all_children c (Some t)) < count t
count_all_children c t = omega (arith, count_children t, count_filter (λ s. c (node_kind s)) (children_in (Some t)))

pub count_first_child : (c : Class) (t : Tree) → count_in (first_child c (Some t)) < count t
count_first_child c t = omega (arith, count_all_children c t, count_first (all_children c (Some t)))

pub count_last_child : (c : Class) (t : Tree) → count_in (last_child c (Some t)) < count t
count_last_child c t =
    let h = count_all_children c t in
    let k = count_last None (all_children c (Some t)) (count_of_all (all_children c (Some t))) (omega arith) (omega arith) in
    omega arith

-- two readings of the patterns with at most n nodes that agree
module _ (f g : Option Tree → List Tree) (n : ℕ) (same : (o : Option Tree) → count_in o ≤ n → f o ≡ g o) where
  item_same : (t : Tree) → count t ≤ n → names_of_item f t ≡ names_of_item g t
  item_same t h =
      let inner : f (last_child is_pattern_kind (Some t)) ≡ g (last_child is_pattern_kind (Some t)) = same _ (omega (arith, count_last_child is_pattern_kind t)) in
      let own : f (Some t) ≡ g (Some t) = same (Some t) h in
      cc

  items_same : (ts : List Tree) → count_of_all ts ≤ n → flat_map (names_of_item f) ts ≡ flat_map (names_of_item g) ts
  items_same [] h = refl
  items_same (t ∷ ts) h =
      let e = count_of_all-cons t ts in
      let here = item_same t (omega arith) in
      let there = items_same ts (omega arith) in
      cc

  pub pattern_same : (o : Option Tree) → count_in o ≤ suc n → names_of_pattern f o ≡ names_of_pattern g o
  pattern_same None h = refl
  pattern_same (Some t) h =
      let group : f (first_child is_pattern_kind (Some t)) ≡ g (first_child is_pattern_kind (Some t)) = same _ (omega (arith, count_first_child is_pattern_kind t)) in
      let items = items_same (all_children is_destructuring_item_kind (Some t)) (omega (arith, count_all_children is_destructuring_item_kind t)) in
      cc

within_none : (d : ℕ) → names_within d None ≡ []
within_none zero = refl
within_none (suc d) = refl

names_same : (n d e : ℕ) (o : Option Tree) → n ≤ d → n ≤ e → count_in o ≤ n → names_within d o ≡ names_within e o
names_same n d e None i j h = within_none d ∙ sym (within_none e)
names_same zero d e (Some t) i j h = absurd (omega arith)
names_same (suc n) zero e (Some t) i j h = absurd (omega arith)
names_same (suc n) (suc d) zero (Some t) i j h = absurd (omega arith)
names_same (suc n) (suc d) (suc e) (Some t) i j h =
    pattern_same (names_within d) (names_within e) n (λ o k. names_same n d e o (omega arith) (omega arith) k) (Some t) h

-- the rule
pub names_rule : (o : Option Tree) → names_bound o ≡ names_of_pattern names_bound o
unfolding names_bound
names_rule None = refl
names_rule (Some t) =
    let below : ℕ = count_of_all (children_in (Some t)) in
    ap (λ d. names_within d (Some t)) (sym (count_children t))
    ∙ pattern_same (names_within below) names_bound below (λ o h. names_same (count_in o) below (count_in o) o h (omega arith) (omega arith)) (Some t) (omega (arith, count_children t))

-- what it says of each kind
pub names_of_none : names_bound None ≡ []
names_of_none = names_rule None

pub names_of_ident : (t : Tree) → node_kind t ≡ kinds.Ident → names_bound (Some t) ≡ t ∷ []
names_of_ident t e = names_rule (Some t) ∙ rw e refl

pub names_of_group : (t : Tree) → node_kind t ≡ kinds.Parenthesized → names_bound (Some t) ≡ names_bound (first_child is_pattern_kind (Some t))
names_of_group t e = names_rule (Some t) ∙ rw e refl

pub names_of_parts : (t : Tree) → node_kind t ≡ kinds.Destructuring → names_bound (Some t) ≡ names_of_items names_bound (Some t)
names_of_parts t e = names_rule (Some t) ∙ rw e refl

pub names_of_other : (t : Tree) → is_kind kinds.Ident (node_kind t) ≡ false → is_kind kinds.Parenthesized (node_kind t) ≡ false → is_kind kinds.Destructuring (node_kind t) ≡ false → names_bound (Some t) ≡ []
names_of_other t a b c = names_rule (Some t) ∙ rw (a, b, c) refl

pub other_kind : (c : Class) (j k : SyntaxKind) → c j ≡ true → c k ≡ false → is_kind j k ≡ false
other_kind c j k inside outside = false_same the_type tt k j (λ p. let e : c k ≡ c j = ap c p in cc)

-- a node that is no item binds nothing
no_item : (t : Tree) → is_destructuring_item_kind (node_kind t) ≡ false → names_of_item names_bound t ≡ []
no_item t h =
    let named = other_kind is_destructuring_item_kind kinds.Named (node_kind t) refl h in
    let spread = other_kind is_destructuring_item_kind kinds.Spread (node_kind t) refl h in
    rw (named, spread)
    (names_of_other t
    (other_kind is_destructuring_item_kind kinds.Ident (node_kind t) refl h)
    (other_kind is_destructuring_item_kind kinds.Parenthesized (node_kind t) refl h)
    (other_kind is_destructuring_item_kind kinds.Destructuring (node_kind t) refl h))

-- the names of items, one node after the other
pub items_step : (t : Tree) (ts : List Tree) → flat_map (names_of_item names_bound) (all_in is_destructuring_item_kind (t ∷ ts)) ≡ names_of_item names_bound t ++ flat_map (names_of_item names_bound) (all_in is_destructuring_item_kind ts)
items_step t ts =
    let none = no_item t in
    let P : Bool → Type 0 = λ v. (v ≡ false → names_of_item names_bound t ≡ []) → flat_map (names_of_item names_bound) (cond v (t ∷ all_in is_destructuring_item_kind ts) (all_in is_destructuring_item_kind ts)) ≡ names_of_item names_bound t ++ flat_map (names_of_item names_bound) (all_in is_destructuring_item_kind ts) in
    (elim (is_destructuring_item_kind (node_kind t)) as P [ true ↦ λ h. refl | false ↦ λ h. sym (ap (λ ns. ns ++ flat_map (names_of_item names_bound) (all_in is_destructuring_item_kind ts)) (h refl)) ]) none

-- the same with the names that come before them
pub items_step_behind : (A : List (Option Tree)) (ts us : List Tree) (t : Tree) (added all : List (Option Tree)) → ts ≡ t ∷ us → added ≡ A ++ map Some (names_of_item names_bound t)
    → A ++ map Some (flat_map (names_of_item names_bound) (all_in is_destructuring_item_kind ts)) ≡ all
    → added ++ map Some (flat_map (names_of_item names_bound) (all_in is_destructuring_item_kind us)) ≡ all
items_step_behind A ts us t added all e f h =
    let items = λ (xs : List Tree). flat_map (names_of_item names_bound) (all_in is_destructuring_item_kind xs) in
    ap (λ (xs : List (Option Tree)). xs ++ map Some (items us)) f
    ∙ append_assoc A (map Some (names_of_item names_bound t)) (map Some (items us))
    ∙ ap (λ (xs : List (Option Tree)). A ++ xs) (sym (map-append (λ (x : Tree). Some x) (names_of_item names_bound t) (items us)))
    ∙ ap (λ (xs : List Tree). A ++ map Some xs) (sym (items_step t us))
    ∙ ap (λ (xs : List Tree). A ++ map Some (items xs)) (sym e)
    ∙ h

pub names_otherwise : (t : Tree) (k : SyntaxKind) → k ≡ node_kind t → (k ≡ kinds.Ident → ⊥) → (k ≡ kinds.Parenthesized → ⊥) → (k ≡ kinds.Destructuring → ⊥) → names_bound (Some t) ≡ []
names_otherwise t k e a b c =
    names_of_other t
    (false_same the_type tt (node_kind t) kinds.Ident (λ p. a (e ∙ p)))
    (false_same the_type tt (node_kind t) kinds.Parenthesized (λ p. b (e ∙ p)))
    (false_same the_type tt (node_kind t) kinds.Destructuring (λ p. c (e ∙ p)))
