-- The only change of an edit, and whether it goes on.
use Rattle.std.proofs.Common.{◌≡◌, ℕ, suc, zero, ◌+◌, ◌-◌, ◌<◌, ◌≤◌, List, [], ◌∷◌, ◌++◌, length, map, get_or, take, drop, reverse, refl, sym, ap, subst, ◌∙◌, arith, length-append, length-take, length-drop}
use Rattle.std.proofs.lemmas.List.{take-append-drop, reverse-reverse, reverse-append, length-reverse, map-append}
use Rattle.std.proofs.Math.Seq.{take-add}
use Rattle.typst_node.specs.Plain.{plain}
use Rattle.typst_node.proofs.Trimmed.{first_within, first_within_others, first_alike, first_longest, first_more, drop_slice}
use Rattle.std.specs.Prelude.{slice_range}
use Rattle.typst_node.specs.Tree.{Tree, IsInner, trees, forest}
use Rattle.typst_node.specs.Paths.{no_tree}
use Rattle.typst_node.specs.View.{tree_of, content, below, shown_warnings, warning_text}
use Rattle.typst_node.specs.ChangedChildren.{common_first, common_last, kept_first, kept_last}
use Rattle.typst_node.specs.Window.{Site, site_of}
use Rattle.typst_node.specs.Narrower.{IsOnlyChange}
use Rattle.typst_node.specs.Narrowing.{IsOnlyPair}
use Rattle.typst_node.specs.EditBelow.{child_of}
use Rattle.typst_node.specs.declared.node.Warning.{Warning}
use Rattle.typst_node.specs.declared.node.Node.{Node}
use Rattle.typst_node.specs.declared.node.Node.TheVariants.{Short, Long, Leaf, Inner, Error}
use Rattle.typst_node.specs.declared.node.SyntaxNode.TheInside.{Inside}
use Rattle.typst_node.proofs.Trees.{drop_next}
use Rattle.typst_node.proofs.Settled.{slice_one}
use Rattle.typst_node.proofs.Outside.{get_drop, p_old, p_new, e_old, e_new}
use Rattle.typst_node.proofs.SamePlain.{one_alike}

-- after the longest common beginning nothing is alike at the beginning
first_after : (ts us : List Tree) → common_first (drop (common_first ts us) ts) (drop (common_first ts us) us) ≡ 0
first_after ts us =
    let p = common_first ts us in
    let few = first_within ts us in
    let few_others = first_within_others ts us in
    let n = common_first (drop p ts) (drop p us) in
    let more = first_within (drop p ts) (drop p us) in
    let more_others = first_within_others (drop p ts) (drop p us) in
    let split : (vs : List Tree) → map plain (take (p + n) vs) ≡ map plain (take p vs) ++ map plain (take n (drop p vs)) = λ vs. ap (map plain) (take-add p n vs) ∙ map-append plain (take p vs) (take n (drop p vs)) in
    let same : map plain (take (p + n) ts) ≡ map plain (take (p + n) us) = split ts ∙ ((λ i. first_alike ts us i ++ first_alike (drop p ts) (drop p us) i) ∙ sym (split us)) in
    let longest : p + n ≤ p = first_longest ts us (p + n) (omega (arith, few, more, length-drop p ts)) (omega (arith, few_others, more_others, length-drop p us)) same in
    omega (arith, longest)

-- the child at the one index is the only one that changes, and the node at the other index comes in its place
pub record IsPairAt (s : Site) (ts others : List Tree) (i k : ℕ) : Type 0 where
  pub child : i ≡ length s.before
  pub inside : i < length ts
  pub other : k < length others
  pub only : IsOnlyChange s ts (child_of ts i) (child_of others k)

-- how many children and nodes are left between those that stay
module _ (from to : ℕ) (others : List Tree) (t : Tree) (order : from ≤ to) (inside : to ≤ length (trees t.children)) where
  abbrev kids : List Tree
  kids = trees t.children

  abbrev p : ℕ
  p = kept_first from to others kids

  abbrev e : ℕ
  e = kept_last from to others kids

  pub none_after : common_first (slice_range kids (from + p) to) (drop p others) ≡ 0
  none_after =
      ap (λ us. common_first us (drop p others)) (sym (drop_slice kids from to p (omega (arith, p_old from to others kids order inside))))
      ∙ first_after (slice_range kids from to) others

  pub is_pair : to - from - p - e ≡ 1 → length others - p - e ≡ 1 → IsPairAt (site_of from to others t) kids others (from + p) p
  is_pair one other =
      let one_old : to - e ≡ from + p + 1 = omega (arith, one) in
      let one_new : length others - e ≡ p + 1 = omega (arith, other) in
      let here : from + p < length kids = omega (arith, one_old, inside) in
      let there : p < length others = omega (arith, one_new) in
      record {
        child = omega (arith, length-take (from + p) kids);
        inside = here;
        other = there;
        only = record {
          old = sym (take-append-drop (from + p) kids) ∙ ap (λ us. take (from + p) kids ++ us) (drop_next kids (from + p) no_tree here ∙ ap (λ n. get_or kids (from + p) no_tree ∷ drop n kids) (sym one_old));
          new = ap (slice_range others p) one_new ∙ sym (slice_one others p no_tree there);
        };
      }

  pub only_one : (c u : Tree) → IsOnlyChange (site_of from to others t) kids c u → (to - from - p - e ≡ 1) × (length others - p - e ≡ 1)
  only_one c u only =
      let few = p_old from to others kids order inside in
      let few_others = p_new from to others kids order inside in
      let last = e_old from to others kids order inside in
      let last_others = e_new from to others kids order inside in
      let old : length kids ≡ length (take (from + p) kids) + (1 + length (drop (to - e) kids)) = omega (arith, ap length only.old, length-append (take (from + p) kids) (c ∷ drop (to - e) kids)) in (
        omega (arith, old, few, last, inside, length-take (from + p) kids, length-drop (to - e) kids),
        omega (arith, ap length only.new, few_others, last_others, length-take (length others - e - p) (drop p others), length-drop p others),
      )

-- ---- the only pair of two lists that changes
-- a list without its first items
drop_is : (ts : List Tree) (i : ℕ) → i < length ts → drop i ts ≡ child_of ts i ∷ drop (suc i) ts
drop_is [] i h = absurd (omega arith)
drop_is (t ∷ ts) zero h = refl
drop_is (t ∷ ts) (suc i) h = drop_is ts i (omega arith)

pub taken : (n i : ℕ) (ts : List Tree) → i < n → child_of (take n ts) i ≡ child_of ts i
taken zero i ts h = absurd (omega arith)
taken (suc n) i [] h = refl
taken (suc n) zero (t ∷ ts) h = refl
taken (suc n) (suc i) (t ∷ ts) h = taken n i ts (omega arith)

last_is : (ts : List Tree) (t : Tree) → child_of (ts ++ t ∷ []) (length ts) ≡ t
last_is [] t = refl
last_is (s ∷ ts) t = last_is ts t

front_is : (ts us : List Tree) → take (length ts) (ts ++ us) ≡ ts
front_is [] us = refl
front_is (t ∷ ts) us = ap (λ vs. t ∷ vs) (front_is ts us)

turned : {X : Type 0} (x : X) (xs : List X) → reverse (x ∷ xs) ≡ reverse xs ++ x ∷ []
turned x xs = reverse-append (x ∷ []) xs

map_turned : (ts : List Tree) → map plain (reverse ts) ≡ reverse (map plain ts)
map_turned [] = refl
map_turned (t ∷ ts) = ap (map plain) (turned t ts) ∙ (map-append plain (reverse ts) (t ∷ []) ∙ (ap (λ us. us ++ plain t ∷ []) (map_turned ts) ∙ sym (turned (plain t) (map plain ts))))

-- two lists that differ in their first items alone
module _ (c u : Tree) (zs ws : List Tree) (many : length zs ≡ length ws) where
  long : (xs : List Tree) → length (reverse xs) ≡ length xs
  long xs = length-reverse xs

  front_of : (x : Tree) (xs : List Tree) → take (length xs) (reverse (x ∷ xs)) ≡ reverse xs
  front_of x xs = ap (take (length xs)) (turned x xs) ∙ (ap (λ n. take n (reverse xs ++ x ∷ [])) (sym (long xs)) ∙ front_is (reverse xs) (x ∷ []))

  last_few : map plain zs ≡ map plain ws → ¬ (plain c ≡ plain u) → common_last (c ∷ zs) (u ∷ ws) ≡ length zs
  last_few same differ =
      let p = common_last (c ∷ zs) (u ∷ ws) in
      let least : length zs ≤ p =
      first_longest (reverse (c ∷ zs)) (reverse (u ∷ ws)) (length zs) (omega (arith, long (c ∷ zs))) (omega (arith, long (u ∷ ws), many))
      (ap (map plain) (front_of c zs) ∙ (map_turned zs ∙ (ap reverse same ∙ (sym (map_turned ws) ∙ ap (map plain) (sym (ap (λ n. take n (reverse (u ∷ ws))) many ∙ front_of u ws)))))) in
      let most : length zs < p → ⊥ =
      λ more.
      let both = one_alike (take p (reverse (c ∷ zs))) (take p (reverse (u ∷ ws))) (length zs) (first_alike (reverse (c ∷ zs)) (reverse (u ∷ ws))) in
      let old : child_of (take p (reverse (c ∷ zs))) (length zs) ≡ c =
      taken p (length zs) (reverse (c ∷ zs)) more ∙ (ap (λ ts. child_of ts (length zs)) (turned c zs) ∙ (ap (child_of (reverse zs ++ c ∷ [])) (sym (long zs)) ∙ last_is (reverse zs) c)) in
      let new : child_of (take p (reverse (u ∷ ws))) (length zs) ≡ u =
      taken p (length zs) (reverse (u ∷ ws)) more ∙ (ap (λ ts. child_of ts (length zs)) (turned u ws) ∙ (ap (child_of (reverse ws ++ u ∷ [])) (many ∙ sym (long ws)) ∙ last_is (reverse ws) u)) in
      differ (ap plain (sym old) ∙ (both ∙ ap plain new)) in
      omega (arith, least, most)

  rest_alike : common_last (c ∷ zs) (u ∷ ws) ≡ length zs → map plain zs ≡ map plain ws
  rest_alike is =
      let all = first_alike (reverse (c ∷ zs)) (reverse (u ∷ ws)) in
      let here : map plain (reverse zs) ≡ map plain (reverse ws) =
      ap (map plain) (sym (front_of c zs) ∙ ap (λ n. take n (reverse (c ∷ zs))) (sym is)) ∙ (all ∙ ap (map plain) (ap (λ n. take n (reverse (u ∷ ws))) (is ∙ many) ∙ front_of u ws)) in
      sym (reverse-reverse (map plain zs)) ∙ (ap reverse (sym (map_turned zs) ∙ (here ∙ map_turned ws)) ∙ reverse-reverse (map plain ws))

-- the only pair that changes is the only change of an edit
module _ (from to : ℕ) (others : List Tree) (t : Tree) (order : from ≤ to) (inside : to ≤ length (trees t.children)) where
  abbrev xs : List Tree
  xs = slice_range (trees t.children) from to

  xs_long : length xs ≡ to - from
  xs_long = omega (arith, length-take (to - from) (drop from (trees t.children)), length-drop from (trees t.children), inside)

  pub at_slice : (i : ℕ) → i < length xs → child_of xs i ≡ child_of (trees t.children) (from + i)
  at_slice i h = taken (to - from) i (drop from (trees t.children)) (omega (arith, xs_long)) ∙ get_drop from i (trees t.children) no_tree

  drop_long : (i : ℕ) (ts us : List Tree) → length ts ≡ length us → length (drop i ts) ≡ length (drop i us)
  drop_long i ts us h = omega (arith, length-drop i ts, length-drop i us)

  first_is : (i : ℕ) → IsOnlyPair xs others i → common_first xs others ≡ i
  first_is i pair =
      let p = common_first xs others in
      let least : i ≤ p = first_longest xs others i (omega (arith, pair.inside)) (omega (arith, pair.inside, pair.many)) pair.before in
      let most : i < p → ⊥ =
      λ more.
      pair.differ
      (ap plain (sym (taken p i xs more)) ∙ (one_alike (take p xs) (take p others) i (first_alike xs others) ∙ ap plain (taken p i others more))) in
      omega (arith, least, most)

  last_is_rest : (i : ℕ) → IsOnlyPair xs others i → common_last (drop i xs) (drop i others) ≡ length (drop (suc i) xs)
  last_is_rest i pair =
      (λ k. common_last (drop_is xs i pair.inside k) (drop_is others i (omega (arith, pair.inside, pair.many)) k))
      ∙ last_few (child_of xs i) (child_of others i) (drop (suc i) xs) (drop (suc i) others) (drop_long (suc i) xs others pair.many) pair.behind pair.differ

  pub pair_changes : (i : ℕ) → IsOnlyPair xs others i → IsPairAt (site_of from to others t) (trees t.children) others (from + i) i
  pair_changes i pair =
      let p : kept_first from to others (trees t.children) ≡ i = first_is i pair in
      let dropped : slice_range (trees t.children) (from + i) to ≡ drop i xs = sym (drop_slice (trees t.children) from to i (omega (arith, pair.inside, xs_long))) in
      let e : kept_last from to others (trees t.children) ≡ length xs - suc i =
      (λ k. common_last (slice_range (trees t.children) (from + p k) to) (drop (p k) others)) ∙ (ap (λ ts. common_last ts (drop i others)) dropped ∙ (last_is_rest i pair ∙ length-drop (suc i) xs)) in
      let one : to - from - kept_first from to others (trees t.children) - kept_last from to others (trees t.children) ≡ 1 = omega (arith, p, e, xs_long, pair.inside) in
      let other : length others - kept_first from to others (trees t.children) - kept_last from to others (trees t.children) ≡ 1 = omega (arith, p, e, pair.many, pair.inside) in
      subst (λ n. IsPairAt (site_of from to others t) (trees t.children) others (from + n) n) p (is_pair from to others t order inside one other)

  -- and the other way round
  pub change_is_pair : (c u : Tree) → IsOnlyChange (site_of from to others t) (trees t.children) c u → IsOnlyPair xs others (kept_first from to others (trees t.children))
  change_is_pair c u only =
      let p = kept_first from to others (trees t.children) in
      let e = kept_last from to others (trees t.children) in
      let ones = only_one from to others t order inside c u only in
      let many : length xs ≡ length others = omega (arith, ones.0, ones.1, xs_long) in
      let here : p < length xs = omega (arith, ones.0, xs_long) in
      let there : p < length others = omega (arith, here, many) in
      let dropped : slice_range (trees t.children) (from + p) to ≡ drop p xs = sym (drop_slice (trees t.children) from to p (omega (arith, here, xs_long))) in
      let rest_many : length (drop (suc p) xs) ≡ length (drop (suc p) others) = drop_long (suc p) xs others many in
      let last : common_last (child_of xs p ∷ drop (suc p) xs) (child_of others p ∷ drop (suc p) others) ≡ length (drop (suc p) xs) =
      (λ k. common_last (sym (dropped ∙ drop_is xs p here) k) (sym (drop_is others p there) k))
      ∙ omega (arith, ones.0, xs_long, length-drop (suc p) xs) in
      let none = none_after from to others t order inside in
      record {
        many = many;
        inside = here;
        before = first_alike xs others;
        behind = rest_alike (child_of xs p) (child_of others p) (drop (suc p) xs) (drop (suc p) others) rest_many last;
        differ = λ same.
            let more = first_more (child_of xs p) (child_of others p) (drop (suc p) xs) (drop (suc p) others) same in
            let zero_too : common_first (child_of xs p ∷ drop (suc p) xs) (child_of others p ∷ drop (suc p) others) ≡ 0 =
            (λ k. common_first (sym (dropped ∙ drop_is xs p here) k) (sym (drop_is others p there) k)) ∙ none in
            omega (arith, more, zero_too);
      }

-- a node that isn't an inner node has no children
leaf_below : (n : Node) → ¬ (IsInner (content n)) → below n ≡ []
leaf_below (Short kind len bytes) h = refl
leaf_below (Long kind b) h = refl
leaf_below (Leaf kind b) h = refl
leaf_below (Inner kind len b) h = absurd (h tt)
leaf_below (Error b) h = refl

pub childless : (a : Inside) (t : Tree) → tree_of a ≡ t → ¬ (IsInner t.label.content) → trees t.children ≡ []
childless a t view leaf =
    let none : below a.node ≡ [] = leaf_below a.node (λ inner. leaf (subst (λ (u : Tree). IsInner u.label.content) view inner)) in
    ap (λ (u : Tree). trees u.children) (sym view) ∙ ap (λ ts. trees (forest ts)) none

-- the same warnings
pub shown_same : (ws vs : List Warning) → map warning_text ws ≡ map warning_text vs → shown_warnings ws ≡ shown_warnings vs
shown_same ws vs same = ap reverse same

pub same_shown : (ws vs : List Warning) → shown_warnings ws ≡ shown_warnings vs → map warning_text ws ≡ map warning_text vs
same_shown ws vs same = sym (reverse-reverse (map warning_text ws)) ∙ (ap reverse same ∙ reverse-reverse (map warning_text vs))
