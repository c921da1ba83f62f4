-- What is outside of the window keeps its label, said over paths.
use Rattle.std.proofs.Common.{◌≡◌, ℕ, suc, zero, ◌+◌, ◌-◌, ◌<◌, ◌≤◌, Bool, true, false, ◌==◌, nat_lt, List, [], ◌∷◌, length, map, set, get_or, take, drop, min, refl, sym, ap, subst, ◌∙◌, arith, length-take, length-drop, eq-eqb, reverse}
use Rattle.std.proofs.lemmas.List.{get_or-set_same, get_or-set_other, take-take, drop-drop, length-map, length-set, length-reverse}
use Rattle.std.proofs.lemmas.Bool.{eqb-true, ltb-true, lt-ltb}
use Rattle.std.specs.Prelude.{if◌then◌else◌, slice_range}
use Rattle.std.specs.List.{splice}
use Rattle.typst_node.specs.Tree.{Tree, forest, trees}
use Rattle.typst_node.specs.Plain.{plain}
use Rattle.typst_node.specs.Paths.{no_tree, IsPath, tree_at, with_children}
use Rattle.typst_node.specs.Outside.{IsInWindow, old_index, old_place, KeepsOutside}
use Rattle.typst_node.proofs.Trees.{trees_of_forest}
use Rattle.typst_node.specs.Labels.{number, bound}
use Rattle.typst_node.specs.PlainEdit.{edited}
use Rattle.typst_node.specs.ChangedChildren.{kept_first, kept_last}
use Rattle.typst_node.specs.Window.{width, site_among, site_of}
use Rattle.typst_node.specs.Renumbering.{IsRenumbering}
use Rattle.typst_node.specs.declared.node.replace.Renumbered.{Renumbered}
use Rattle.typst_node.proofs.Settled.{get_take, length_splice}
use Rattle.typst_node.proofs.Opens.{drop_min}
use Rattle.typst_node.proofs.Trimmed.{first_within, first_within_others}
use Rattle.typst_node.proofs.EditStep.{kids_plain}

suc_plus : (n j : ℕ) → suc n + j ≡ suc (n + j)
suc_plus n j = omega arith

zero_plus : (j : ℕ) → 0 + j ≡ j
zero_plus j = omega arith

pub get_drop : {X : Type 0} (n j : ℕ) (xs : List X) (d : X) → get_or (drop n xs) j d ≡ get_or xs (n + j) d
get_drop zero j xs d = ap (λ k. get_or xs k d) (sym (zero_plus j))
get_drop (suc n) j [] d = refl
get_drop (suc n) j (x ∷ xs) d = get_drop n j xs d ∙ ap (λ k. get_or (x ∷ xs) k d) (sym (suc_plus n j))

pub not_below : (a b : ℕ) → nat_lt a b ≡ false → b ≤ a
not_below a b e = let never : a < b → ⊥ = λ h. let yes = lt-ltb a b h in cc in omega (arith, never)

pub not_equal : (i j : ℕ) → (i == j) ≡ false → ¬ (i ≡ j)
not_equal i j e h = let t = eq-eqb i j h in cc

-- a child that is outside of the window, of the new children ks and of the old ones ts
kept_index : (ks ts : List Tree) (from to back : ℕ) → take from ks ≡ take from ts → drop to ks ≡ drop back ts → back + length ks ≡ to + length ts
    → (j : ℕ) → j < length ks → ¬ ((from ≤ j) × (j < to)) → (b : Bool) → nat_lt j to ≡ b
    → ((if b then j else j + length ts - length ks) < length ts) × (get_or ks j no_tree ≡ get_or ts (if b then j else j + length ts - length ks) no_tree)
kept_index ks ts from to back front rest many j h n true e =
    let low : j < to = ltb-true j to e in
    let below : j < from = let never : from ≤ j → ⊥ = λ g. n (g, low) in omega (arith, never) in
    let few : length (take from ks) ≡ length (take from ts) = ap length front in (
      omega (arith, few, length-take from ks, length-take from ts),
      sym (get_take j from ks no_tree below) ∙ (ap (λ us. get_or us j no_tree) front ∙ get_take j from ts no_tree below),
    )
kept_index ks ts from to back front rest many j h n false e =
    let high : to ≤ j = not_below j to e in
    let here : to + (j - to) ≡ j = omega arith in
    let there : back + (j - to) ≡ j + length ts - length ks = omega arith in (
      omega arith,
      ap (λ k. get_or ks k no_tree) (sym here) ∙ (sym (get_drop to (j - to) ks no_tree) ∙ (ap (λ us. get_or us (j - to) no_tree) rest ∙ (get_drop back (j - to) ts no_tree ∙ ap (λ k. get_or ts k no_tree) there))),
    )

-- what is kept at a place of the old tree
abbrev IsKeptAs : List ℕ → Tree → List ℕ → Tree → Type 0
IsKeptAs q u p t = IsPath p t × ((tree_at q u).label ≡ (tree_at p t).label)

keeps_below : (i : ℕ) (p : List ℕ) (j : ℕ) (q : List ℕ) (ks : List Tree) (t : Tree) (from to old new : ℕ) → i < length (trees t.children) → IsPath (j ∷ q) (with_children (i ∷ p) ks t) → ¬ (IsInWindow (i ∷ p) from to (j ∷ q))
    → (IsPath q (with_children p ks (get_or (trees t.children) i no_tree)) → ¬ (IsInWindow p from to q) → IsKeptAs q (with_children p ks (get_or (trees t.children) i no_tree)) (old_place p to old new q) (get_or (trees t.children) i no_tree))
    → (b : Bool) → (i == j) ≡ b → IsKeptAs (j ∷ q) (with_children (i ∷ p) ks t) (j ∷ (if b then old_place p to old new q else q)) t
keeps_below i p j q ks t from to old new h path n below true e =
    let same : i ≡ j = eqb-true i j e in
    let kids = trees t.children in
    let child = with_children p ks (get_or kids i no_tree) in
    let news = set kids i child in
    let at : get_or (trees (forest news)) j no_tree ≡ child = ap (λ ts. get_or ts j no_tree) (trees_of_forest news) ∙ (ap (λ k. get_or news k no_tree) (sym same) ∙ get_or-set_same kids i child no_tree h) in
    let kept = below (subst (IsPath q) at path.1) (λ inside. n (same, inside)) in
    let old_child : get_or kids i no_tree ≡ get_or kids j no_tree = ap (λ k. get_or kids k no_tree) same in (
      (omega arith, subst (IsPath (old_place p to old new q)) old_child kept.0),
      ap (λ (u : Tree). (tree_at q u).label) at ∙ (kept.1 ∙ ap (λ (u : Tree). (tree_at (old_place p to old new q) u).label) old_child),
    )
keeps_below i p j q ks t from to old new h path n below false e =
    let kids = trees t.children in
    let child = with_children p ks (get_or kids i no_tree) in
    let news = set kids i child in
    let differ : ¬ (j ≡ i) = λ s. not_equal i j e (sym s) in
    let at : get_or (trees (forest news)) j no_tree ≡ get_or kids j no_tree = ap (λ ts. get_or ts j no_tree) (trees_of_forest news) ∙ get_or-set_other kids i j child no_tree differ in
    let many : length (trees (forest news)) ≡ length kids = ap length (trees_of_forest news) ∙ length-set kids i child in (
      (omega (arith, many, path.0), subst (IsPath q) at path.1),
      ap (λ (u : Tree). (tree_at q u).label) at,
    )

keeps : (p q : List ℕ) (ks : List Tree) (t : Tree) (from to back : ℕ) → IsPath p t → take from ks ≡ take from (trees (tree_at p t).children) → drop to ks ≡ drop back (trees (tree_at p t).children)
    → back + length ks ≡ to + length (trees (tree_at p t).children) → IsPath q (with_children p ks t) → ¬ (IsInWindow p from to q)
    → IsKeptAs q (with_children p ks t) (old_place p to (length (trees (tree_at p t).children)) (length ks) q) t
keeps [] [] ks t from to back h front rest many path n = (tt, refl)
keeps (i ∷ p) [] ks t from to back h front rest many path n = (tt, refl)
keeps [] (j ∷ q) ks t from to back h front rest many path n =
    let kids : get_or (trees (forest ks)) j no_tree ≡ get_or ks j no_tree = ap (λ ts. get_or ts j no_tree) (trees_of_forest ks) in
    let few : length (trees (forest ks)) ≡ length ks = ap length (trees_of_forest ks) in
    let kept = kept_index ks (trees t.children) from to back front rest many j (omega (arith, few, path.0)) n (nat_lt j to) refl in
    let same : get_or (trees (forest ks)) j no_tree ≡ get_or (trees t.children) (old_index to (length (trees t.children)) (length ks) j) no_tree = kids ∙ kept.1 in
    ((kept.0, subst (IsPath q) same path.1), ap (λ (u : Tree). (tree_at q u).label) same)
keeps (i ∷ p) (j ∷ q) ks t from to back h front rest many path n =
    keeps_below i p j q ks t from to (length (trees (tree_at (i ∷ p) t).children)) (length ks) h.0 path n
    (λ path m. keeps p q ks (get_or (trees t.children) i no_tree) from to back h.1 front rest many path m) (i == j) refl

pub keeps_whole : (p q : List ℕ) (ks : List Tree) (t u : Tree) (from to back : ℕ) → u ≡ with_children p ks t → IsPath p t → take from ks ≡ take from (trees (tree_at p t).children) → drop to ks ≡ drop back (trees (tree_at p t).children)
    → back + length ks ≡ to + length (trees (tree_at p t).children) → IsPath q u → ¬ (IsInWindow p from to q)
    → IsKeptAs q u (old_place p to (length (trees (tree_at p t).children)) (length ks) q) t
keeps_whole p q ks t u from to back is h front rest many path n =
    let kept = keeps p q ks t from to back h front rest many (subst (IsPath q) is path) n in
    (kept.0, ap (λ (v : Tree). (tree_at q v).label) is ∙ kept.1)

-- the site of an edit within the children
module _ (from to : ℕ) (others ts : List Tree) (order : from ≤ to) (inside : to ≤ length ts) where
  abbrev pub p : ℕ
  p = kept_first from to others ts

  abbrev pub e : ℕ
  e = kept_last from to others ts

  pub p_old : p ≤ to - from
  p_old = omega (arith, first_within (slice_range ts from to) others, length-take (to - from) (drop from ts))

  pub p_new : p ≤ length others
  p_new = first_within_others (slice_range ts from to) others

  pub e_old : e ≤ to - (from + p)
  e_old = omega (arith, first_within (reverse (slice_range ts (from + p) to)) (reverse (drop p others)), length-reverse (slice_range ts (from + p) to), length-take (to - (from + p)) (drop (from + p) ts))

  pub e_new : e ≤ length others - p
  e_new = omega (arith, first_within_others (reverse (slice_range ts (from + p) to)) (reverse (drop p others)), length-reverse (drop p others), length-drop p others)

  module _ (first end : ℕ) (r : Renumbered) (new : List Tree) (ok : IsRenumbering (site_among first end from to others ts) r new) where
    abbrev pub w : ℕ
    w = width ok.k

    before_long : length (take (from + p) ts) ≡ from + p
    before_long = omega (arith, length-take (from + p) ts, p_old)

    behind_long : length (drop (to - e) ts) ≡ length ts - (to - e)
    behind_long = length-drop (to - e) ts

    changed_long : length (slice_range others p (length others - e)) ≡ length others - e - p
    changed_long = omega (arith, length-take (length others - e - p) (drop p others), length-drop p others, e_new, p_new)

    pub front_stays : take r.window.start new ≡ take r.window.start ts
    front_stays =
        let few : length (take (from + p) ts) - w ≤ from + p = omega (arith, before_long) in
        ok.window.before ∙ (take-take (length (take (from + p) ts) - w) (from + p) ts few ∙ ap (λ n. take n ts) (sym ok.window.start))

    pub back_stays : drop r.window.end new ≡ drop (to - e + min w (length (drop (to - e) ts))) ts
    back_stays = ok.window.behind ∙ (sym (drop_min w (drop (to - e) ts)) ∙ drop-drop (min w (length (drop (to - e) ts))) (to - e) ts)

    pub back_many : length new + (to - from) ≡ length ts + length others → to - e + min w (length (drop (to - e) ts)) + length new ≡ r.window.end + length ts
    back_many many = omega (arith, ok.window.end, before_long, behind_long, changed_long, p_old, p_new, e_old, e_new)

-- after a replacement at a path, what is outside of the window is kept
pub keeps_outside : (path : List ℕ) (from to : ℕ) (others : List Tree) (t u : Tree) (r : Renumbered) → IsPath path t → from ≤ to → to ≤ length (trees (tree_at path t).children)
    → IsRenumbering (site_of from to others (tree_at path t)) r (trees (tree_at path u).children) → plain (tree_at path u) ≡ plain (edited from to others (tree_at path t))
    → u ≡ with_children path (trees (tree_at path u).children) t → KeepsOutside path r t u
keeps_outside path from to others t u r h order inside ok same frame q at n =
    let s = tree_at path t in
    let ts = trees s.children in
    let new = trees (tree_at path u).children in
    let kids : map plain new ≡ map plain (splice ts from to others) = kids_plain (tree_at path u) (edited from to others s) same ∙ ap (map plain) (trees_of_forest (splice ts from to others)) in
    let long : length new ≡ length (splice ts from to others) = sym (length-map new plain) ∙ (ap length kids ∙ length-map (splice ts from to others) plain) in
    let many : length new + (to - from) ≡ length ts + length others = omega (arith, long, length_splice ts others from to order inside) in
    keeps_whole path q new t u r.window.start r.window.end (to - kept_last from to others ts + min (width ok.k) (length (drop (to - kept_last from to others ts) ts))) frame h
    (front_stays from to others ts order inside (number s.label + 1) (bound s.label) r new ok)
    (back_stays from to others ts order inside (number s.label + 1) (bound s.label) r new ok)
    (back_many from to others ts order inside (number s.label + 1) (bound s.label) r new ok many) at n
