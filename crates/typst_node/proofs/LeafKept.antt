-- A leaf or an error that goes on.
use Rattle.std.proofs.Common.{◌≡◌, Some, ℕ, suc, zero, ◌+◌, ◌<◌, ◌≤◌, ◌^◌, Bool, true, false, ◌==◌, List, [], ◌∷◌, ◌++◌, length, set, get_or, get_or-set_same, take, drop, refl, sym, ap, subst, ◌∙◌, arith, add-one, eq-eqb}
use Rattle.std.proofs.lemmas.List.{take-set, length-set, get_or-set_other}
use Rattle.std.proofs.lemmas.Bool.{eqb-true}
use Rattle.typst_node.specs.Tree.{Content, AsLeaf, AsError, AsInner, Tree, forest, trees, IsInner, kind_of}
use Rattle.typst_node.specs.Labels.{number, bound, bound_of}
use Rattle.typst_node.specs.Interval.{IsWithin, IsTreeWithin}
use Rattle.typst_node.specs.Numbered.{IsNumbered, IsNumberedFor}
use Rattle.typst_node.specs.Plain.{plain}
use Rattle.typst_node.specs.Paths.{IsPath, no_tree, tree_at, trees_at, with_children}
use Rattle.typst_node.specs.Edit.{Edit, Fits, edited_by, site_by}
use Rattle.typst_node.specs.Outside.{KeepsBeside, old_place}
use Rattle.typst_node.specs.Put.{with_span, with_tree}
use Rattle.typst_node.specs.Narrower.{IsOnlyChange, EndsOnAs}
use Rattle.typst_node.specs.Reconciled.{KeepsNumbers}
use Rattle.typst_node.specs.Moves.{NumberMoves, no_moves, followed}
use Rattle.typst_node.specs.Following.{StayInPlace}
use Rattle.typst_base.specs.Span.{SpanParts}
use Rattle.typst_node.proofs.Trees.{trees_of_forest, forest-trees}
use Rattle.typst_node.proofs.Ordered.{within_from_numbered}
use Rattle.typst_node.proofs.Edited.{file_within, numbered_again}
use Rattle.typst_node.proofs.EditsBelow.{child_within}
use Rattle.typst_node.proofs.WholeTreeEdited.{below_kids, label_kids}
use Rattle.typst_node.proofs.Outside.{keeps_whole}
use Rattle.typst_node.proofs.Following.{followed_other}
use Rattle.typst_node.proofs.Moved.{above_end}
use Rattle.typst_node.proofs.Put.{put_child, child_at, path_to_child}
use Rattle.typst_node.proofs.Narrowed.{change_plain, only_child, only_inside}

-- the children at a path are those that were put there
pub trees_at_put : (path : List ℕ) (ks : List Tree) (t : Tree) → IsPath path t → trees (tree_at path (with_children path ks t)).children ≡ ks
trees_at_put [] ks t h = trees_of_forest ks
trees_at_put (i ∷ path) ks t h =
    let kids = trees t.children in
    let child = with_children path ks (get_or kids i no_tree) in
    ap (λ (ts : List Tree). trees (tree_at path (get_or ts i no_tree)).children) (trees_of_forest (set kids i child))
    ∙ (ap (λ (u : Tree). trees (tree_at path u).children) (get_or-set_same kids i child no_tree h.0) ∙ trees_at_put path ks (get_or kids i no_tree) h.1)

-- a tree with the span and the bound of the child that it replaces
within_put : (file a b : ℕ) (ts : List Tree) (i : ℕ) (x d : Tree) → i < length ts → x.label.span ≡ (get_or ts i d).label.span → bound x.label ≡ bound (get_or ts i d).label → IsWithin file (number x.label + 1) (bound x.label) x.children
    → IsWithin file a b (forest ts) → IsWithin file a b (forest (set ts i x))
within_put file a b [] i x d h same limit below w = absurd (omega arith)
within_put file a b (t ∷ ts) zero x d h same limit below w =
    (coe 1 0 (i. (same i).file ≡ file) w.0, coe 1 0 (i. a ≤ (same i).low) w.1, below, subst (λ n. IsWithin file n b (forest ts)) (sym limit) w.3)
within_put file a b (t ∷ ts) (suc i) x d h same limit below w = (w.0, w.1, w.2, within_put file (bound t.label) b ts i x d (omega arith) same limit below w.3)

-- the children at a path are numbered between its number and its bound
within_at : (path : List ℕ) (file a b : ℕ) (t : Tree) → IsPath path t → IsTreeWithin file a b t → IsWithin file (number (tree_at path t).label + 1) (bound (tree_at path t).label) (forest (trees (tree_at path t).children))
within_at [] file a b t h w = subst (IsWithin file (number t.label + 1) (bound t.label)) (sym (forest-trees t.children)) w.2
within_at (i ∷ path) file a b t h w =
    let kids = subst (IsWithin file (number t.label + 1) (bound t.label)) (sym (forest-trees t.children)) w.2 in
    within_at path file (number t.label + 1) (bound t.label) (get_or (trees t.children) i no_tree) h.1 (child_within file (number t.label + 1) (bound t.label) (trees t.children) i no_tree h.0 kids)

leaf_bound : (a : Content) (n : ℕ) → ¬ (IsInner a) → bound_of a n ≡ n + 1
leaf_bound (AsLeaf kind text) n h = refl
leaf_bound (AsError text message hints) n h = refl
leaf_bound (AsInner kind limit) n h = absurd (h tt)

childless_within : (file n : ℕ) (t : Tree) → trees t.children ≡ [] → IsWithin file n n t.children
childless_within file n t none = subst (IsWithin file n n) (ap forest (sym none) ∙ forest-trees t.children) (omega arith)

-- a node without children in the place of one, with its span and its bound
HasNumbersOf : List ℕ → Tree → Tree → Type 0
HasNumbersOf q new old = IsPath q old × ((tree_at q new).label.span ≡ (tree_at q old).label.span) × (bound (tree_at q new).label ≡ bound (tree_at q old).label)

put_keeps_step : (i : ℕ) (path : List ℕ) (j : ℕ) (q : List ℕ) (x t : Tree) → i < length (trees t.children) → IsPath (j ∷ q) (with_tree (i ∷ path) x t)
    → (IsPath q (with_tree path x (get_or (trees t.children) i no_tree)) → HasNumbersOf q (with_tree path x (get_or (trees t.children) i no_tree)) (get_or (trees t.children) i no_tree))
    → (b : Bool) → (i == j) ≡ b → HasNumbersOf (j ∷ q) (with_tree (i ∷ path) x t) t
unfolding HasNumbersOf
put_keeps_step i path j q x t h at below true e =
    let same : i ≡ j = eqb-true i j e in
    let kids : List Tree = trees t.children in
    let child = with_tree path x (get_or kids i no_tree) in
    let news : List Tree = set kids i child in
    let here : get_or (trees (forest news)) j no_tree ≡ child = ap (λ ts. get_or ts j no_tree) (trees_of_forest news) ∙ (ap (λ k. get_or news k no_tree) (sym same) ∙ get_or-set_same kids i child no_tree h) in
    let kept = below (subst (IsPath q) here at.1) in
    let old : get_or kids i no_tree ≡ get_or kids j no_tree = ap (λ k. get_or kids k no_tree) same in (
      (omega arith, subst (IsPath q) old kept.0),
      ap (λ (u : Tree). (tree_at q u).label.span) here ∙ (kept.1 ∙ ap (λ (u : Tree). (tree_at q u).label.span) old),
      ap (λ (u : Tree). bound (tree_at q u).label) here ∙ (kept.2 ∙ ap (λ (u : Tree). bound (tree_at q u).label) old),
    )
put_keeps_step i path j q x t h at below false e =
    let kids : List Tree = trees t.children in
    let child = with_tree path x (get_or kids i no_tree) in
    let news : List Tree = set kids i child in
    let differ : ¬ (j ≡ i) = λ s. let yes = eq-eqb i j (sym s) in cc in
    let here : get_or (trees (forest news)) j no_tree ≡ get_or kids j no_tree = ap (λ ts. get_or ts j no_tree) (trees_of_forest news) ∙ get_or-set_other kids i j child no_tree differ in
    let many : length (trees (forest news)) ≡ length kids = ap length (trees_of_forest news) ∙ length-set kids i child in (
      (omega (arith, many, at.0), subst (IsPath q) here at.1),
      ap (λ (u : Tree). (tree_at q u).label.span) here,
      ap (λ (u : Tree). bound (tree_at q u).label) here,
    )

put_keeps : (path : List ℕ) (x t : Tree) → IsPath path t → x.label.span ≡ (tree_at path t).label.span → bound x.label ≡ bound (tree_at path t).label → trees x.children ≡ []
    → (q : List ℕ) → IsPath q (with_tree path x t) → HasNumbersOf q (with_tree path x t) t
unfolding HasNumbersOf
put_keeps [] x t h span limit none [] at = (tt, span, limit)
put_keeps [] x t h span limit none (j ∷ q) at = absurd (omega (arith, at.0, ap length none))
put_keeps (i ∷ path) x t h span limit none [] at = (tt, refl, refl)
put_keeps (i ∷ path) x t h span limit none (j ∷ q) at =
    put_keeps_step i path j q x t h.0 at (λ there. put_keeps path x (get_or (trees t.children) i no_tree) h.1 span limit none q there) (i == j) refl

pub nothing_moves : (n : ℕ) → followed no_moves n ≡ Some n
nothing_moves n = followed_other no_moves n (above_end 0 0 n (omega arith)) refl (λ i below. absurd (omega (arith, below)))

-- the place of a node in a tree with another leaf at a path
IsThere : List ℕ → Tree → Tree → Type 0
IsThere p new old = IsPath p new × ((tree_at p new).label.span ≡ (tree_at p old).label.span) × (kind_of (tree_at p new).label.content ≡ kind_of (tree_at p old).label.content)

put_has_step : (i : ℕ) (path : List ℕ) (j : ℕ) (q : List ℕ) (x t : Tree) → i < length (trees t.children) → IsPath (j ∷ q) t
    → (IsPath q (get_or (trees t.children) i no_tree) → IsThere q (with_tree path x (get_or (trees t.children) i no_tree)) (get_or (trees t.children) i no_tree))
    → (b : Bool) → (i == j) ≡ b → IsThere (j ∷ q) (with_tree (i ∷ path) x t) t
unfolding IsThere
put_has_step i path j q x t h at below true e =
    let same : i ≡ j = eqb-true i j e in
    let kids : List Tree = trees t.children in
    let child = with_tree path x (get_or kids i no_tree) in
    let news : List Tree = set kids i child in
    let here : get_or (trees (forest news)) j no_tree ≡ child = ap (λ ts. get_or ts j no_tree) (trees_of_forest news) ∙ (ap (λ k. get_or news k no_tree) (sym same) ∙ get_or-set_same kids i child no_tree h) in
    let old : get_or kids i no_tree ≡ get_or kids j no_tree = ap (λ k. get_or kids k no_tree) same in
    let kept = below (subst (IsPath q) (sym old) at.1) in
    let many : length (trees (forest news)) ≡ length kids = ap length (trees_of_forest news) ∙ length-set kids i child in (
      (omega (arith, many, at.0), subst (IsPath q) (sym here) kept.0),
      ap (λ (u : Tree). (tree_at q u).label.span) here ∙ (kept.1 ∙ ap (λ (u : Tree). (tree_at q u).label.span) old),
      ap (λ (u : Tree). kind_of (tree_at q u).label.content) here ∙ (kept.2 ∙ ap (λ (u : Tree). kind_of (tree_at q u).label.content) old),
    )
put_has_step i path j q x t h at below false e =
    let kids : List Tree = trees t.children in
    let child = with_tree path x (get_or kids i no_tree) in
    let news : List Tree = set kids i child in
    let differ : ¬ (j ≡ i) = λ s. let yes = eq-eqb i j (sym s) in cc in
    let here : get_or (trees (forest news)) j no_tree ≡ get_or kids j no_tree = ap (λ ts. get_or ts j no_tree) (trees_of_forest news) ∙ get_or-set_other kids i j child no_tree differ in
    let many : length (trees (forest news)) ≡ length kids = ap length (trees_of_forest news) ∙ length-set kids i child in (
      (omega (arith, many, at.0), subst (IsPath q) (sym here) at.1),
      ap (λ (u : Tree). (tree_at q u).label.span) here,
      ap (λ (u : Tree). kind_of (tree_at q u).label.content) here,
    )

put_has : (path : List ℕ) (x t : Tree) → IsPath path t → x.label.span ≡ (tree_at path t).label.span → kind_of x.label.content ≡ kind_of (tree_at path t).label.content → trees (tree_at path t).children ≡ []
    → (q : List ℕ) → IsPath q t → IsThere q (with_tree path x t) t
unfolding IsThere
put_has [] x t h span kind none [] at = (tt, span, kind)
put_has [] x t h span kind none (j ∷ q) at = absurd (omega (arith, at.0, ap length none))
put_has (i ∷ path) x t h span kind none [] at = (tt, refl, refl)
put_has (i ∷ path) x t h span kind none (j ∷ q) at =
    put_has_step i path j q x t h.0 at (λ there. put_has path x (get_or (trees t.children) i no_tree) h.1 span kind none q there) (i == j) refl

module _ (e : Edit) (t c u : Tree) (fit : Fits e t) (only : IsOnlyChange (site_by e t) (trees_at e.path t) c u) where
  abbrev i : ℕ
  i = length (site_by e t).before

  abbrev x : Tree
  x = with_span c.label.span u

  abbrev kids : List Tree
  kids = set (trees_at e.path t) i x

  abbrev whole : Tree
  whole = with_children e.path kids t

  here : i < length (trees_at e.path t)
  here = only_inside (site_by e t) (trees_at e.path t) c u only

  pub leaf_plain : plain whole ≡ plain (edited_by e t)
  leaf_plain = change_plain e t c u x fit only refl

  child : get_or (trees_at e.path t) i no_tree ≡ c
  child = only_child (site_by e t) (trees_at e.path t) c u only

  pub leaf_still : EndsOnAs c u → KeepsNumbers t whole
  unfolding HasNumbersOf
  leaf_still ends q at =
      let same : with_tree (e.path ++ i ∷ []) x t ≡ whole = put_child e.path i x t in
      let old : tree_at (e.path ++ i ∷ []) t ≡ c = child_at e.path i t ∙ child in
      let limit : bound x.label ≡ bound c.label = leaf_bound u.label.content (number c.label) ends.other_leaf ∙ sym (leaf_bound c.label.content (number c.label) ends.leaf) in
      let kept : HasNumbersOf q (with_tree (e.path ++ i ∷ []) x t) t =
      put_keeps (e.path ++ i ∷ []) x t (path_to_child e.path i t fit.0 here) (ap (λ (d : Tree). d.label.span) (sym old)) (limit ∙ ap (λ (d : Tree). bound d.label) (sym old)) ends.other_childless q (subst (IsPath q) (sym same) at) in
      subst (λ v. HasNumbersOf q v t) same kept

  -- no number moves
  pub leaf_stays : EndsOnAs c u → (m : NumberMoves) → m ≡ no_moves → StayInPlace m t whole
  unfolding IsThere
  leaf_stays ends m none p at =
      let same : with_tree (e.path ++ i ∷ []) x t ≡ whole = put_child e.path i x t in
      let old : tree_at (e.path ++ i ∷ []) t ≡ c = child_at e.path i t ∙ child in
      let kept : IsThere p (with_tree (e.path ++ i ∷ []) x t) t =
      put_has (e.path ++ i ∷ []) x t (path_to_child e.path i t fit.0 here) (ap (λ (d : Tree). d.label.span) (sym old)) (sym ends.kind ∙ ap (λ (d : Tree). kind_of d.label.content) (sym old))
      (ap (λ (d : Tree). trees d.children) old ∙ ends.childless) p at in
      let there : IsThere p whole t = subst (λ v. IsThere p v t) same kept in
      (there.0, ap (λ (s : SpanParts). s.low) there.1, there.2, ap (λ k. followed k (number (tree_at p t).label)) none ∙ nothing_moves (number (tree_at p t).label))

  pub leaf_outside : KeepsBeside e.path record { start = i; end = i + 1 } t whole
  leaf_outside q at n =
      let front : take i kids ≡ take i (trees_at e.path t) = take-set (trees_at e.path t) i x in
      let back : drop (i + 1) kids ≡ drop (i + 1) (trees_at e.path t) = rw add-one (drop_after (trees_at e.path t) i x) in
      let long : length kids ≡ length (trees_at e.path t) = length-set (trees_at e.path t) i x in
      let kept = keeps_whole e.path q kids t whole i (i + 1) (i + 1) refl fit.0 front back (omega arith) at n in
      let new : length kids ≡ length (trees (tree_at e.path whole).children) = ap length (sym (trees_at_put e.path kids t fit.0)) in
      subst (λ many. IsPath (old_place e.path (i + 1) (length (trees_at e.path t)) many q) t × ((tree_at q whole).label ≡ (tree_at (old_place e.path (i + 1) (length (trees_at e.path t)) many q) t).label)) new kept
    where
      drop_after : (ts : List Tree) (n : ℕ) (u : Tree) → drop (suc n) (set ts n u) ≡ drop (suc n) ts
      drop_after [] n u = refl
      drop_after (t ∷ ts) zero u = refl
      drop_after (t ∷ ts) (suc n) u = drop_after ts n u

  pub leaf_numbered : EndsOnAs c u → IsNumbered t → IsNumberedFor t.label.span.file whole
  leaf_numbered ends n =
      let file = n.0 in
      let is_file : t.label.span.file ≡ file = file_within file t n.2 in
      let w = within_from_numbered file t n.2 in
      let limit : bound x.label ≡ bound c.label = leaf_bound u.label.content (number c.label) ends.other_leaf ∙ sym (leaf_bound c.label.content (number c.label) ends.leaf) in
      let inside : IsWithin file (number x.label + 1) (bound x.label) x.children =
      subst (λ n. IsWithin file (number c.label + 1) n u.children) (sym (leaf_bound u.label.content (number c.label) ends.other_leaf)) (childless_within file (number c.label + 1) u ends.other_childless) in
      let row = within_put file (number (tree_at e.path t).label + 1) (bound (tree_at e.path t).label) (trees_at e.path t) i x no_tree here
      (ap (λ (d : Tree). d.label.span) (sym child)) (limit ∙ ap (λ (d : Tree). bound d.label) (sym child)) inside
      (within_at e.path file 2 (2 ^ 47) t fit.0 w) in
      subst (λ f. IsNumberedFor f whole) (sym is_file) (numbered_again file t whole n.2 (label_kids e.path kids t) (below_kids e.path file kids t fit.0 w.2 row))
