-- The moves of an edit say of each node of the whole tree where it is.
use Rattle.std.proofs.Common.{◌≡◌, ℕ, ◌+◌, ◌-◌, ◌<◌, ◌≤◌, ◌^◌, ◌⊎◌, inl, inr, Bool, true, false, ◌==◌, List, [], ◌∷◌, ◌++◌, length, map, get_or, take, drop, refl, sym, ap, subst, ◌∙◌, arith, length-take, length-drop, Some, None}
use Rattle.std.specs.Prelude.{slice_range, if◌then◌else◌}
use Rattle.std.specs.List.{splice}
use Rattle.std.proofs.lemmas.Bool.{eqb-true, lt-ltb, le-ltb, cases_lt}
use Rattle.std.proofs.lemmas.List.{get_or_append_left, get_or-append-add}
use Rattle.typst_node.specs.Tree.{Tree, forest, trees}
use Rattle.typst_node.specs.Labels.{number, bound}
use Rattle.typst_node.specs.Numbered.{IsNumberedFor}
use Rattle.typst_node.specs.Plain.{plain, plain_label}
use Rattle.typst_node.specs.Interval.{IsWithin}
use Rattle.typst_node.specs.Paths.{no_tree, IsPath, tree_at, trees_at, with_children}
use Rattle.typst_node.specs.PlainEdit.{edited}
use Rattle.typst_node.specs.ChangedChildren.{kept_first, kept_last}
use Rattle.typst_node.specs.Edit.{Edit, site_by}
use Rattle.typst_node.specs.Accepted.{IsAccepted}
use Rattle.typst_node.specs.Outside.{IsInWindow, old_index, old_place}
use Rattle.typst_node.specs.Moves.{NumberMoves, AreMoves, followed}
use Rattle.typst_node.specs.Following.{IsNew, IsGone, IsSameNode, IsFollowed, place_after, place_of}
use Rattle.typst_node.specs.declared.node.replace.Renumbered.{Renumbered}
use Rattle.typst_node.proofs.Trees.{trees_of_forest}
use Rattle.typst_node.proofs.EditStep.{kids_plain}
use Rattle.typst_node.proofs.SamePlain.{alike_at, path_alike, one_alike, many_alike}
use Rattle.typst_node.proofs.Settled.{get_take, length_splice}
use Rattle.typst_node.proofs.Trimmed.{trimmed_plain}
use Rattle.typst_node.proofs.Ordered.{within_from_numbered}
use Rattle.typst_node.proofs.Outside.{get_drop, not_equal, p_old, e_old}
use Rattle.typst_node.proofs.MovedPaths.{within_at, beside, same_place, into_window, window_of, at_append, path_append, path_rest, place_append, out_of_old, place_back, HavePlaces, new_path}
use Rattle.typst_node.proofs.Moved.{before_stays, behind_stays, none_stays, other_stays}

in_range : (j from to : ℕ) → (j < from) ⊎ (from ≤ j) → (j < to) ⊎ (to ≤ j) → ((from ≤ j) × (j < to)) ⊎ ¬ ((from ≤ j) × (j < to))
in_range j from to (inl below) h = inr (λ k. let low = k.0 in omega arith)
in_range j from to (inr low) (inl high) = inl (low, high)
in_range j from to (inr low) (inr above) = inr (λ k. let high = k.1 in omega arith)

in_child : (i : ℕ) (path : List ℕ) (j : ℕ) (q : List ℕ) (from to : ℕ) → IsInWindow path from to q ⊎ ¬ (IsInWindow path from to q) → (b : Bool) → (i == j) ≡ b → IsInWindow (i ∷ path) from to (j ∷ q) ⊎ ¬ (IsInWindow (i ∷ path) from to (j ∷ q))
in_child i path j q from to (inl h) true e = inl (eqb-true i j e, h)
in_child i path j q from to (inr n) true e = inr (λ h. n h.1)
in_child i path j q from to below false e = inr (λ h. not_equal i j e h.0)

-- whether a path leads into a window
pub in_window : (path q : List ℕ) (from to : ℕ) → IsInWindow path from to q ⊎ ¬ (IsInWindow path from to q)
in_window [] [] from to = inr (λ h. h)
in_window [] (j ∷ q) from to = in_range j from to (cases_lt j from) (cases_lt j to)
in_window (i ∷ path) [] from to = inr (λ h. h)
in_window (i ∷ path) (j ∷ q) from to = in_child i path j q from to (in_window path q from to) (i == j) refl

-- the children after a change
module _ (from to : ℕ) (ys ts : List Tree) (order : from ≤ to) (inside : to ≤ length ts) where
  splice_before : (j : ℕ) → j < from → get_or (splice ts from to ys) j no_tree ≡ get_or ts j no_tree
  splice_before j h = get_or_append_left (take from ts) (ys ++ drop to ts) no_tree j (omega (arith, length-take from ts)) ∙ get_take j from ts no_tree h

  splice_behind : (j o : ℕ) → from + length ys ≤ j → o + (from + length ys) ≡ to + j → get_or (splice ts from to ys) j no_tree ≡ get_or ts o no_tree
  splice_behind j o h is =
      let k = j - (from + length ys) in
      let place : j ≡ length (take from ts) + (length ys + k) = omega (arith, length-take from ts) in
      let there : to + k ≡ o = omega arith in
      ap (λ n. get_or (splice ts from to ys) n no_tree) place
      ∙ (get_or-append-add (take from ts) (ys ++ drop to ts) (length ys + k) no_tree ∙ (get_or-append-add ys (drop to ts) k no_tree ∙ (get_drop to k ts no_tree ∙ ap (λ n. get_or ts n no_tree) there)))

module _ (e : Edit) (old new : Tree) (r : Renumbered) (m : NumberMoves) (file : ℕ) (numbered : IsNumberedFor file old) (done : IsAccepted e old r new) (plains : plain (tree_at e.path new) ≡ plain (edited e.from e.to e.others (tree_at e.path old)))
    (are : AreMoves (site_by e old) r.window (trees_at e.path new) m) where
  abbrev t : Tree
  t = tree_at e.path old

  abbrev ts : List Tree
  ts = trees t.children

  abbrev us : List Tree
  us = trees_at e.path new

  abbrev from : ℕ
  from = e.from + kept_first e.from e.to e.others ts

  abbrev to : ℕ
  to = e.to - kept_last e.from e.to e.others ts

  abbrev ys : List Tree
  ys = slice_range e.others (kept_first e.from e.to e.others ts) (length e.others - kept_last e.from e.to e.others ts)

  abbrev change : ℕ
  change = length (site_by e old).before + length (site_by e old).changed

  abbrev first : ℕ
  first = number t.label + 1

  abbrev upper : ℕ
  upper = bound t.label

  order : from ≤ to
  order = omega (arith, done.fits.2, p_old e.from e.to e.others ts done.fits.2 done.fits.3, e_old e.from e.to e.others ts done.fits.2 done.fits.3)

  inside : to ≤ length ts
  inside = omega (arith, done.fits.3)

  from_is : length (site_by e old).before ≡ from
  from_is = omega (arith, order, inside, length-take from ts)

  behind_is : length (site_by e old).behind ≡ length ts - to
  behind_is = length-drop to ts

  starts : r.window.start ≤ from
  starts = omega (arith, done.window.window.start, from_is)

  changed : from + length ys ≤ r.window.end
  changed = omega (arith, done.window.window.end, from_is)

  ends : r.window.end + to ≤ from + length ys + length ts
  ends = omega (arith, done.window.window.end, from_is, behind_is, inside)

  within : IsWithin file first upper (forest ts)
  within = within_at e.path file 2 (2 ^ 47) old done.fits.0 (within_from_numbered file old numbered)

  same : map plain us ≡ map plain (splice ts from to ys)
  same =
      kids_plain (tree_at e.path new) (edited e.from e.to e.others t) plains
      ∙ (ap (map plain) (trees_of_forest (splice ts e.from e.to e.others)) ∙ sym (trimmed_plain ts e.others e.from e.to done.fits.2 done.fits.3))

  us_long : length us + (to - from) ≡ length ts + length ys
  us_long = omega (arith, length_splice ts ys from to order inside, many_alike us (splice ts from to ys) same)

  abbrev last : ℕ
  last = to + (r.window.end - (from + length ys))

  -- what is said of a node at a place of the old tree and at a path of the new one
  abbrev Stays : List ℕ → List ℕ → Type 0
  Stays p q = IsPath p old × (followed m (number (tree_at p old).label) ≡ Some (number (tree_at q new).label)) × (plain_label (tree_at q new).label ≡ plain_label (tree_at p old).label)

  -- of a child that stays, and of the nodes below it
  child_stays : (j o : ℕ) (q : List ℕ) → j < length us → o < length ts → get_or (splice ts from to ys) j no_tree ≡ get_or ts o no_tree → IsPath q (get_or us j no_tree)
      → (IsPath q (get_or ts o no_tree) → followed m (number (tree_at q (get_or ts o no_tree)).label) ≡ Some (number (tree_at q (get_or us j no_tree)).label)) → Stays (e.path ++ (o ∷ q)) (e.path ++ (j ∷ q))
  child_stays j o q there there_too is path follows =
      let alike : plain (get_or us j no_tree) ≡ plain (get_or ts o no_tree) = one_alike us (splice ts from to ys) j same ∙ ap plain is in
      let path_too : IsPath q (get_or ts o no_tree) = path_alike q (get_or us j no_tree) (get_or ts o no_tree) alike path in (
        path_append e.path (o ∷ q) old done.fits.0 (there_too, path_too),
        ap (λ (v : Tree). followed m (number v.label)) (at_append e.path (o ∷ q) old) ∙ (follows path_too ∙ ap (λ (v : Tree). Some (number v.label)) (sym (at_append e.path (j ∷ q) new))),
        ap (λ (v : Tree). plain_label v.label) (at_append e.path (j ∷ q) new)
            ∙ (ap (λ (v : Tree). v.label) (alike_at q (get_or us j no_tree) (get_or ts o no_tree) alike) ∙ ap (λ (v : Tree). plain_label v.label) (sym (at_append e.path (o ∷ q) old))),
      )

  -- the index before is j, or less or more
  near : (j : ℕ) → j < from → old_index change (length ts) (length us) j ≡ j
  near j h = ap (λ b. if b then j else j + length ts - length us) (lt-ltb j change (omega (arith, from_is)))

  far : (j : ℕ) → change ≤ j → old_index change (length ts) (length us) j ≡ j + length ts - length us
  far j h = ap (λ b. if b then j else j + length ts - length us) (le-ltb j change h)

  window_stays : (j : ℕ) (q : List ℕ) → r.window.start ≤ j → j < r.window.end → ¬ ((length (site_by e old).before ≤ j) × (j < change)) → j < length us → IsPath q (get_or us j no_tree) → (j < from) ⊎ (from ≤ j)
      → Stays (e.path ++ (old_index change (length ts) (length us) j ∷ q)) (e.path ++ (j ∷ q))
  window_stays j q low high out there path (inl less) =
      subst (λ o. Stays (e.path ++ (o ∷ q)) (e.path ++ (j ∷ q))) (sym (near j less))
      (child_stays j j q there (omega (arith, order, inside)) (splice_before from to ys ts order inside j less) path
      (before_stays file first upper from to ys ts us r.window order inside starts changed ends within same m are j q low less))
  window_stays j q low high out there path (inr more) =
      let never : j < change → ⊥ = λ h. out (omega (arith, from_is), h) in
      let o = j + length ts - length us in
      let place : o + (from + length ys) ≡ to + j = omega (arith, never, from_is, us_long, order, inside) in
      subst (λ o. Stays (e.path ++ (o ∷ q)) (e.path ++ (j ∷ q))) (sym (far j (omega (arith, never))))
      (child_stays j o q there (omega (arith, place, never, from_is, us_long, order, inside)) (splice_behind from to ys ts order inside j o (omega (arith, never, from_is)) place) path
      (behind_stays file first upper from to ys ts us r.window order inside starts changed ends within same m are o j q (omega (arith, never, from_is)) high place))

  stays_in : (q : List ℕ) → IsPath q new → ¬ (IsNew e old q) → (j : ℕ) × (rest : List ℕ) × (q ≡ e.path ++ (j ∷ rest)) × (r.window.start ≤ j) × (j < r.window.end) → Stays (place_of e old new q) q
  stays_in q path out w =
      let j = w.0 in
      let rest = w.1 in
      let whole : IsPath (e.path ++ (j ∷ rest)) new = subst (λ p. IsPath p new) w.2 path in
      let below = path_rest e.path (j ∷ rest) new whole in
      let out_too : ¬ ((length (site_by e old).before ≤ j) × (j < change)) = λ h. out (subst (λ p. IsNew e old p) (sym w.2) (window_of e.path rest j (length (site_by e old).before) change h.0 h.1)) in
      let at = window_stays j rest w.3 w.4 out_too below.0 below.1 (cases_lt j from) in
      let place : place_of e old new q ≡ e.path ++ (old_index change (length ts) (length us) j ∷ rest) = ap (place_of e old new) w.2 ∙ place_append e.path rest j change (length ts) (length us) in
      coe 1 0 (i. Stays (place i) (w.2 i)) at

  stays_out : (q : List ℕ) → IsPath q new → ¬ (IsInWindow e.path r.window.start r.window.end q) → Stays (place_of e old new q) q
  stays_out q path out =
      let kept = done.outside q path out in
      let place : old_place e.path r.window.end (length ts) (length us) q ≡ place_of e old new q = same_place e.path q r.window.start r.window.end change (length ts) (length us) (omega (arith, starts, from_is)) (omega (arith, changed, from_is)) out in
      let p = old_place e.path r.window.end (length ts) (length us) q in
      let out_too = out_of_old e.path q r.window.start r.window.end last (length ts) (length us) (omega (arith, starts, order)) (omega (arith, us_long, changed, order)) out in
      let there = beside e.path p file 2 (2 ^ 47) r.window.start last old done.fits.0 kept.0 (omega (arith, starts, order)) (within_from_numbered file old numbered) out_too in
      let same_number = other_stays file first upper from to ys ts us r.window order inside starts changed ends within same m are (number (tree_at p old).label) there in
      subst (λ p. Stays p q) place (kept.0, same_number ∙ ap (λ l. Some (number l)) (sym kept.1), ap plain_label kept.1)

  stays_either : (q : List ℕ) → IsPath q new → ¬ (IsNew e old q) → IsInWindow e.path r.window.start r.window.end q ⊎ ¬ (IsInWindow e.path r.window.start r.window.end q) → Stays (place_of e old new q) q
  stays_either q path out (inl in_it) = stays_in q path out (into_window e.path q r.window.start r.window.end in_it)
  stays_either q path out (inr not_in_it) = stays_out q path not_in_it

  none_at : (p : List ℕ) → IsPath p old → (j : ℕ) × (rest : List ℕ) × (p ≡ e.path ++ (j ∷ rest)) × (length (site_by e old).before ≤ j) × (j < length ts - length (site_by e old).behind) → followed m (number (tree_at p old).label) ≡ None
  none_at p path w =
      let below = path_rest e.path (w.0 ∷ w.1) old (subst (λ p. IsPath p old) w.2 path) in
      ap (λ p. followed m (number (tree_at p old).label)) w.2
      ∙ (ap (λ (v : Tree). followed m (number v.label)) (at_append e.path (w.0 ∷ w.1) old)
      ∙ none_stays file first upper from to ys ts us r.window order inside starts changed ends within same m are w.0 w.1 (omega (arith, w.3, from_is)) (omega (arith, w.4, behind_is, inside)) below.1)

  abbrev gone_end : ℕ
  gone_end = length ts - length (site_by e old).behind

  gone_end_is : gone_end ≡ to
  gone_end_is = omega (arith, behind_is, inside)

  frame : new ≡ with_children e.path us old
  frame = done.beside

  -- the old children that stay are among the new ones
  place_near : (j : ℕ) → j < length ts → ¬ ((length (site_by e old).before ≤ j) × (j < gone_end)) → (j < from) ⊎ (from ≤ j) → (old_index gone_end (length us) (length ts) j < length us) × (plain (get_or ts j no_tree) ≡ plain (get_or us (old_index gone_end (length us) (length ts) j) no_tree))
  place_near j there out (inl less) =
      let is : old_index gone_end (length us) (length ts) j ≡ j = ap (λ b. if b then j else j + length us - length ts) (lt-ltb j gone_end (omega (arith, gone_end_is, order))) in
      let alike : plain (get_or us j no_tree) ≡ plain (get_or ts j no_tree) = one_alike us (splice ts from to ys) j same ∙ ap plain (splice_before from to ys ts order inside j less) in
      (omega (arith, is, us_long, less, order, inside), sym alike ∙ ap (λ k. plain (get_or us k no_tree)) (sym is))
  place_near j there out (inr more) =
      let never : j < gone_end → ⊥ = λ h. out (omega (arith, from_is), h) in
      let k = j + length us - length ts in
      let is : old_index gone_end (length us) (length ts) j ≡ k = ap (λ b. if b then j else j + length us - length ts) (le-ltb j gone_end (omega (arith, never))) in
      let place : j + (from + length ys) ≡ to + k = omega (arith, never, gone_end_is, us_long, order, inside) in
      let alike : plain (get_or us k no_tree) ≡ plain (get_or ts j no_tree) = one_alike us (splice ts from to ys) k same ∙ ap plain (splice_behind from to ys ts order inside k j (omega (arith, place, never, gone_end_is)) place) in
      (omega (arith, is, us_long, never, gone_end_is, there, order, inside), sym alike ∙ ap (λ k. plain (get_or us k no_tree)) (sym is))

  places : HavePlaces (length (site_by e old).before) gone_end us ts
  places j there out = place_near j there out (cases_lt j from)

  there_and_back : change + length ts ≡ gone_end + length us
  there_and_back = omega (arith, from_is, gone_end_is, us_long, order)

  old_stays : (p : List ℕ) → IsPath p old → ¬ (IsGone e old p) → IsSameNode m old new p (place_after e old new p)
  old_stays p path out =
      let f = length (site_by e old).before in
      let q = place_after e old new p in
      let path_q : IsPath q new = subst (IsPath q) (sym frame) (new_path e.path p us old f gone_end done.fits.0 path out places) in
      let fresh : ¬ (IsNew e old q) = out_of_old e.path p f gone_end change (length us) (length ts) (omega arith) there_and_back out in
      let back : place_of e old new q ≡ p = place_back e.path p f gone_end change (length ts) (length us) (omega arith) (omega (arith, gone_end_is, from_is, order)) there_and_back out in
      let at = subst (λ p. Stays p q) back (stays_either q path_q fresh (in_window e.path q r.window.start r.window.end)) in
      record { path = path_q; plain = at.2; number = at.1 }

  new_comes : (q : List ℕ) → IsPath q new → ¬ (IsNew e old q) → IsPath (place_of e old new q) old × ¬ (IsGone e old (place_of e old new q)) × (place_after e old new (place_of e old new q) ≡ q)
  new_comes q path out =
      let f = length (site_by e old).before in (
        (stays_either q path out (in_window e.path q r.window.start r.window.end)).0,
        out_of_old e.path q f change gone_end (length ts) (length us) (omega (arith, gone_end_is, from_is, order)) (sym there_and_back) out,
        place_back e.path q f change gone_end (length us) (length ts) (omega (arith, gone_end_is, from_is, order)) (omega arith) (sym there_and_back) out,
      )

  pub is_followed : IsFollowed e old new m
  is_followed = record {
    stays = old_stays;
    gone = λ p path in_it. none_at p path (into_window e.path p (length (site_by e old).before) (length ts - length (site_by e old).behind) in_it);
    others = new_comes;
  }
