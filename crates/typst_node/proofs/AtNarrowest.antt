-- What a reconciliation makes, given what is done at the narrowest place.
use Rattle.std.proofs.Common.{◌≡◌, ◌-◌, ◌+◌, ◌⊎◌, ℕ, List, length, Some, None, inl, inr, refl, sym, ap, subst, ◌∙◌}
use Rattle.std.specs.Prelude.{Result, Ok, Err, IfOk, IfErr, IsErrOf, OnOk}
use Rattle.typst_node.specs.Tree.{Content, AsLeaf, AsError, AsInner, Tree, kind_of}
use Rattle.typst_node.specs.Plain.{plain, unbounded}
use Rattle.typst_node.specs.Paths.{tree_at, trees_at}
use Rattle.typst_node.specs.Edit.{site_by}
use Rattle.typst_node.specs.Numbered.{IsNumbered, IsNumberedFor}
use Rattle.typst_node.specs.PlainEdit.{TreeFits}
use Rattle.typst_node.specs.Edit.{Edit, Fits, edited_by}
use Rattle.typst_node.specs.Accepted.{IsAccepted}
use Rattle.typst_node.specs.Outside.{KeepsBeside}
use Rattle.typst_node.specs.Narrower.{EndsWithoutLeaf, GoesOnAs, GoesOnWithin, IsLowest, IsNarrowest}
use Rattle.typst_node.specs.Reconciled.{IsReconciled, IsLeafKept, IsUnreconciledBy, KeepsNumbers}
use Rattle.typst_node.specs.Labels.{number}
use Rattle.typst_node.specs.Moves.{NumberMoves, followed, no_moves}
use Rattle.typst_node.specs.Following.{IsGone, IsFollowed, GoesOn, AllGoOnOrGo, StayInPlace, place_after}
use Rattle.typst_node.specs.declared.node.reconcile.Reconciled.{Reconciled}
use Rattle.typst_node.specs.declared.node.reconcile.Touched.TheVariants.{Leaf, Window}
use Rattle.typst_node.specs.declared.node.replace.Renumbered.{Renumbered}
use Rattle.typst_node.specs.declared.node.replace.ReplaceError.{ReplaceError}
use Rattle.typst_node.specs.declared.node.replace.ReplaceError.TheVariants.{Unnumberable, Overflow, Memory}
use Rattle.typst_node.proofs.TellAlike.{tells_alike}
use Rattle.typst_node.proofs.Narrowed.{as_it_is, as_within, leads_fits, leads_plain, tree_fits_alike}
use Rattle.typst_node.proofs.LeafKept.{leaf_plain, leaf_outside, leaf_numbered, leaf_still, leaf_stays}
use Rattle.typst_node.proofs.NodeNumbers.{spans_follow, spans_stay}
use Rattle.typst_node.proofs.Edited.{file_within}
use Rattle.typst_node.proofs.WholeMoved.{in_window}

kind_unbounded : (a : Content) → kind_of (unbounded a) ≡ kind_of a
kind_unbounded (AsLeaf kind text) = refl
kind_unbounded (AsError text message hints) = refl
kind_unbounded (AsInner kind bound) = refl

-- moves that are followed say of each node whether it goes on
pub all_followed : (f : Edit) (old new : Tree) (m : NumberMoves) → IsFollowed f old new m → AllGoOnOrGo m old new
all_followed f old new m moves p at = either (in_window f.path p (length (site_by f old).before) (length (trees_at f.path old) - length (site_by f old).behind))
  where
    either : IsGone f old p ⊎ ¬ (IsGone f old p) → GoesOn m old new p ⊎ (followed m (number (tree_at p old).label) ≡ None)
    either (inl gone) = inr (moves.gone p at gone)
    either (inr stays) =
        let same = moves.stays p at stays in
        let q = place_after f old new p in
        let kind : kind_of (tree_at q new).label.content ≡ kind_of (tree_at p old).label.content =
        sym (kind_unbounded (tree_at q new).label.content) ∙ (ap (λ l. kind_of l.content) same.plain ∙ kind_unbounded (tree_at p old).label.content) in
        inl (q, same.path, kind, same.number)

-- moves by which all nodes stay in place say so, too
pub all_in_place : (old new : Tree) (m : NumberMoves) → StayInPlace m old new → AllGoOnOrGo m old new
all_in_place old new m stay p at =
    let here = stay p at in
    inl (p, here.0, here.2, here.3 ∙ ap Some (sym here.1))

module _ (e : Edit) (old : Tree) (f : Edit) (fit : Fits e old) where
  -- an edit was accepted at the narrowest place
  pub fits_narrow : IsNarrowest e old f → Fits f old
  fits_narrow narrowest = leads_fits GoesOnWithin as_within narrowest.steps e old f fit narrowest.leads

  pub accepted_there : (r : Renumbered) (m : NumberMoves) (new : Tree) → m.file ≡ Some old.label.span.file → IsNumbered old → IsNarrowest e old f → EndsWithoutLeaf e old → IsAccepted f old r new
      → IsFollowed f old new m → IsReconciled e old f.path (Window r) m new
  accepted_there r m new file numbered narrowest none accepted moves =
      let same_edit : plain (edited_by f old) ≡ plain (edited_by e old) = leads_plain GoesOnWithin as_within narrowest.steps e old f fit narrowest.leads in
      let whole : plain new ≡ plain (edited_by e old) = accepted.plain ∙ same_edit in
      let is : old.label.span.file ≡ numbered.0 = file_within numbered.0 old numbered.2 in
      record {
        made = record { no_leaf = none; narrowest = f; is_narrowest = narrowest; path_is = refl; accepted = accepted; followed = moves };
        sums = tree_fits_alike (edited_by f old) (edited_by e old) same_edit accepted.sums;
        plain = whole;
        reads = tells_alike new (edited_by e old) whole;
        numbered = accepted.numbered;
        outside = accepted.outside;
        all = all_followed f old new m moves;
        spans = spans_follow numbered.0 old m numbered.1 numbered.2 (file ∙ ap Some is);
        still = tt;
      }

-- a leaf went on at the lowest place
module _ (e : Edit) (old : Tree) (f : Edit) (fit : Fits e old) (lowest : IsLowest e old f) where
  pub fits_low : Fits f old
  fits_low = leads_fits GoesOnAs as_it_is lowest.steps e old f fit lowest.leads

  same_edit : plain (edited_by f old) ≡ plain (edited_by e old)
  same_edit = leads_plain GoesOnAs as_it_is lowest.steps e old f fit lowest.leads

  kept_there : (path : List ℕ) (index : ℕ) (m : NumberMoves) (new : Tree) → IsNumbered old → path ≡ f.path → TreeFits (edited_by f old) → IsLeafKept f old index new → m ≡ no_moves → IsReconciled e old path (Leaf index) m new
  kept_there path index m new numbered is sums kept none =
      let whole : plain new ≡ plain (edited_by e old) = ap plain kept.put ∙ (leaf_plain f old kept.c kept.u fits_low kept.only ∙ same_edit) in
      let stay : StayInPlace m old new = subst (StayInPlace m old) (sym kept.put) (leaf_stays f old kept.c kept.u fits_low kept.only kept.goes_on m none) in
      record {
        made = record { lowest = f; is_lowest = lowest; path_is = is; kept = kept; still = none };
        sums = tree_fits_alike (edited_by f old) (edited_by e old) same_edit sums;
        plain = whole;
        reads = tells_alike new (edited_by e old) whole;
        numbered = subst (IsNumberedFor old.label.span.file) (sym kept.put) (leaf_numbered f old kept.c kept.u fits_low kept.only kept.goes_on numbered);
        outside = coe 1 0 (i. KeepsBeside (is i) (record { start = kept.answer i; end = kept.answer i + 1 }) old (kept.put i)) (leaf_outside f old kept.c kept.u fits_low kept.only);
        all = all_in_place old new m stay;
        spans = spans_stay old m none;
        still = (subst (KeepsNumbers old) (sym kept.put) (leaf_still f old kept.c kept.u fits_low kept.only kept.goes_on), stay);
      }

  pub kept_if_ok : (r : Result Reconciled ReplaceError) (index : ℕ) (new : Tree) → IsNumbered old → IfOk r (λ done. done.path.items ≡ f.path) → IfOk r (λ done. done.touched ≡ Leaf index) → OnOk r (TreeFits (edited_by f old)) → IfOk r (λ done. IsLeafKept f old index new)
      → IfOk r (λ done. done.moves ≡ no_moves) → IfOk r (λ done. IsReconciled e old done.path.items done.touched done.moves new)
  kept_if_ok (Ok done) index new numbered is leaf sums kept none =
      subst (λ touched. IsReconciled e old done.path.items touched done.moves new) (sym leaf) (kept_there done.path.items index done.moves new numbered is sums kept none)
  kept_if_ok (Err why) index new numbered is leaf sums kept none = tt

  -- why a leaf isn't put there
  pub leaf_refused : (r : Result Reconciled ReplaceError) → ¬ (IsErrOf r Unnumberable) → (IsErrOf r Overflow → ¬ (TreeFits (edited_by f old))) → IfErr r (λ why. IsUnreconciledBy why e old)
  leaf_refused (Ok done) never overflow = tt
  leaf_refused (Err Unnumberable) never overflow = absurd (never refl)
  leaf_refused (Err Overflow) never overflow = (fit, λ fits. overflow refl (tree_fits_alike (edited_by e old) (edited_by f old) (sym same_edit) fits))
  leaf_refused (Err Memory) never overflow = tt
