-- What becomes of an edit, given what its replacement makes of the edited node.
use Rattle.std.proofs.Common.{◌≡◌, ◌-◌, ◌≤◌, inl, inr, List, length, refl}
use Rattle.std.specs.Prelude.{Result, Ok, Err, IfOk, IfErr, IsErrOf}
use Rattle.std.proofs.lemmas.Bool.{cases_lt}
use Rattle.typst_node.specs.Tree.{Tree, trees}
use Rattle.typst_node.specs.Plain.{plain}
use Rattle.typst_node.specs.Paths.{tree_at, with_children}
use Rattle.typst_node.specs.PlainEdit.{spliced, TreeFits}
use Rattle.typst_node.specs.Edit.{Edit, Fits, IsNumberedOrUnfiled, edited_by, site_by}
use Rattle.typst_node.specs.Accepted.{IsAccepted}
use Rattle.typst_node.specs.Refusals.{IsRefusedBy, IsRefusedFollowing}
use Rattle.typst_node.specs.Growth.{GrowWithin, IsLargestGrowth}
use Rattle.typst_node.specs.EditBelow.{IsReplacement}
use Rattle.typst_node.specs.declared.node.replace.Growth.{Growth}
use Rattle.typst_node.specs.declared.node.replace.Renumbered.{Renumbered}
use Rattle.typst_node.specs.declared.node.replace.ReplaceError.{ReplaceError}
use Rattle.typst_node.specs.declared.node.replace.ReplaceError.TheVariants.{Unnumberable, Overflow, Memory}
use Rattle.typst_node.proofs.FirstWindow.{no_first_crowded, found_soon}
use Rattle.typst_node.proofs.Outside.{keeps_outside}
use Rattle.typst_node.proofs.EditStep.{plain_at}
use Rattle.typst_node.proofs.WholeTreeEdited.{fits_grown, grow_within, grown_fits, numbered_whole}
use Rattle.typst_node.proofs.TellAlike.{tells_alike}

abbrev Answer : Type 0
Answer = Result Renumbered ReplaceError

module _ (e : Edit) (g : Growth) (old new : Tree) (fit : Fits e old) (largest : IsLargestGrowth g old) where
  abbrev kids : List Tree
  kids = spliced e.from e.to e.others (tree_at e.path old)

  grows : (r : Answer) → IsReplacement e.from e.to e.others g (tree_at e.path old) (tree_at e.path new) r → ¬ (r ≡ Err Overflow) → GrowWithin g (trees (tree_at e.path old).children) kids
  grows r at none = grow_within e.from e.to e.others g (tree_at e.path old) (tree_at e.path new) r at none

  back : GrowWithin g (trees (tree_at e.path old).children) kids → TreeFits (edited_by e old)
  back grow = fits_grown g e.path kids old fit.0 largest grow

  pub refused : (r : Answer) → IsReplacement e.from e.to e.others g (tree_at e.path old) (tree_at e.path new) r → (length e.others ≤ e.to - e.from → ¬ (IsErrOf r Memory)) → IfErr r (λ why. IsRefusedBy why e old)
  refused (Ok x) at sparing = tt
  refused (Err Overflow) at sparing = (fit, λ fits. at.overflow.0 refl (grown_fits g e.path kids old fit.0 largest fits))
  refused (Err Unnumberable) at sparing =
      let why = at.unnumberable.0 refl in (
        fit,
        back why.0,
        elim why.1 [ inl none ↦ inl none | inr h ↦ inr (h, no_first_crowded (site_by e old) h) ],
      )
  refused (Err Memory) at sparing =
      let sums = grows (Err Memory) at (λ is. cc) in (
        fit,
        back sums,
        λ none. let is = at.unnumberable.1 (sums, inl none) in cc,
        λ none. let is = at.unnumberable.1 (sums, inr none) in cc,
        elim (cases_lt (e.to - e.from) (length e.others)) [ inl less ↦ less | inr not_less ↦ absurd (sparing not_less refl) ],
      )

  -- the same, if moves are asked for
  pub refused_following : (r : Answer) → IsReplacement e.from e.to e.others g (tree_at e.path old) (tree_at e.path new) r → IfErr r (λ why. IsRefusedFollowing why e old)
  refused_following (Ok x) at = tt
  refused_following (Err Overflow) at = refused (Err Overflow) at (λ few is. cc)
  refused_following (Err Unnumberable) at = refused (Err Unnumberable) at (λ few is. cc)
  refused_following (Err Memory) at =
      let sums = grows (Err Memory) at (λ is. cc) in
      (fit, back sums, λ none. let is = at.unnumberable.1 (sums, inl none) in cc, λ none. let is = at.unnumberable.1 (sums, inr none) in cc)

  pub accepted : (r : Answer) → IsReplacement e.from e.to e.others g (tree_at e.path old) (tree_at e.path new) r → IsNumberedOrUnfiled e.path old
      → new ≡ with_children e.path (trees (tree_at e.path new).children) old → IfOk r (λ x. IsAccepted e old x new)
  accepted (Err why) at numbered frame = tt
  accepted (Ok x) at numbered frame =
      let sums = grows (Ok x) at (λ is. cc) in
      let whole : plain new ≡ plain (edited_by e old) = plain_at e.path e.from e.to e.others old new frame at.plain in
      record {
        fits = fit;
        sums = back sums;
        filed = λ none. let is = at.unnumberable.1 (sums, inl none) in cc;
        plain = whole;
        reads = tells_alike new (edited_by e old) whole;
        numbered = numbered_whole e.path e.from e.to e.others g old new (Ok x) fit.0 at frame numbered;
        window = at.ok;
        tried = found_soon (site_by e old) at.ok.k x.tried at.ok.tried at.ok.first;
        outside = keeps_outside e.path e.from e.to e.others old new x fit.0 fit.2 fit.3 at.ok at.plain frame;
        beside = frame;
      }
