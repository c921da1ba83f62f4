use Rattle.std.proofs.Common.{◌≡◌, ◌∙◌, [], refl, sym, ap, subst, length, arith}
use Rattle.std.specs.List.{splice}
use Rattle.typst_node.specs.PlainEdit.{edited, spliced}
use Rattle.typst_node.specs.Count.{count}
use Rattle.typst_node.specs.Labels.{number, bound}
use Rattle.typst_node.specs.Plain.{plain}
use Rattle.typst_node.specs.Text.{text}
use Rattle.typst_node.specs.Edit.{edit_of}
use Rattle.typst_node.specs.Reconciled.{IsUnreconciledBy, touched_children}
use Rattle.typst_node.specs.declared.node.replace.ReplaceError.{ReplaceError}
use Rattle.typst_node.specs.declared.node.replace.ReplaceError.TheVariants as replace
use Rattle.typst_node.proofs.Plain.{count_plain}
use Rattle.typst_source.specs.Blocks.{document}
use Rattle.typst_source.specs.Reparsed.{AreReparsed, AreSeams}
use Rattle.typst_source.proofs.Laws.{AreLaws}
use Rattle.typst_source.proofs.TooLarge.{unfit_edit, whole_fits}
use Rattle.typst_source.proofs.Kids.{fresh_text}
use Rattle.typst_source.proofs.Trees.{numbered_for, still_roomy, crowded, refused_as, is_parsed, root_label}
use Rattle.typst_source.proofs.parsed.Parsed.reparse.Given as given
use Rattle.typst_source.proofs.parsed.Parsed.reparse.Goals as goal
use Rattle.typst_source.proofs.parsed.Parsed.reparse.Goals.{After-drop-change-2}

laws : (g : given.Over) → AreLaws g.P.BlockParser.first
laws g = record {
  positive = g.met.P.BlockParser.positive;
  within = g.met.P.BlockParser.within;
  boundary = g.met.P.BlockParser.boundary;
  keeps_text = g.met.P.BlockParser.keeps_text;
  looked = g.met.P.BlockParser.looked;
  local = g.met.P.BlockParser.local;
}

fresh : (g : given.Over) (c : After-drop-change-2 g) → plain c.reconcile_at.new.self ≡ document g.P.BlockParser.first c.args.new.now
fresh g c = (c.in_ok-done.ensures.reconciled c.in_ok-change.ensures.change.inner).plain ∙ c.in_ok-change.ensures.change.fresh

new_text : (g : given.Over) (c : After-drop-change-2 g) → text c.reconcile_at.new.self ≡ c.args.new.now
new_text g c = fresh_text g.P.BlockParser.first (laws g) c.args.new.now c.reconcile_at.new.self (fresh g c)

pub returns-clause-edited : goal.returns-clause-edited
returns-clause-edited g c =
    let change = c.in_ok-change.ensures.change in
    let is = c.in_ok-done.ensures.reconciled change.inner in
    let same = new_text g c in
    let old = text c.args.self.now.root in
    let first = g.P.BlockParser.first in
    record {
      edited = same;
      fresh = fresh g c ∙ ap (document first) (sym same);
      numbered = is.numbered;
      reparsed = subst (λ s. AreReparsed first old s c.args.cut.now c.in_ok-change.change.reparsed) (sym same) change.reparsed;
      replaced = (
        edit_of [] c.in_ok-change.change.children c.in_ok-change.change.nodes.items,
        (
          refl,
          subst (λ s. AreSeams first old s c.args.cut.now c.in_ok-change.change.reparsed c.in_ok-change.change.children.start c.in_ok-change.change.children.end (length c.in_ok-change.change.nodes.items)) (sym same) change.seams,
        ),
        is,
      );
      outside = is.outside;
      all = is.all;
      spans = is.spans;
      still = is.still;
    }

pub returns-clause-parsed : goal.returns-clause-parsed
returns-clause-parsed g c =
    let change = c.in_ok-change.ensures.change in
    let new = c.reconcile_at.new.self in
    let same = root_label c.in_ok-done.done.path.items (touched_children c.in_ok-done.done.touched) c.args.self.now.root new (c.in_ok-done.ensures.reconciled change.inner).outside in
    is_parsed g.P.BlockParser.first (laws g) c.args.new.now new c.replace.new.self.items (fresh g c)
    (numbered_for c.args.self.now.root new c.requires.parsed.numbered (c.in_ok-done.ensures.reconciled change.inner).numbered)
    (still_roomy c.args.self.now.root new c.requires.parsed.roomy (ap number same) (ap bound same))
    (c.replace.ensures ∙ (λ i. splice (c.reserve.ensures.items i) c.in_ok-change.change.kept.sums.blocks c.in_ok-change.change.upto (c.deref.ensures.value i)) ∙ change.extents_are)

pub returns-in_err-done-clause-refused : goal.returns-in_err-done-clause-refused
returns-in_err-done-clause-refused g c =
    let change = c.in_ok-change.ensures.change in
    let first = g.P.BlockParser.first in
    let from = c.in_ok-change.change.children.start in
    let to = c.in_ok-change.change.children.end in
    let others = c.in_ok-change.change.nodes.items in
    let root = c.args.self.now.root in
    let counts : count (edited from to others root) ≡ count (document first c.args.new.now) =
    sym (count_plain (edited from to others root)) ∙ ap count change.fresh in
    let unreconciled : (x : ReplaceError) → c.in_err-done.field-0.0 ≡ x → IsUnreconciledBy x (edit_of [] c.in_ok-change.change.children others) root =
    λ x was. subst (λ (x : ReplaceError). IsUnreconciledBy x (edit_of [] c.in_ok-change.change.children others) root) was c.in_err-done.ensures.refused in
    refused_as first root c.args.new.now c.from_residual-in_err-done.result c.in_err-done.field-0.0 c.from_residual-in_err-done.ensures.1
    (λ was.
    let few = crowded from to others root (change.fits change.inner).0 (change.fits change.inner).1 c.requires.parsed.numbered (unreconciled replace.Unnumberable was).2 in
    (omega (arith, counts, few), omega (arith, counts, few, c.requires.parsed.roomy)))
    (λ was. unfit_edit first (laws g) c.args.new.now from to others root change.fresh
    (λ sums. (unreconciled replace.Overflow was).1 (whole_fits root (spliced from to others root) change.inner sums)))
