use Rattle.std.proofs.Common.{◌≡◌, true, false, ℕ, ◌+◌, ◌<◌, List, [], ◌∷◌, length, set, get_or, get_or-set_same, refl, sym, ap, subst, ◌∙◌, arith, rules}
use Rattle.std.proofs.lemmas.Grind.{common_steps}
use Rattle.std.specs.Box.{with_value}
use Rattle.typst_node.specs.declared.node.Node.TheVariants.{Inner}
use Rattle.typst_node.specs.Tree.{Tree, trees}
use Rattle.typst_node.specs.Count.{SumsFit}
use Rattle.typst_node.specs.Text.{text, text_of_all}
use Rattle.typst_node.specs.View.{tree_of, IsConsistent}
use Rattle.typst_node.specs.PlainEdit.{FitsInner}
use Rattle.typst_node.specs.Paths.{StaysBeside, no_tree, tree_at}
use Rattle.typst_node.specs.Edit.{IsNumberedOrUnfiled, IsUnfiled}
use Rattle.typst_node.specs.Growth.{CanGrow, ChildrenCanGrow}
use Rattle.typst_node.specs.EditBelow.{child_of}
use Rattle.typst_node.specs.Errand.{IsNoted}
use Rattle.std.specs.Prelude.{slice_range, is_some}
use Rattle.typst_node.specs.Sums.{AreSums}
use Rattle.typst_node.proofs.Settled.{set_splice, slice_one, sums_of_one, len_after_one, place_for_one, put_stale}
use Rattle.typst_node.proofs.Edited.{inner_kids, inner_label}
use Rattle.typst_node.proofs.EditsBelow.{numbered_below}
use Rattle.typst_node.proofs.WholeTreeEdited.{child_can_grow, children_can_grow}
use Rattle.typst_node.proofs.EditStep.{frame_nil, frame_same, frame_cons, at_cons, here_cons, fits_cons, fits_not, fits_after}
use Rattle.typst_node.proofs.node.+at.Goals as goal

pub SyntaxNode::replace_below-returns-in-None-clause-frame : goal.SyntaxNode::replace_below-returns-in-None-clause-frame
SyntaxNode::replace_below-returns-in-None-clause-frame t c = frame_nil c.args.path.now c.args.self.now c.arrive.new.node c.in-None.ensures.cases c.arrive.ensures.label

pub InnerNode::replace_in-settle_child-requires-clause-stale : goal.InnerNode::replace_in-settle_child-requires-clause-stale
InnerNode::replace_in-settle_child-requires-clause-stale t c =
    let items = c.args.self.now.children.items in
    let i = c.args.index in
    let child = c.replace_below.new.self in
    let one : c.index.result.now ∷ [] ≡ slice_range items i (i + 1) = ap (λ x. x ∷ []) c.index.ensures ∙ slice_one items i c.index.result.now c.requires.index in
    let is = c.measures-gone.ensures in
    put_stale c.args.self.now _ (child ∷ []) i (i + 1) c.measures-gone.result (omega arith) (omega (arith, c.requires.index)) c.requires.measured
    (subst (λ (ts : List Tree). AreSums c.measures-gone.result ts) one (sums_of_one c.measures-gone.result c.index.result.now is.len is.descendants is.errors is.warnings)) (set_splice items i child c.requires.index) refl refl
    (place_for_one c.args.self.now.extras.ends items i c.requires.index c.requires.measured.ends)

pub InnerNode::replace_in-settle_child-requires-clause-fits : goal.InnerNode::replace_in-settle_child-requires-clause-fits
InnerNode::replace_in-settle_child-requires-clause-fits t c =
    let items = c.args.self.now.children.items in
    let old : c.index_mut.result.now ≡ get_or items c.args.index no_tree = grind (arith, common_steps) in
    fits_after c.args.path.now c.args.errand.now.edit.from c.args.errand.now.edit.to c.args.errand.now.edit.others.items c.args.errand.now.edit.growth items c.args.index c.index_mut.result.now c.replace_below.new.self c.replace_below.new.errand.answer old c.requires.index c.requires.growth
    c.replace_below.ensures.misfit c.replace_below.ensures.err c.replace_below.ensures.frame c.replace_below.ensures.at c.replace_below.ensures.fits.0

pub InnerNode::replace_in-returns-clause-sums : goal.InnerNode::replace_in-returns-clause-sums
InnerNode::replace_in-returns-clause-sums t c =
    let items = c.args.self.now.children.items in
    let child = c.replace_below.new.self in
    let old : c.index_mut.result.now ≡ get_or items c.args.index no_tree = grind (arith, common_steps) in
    subst SumsFit (sym (ap (λ ch. ch.items) c.settle_child.ensures.children))
    (fits_after c.args.path.now c.args.errand.now.edit.from c.args.errand.now.edit.to c.args.errand.now.edit.others.items c.args.errand.now.edit.growth items c.args.index c.index_mut.result.now child c.replace_below.new.errand.answer old c.requires.index c.requires.growth
    c.replace_below.ensures.misfit c.replace_below.ensures.err c.replace_below.ensures.frame c.replace_below.ensures.at c.replace_below.ensures.fits.0)

pub SyntaxNode::replace_below-replace_in-requires : goal.SyntaxNode::replace_below-replace_in-requires
SyntaxNode::replace_below-replace_in-requires t c =
    let n = c.in-Some.index.now in
    let rest = c.in-Some.rest.now in
    let from = c.args.errand.now.edit.from in
    let to = c.args.errand.now.edit.to in
    let g = c.args.errand.now.edit.growth in
    let whole = c.args.self.now in
    let is : c.args.path.now ≡ n ∷ rest = c.in-Some.ensures.cases.0 in
    let numbered : FitsInner (n ∷ rest) from to whole → IsNumberedOrUnfiled (n ∷ rest) whole =
    subst (λ (p : List ℕ). FitsInner p from to whole → IsNumberedOrUnfiled p whole) is c.requires.2 in
    let kids : trees whole.children ≡ c.deref_mut.result.now.children.items = inner_kids c.self.inside _ _ c.in-Inner.inner whole c.in-Inner.is c.self.view_is ∙ sym (ap (λ b. b.children.items) c.deref_mut.ensures.value) in
    let old : List Tree = trees whole.children in
    let there : n < length old = omega (arith, c.if-index-len.false, ap length (inner_kids c.self.inside _ _ c.in-Inner.inner whole c.in-Inner.is c.self.view_is), ap (λ b. length b.children.items) c.deref.ensures) in
    let fits : FitsInner rest from to (get_or old n no_tree) → FitsInner (n ∷ rest) from to whole = (fits_cons (n ∷ rest) n rest from to whole old refl refl there).1 in
    let below : FitsInner rest from to (get_or old n no_tree) → IsNumberedOrUnfiled rest (get_or old n no_tree) = λ h. numbered_below (IsUnfiled (tree_at (n ∷ rest) whole)) whole n there (numbered (fits h)) in (
      omega (arith, c.decreases, c.in-Some.ensures.cases.1),
      (
        search rules,
        (
          subst (ChildrenCanGrow g) kids (children_can_grow g whole c.requires.1),
          (
            subst (λ (ts : List Tree). n < length ts) kids there,
            (
              c.requires.0,
              subst (λ (ts : List Tree). CanGrow g (get_or ts n no_tree)) kids (child_can_grow g whole n there c.requires.1),
              subst (λ (ts : List Tree). FitsInner rest from to (get_or ts n no_tree) → IsNumberedOrUnfiled rest (get_or ts n no_tree)) kids below,
            ),
          ),
        ),
      ),
    )

pub SyntaxNode::replace_below-returns-else-index-len-clause-frame : goal.SyntaxNode::replace_below-returns-else-index-len-clause-frame
SyntaxNode::replace_below-returns-else-index-len-clause-frame t c =
    let kids : trees c.args.self.now.children ≡ c.deref_mut.result.now.children.items = inner_kids c.self.inside _ _ c.in-Inner.inner c.args.self.now c.in-Inner.is c.self.view_is ∙ sym (ap (λ b. b.children.items) c.deref_mut.ensures.value) in
    let same = inner_label c.self.inside _ _ c.in-Inner.inner c.args.self.now c.in-Inner.is c.self.view_is c.replace_in.new.self (c.replace_in.ensures.upper ∙ ap (λ b. b.upper) c.deref_mut.ensures.value) (c.replace_in.ensures.warnings ∙ ap (λ b. b.extras.warnings) c.deref_mut.ensures.value) in
    frame_cons c.args.path.now c.in-Some.index.now c.in-Some.rest.now c.args.self.now (tree_of record { node = Inner _ c.in-Inner.len (with_value c.in-Inner.inner c.replace_in.new.self); span = c.self.inside.span })
    c.deref_mut.result.now.children.items c.replace_in.new.self.children.items c.in-Some.ensures.cases.0 kids same refl
    (c.replace_in.ensures.one ∙ ap (set c.deref_mut.result.now.children.items c.in-Some.index.now) c.replace_in.ensures.frame)

pub SyntaxNode::replace_below-returns-else-index-len-clause-at : goal.SyntaxNode::replace_below-returns-else-index-len-clause-at
SyntaxNode::replace_below-returns-else-index-len-clause-at t c =
    let kids : trees c.args.self.now.children ≡ c.deref_mut.result.now.children.items = inner_kids c.self.inside _ _ c.in-Inner.inner c.args.self.now c.in-Inner.is c.self.view_is ∙ sym (ap (λ b. b.children.items) c.deref_mut.ensures.value) in
    at_cons c.args.path.now c.in-Some.index.now c.in-Some.rest.now c.args.errand.now.edit.from c.args.errand.now.edit.to c.args.errand.now.edit.others.items c.args.errand.now.edit.growth c.args.self.now (tree_of record { node = Inner _ c.in-Inner.len (with_value c.in-Inner.inner c.replace_in.new.self); span = c.self.inside.span })
    c.deref_mut.result.now.children.items c.replace_in.new.self.children.items c.replace_in.new.errand.answer c.in-Some.ensures.cases.0 kids refl c.replace_in.ensures.at

pub SyntaxNode::replace_below-returns-else-index-len-clause-noted : goal.SyntaxNode::replace_below-returns-else-index-len-clause-noted
SyntaxNode::replace_below-returns-else-index-len-clause-noted t c =
    let kids : trees c.args.self.now.children ≡ c.deref_mut.result.now.children.items = inner_kids c.self.inside _ _ c.in-Inner.inner c.args.self.now c.in-Inner.is c.self.view_is ∙ sym (ap (λ b. b.children.items) c.deref_mut.ensures.value) in
    here_cons (IsNoted c.args.errand.now c.replace_in.new.errand) c.args.path.now c.in-Some.index.now c.in-Some.rest.now c.args.self.now c.deref_mut.result.now.children.items c.in-Some.ensures.cases.0 kids c.replace_in.ensures.noted

pub SyntaxNode::replace_below-returns-then-index-len-clause-fits : goal.SyntaxNode::replace_below-returns-then-index-len-clause-fits
SyntaxNode::replace_below-returns-then-index-len-clause-fits t c =
    let kids : trees c.args.self.now.children ≡ c.deref.result.now.children.items = inner_kids c.self.inside _ _ c.in-Inner.inner c.args.self.now c.in-Inner.is c.self.view_is ∙ sym (ap (λ b. b.children.items) c.deref.ensures) in
    let out = fits_not c.args.path.now c.in-Some.index.now c.in-Some.rest.now c.args.errand.now.edit.from c.args.errand.now.edit.to c.args.self.now c.deref.result.now.children.items c.in-Some.ensures.cases.0 kids (omega (arith, c.if-index-len.true, c.len.ensures)) in
    ((λ yes. let no : false ≡ true = ap is_some (sym c.requires.0) ∙ yes in cc), (λ h. absurd (out h)))

pub SyntaxNode::replace_below-returns-then-index-len-clause-frame : goal.SyntaxNode::replace_below-returns-then-index-len-clause-frame
SyntaxNode::replace_below-returns-then-index-len-clause-frame t c =
    let same : tree_of record { node = Inner c.in-Inner.field-0 c.in-Inner.len c.in-Inner.inner; span = c.self.inside.span } ≡ c.args.self.now = ap (λ n. tree_of record { node = n; span = c.self.inside.span }) (sym c.in-Inner.is) ∙ c.self.view_is in
    subst (λ (u : Tree). StaysBeside c.args.path.now c.args.self.now u) (sym same) (frame_same c.args.path.now c.args.self.now)

pub SyntaxNode::replace_below-returns-else-index-len-clause-fits : goal.SyntaxNode::replace_below-returns-else-index-len-clause-fits
SyntaxNode::replace_below-returns-else-index-len-clause-fits t c =
    let kids : trees c.args.self.now.children ≡ c.deref_mut.result.now.children.items = inner_kids c.self.inside _ _ c.in-Inner.inner c.args.self.now c.in-Inner.is c.self.view_is ∙ sym (ap (λ b. b.children.items) c.deref_mut.ensures.value) in
    let there : c.in-Some.index.now < length c.deref_mut.result.now.children.items = omega (arith, c.if-index-len.false, ap (λ b. length b.children.items) c.deref.ensures, ap (λ b. length b.children.items) c.deref_mut.ensures.value) in
    let step = fits_cons c.args.path.now c.in-Some.index.now c.in-Some.rest.now c.args.errand.now.edit.from c.args.errand.now.edit.to c.args.self.now c.deref_mut.result.now.children.items c.in-Some.ensures.cases.0 kids there in
    ((λ yes. step.1 (c.replace_in.ensures.fits.0 yes)), (λ h. c.replace_in.ensures.fits.1 (step.0 h)))

pub SyntaxNode::replace_below-overflow_sub-beside : goal.SyntaxNode::replace_below-overflow_sub-beside
SyntaxNode::replace_below-overflow_sub-beside t c =
    let old = c.in-Inner.inner.value.children.items in
    let i = c.in-Some.index.now in
    let kept : IsConsistent (Inner c.in-Inner.field-0 c.in-Inner.len c.in-Inner.inner) = subst IsConsistent c.in-Inner.is c.self.invariant in
    let there : i < length old = omega (arith, c.if-index-len.false, ap (λ b. length b.children.items) c.deref.ensures) in
    let was = c.index.result.now in
    let was_is : was ≡ get_or old i was = c.index.ensures ∙ ap (λ b. get_or b.children.items i was) c.deref-in-Inner.ensures in
    (len_after_one old i c.in-Inner.len c.len-in-Inner.result (length (text was)) was was was there kept.1.0 c.len-in-Inner.ensures was_is refl (sym (get_or-set_same old i was was there))).0

pub SyntaxNode::replace_below-overflow_add-len : goal.SyntaxNode::replace_below-overflow_add-len
SyntaxNode::replace_below-overflow_add-len t c =
    let old = c.in-Inner.inner.value.children.items in
    let i = c.in-Some.index.now in
    let kept : IsConsistent (Inner c.in-Inner.field-0 c.in-Inner.len c.in-Inner.inner) = subst IsConsistent c.in-Inner.is c.self.invariant in
    let there : i < length old = omega (arith, c.if-index-len.false, ap (λ b. length b.children.items) c.deref.ensures) in
    let was = c.index.result.now in
    let was_is : was ≡ get_or old i was = c.index.ensures ∙ ap (λ b. get_or b.children.items i was) c.deref-in-Inner.ensures in
    let child = child_of c.replace_in.new.self.children.items i in
    let news : c.replace_in.new.self.children.items ≡ set old i child = c.replace_in.ensures.one ∙ ap (λ b. set b.children.items i child) c.deref_mut.ensures.value in
    let now = c.index-in-Inner.result.now in
    let now_is : now ≡ get_or (set old i child) i now = c.index-in-Inner.ensures ∙ (ap (λ b. get_or b.children.items i now) c.deref-in-Inner-2.ensures ∙ ap (λ ts. get_or ts i now) news) in
    let after = len_after_one old i c.in-Inner.len c.len-in-Inner.result c.len-in-Inner-2.result was now child there kept.1.0 c.len-in-Inner.ensures was_is c.len-in-Inner-2.ensures now_is in
    let sums : SumsFit (set old i child) = subst SumsFit news c.replace_in.ensures.sums in
    omega (arith, after.1, sums.0)

pub SyntaxNode::replace_below-invariant_of-self-in-Inner-1 : goal.SyntaxNode::replace_below-invariant_of-self-in-Inner-1
SyntaxNode::replace_below-invariant_of-self-in-Inner-1 t c =
    let old = c.in-Inner.inner.value.children.items in
    let i = c.in-Some.index.now in
    let kept : IsConsistent (Inner c.in-Inner.field-0 c.in-Inner.len c.in-Inner.inner) = subst IsConsistent c.in-Inner.is c.self.invariant in
    let there : i < length old = omega (arith, c.if-index-len.false, ap (λ b. length b.children.items) c.deref.ensures) in
    let was = c.index.result.now in
    let was_is : was ≡ get_or old i was = c.index.ensures ∙ ap (λ b. get_or b.children.items i was) c.deref-in-Inner.ensures in
    let child = child_of c.replace_in.new.self.children.items i in
    let news : c.replace_in.new.self.children.items ≡ set old i child = c.replace_in.ensures.one ∙ ap (λ b. set b.children.items i child) c.deref_mut.ensures.value in
    let now = c.index-in-Inner.result.now in
    let now_is : now ≡ get_or (set old i child) i now = c.index-in-Inner.ensures ∙ (ap (λ b. get_or b.children.items i now) c.deref-in-Inner-2.ensures ∙ ap (λ ts. get_or ts i now) news) in
    let after = len_after_one old i c.in-Inner.len c.len-in-Inner.result c.len-in-Inner-2.result was now child there kept.1.0 c.len-in-Inner.ensures was_is c.len-in-Inner-2.ensures now_is in
    (kept.0, (after.1 ∙ ap (λ ts. length (text_of_all ts)) (sym news), c.replace_in.ensures.measured))
