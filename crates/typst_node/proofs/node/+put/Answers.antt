use Rattle.std.proofs.Common.{◌≡◌, ℕ, ◌+◌, ◌-◌, ◌<◌, List, [], ◌∷◌, length, set, get_or, get_or-set_same, refl, sym, ap, subst, ◌∙◌, arith, rules}
use Rattle.std.proofs.lemmas.Grind.{common_steps}
use Rattle.std.proofs.lemmas.List.{length-set}
use Rattle.std.specs.Box.{with_value}
use Rattle.std.specs.Prelude.{slice_range}
use Rattle.typst_node.specs.declared.node.Node.TheVariants.{Inner}
use Rattle.typst_node.specs.Tree.{Tree, trees}
use Rattle.typst_node.specs.Count.{SumsFit}
use Rattle.typst_node.specs.Text.{text, text_of_all}
use Rattle.typst_node.specs.View.{tree_of, IsConsistent}
use Rattle.typst_node.specs.Sums.{AreSums}
use Rattle.typst_node.specs.Paths.{IsPath, no_tree}
use Rattle.typst_node.specs.PlainEdit.{TreeFits}
use Rattle.typst_node.specs.EditBelow.{child_of}
use Rattle.typst_node.specs.Put.{with_tree}
use Rattle.typst_node.proofs.Settled.{set_splice, slice_one, sums_of_one, len_after_one, place_for_one, put_stale}
use Rattle.typst_node.proofs.Edited.{inner_kids, inner_label}
use Rattle.typst_node.proofs.Put.{put_cons, kids_fit, child_fits}
use Rattle.typst_node.proofs.node.+put.Goals as goal

pub InnerNode::put_in-put_at-requires : goal.InnerNode::put_in-put_at-requires
InnerNode::put_in-put_at-requires t c =
    let items = c.args.self.now.children.items in
    let old : c.index_mut.result.now ≡ get_or items c.args.index no_tree = grind (arith, common_steps) in
    let fits : TreeFits (with_tree c.args.path.now c.args.other.now (get_or items c.args.index no_tree)) = child_fits items c.args.index (with_tree c.args.path.now c.args.other.now (get_or items c.args.index no_tree)) no_tree c.requires.index c.requires.fits in (
      omega (arith, c.decreases),
      (subst (IsPath c.args.path.now) (sym old) c.requires.path, subst (λ (t : Tree). TreeFits (with_tree c.args.path.now c.args.other.now t)) (sym old) fits),
    )

pub InnerNode::put_in-settle_child-requires-clause-stale : goal.InnerNode::put_in-settle_child-requires-clause-stale
InnerNode::put_in-settle_child-requires-clause-stale t c =
    let items = c.args.self.now.children.items in
    let i = c.args.index in
    let child = c.put_at.new.self in
    let one : c.index.result.now ∷ [] ≡ slice_range items i (i + 1) = ap (λ x. x ∷ []) c.index.ensures ∙ slice_one items i c.index.result.now c.requires.index in
    let is = c.measures-gone.ensures in
    put_stale c.args.self.now _ (child ∷ []) i (i + 1) c.measures-gone.result (omega arith) (omega (arith, c.requires.index)) c.requires.measured
    (subst (λ (ts : List Tree). AreSums c.measures-gone.result ts) one (sums_of_one c.measures-gone.result c.index.result.now is.len is.descendants is.errors is.warnings)) (set_splice items i child c.requires.index) refl refl
    (place_for_one c.args.self.now.extras.ends items i c.requires.index c.requires.measured.ends)

pub SyntaxNode::put_at-index-requires : goal.SyntaxNode::put_at-index-requires
SyntaxNode::put_at-index-requires t c =
    let path : IsPath (c.in-Some.index.now ∷ c.in-Some.rest.now) c.args.self.now = subst (λ (p : List ℕ). IsPath p c.args.self.now) c.in-Some.ensures.cases.0 c.requires.path in
    let kids : trees c.args.self.now.children ≡ c.deref.result.now.children.items = inner_kids c.self.inside _ _ c.in-Inner.inner c.args.self.now c.in-Inner.is c.self.view_is ∙ sym (ap (λ b. b.children.items) c.deref.ensures) in
    omega (arith, path.0, ap length kids)

pub SyntaxNode::put_at-overflow_sub-beside : goal.SyntaxNode::put_at-overflow_sub-beside
SyntaxNode::put_at-overflow_sub-beside t c =
    let old = c.in-Inner.inner.value.children.items in
    let i = c.in-Some.index.now in
    let path : IsPath (i ∷ c.in-Some.rest.now) c.args.self.now = subst (λ (p : List ℕ). IsPath p c.args.self.now) c.in-Some.ensures.cases.0 c.requires.path in
    let there : i < length old = omega (arith, path.0, ap length (inner_kids c.self.inside _ _ c.in-Inner.inner c.args.self.now c.in-Inner.is c.self.view_is)) in
    let kept : IsConsistent (Inner c.in-Inner.field-0 c.in-Inner.len c.in-Inner.inner) = subst IsConsistent c.in-Inner.is c.self.invariant in
    let was = c.index.result.now in
    let was_is : was ≡ get_or old i was = c.index.ensures ∙ ap (λ b. get_or b.children.items i was) c.deref.ensures in
    (len_after_one old i c.in-Inner.len c.len.result (length (text was)) was was was there kept.1.0 c.len.ensures was_is refl (sym (get_or-set_same old i was was there))).0

pub SyntaxNode::put_at-put_in-requires : goal.SyntaxNode::put_at-put_in-requires
SyntaxNode::put_at-put_in-requires t c =
    let n = c.in-Some.index.now in
    let rest = c.in-Some.rest.now in
    let whole = c.args.self.now in
    let is : c.args.path.now ≡ n ∷ rest = c.in-Some.ensures.cases.0 in
    let path : IsPath (n ∷ rest) whole = subst (λ (p : List ℕ). IsPath p whole) is c.requires.path in
    let kids : trees whole.children ≡ c.deref_mut.result.now.children.items = inner_kids c.self.inside _ _ c.in-Inner.inner whole c.in-Inner.is c.self.view_is ∙ sym (ap (λ b. b.children.items) c.deref_mut.ensures.value) in (
      omega (arith, c.decreases, c.in-Some.ensures.cases.1),
      (
        search rules,
        (
          subst (λ (ts : List Tree). n < length ts) kids path.0,
          (
            subst (λ (ts : List Tree). IsPath rest (get_or ts n no_tree)) kids path.1,
            kids_fit c.args.path.now n rest c.args.other.now whole c.deref_mut.result.now.children.items is kids c.requires.fits,
          ),
        ),
      ),
    )

pub SyntaxNode::put_at-index-requires-in-Inner : goal.SyntaxNode::put_at-index-requires-in-Inner
SyntaxNode::put_at-index-requires-in-Inner t c =
    let i = c.in-Some.index.now in
    let path : IsPath (i ∷ c.in-Some.rest.now) c.args.self.now = subst (λ (p : List ℕ). IsPath p c.args.self.now) c.in-Some.ensures.cases.0 c.requires.path in
    let kids : trees c.args.self.now.children ≡ c.deref_mut.result.now.children.items = inner_kids c.self.inside _ _ c.in-Inner.inner c.args.self.now c.in-Inner.is c.self.view_is ∙ sym (ap (λ b. b.children.items) c.deref_mut.ensures.value) in
    omega (arith, path.0, ap length kids, ap length c.put_in.ensures.children, ap (λ b. length b.children.items) c.deref-in-Inner.ensures, length-set c.deref_mut.result.now.children.items i (with_tree c.in-Some.rest.now c.args.other.now (child_of c.deref_mut.result.now.children.items i)))

-- the length that is kept is that of the new children, and fits
len_put : (t : ℕ) (c : goal.SyntaxNode::put_at-After-len-in-Inner t) → (c.in-Inner.len - c.len.result + c.len-in-Inner.result ≡ length (text_of_all c.put_in.new.self.children.items)) × SumsFit c.put_in.new.self.children.items
len_put t c =
    let old = c.in-Inner.inner.value.children.items in
    let i = c.in-Some.index.now in
    let rest = c.in-Some.rest.now in
    let whole = c.args.self.now in
    let is : c.args.path.now ≡ i ∷ rest = c.in-Some.ensures.cases.0 in
    let path : IsPath (i ∷ rest) whole = subst (λ (p : List ℕ). IsPath p whole) is c.requires.path in
    let kids : trees whole.children ≡ old = inner_kids c.self.inside _ _ c.in-Inner.inner whole c.in-Inner.is c.self.view_is in
    let there : i < length old = omega (arith, path.0, ap length kids) in
    let kept : IsConsistent (Inner c.in-Inner.field-0 c.in-Inner.len c.in-Inner.inner) = subst IsConsistent c.in-Inner.is c.self.invariant in
    let was = c.index.result.now in
    let was_is : was ≡ get_or old i was = c.index.ensures ∙ ap (λ b. get_or b.children.items i was) c.deref.ensures in
    let child = with_tree rest c.args.other.now (get_or old i no_tree) in
    let news : c.put_in.new.self.children.items ≡ set old i child = c.put_in.ensures.children ∙ ap (λ b. set b.children.items i (with_tree rest c.args.other.now (get_or b.children.items i no_tree))) c.deref_mut.ensures.value in
    let now = c.index-in-Inner.result.now in
    let now_is : now ≡ get_or (set old i child) i now = c.index-in-Inner.ensures ∙ (ap (λ b. get_or b.children.items i now) c.deref-in-Inner.ensures ∙ ap (λ ts. get_or ts i now) news) in
    let after = len_after_one old i c.in-Inner.len c.len.result c.len-in-Inner.result was now child there kept.1.0 c.len.ensures was_is c.len-in-Inner.ensures now_is in
    let sums : SumsFit (set old i child) = kids_fit c.args.path.now i rest c.args.other.now whole old is kids c.requires.fits in
    (after.1 ∙ ap (λ ts. length (text_of_all ts)) (sym news), subst SumsFit (sym news) sums)

pub SyntaxNode::put_at-overflow_add-len : goal.SyntaxNode::put_at-overflow_add-len
SyntaxNode::put_at-overflow_add-len t c =
    let after = len_put t c in
    omega (arith, after.0, after.1.0)

pub SyntaxNode::put_at-invariant_of-self : goal.SyntaxNode::put_at-invariant_of-self
SyntaxNode::put_at-invariant_of-self t c =
    let kept : IsConsistent (Inner c.in-Inner.field-0 c.in-Inner.len c.in-Inner.inner) = subst IsConsistent c.in-Inner.is c.self.invariant in
    let after = len_put t c in
    (kept.0, (after.0, c.put_in.ensures.measured))

pub SyntaxNode::put_at-returns-in-Inner : goal.SyntaxNode::put_at-returns-in-Inner
SyntaxNode::put_at-returns-in-Inner t c =
    let kids : trees c.args.self.now.children ≡ c.deref_mut.result.now.children.items = inner_kids c.self.inside _ _ c.in-Inner.inner c.args.self.now c.in-Inner.is c.self.view_is ∙ sym (ap (λ b. b.children.items) c.deref_mut.ensures.value) in
    let same = inner_label c.self.inside _ _ c.in-Inner.inner c.args.self.now c.in-Inner.is c.self.view_is c.put_in.new.self (c.put_in.ensures.upper ∙ ap (λ b. b.upper) c.deref_mut.ensures.value) (c.put_in.ensures.warnings ∙ ap (λ b. b.extras.warnings) c.deref_mut.ensures.value) in
    put_cons c.args.path.now c.in-Some.index.now c.in-Some.rest.now c.args.other.now c.args.self.now (tree_of record { node = Inner _ c.in-Inner.len (with_value c.in-Inner.inner c.put_in.new.self); span = c.self.inside.span })
    c.deref_mut.result.now.children.items c.put_in.new.self.children.items c.in-Some.ensures.cases.0 kids same refl c.put_in.ensures.children
