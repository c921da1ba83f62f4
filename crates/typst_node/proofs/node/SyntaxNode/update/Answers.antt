use Rattle.std.proofs.Common.{◌≡◌, List, [], length, sym, subst, ◌∙◌, arith, None}
use Rattle.std.proofs.lemmas.Bool.{false≢true}
use Rattle.typst_node.specs.Tree.{Tree, trees}
use Rattle.typst_node.specs.Edit.{Edit, edit_of}
use Rattle.typst_node.specs.Narrower.{GoesOnWithin}
use Rattle.typst_node.specs.PlainEdit.{TreeFits}
use Rattle.typst_node.specs.Reconciled.{IsReconciled, IsUnreconciledBy}
use Rattle.typst_node.specs.Updated.{edit_to, IsUpdated}
use Rattle.typst_node.specs.declared.node.replace.ReplaceError.TheVariants.{Memory}
use Rattle.typst_node.proofs.AnotherTree.{never_refused, root_goes_on, root_updated, within_fits}
use Rattle.typst_node.proofs.node.SyntaxNode.update.Goals as goal

-- the edit of all children
edit_is : (old other : Tree) (kids others : List Tree) → kids ≡ trees old.children → others ≡ trees other.children → edit_of [] (record { start = 0; end = length kids }) others ≡ edit_to old other
edit_is old other kids others children is = λ i. record { path = []; from = 0; to = length (children i); others = is i }

pub returns-in-Ok-clause-updated : goal.returns-in-Ok-clause-updated
returns-in-Ok-clause-updated c =
    let old = c.args.self.now in
    let on = c.goes_on_within.ensures.0 c.if-goes_on_within.true in
    let made = c.in-Ok.ensures.reconciled on.0.inner in
    let same = edit_is old c.args.other c.child_slice-end.result.now c.into_children.result.items c.child_slice-end.ensures.children c.into_children.ensures in
    root_goes_on old c.args.other on (record { path = c.in-Ok.done.path; touched = c.in-Ok.done.touched }) c.in-Ok.done.moves c.reconcile_at.new.self
    (subst (λ (e : Edit). IsReconciled e old c.in-Ok.done.path.items c.in-Ok.done.touched c.in-Ok.done.moves c.reconcile_at.new.self) same made)

only_memory : (c : goal.In-Err) → c.in-Err.why ≡ Memory
only_memory c =
    let old = c.args.self.now in
    let on = c.goes_on_within.ensures.0 c.if-goes_on_within.true in
    let same = edit_is old c.args.other c.child_slice-end.result.now c.into_children.result.items c.child_slice-end.ensures.children c.into_children.ensures in
    let refused = subst (λ (e : Edit). IsUnreconciledBy c.in-Err.why e old) same c.in-Err.ensures.refused in
    let fits : TreeFits c.args.other = (omega (arith, c.len-len.ensures, c.len-len.type_inv), omega (arith, c.descendants-nodes.ensures, c.descendants-nodes.type_inv)) in
    never_refused old c.args.other on c.in-Err.why c.requires.numbered_ask_is_numbered fits refused

pub returns-in-Ok-clause-unnumberable : goal.returns-in-Ok-clause-unnumberable
returns-in-Ok-clause-unnumberable c =
    let on = c.goes_on_within.ensures.0 c.if-goes_on_within.true in
    let fits = within_fits c.args.self.now c.args.other on c.requires.numbered_ask_is_numbered in
    (λ is. cc, λ short. absurd (fits short))

pub returns-in-Err-clause-unnumberable : goal.returns-in-Err-clause-unnumberable
returns-in-Err-clause-unnumberable c =
    let on = c.goes_on_within.ensures.0 c.if-goes_on_within.true in
    let fits = within_fits c.args.self.now c.args.other on c.requires.numbered_ask_is_numbered in
    (λ is. let memory = only_memory c in cc, λ short. absurd (fits short))

pub returns-in-Err-clause-overflow : goal.returns-in-Err-clause-overflow
returns-in-Err-clause-overflow c = λ is. let memory = only_memory c in cc

pub returns-clause-updated : goal.returns-clause-updated
returns-clause-updated c =
    let old = c.args.self.now in
    let off : ¬ (GoesOnWithin old c.args.other) = λ on. false≢true (sym c.if-goes_on_within.false ∙ c.goes_on_within.ensures.1 on) in
    subst (IsUpdated old c.args.other (record { below = None; moves = c.in_ok-moves.moves })) (sym c.swap.ensures.x_after)
    (root_updated old c.args.other c.in_ok-moves.moves c.number_instead.new.other off c.requires.numbered_ask_is_numbered c.in_ok-moves.ensures.made)
