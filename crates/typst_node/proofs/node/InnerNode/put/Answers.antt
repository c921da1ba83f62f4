use Rattle.std.proofs.Common.{arith, ◌≡◌, ℕ, ap, refl, sym, subst, ◌∙◌}
use Rattle.std.specs.Prelude.{slice_range}
use Rattle.std.specs.List.{splice}
use Rattle.typst_node.specs.Sums.{AreSums}
use Rattle.typst_node.specs.Stale.{IsStale}
use Rattle.typst_node.specs.declared.node.InnerNode.{InnerNode}
use Rattle.typst_node.specs.ChildEnds.{HavePlace}
use Rattle.typst_node.proofs.Settled.{put_stale}
use Rattle.typst_node.proofs.node.InnerNode.put.Goals as goal

pub settle-requires-clause-stale : goal.settle-requires-clause-stale
settle-requires-clause-stale c =
    let old = c.args.self.now in
    let change = c.args.change.now in
    let is = c.requires.change in
    let items = old.children.items in
    let ys = c.args.edit.others.items in
    let same : c.reserve.new.self.items ≡ items = c.reserve.ensures.items in
    let new : InnerNode = record { descendants = old.descendants; upper = old.upper; children = c.exchange.new.items; extras = c.make_place.new.self } in
    let gone : AreSums change.gone (slice_range items change.from change.to) = coe 0 1 (i. AreSums change.gone (slice_range items (sym is.from_is i) (sym is.to_is i))) is.gone in
    let place : HavePlace change.from change.to change.many c.make_place.new.self.ends items =
    coe 0 1 (i. HavePlace change.from change.to change.many c.make_place.new.self.ends ((c.deref.ensures.value ∙ same) i)) c.in_ok-make_place.ensures.ok in
    subst (λ (n : ℕ). IsStale change.from change.to n change.gone new) (sym is.many)
    (put_stale old new ys change.from change.to change.gone (omega (arith, is.from_is, is.to_is, c.requires.window)) (omega (arith, is.to_is, c.requires.inside)) c.requires.measured gone
    (c.in_ok-exchange.ensures.ok ∙ ap (λ ts. splice ts change.from change.to ys) same) refl c.in_ok-make_place.ensures.diagnosis
    (subst (λ (n : ℕ). HavePlace change.from change.to n c.make_place.new.self.ends items) is.many place))
