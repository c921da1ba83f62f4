use Rattle.std.proofs.Common.{◌≡◌, ◌+◌, ◌-◌, ◌∙◌, ap, sym, arith, cond, false, Some}
use Rattle.std.specs.Prelude.{not}
use Rattle.typst_base.specs.KindClasses.{is_trivia_kind}
use Rattle.typst_linked.specs.Siblings.{is_solid, solid_before}
use Rattle.typst_linked.proofs.Nearest.{solid_before-more}
use Rattle.typst_linked.proofs.siblings.last_solid.Goals as goal

pub loop-before-preserved : goal.loop-before-preserved
loop-before-preserved c =
    let k = c.loop-before.before - 1 in
    let node = c.index-nodes-before.result in
    let back : c.loop-before.before ≡ k + 1 = omega arith in
    let more = solid_before-more c.args.nodes.now k node (omega arith) in
    let trivia : is_solid node ≡ false = ap (λ kind. not (is_trivia_kind kind)) (sym c.kind.ensures.kind) ∙ sym (ap not c.if-not-is_trivia.ensures) in
    c.loop-before.invariant ∙ ap (λ i. solid_before i c.args.nodes.now) back ∙ more
    ∙ ap (λ n. cond (is_solid n) (Some k) (solid_before k c.args.nodes.now)) (sym c.index-nodes-before.is)
    ∙ ap (λ b. cond b (Some k) (solid_before k c.args.nodes.now)) trivia
