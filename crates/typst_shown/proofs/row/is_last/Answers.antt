use Rattle.std.proofs.Common.{◌∙◌, ◌+◌, ◌<◌, ap, sym, length, nat_le, min, arith}
use Rattle.std.specs.Option.{is_none}
use Rattle.typst_node.specs.Tree.{trees}
use Rattle.typst_linked.specs.Place.{last_step}
use Rattle.typst_linked.specs.Siblings.{sibling, behind_it}
use Rattle.typst_shown.proofs.RowFacts.{last_test}
use Rattle.typst_shown.proofs.row.is_last.Goals as goal

pub returns-in-Some : goal.returns-in-Some
returns-in-Some c =
    let k = last_step c.args.node.now.path in
    let t = c.get.result.now in
    let count = ap length c.child_slice.ensures.children in
    let rest = c.saturating_add.ensures ∙ ap (λ i. min (i + 1) 18446744073709551615) c.index.ensures in
    let fits : length (trees t.children) < 18446744073709551616 = omega (arith, count, c.child_slice.type_inv.0) in
    ap (λ n. nat_le n c.saturating_add.result) count
    ∙ last_test c.in-Some.parent.now k c.saturating_add.result t c.get.ensures rest fits
    ∙ ap (λ place. is_none (sibling behind_it place)) (sym c.in-Some.ensures)
