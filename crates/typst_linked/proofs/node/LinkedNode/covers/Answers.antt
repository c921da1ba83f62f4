use Rattle.std.proofs.Common.{◌≡◌, ◌+◌, ◌≤◌, length, arith}
use Rattle.std.proofs.lemmas.Bool.Decides.{nat_tests}
use Rattle.typst_node.specs.Text.{text}
use Rattle.typst_linked.specs.Ranges.{begin_of}
use Rattle.typst_linked.proofs.Covers.{covers_is, is_covers}
use Rattle.typst_linked.proofs.node.LinkedNode.covers.Goals as goal

pub returns-then-range-start : goal.returns-then-range-start
returns-then-range-start c =
    let n = c.get-node.result.now in
    let s = c.range-range.ensures.start in
    let e = c.range-range.ensures.end n c.get-node.ensures in
    let low : begin_of c.args.self.now ≤ c.args.start = omega (arith, s, c.if-range-start.true) in (
      λ h. let high : c.args.end ≤ begin_of c.args.self.now + length (text n) = grind (arith, nat_tests) in is_covers c.args.start c.args.end c.args.self.now n c.get-node.ensures low high,
      λ k. let high = (covers_is c.args.start c.args.end c.args.self.now n c.get-node.ensures k).1 in grind (arith, nat_tests),
    )

pub returns-else-range-start : goal.returns-else-range-start
returns-else-range-start c =
    let n = c.get-node.result.now in
    let s = c.range-range.ensures.start in (
      λ h. absurd (grind (arith, nat_tests)),
      λ k. let low = (covers_is c.args.start c.args.end c.args.self.now n c.get-node.ensures k).0 in absurd (omega (arith, s, c.if-range-start.false)),
    )
