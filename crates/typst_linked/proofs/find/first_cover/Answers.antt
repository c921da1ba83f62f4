use Rattle.std.proofs.Common.{◌≡◌, ◌-◌, length, ap, subst, arith}
use Rattle.std.proofs.lemmas.Bool.Decides.{nat_tests}
use Rattle.typst_node.specs.Tree.{trees}
use Rattle.typst_linked.specs.Ranges.{begin_of}
use Rattle.typst_linked.specs.Part.{EndsBefore, IsFirstEnding}
use Rattle.typst_linked.proofs.Covers.{none_childless, none_ends, none_begins, first_covers, child_there}
use Rattle.typst_linked.proofs.find.first_cover.Goals as goal

pub returns-then-is_empty : goal.returns-then-is_empty
returns-then-is_empty c = λ place h b.
    let k = c.is_empty.ensures in
    let f = c.if-is_empty.ensures in
    let none : length c.child_slice.result.now ≡ 0 = grind (arith, nat_tests) in
    none_childless c.args.start c.args.end place c.args.node.now h (omega (arith, ap length c.child_slice.ensures.children))

pub returns-in_default : goal.returns-in_default
returns-in_default c = λ place h b.
    let same : c.saturating_sub-goal.result ≡ c.args.end - begin_of place = omega (arith, c.saturating_sub-goal.ensures) in
    none_ends c.args.start c.args.end place c.args.node.now h c.in_default.ensures.no_text (subst (λ n. EndsBefore n (trees c.args.node.now.children)) same c.in_default.ensures.found)

pub returns-then-range-part : goal.returns-then-range-part
returns-then-range-part c = λ place h b.
    let same : c.saturating_sub-goal.result ≡ c.args.end - begin_of place = omega (arith, c.saturating_sub-goal.ensures) in
    let found = c.in-Some.ensures.found in
    let child = child_there (trees c.args.node.now.children) c.in-Some.part.index found.within in
    let first = subst (λ n. IsFirstEnding n (trees c.args.node.now.children) c.in-Some.part) same found in
    (first_covers c.args.start c.args.end place c.args.node.now child.0 c.in-Some.part h c.in-Some.ensures.no_text child.1 first (omega (arith, c.if-range-part.true, b)), (found.within, found.begin_is))

pub returns-else-range-part : goal.returns-else-range-part
returns-else-range-part c = λ place h b.
    let same : c.saturating_sub-goal.result ≡ c.args.end - begin_of place = omega (arith, c.saturating_sub-goal.ensures) in
    let found = c.in-Some.ensures.found in
    let first = subst (λ n. IsFirstEnding n (trees c.args.node.now.children) c.in-Some.part) same found in
    none_begins c.args.start c.args.end place c.args.node.now c.in-Some.part h c.in-Some.ensures.no_text first (omega (arith, c.if-range-part.false, b))
