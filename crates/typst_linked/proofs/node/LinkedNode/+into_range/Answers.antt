use Rattle.std.proofs.Common.{◌≡◌, ℕ, ◌<◌, ◌∙◌, sym, subst, refl, true, false}
use Rattle.std.proofs.lemmas.Result.{IfOk-weaker}
use Rattle.typst_node.specs.Tree.{trees}
use Rattle.typst_linked.specs.Place.{subtree}
use Rattle.typst_linked.specs.Ranges.{HasRange, FindsRange}
use Rattle.typst_linked.proofs.Covers.{range_there, range_none, range_step, child_there}
use Rattle.typst_linked.proofs.Searching.{count_there, smaller_turn}
use Rattle.typst_linked.proofs.node.LinkedNode.+into_range.Goals as goal

pub returns-in_default : goal.returns-in_default
returns-in_default t c =
    let n = c.get.result.now in
    let out : HasRange c.args.start c.args.end c.args.self → ⊥ = λ k.
    let yes = (c.has_range.ensures n c.get.ensures).1 (range_there c.args.start c.args.end c.args.self n c.get.ensures k) in
    let bad : true ≡ false = sym yes ∙ c.if-has_range.false in
    cc in
    range_none c.args.start c.args.end c.args.self out (c.in_default.ensures c.args.self c.get.ensures (sym c.range.ensures.start))

pub into_range-requires : goal.into_range-requires
into_range-requires t c =
    let n = c.get.result.now in
    let found = c.in-Some.ensures c.args.self c.get.ensures (sym c.range.ensures.start) in
    let child = child_there (trees n.children) c.in-Some.part.index found.1.0 in
    let l = smaller_turn n child.0 c.args.self c.in_ok-child.child c.in-Some.part.index (trees n.children) c.get.ensures refl child.1 c.in_ok-child.ensures in
    (subst (λ (k : ℕ). count_there (subtree c.in_ok-child.child) < k) c.decreases l, tt)

pub returns : goal.returns
returns t c =
    let n = c.get.result.now in
    let out : HasRange c.args.start c.args.end c.args.self → ⊥ = λ k.
    let yes = (c.has_range.ensures n c.get.ensures).1 (range_there c.args.start c.args.end c.args.self n c.get.ensures k) in
    let bad : true ≡ false = sym yes ∙ c.if-has_range.false in
    cc in
    let found = c.in-Some.ensures c.args.self c.get.ensures (sym c.range.ensures.start) in
    IfOk-weaker c.into_range.result (FindsRange c.args.start c.args.end c.in_ok-child.child) (FindsRange c.args.start c.args.end c.args.self)
    (λ r f. range_step c.args.start c.args.end c.args.self c.in_ok-child.child c.in-Some.part.index r c.in_ok-child.ensures out found.0 f) c.into_range.ensures
