use Rattle.std.proofs.Common.{◌≡◌, ℕ, ◌<◌, sym, subst, refl}
use Rattle.std.proofs.lemmas.Result.{IfOk-weaker}
use Rattle.typst_node.specs.Tree.{trees}
use Rattle.typst_linked.specs.Place.{subtree}
use Rattle.typst_linked.specs.Ranges.{Covers, IsCoverBelow}
use Rattle.typst_linked.proofs.Covers.{cover_here, cover_step, child_there}
use Rattle.typst_linked.proofs.Searching.{count_there, smaller_turn}
use Rattle.typst_linked.proofs.node.LinkedNode.+into_cover.Goals as goal

pub returns-in_default : goal.returns-in_default
returns-in_default t c =
    cover_here c.args.start c.args.end c.args.self c.requires (c.in_default.ensures c.args.self c.get.ensures (sym c.range.ensures.start))

pub into_cover-requires : goal.into_cover-requires
into_cover-requires t c =
    let n = c.get.result.now in
    let found = c.in-Some.ensures c.args.self c.get.ensures (sym c.range.ensures.start) in
    let child = child_there (trees n.children) c.in-Some.part.index found.1.0 in
    let l = smaller_turn n child.0 c.args.self c.in_ok-child.child c.in-Some.part.index (trees n.children) c.get.ensures refl child.1 c.in_ok-child.ensures in
    (subst (λ (k : ℕ). count_there (subtree c.in_ok-child.child) < k) c.decreases l, subst (Covers c.args.start c.args.end) (sym c.in_ok-child.ensures) found.0.0)

pub returns : goal.returns
returns t c =
    let found = c.in-Some.ensures c.args.self c.get.ensures (sym c.range.ensures.start) in
    IfOk-weaker c.into_cover.result (IsCoverBelow c.args.start c.args.end c.in_ok-child.child) (IsCoverBelow c.args.start c.args.end c.args.self)
    (λ r f. cover_step c.args.start c.args.end c.args.self c.in_ok-child.child c.in-Some.part.index r c.in_ok-child.ensures found.0 f) c.into_cover.ensures
