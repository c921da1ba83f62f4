use Rattle.std.proofs.Common.{arith, ◌≡◌, ◌+◌}
use Rattle.typst_node.specs.Count.{count_of_all}
use Rattle.typst_node.specs.Window.{trees_in}
use Rattle.typst_node.specs.Sites.{recorded}
use Rattle.typst_node.proofs.Opens.{gained, fewer_in}
use Rattle.typst_node.proofs.node.window.count_gained.Goals as goal

pub overflow_add-result : goal.overflow_add-result
overflow_add-result c =
    let s = recorded c.args.site.now in
    let all : count_of_all (trees_in s c.args.width) + (c.count_nodes.result + c.count_nodes-2.result) ≡ count_of_all (trees_in s c.args.next) =
    gained s c.args.width c.args.next c.saturating_sub.result c.saturating_sub-2.result c.min.result c.min-2.result c.count_nodes.result c.count_nodes-2.result c.requires.wider c.requires.fits c.saturating_sub.ensures c.saturating_sub-2.ensures c.min.ensures c.min-2.ensures c.count_nodes.ensures.counted c.count_nodes-2.ensures.counted in
    omega (arith, all, fewer_in s c.args.next, c.requires.fits)

pub returns : goal.returns
returns c =
    gained (recorded c.args.site.now) c.args.width c.args.next c.saturating_sub.result c.saturating_sub-2.result c.min.result c.min-2.result c.count_nodes.result c.count_nodes-2.result c.requires.wider c.requires.fits c.saturating_sub.ensures c.saturating_sub-2.ensures c.min.ensures c.min-2.ensures c.count_nodes.ensures.counted c.count_nodes-2.ensures.counted
