use Rattle.std.proofs.Common.{◌≡◌, drop}
use Rattle.std.specs.Prelude.{fold}
use Rattle.typst_node.specs.Tree.{forest}
use Rattle.typst_node.specs.Count.{count}
use Rattle.typst_node.specs.Hashed.{forest_input}
use Rattle.typst_node.proofs.node.SyntaxNode.+feed.Given as goal

abbrev pub decreases-feed : goal.decreases-feed
decreases-feed g l = count l.self.now

abbrev pub invariant-loop-child : goal.invariant-loop-child
invariant-loop-child g l =
    fold g.H.Hasher.write l.state (forest_input (forest (drop l.child-index l.children))) ≡ fold g.H.Hasher.write l.initial.state (forest_input (forest l.children))
