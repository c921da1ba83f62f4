use Rattle.std.proofs.Common.{rules, ◌≡◌, sym, subst}
use Rattle.typst_node.specs.Count.{SumsFit}
use Rattle.typst_parser.specs.Events.{but_last, last_some}
use Rattle.typst_parser.specs.Growth.{proper}
use Rattle.typst_parser.proofs.Texts.{inside_fits}
use Rattle.typst_parser.proofs.grow.join.Goals as goal

pub returns-in_err-node_of-clause-overflow : goal.returns-in_err-node_of-clause-overflow
returns-in_err-node_of-clause-overflow c is fits =
    let ts = c.args.trees.now.items in
    let inside : c.in_ok-children.children.items ≡ last_some c.args.children ts = search rules in
    c.in_err-node_of.ensures.overflow (search (rules, is)) (subst SumsFit (sym inside) (inside_fits (proper c.args.kind) (but_last c.args.children ts) (last_some c.args.children ts) fits))
