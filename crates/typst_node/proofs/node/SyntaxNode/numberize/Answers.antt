use Rattle.std.proofs.Common.{arith}
use Rattle.typst_node.proofs.Ordered.{numbered_from_within, all_in_range}
use Rattle.typst_node.proofs.node.SyntaxNode.numberize.Goals as goal

pub returns-clause-numbering : goal.returns-clause-numbering
returns-clause-numbering c =
    let made = c.number_within.ensures in
    record {
      numbered = numbered_from_within c.args.id c.args.within.start c.args.within.end c.number_within.new.self (omega arith) (omega arith) made.within;
      within = all_in_range c.args.id c.args.within.start c.args.within.end c.number_within.new.self made.within;
      bound = made.bound;
      middle = made.middle;
      first_half = made.half;
      plain = made.plain;
    }
