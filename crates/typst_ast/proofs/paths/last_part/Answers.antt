use Rattle.std.proofs.Common.{rules, tests, lit<}
use Rattle.std.proofs.lemmas.Iterator.Consumers.{YieldsList-from_filter}
use Rattle.std.proofs.lemmas.Iterator.Splits.{YieldsList-from_str_split}
use Rattle.typst_ast.proofs.PathParts.{last_from_yields_List}
use Rattle.typst_ast.specs.Paths.{is_part}
use Rattle.typst_ast.proofs.paths.last_part.Goals as goal

pub returns : goal.returns
returns c =
    last_from_yields_List c.last.result c.last.ensures.ran
    (YieldsList-from_filter _ is_part (YieldsList-from_str_split 47 c.args.path.now (lit< tt) (cc) (cc) (cc)) (cc) (λ x r q k. search (rules, tests)))
