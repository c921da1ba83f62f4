use Rattle.typst_lexer.proofs.QuickOperators.{equal_found, greater_found, less_found, minus_found, plus_found, slash_found, star_found}
use Rattle.typst_lexer.proofs.quick.operator.Goals as goal

pub returns-in-61 : goal.returns-in-61
returns-in-61 c = equal_found c.args.byte c.in-61.is

pub returns-in-43 : goal.returns-in-43
returns-in-43 c = plus_found c.args.byte c.in-43.is

pub returns-in-45 : goal.returns-in-45
returns-in-45 c = minus_found c.args.byte c.in-45.is

pub returns-in-42 : goal.returns-in-42
returns-in-42 c = star_found c.args.byte c.in-42.is

pub returns-in-47 : goal.returns-in-47
returns-in-47 c = slash_found c.args.byte c.in-47.is

pub returns-in-60 : goal.returns-in-60
returns-in-60 c = less_found c.args.byte c.in-60.is

pub returns-in-62 : goal.returns-in-62
returns-in-62 c = greater_found c.args.byte c.in-62.is
