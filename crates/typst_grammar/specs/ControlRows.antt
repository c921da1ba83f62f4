-- Written by bench/grammar_crate.py from crates/grammar.table: change that and run it.
-- The rows of loops and conditionals.
use Rattle.std.specs.Prelude.{List, [], ◌∷◌, true, false, Some, None}
use Rattle.typst_base.specs.declared.kind.SyntaxKind.TheVariants as kinds
use Rattle.typst_grammar.specs.declared.expectation.Expectation.TheVariants as expectations
use Rattle.typst_grammar.specs.declared.row.Action.TheVariants as actions
use Rattle.typst_grammar.specs.declared.row.Condition.TheVariants as conditions
use Rattle.typst_grammar.specs.declared.row.Newline.TheVariants as newlines
use Rattle.typst_grammar.specs.declared.row.Take.TheVariants as takes
use Rattle.typst_grammar.specs.declared.rows.Class.TheVariants as classes
use Rattle.typst_grammar.specs.declared.rows.State.TheVariants as states
use Rattle.typst_grammar.specs.declared.rows.Class.{Class}
use Rattle.typst_grammar.specs.Row.{Row}

abbrev pub row_0 : Row
row_0 = record {
  condition = conditions.Always;
  before = actions.Expected expectations.Block ∷ actions.Return ∷ [];
  take = takes.Nothing;
  after = [];
  call = None;
}

abbrev pub row_1 : Row
row_1 = record {
  condition = conditions.Always;
  before = actions.Goto states.BodyRest1 ∷ [];
  take = takes.Nothing;
  after = [];
  call = Some (record { state = states.Braces; number = 0; enters = false; is_deep = true; newline = Some newlines.Go });
}

abbrev pub row_2 : Row
row_2 = record {
  condition = conditions.Always;
  before = actions.Goto states.BodyRest2 ∷ [];
  take = takes.Nothing;
  after = [];
  call = Some (record { state = states.Content; number = 0; enters = false; is_deep = true; newline = Some newlines.Go });
}

abbrev pub row_3 : Row
row_3 = record {
  condition = conditions.Always;
  before = [];
  take = takes.Eat;
  after = actions.Goto states.ConditionalRest ∷ [];
  call = Some (record { state = states.Expr; number = 1; enters = false; is_deep = false; newline = None });
}

abbrev pub row_4 : Row
row_4 = record {
  condition = conditions.Always;
  before = actions.Wrap kinds.Conditional ∷ actions.Return ∷ [];
  take = takes.Nothing;
  after = [];
  call = None;
}

abbrev pub row_5 : Row
row_5 = record {
  condition = conditions.Always;
  before = [];
  take = takes.Eat;
  after = actions.Goto states.ConditionalBranch ∷ [];
  call = None;
}

abbrev pub row_6 : Row
row_6 = record {
  condition = conditions.Always;
  before = actions.Goto states.ConditionalBranchRest2 ∷ [];
  take = takes.Nothing;
  after = [];
  call = Some (record { state = states.Body; number = 0; enters = false; is_deep = false; newline = None });
}

abbrev pub row_7 : Row
row_7 = record {
  condition = conditions.Always;
  before = actions.Goto states.ConditionalBranchRest1 ∷ [];
  take = takes.Nothing;
  after = [];
  call = Some (record { state = states.Conditional; number = 0; enters = false; is_deep = false; newline = None });
}

abbrev pub row_8 : Row
row_8 = record {
  condition = conditions.Always;
  before = actions.Expected expectations.KeywordIn ∷ actions.Goto states.ForInRest2 ∷ [];
  take = takes.Nothing;
  after = [];
  call = Some (record { state = states.Expr; number = 1; enters = false; is_deep = false; newline = None });
}

abbrev pub row_9 : Row
row_9 = record {
  condition = conditions.Always;
  before = [];
  take = takes.Unexpected;
  after = actions.Goto states.ForMore ∷ [];
  call = None;
}

abbrev pub row_10 : Row
row_10 = record {
  condition = conditions.Always;
  before = [];
  take = takes.Eat;
  after = actions.Goto states.ForInRest1 ∷ [];
  call = Some (record { state = states.Expr; number = 1; enters = false; is_deep = false; newline = None });
}

abbrev pub row_11 : Row
row_11 = record {
  condition = conditions.Always;
  before = actions.Goto states.ForIn ∷ [];
  take = takes.Nothing;
  after = [];
  call = None;
}

abbrev pub row_12 : Row
row_12 = record {
  condition = conditions.Always;
  before = actions.Goto states.ForIn ∷ [];
  take = takes.Nothing;
  after = [];
  call = Some (record { state = states.Pattern; number = 0; enters = false; is_deep = false; newline = None });
}

abbrev pub row_13 : Row
row_13 = record {
  condition = conditions.Always;
  before = actions.Return ∷ [];
  take = takes.Nothing;
  after = [];
  call = None;
}

abbrev pub row_14 : Row
row_14 = record {
  condition = conditions.Always;
  before = actions.Goto states.ConditionalElse ∷ [];
  take = takes.Nothing;
  after = [];
  call = Some (record { state = states.Body; number = 0; enters = false; is_deep = false; newline = None });
}

abbrev pub row_15 : Row
row_15 = record {
  condition = conditions.Always;
  before = actions.Goto states.ForInRest1Rest ∷ [];
  take = takes.Nothing;
  after = [];
  call = Some (record { state = states.Body; number = 0; enters = false; is_deep = false; newline = None });
}

abbrev pub row_16 : Row
row_16 = record {
  condition = conditions.Always;
  before = actions.Wrap kinds.ForLoop ∷ actions.Goto states.ExprAfter ∷ [];
  take = takes.Nothing;
  after = [];
  call = None;
}

abbrev pub row_17 : Row
row_17 = record {
  condition = conditions.Always;
  before = actions.Goto states.ForInRest2Rest ∷ [];
  take = takes.Nothing;
  after = [];
  call = Some (record { state = states.Body; number = 0; enters = false; is_deep = false; newline = None });
}

-- the block of a loop or a conditional
abbrev pub body : Class → List Row
body classes.LeftBrace = row_1 ∷ []
body classes.LeftBracket = row_2 ∷ []
body _ = row_0 ∷ []

-- a conditional
abbrev pub conditional : Class → List Row
conditional classes.If = row_3 ∷ []
conditional _ = []

-- whether a conditional has another branch
abbrev pub conditional_else : Class → List Row
conditional_else classes.Else = row_5 ∷ []
conditional_else _ = row_4 ∷ []

-- the other branch of a conditional
abbrev pub conditional_branch : Class → List Row
conditional_branch classes.If = row_7 ∷ []
conditional_branch _ = row_6 ∷ []

-- what follows the pattern of a loop
abbrev pub for_in : Class → List Row
for_in classes.Comma = row_9 ∷ []
for_in classes.In = row_10 ∷ []
for_in _ = row_8 ∷ []

-- a second pattern that isn't in a parenthesis
abbrev pub for_more : Class → List Row
for_more classes.Label = row_12 ∷ []
for_more classes.Raw = row_12 ∷ []
for_more classes.Dollar = row_12 ∷ []
for_more classes.LeftBrace = row_12 ∷ []
for_more classes.LeftBracket = row_12 ∷ []
for_more classes.LeftParen = row_12 ∷ []
for_more classes.Underscore = row_12 ∷ []
for_more classes.Ident = row_12 ∷ []
for_more classes.Str = row_12 ∷ []
for_more classes.Literal = row_12 ∷ []
for_more classes.Constant = row_12 ∷ []
for_more classes.Let = row_12 ∷ []
for_more classes.Set = row_12 ∷ []
for_more classes.Show = row_12 ∷ []
for_more classes.Context = row_12 ∷ []
for_more classes.If = row_12 ∷ []
for_more classes.For = row_12 ∷ []
for_more classes.While = row_12 ∷ []
for_more classes.Break = row_12 ∷ []
for_more classes.Continue = row_12 ∷ []
for_more classes.Return = row_12 ∷ []
for_more classes.Import = row_12 ∷ []
for_more classes.Include = row_12 ∷ []
for_more _ = row_11 ∷ []

-- the rest of a row of `body`, once the frame that it opened has returned
abbrev pub body_rest1 : Class → List Row
body_rest1 _ = row_13 ∷ []

-- the rest of a row of `body`, once the frame that it opened has returned
abbrev pub body_rest2 : Class → List Row
body_rest2 _ = row_13 ∷ []

-- the rest of a row of `conditional`, once the frame that it opened has returned
abbrev pub conditional_rest : Class → List Row
conditional_rest _ = row_14 ∷ []

-- the rest of a row of `conditional.branch`, once the frame that it opened has returned
abbrev pub conditional_branch_rest1 : Class → List Row
conditional_branch_rest1 _ = row_4 ∷ []

-- the rest of a row of `conditional.branch`, once the frame that it opened has returned
abbrev pub conditional_branch_rest2 : Class → List Row
conditional_branch_rest2 _ = row_4 ∷ []

-- the rest of a row of `for.in`, once the frame that it opened has returned
abbrev pub for_in_rest1 : Class → List Row
for_in_rest1 _ = row_15 ∷ []

-- the rest of a row of `for.in.rest1`, once the frame that it opened has returned
abbrev pub for_in_rest1_rest : Class → List Row
for_in_rest1_rest _ = row_16 ∷ []

-- the rest of a row of `for.in`, once the frame that it opened has returned
abbrev pub for_in_rest2 : Class → List Row
for_in_rest2 _ = row_17 ∷ []

-- the rest of a row of `for.in.rest2`, once the frame that it opened has returned
abbrev pub for_in_rest2_rest : Class → List Row
for_in_rest2_rest _ = row_16 ∷ []
