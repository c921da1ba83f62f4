-- Written by bench/grammar_crate.py from crates/grammar.table: change that and run it.
-- The rows of parameters.
use Rattle.std.specs.Prelude.{List, [], ◌∷◌, false, Some, None}
use Rattle.typst_base.specs.declared.kind.SyntaxKind.TheVariants as kinds
use Rattle.typst_grammar.specs.declared.expectation.Expectation.TheVariants as expectations
use Rattle.typst_grammar.specs.declared.row.Action.TheVariants as actions
use Rattle.typst_grammar.specs.declared.row.Condition.TheVariants as conditions
use Rattle.typst_grammar.specs.declared.row.Take.TheVariants as takes
use Rattle.typst_grammar.specs.declared.row.Unique.TheVariants as uniques
use Rattle.typst_grammar.specs.declared.rows.Class.TheVariants as classes
use Rattle.typst_grammar.specs.declared.rows.State.TheVariants as states
use Rattle.typst_grammar.specs.declared.rows.Class.{Class}
use Rattle.typst_grammar.specs.Row.{Row}

abbrev pub row_0 : Row
row_0 = record {
  condition = conditions.Always;
  before = [];
  take = takes.Eat;
  after = actions.Goto states.ParamsItem ∷ [];
  call = None;
}

abbrev pub row_1 : Row
row_1 = record {
  condition = conditions.Always;
  before = actions.Goto states.ParamsClose ∷ [];
  take = takes.Nothing;
  after = [];
  call = None;
}

abbrev pub row_2 : Row
row_2 = record {
  condition = conditions.Always;
  before = [];
  take = takes.Unexpected;
  after = [];
  call = None;
}

abbrev pub row_3 : Row
row_3 = record {
  condition = conditions.Always;
  before = actions.Goto states.ParamsComma ∷ [];
  take = takes.Nothing;
  after = [];
  call = Some (record { state = states.Param; number = 0; enters = false; is_deep = false; newline = None });
}

abbrev pub row_4 : Row
row_4 = record {
  condition = conditions.Always;
  before = [];
  take = takes.Eat;
  after = actions.Goto states.ParamName ∷ [];
  call = None;
}

abbrev pub row_5 : Row
row_5 = record {
  condition = conditions.Always;
  before = actions.Expected expectations.Comma ∷ actions.Goto states.ParamsItem ∷ [];
  take = takes.Nothing;
  after = [];
  call = None;
}

abbrev pub row_6 : Row
row_6 = record {
  condition = conditions.Always;
  before = actions.Around states.ParamsComma 0 ∷ actions.Around states.ArgumentColon 0 ∷ actions.Around states.LeafCheck 9 ∷ actions.Goto states.ExprName ∷ [];
  take = takes.Nothing;
  after = [];
  call = None;
}

abbrev pub row_7 : Row
row_7 = record {
  condition = conditions.Always;
  before = actions.Around states.ParamsComma 0 ∷ [];
  take = takes.Eat;
  after = actions.Goto states.ParamNameRest ∷ [];
  call = Some (record { state = states.Expr; number = 1; enters = false; is_deep = false; newline = None });
}

abbrev pub row_8 : Row
row_8 = record {
  condition = conditions.Always;
  before = actions.Unclosed ∷ actions.Wrap kinds.Params ∷ actions.Unique uniques.Parameter ∷ actions.Return ∷ [];
  take = takes.Nothing;
  after = [];
  call = None;
}

abbrev pub row_9 : Row
row_9 = record {
  condition = conditions.Always;
  before = [];
  take = takes.Eat;
  after = actions.Wrap kinds.Params ∷ actions.Unique uniques.Parameter ∷ actions.Return ∷ [];
  call = None;
}

abbrev pub row_10 : Row
row_10 = record {
  condition = conditions.Always;
  before = actions.Goto states.ArgumentColon ∷ [];
  take = takes.Nothing;
  after = [];
  call = Some (record { state = states.Pattern; number = 0; enters = false; is_deep = false; newline = None });
}

abbrev pub row_11 : Row
row_11 = record {
  condition = conditions.Always;
  before = [];
  take = takes.Eat;
  after = actions.Goto states.Sink ∷ [];
  call = None;
}

abbrev pub row_12 : Row
row_12 = record {
  condition = conditions.Always;
  before = actions.Wrap kinds.Spread ∷ actions.Return ∷ [];
  take = takes.Nothing;
  after = [];
  call = None;
}

abbrev pub row_13 : Row
row_13 = record {
  condition = conditions.Always;
  before = actions.Goto states.SinkRest ∷ [];
  take = takes.Nothing;
  after = [];
  call = Some (record { state = states.Leaf; number = 0; enters = false; is_deep = false; newline = None });
}

abbrev pub row_14 : Row
row_14 = record {
  condition = conditions.Always;
  before = actions.Wrap kinds.Named ∷ actions.Return ∷ [];
  take = takes.Nothing;
  after = [];
  call = None;
}

-- the parameters of a function that has a name
abbrev pub params : Class → List Row
params classes.LeftParen = row_0 ∷ []
params _ = []

-- a parameter, if another one comes
abbrev pub params_item : Class → List Row
params_item classes.End = row_1 ∷ []
params_item classes.Label = row_3 ∷ []
params_item classes.Raw = row_3 ∷ []
params_item classes.Dollar = row_3 ∷ []
params_item classes.LeftBrace = row_3 ∷ []
params_item classes.RightBrace = row_1 ∷ []
params_item classes.LeftBracket = row_3 ∷ []
params_item classes.RightBracket = row_1 ∷ []
params_item classes.LeftParen = row_3 ∷ []
params_item classes.RightParen = row_1 ∷ []
params_item classes.Semicolon = row_1 ∷ []
params_item classes.Dots = row_3 ∷ []
params_item classes.Underscore = row_3 ∷ []
params_item classes.Ident = row_4 ∷ []
params_item classes.Str = row_3 ∷ []
params_item classes.Literal = row_3 ∷ []
params_item classes.Constant = row_3 ∷ []
params_item classes.Let = row_3 ∷ []
params_item classes.Set = row_3 ∷ []
params_item classes.Show = row_3 ∷ []
params_item classes.Context = row_3 ∷ []
params_item classes.If = row_3 ∷ []
params_item classes.For = row_3 ∷ []
params_item classes.While = row_3 ∷ []
params_item classes.Break = row_3 ∷ []
params_item classes.Continue = row_3 ∷ []
params_item classes.Return = row_3 ∷ []
params_item classes.Import = row_3 ∷ []
params_item classes.Include = row_3 ∷ []
params_item _ = row_2 ∷ []

-- the comma behind a parameter
abbrev pub params_comma : Class → List Row
params_comma classes.End = row_1 ∷ []
params_comma classes.RightBrace = row_1 ∷ []
params_comma classes.RightBracket = row_1 ∷ []
params_comma classes.RightParen = row_1 ∷ []
params_comma classes.Comma = row_0 ∷ []
params_comma classes.Semicolon = row_1 ∷ []
params_comma _ = row_5 ∷ []

-- what may follow a name
abbrev pub param_name : Class → List Row
param_name classes.End = row_1 ∷ []
param_name classes.RightBrace = row_1 ∷ []
param_name classes.LeftBracket = row_6 ∷ []
param_name classes.RightBracket = row_1 ∷ []
param_name classes.LeftParen = row_6 ∷ []
param_name classes.RightParen = row_1 ∷ []
param_name classes.Comma = row_0 ∷ []
param_name classes.Semicolon = row_1 ∷ []
param_name classes.Colon = row_7 ∷ []
param_name classes.Field = row_6 ∷ []
param_name _ = row_5 ∷ []

-- the end of parameters
abbrev pub params_close : Class → List Row
params_close classes.RightParen = row_9 ∷ []
params_close _ = row_8 ∷ []

-- a parameter
abbrev pub param : Class → List Row
param classes.Label = row_10 ∷ []
param classes.Raw = row_10 ∷ []
param classes.Dollar = row_10 ∷ []
param classes.LeftBrace = row_10 ∷ []
param classes.LeftBracket = row_10 ∷ []
param classes.LeftParen = row_10 ∷ []
param classes.Dots = row_11 ∷ []
param classes.Underscore = row_10 ∷ []
param classes.Ident = row_10 ∷ []
param classes.Str = row_10 ∷ []
param classes.Literal = row_10 ∷ []
param classes.Constant = row_10 ∷ []
param classes.Let = row_10 ∷ []
param classes.Set = row_10 ∷ []
param classes.Show = row_10 ∷ []
param classes.Context = row_10 ∷ []
param classes.If = row_10 ∷ []
param classes.For = row_10 ∷ []
param classes.While = row_10 ∷ []
param classes.Break = row_10 ∷ []
param classes.Continue = row_10 ∷ []
param classes.Return = row_10 ∷ []
param classes.Import = row_10 ∷ []
param classes.Include = row_10 ∷ []
param _ = []

-- the name of a sink, if it has one
abbrev pub sink : Class → List Row
sink classes.Label = row_13 ∷ []
sink classes.Raw = row_13 ∷ []
sink classes.Dollar = row_13 ∷ []
sink classes.LeftBrace = row_13 ∷ []
sink classes.LeftBracket = row_13 ∷ []
sink classes.LeftParen = row_13 ∷ []
sink classes.Ident = row_13 ∷ []
sink classes.Str = row_13 ∷ []
sink classes.Literal = row_13 ∷ []
sink classes.Constant = row_13 ∷ []
sink classes.Let = row_13 ∷ []
sink classes.Set = row_13 ∷ []
sink classes.Show = row_13 ∷ []
sink classes.Context = row_13 ∷ []
sink classes.If = row_13 ∷ []
sink classes.For = row_13 ∷ []
sink classes.While = row_13 ∷ []
sink classes.Break = row_13 ∷ []
sink classes.Continue = row_13 ∷ []
sink classes.Return = row_13 ∷ []
sink classes.Import = row_13 ∷ []
sink classes.Include = row_13 ∷ []
sink _ = row_12 ∷ []

-- the rest of a row of `param.name`, once the frame that it opened has returned
abbrev pub param_name_rest : Class → List Row
param_name_rest _ = row_14 ∷ []

-- the rest of a row of `sink`, once the frame that it opened has returned
abbrev pub sink_rest : Class → List Row
sink_rest _ = row_12 ∷ []
