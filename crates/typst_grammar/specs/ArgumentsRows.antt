-- Written by bench/grammar_crate.py from crates/grammar.table: change that and run it.
-- The rows of the arguments of a call.
use Rattle.std.specs.Prelude.{List, [], ◌∷◌, true, false, Some, None}
use Rattle.typst_base.specs.declared.kind.SyntaxKind.TheVariants as kinds
use Rattle.typst_grammar.specs.declared.expectation.Expectation.TheVariants as expectations
use Rattle.typst_grammar.specs.declared.row.Action.TheVariants as actions
use Rattle.typst_grammar.specs.declared.row.Condition.TheVariants as conditions
use Rattle.typst_grammar.specs.declared.row.Newline.TheVariants as newlines
use Rattle.typst_grammar.specs.declared.row.Take.TheVariants as takes
use Rattle.typst_grammar.specs.declared.row.Unique.TheVariants as uniques
use Rattle.typst_grammar.specs.declared.rows.Class.TheVariants as classes
use Rattle.typst_grammar.specs.declared.rows.State.TheVariants as states
use Rattle.typst_grammar.specs.declared.rows.Class.{Class}
use Rattle.typst_grammar.specs.Row.{Row}

abbrev pub row_0 : Row
row_0 = record {
  condition = conditions.Always;
  before = actions.Goto states.ArgsContent ∷ [];
  take = takes.Nothing;
  after = [];
  call = None;
}

abbrev pub row_1 : Row
row_1 = record {
  condition = conditions.Always;
  before = [];
  take = takes.Eat;
  after = actions.Goto states.ArgsContent ∷ [];
  call = Some (record { state = states.Arguments; number = 0; enters = true; is_deep = true; newline = Some newlines.Go });
}

abbrev pub row_2 : Row
row_2 = record {
  condition = conditions.Always;
  before = actions.Wrap kinds.Args ∷ actions.Unique uniques.Argument ∷ actions.Return ∷ [];
  take = takes.Nothing;
  after = [];
  call = None;
}

abbrev pub row_3 : Row
row_3 = record {
  condition = conditions.Direct;
  before = [];
  take = takes.Nothing;
  after = [];
  call = Some (record { state = states.Content; number = 0; enters = false; is_deep = true; newline = Some newlines.Go });
}

abbrev pub row_4 : Row
row_4 = record {
  condition = conditions.Always;
  before = actions.Return ∷ actions.Unclosed ∷ [];
  take = takes.Nothing;
  after = [];
  call = None;
}

abbrev pub row_5 : Row
row_5 = record {
  condition = conditions.Always;
  before = [];
  take = takes.Unexpected;
  after = [];
  call = None;
}

abbrev pub row_6 : Row
row_6 = record {
  condition = conditions.Always;
  before = [];
  take = takes.Eat;
  after = actions.Goto states.ArgumentValue ∷ [];
  call = None;
}

abbrev pub row_7 : Row
row_7 = record {
  condition = conditions.Always;
  before = actions.Goto states.ArgumentsComma ∷ [];
  take = takes.Nothing;
  after = [];
  call = Some (record { state = states.Argument; number = 0; enters = false; is_deep = false; newline = None });
}

abbrev pub row_8 : Row
row_8 = record {
  condition = conditions.Always;
  before = [];
  take = takes.Eat;
  after = actions.Return ∷ [];
  call = None;
}

abbrev pub row_9 : Row
row_9 = record {
  condition = conditions.Always;
  before = actions.Goto states.ArgumentsComma ∷ [];
  take = takes.Nothing;
  after = [];
  call = Some (record { state = states.SpreadArgument; number = 0; enters = false; is_deep = false; newline = None });
}

abbrev pub row_10 : Row
row_10 = record {
  condition = conditions.Always;
  before = [];
  take = takes.Eat;
  after = actions.Goto states.ArgumentName ∷ [];
  call = None;
}

abbrev pub row_11 : Row
row_11 = record {
  condition = conditions.Always;
  before = actions.Expected expectations.Comma ∷ actions.Goto states.Arguments ∷ [];
  take = takes.Nothing;
  after = [];
  call = None;
}

abbrev pub row_12 : Row
row_12 = record {
  condition = conditions.Always;
  before = [];
  take = takes.Eat;
  after = actions.Goto states.Arguments ∷ [];
  call = None;
}

abbrev pub row_13 : Row
row_13 = record {
  condition = conditions.Always;
  before = actions.Around states.ArgumentsComma 0 ∷ actions.Around states.ArgumentColon 1 ∷ actions.Goto states.ExprAfter ∷ [];
  take = takes.Nothing;
  after = [];
  call = None;
}

abbrev pub row_14 : Row
row_14 = record {
  condition = conditions.Always;
  before = actions.Around states.ArgumentsComma 0 ∷ actions.Goto states.ArgumentColon ∷ [];
  take = takes.Nothing;
  after = [];
  call = None;
}

abbrev pub row_15 : Row
row_15 = record {
  condition = conditions.Always;
  before = actions.Around states.ArgumentsComma 0 ∷ [];
  take = takes.Eat;
  after = actions.Goto states.Named ∷ [];
  call = None;
}

abbrev pub row_16 : Row
row_16 = record {
  condition = conditions.Always;
  before = actions.Around states.ArgumentsComma 0 ∷ actions.Around states.ArgumentColon 1 ∷ actions.Goto states.ExprName ∷ [];
  take = takes.Nothing;
  after = [];
  call = None;
}

abbrev pub row_17 : Row
row_17 = record {
  condition = conditions.Always;
  before = actions.Goto states.NamedRest ∷ [];
  take = takes.Nothing;
  after = [];
  call = Some (record { state = states.Expr; number = 1; enters = false; is_deep = false; newline = None });
}

abbrev pub row_18 : Row
row_18 = record {
  condition = conditions.Always;
  before = [];
  take = takes.Eat;
  after = actions.Goto states.NamedValue ∷ [];
  call = None;
}

abbrev pub row_19 : Row
row_19 = record {
  condition = conditions.Always;
  before = [];
  take = takes.Eat;
  after = actions.Goto states.NamedName ∷ [];
  call = None;
}

abbrev pub row_20 : Row
row_20 = record {
  condition = conditions.Always;
  before = actions.Wrap kinds.Named ∷ actions.Return ∷ [];
  take = takes.Nothing;
  after = [];
  call = None;
}

abbrev pub row_21 : Row
row_21 = record {
  condition = conditions.Always;
  before = actions.Around states.NamedEnd 1 ∷ actions.Goto states.ExprAfter ∷ [];
  take = takes.Nothing;
  after = [];
  call = None;
}

abbrev pub row_22 : Row
row_22 = record {
  condition = conditions.Always;
  before = actions.Around states.NamedEnd 1 ∷ actions.Goto states.ExprName ∷ [];
  take = takes.Nothing;
  after = [];
  call = None;
}

abbrev pub row_23 : Row
row_23 = record {
  condition = conditions.Always;
  before = [];
  take = takes.Eat;
  after = actions.Goto states.SpreadArgumentRest ∷ [];
  call = Some (record { state = states.Expr; number = 1; enters = false; is_deep = false; newline = None });
}

abbrev pub row_24 : Row
row_24 = record {
  condition = conditions.Always;
  before = actions.Goto states.ArgumentColon ∷ [];
  take = takes.Nothing;
  after = [];
  call = Some (record { state = states.Expr; number = 1; enters = false; is_deep = false; newline = None });
}

abbrev pub row_25 : Row
row_25 = record {
  condition = conditions.Always;
  before = actions.Return ∷ [];
  take = takes.Nothing;
  after = [];
  call = None;
}

abbrev pub row_26 : Row
row_26 = record {
  condition = conditions.Always;
  before = actions.Wrong expectations.Identifier ∷ [];
  take = takes.Eat;
  after = actions.Goto states.ArgumentColonRest ∷ [];
  call = Some (record { state = states.Expr; number = 1; enters = false; is_deep = false; newline = None });
}

abbrev pub row_27 : Row
row_27 = record {
  condition = conditions.Always;
  before = actions.Wrap kinds.Spread ∷ actions.Return ∷ [];
  take = takes.Nothing;
  after = [];
  call = None;
}

-- the arguments of a call
abbrev pub args : Class → List Row
args classes.LeftParen = row_1 ∷ []
args _ = row_0 ∷ []

-- blocks of content behind arguments
abbrev pub args_content : Class → List Row
args_content classes.LeftBracket = row_3 ∷ row_2 ∷ []
args_content _ = row_2 ∷ []

-- an argument, if another one comes
abbrev pub arguments : Class → List Row
arguments classes.End = row_4 ∷ []
arguments classes.Label = row_6 ∷ []
arguments classes.Raw = row_7 ∷ []
arguments classes.Dollar = row_7 ∷ []
arguments classes.LeftBrace = row_7 ∷ []
arguments classes.RightBrace = row_4 ∷ []
arguments classes.LeftBracket = row_7 ∷ []
arguments classes.RightBracket = row_4 ∷ []
arguments classes.LeftParen = row_7 ∷ []
arguments classes.RightParen = row_8 ∷ []
arguments classes.Semicolon = row_4 ∷ []
arguments classes.Dots = row_9 ∷ []
arguments classes.Underscore = row_7 ∷ []
arguments classes.Sign = row_7 ∷ []
arguments classes.Ident = row_10 ∷ []
arguments classes.Str = row_6 ∷ []
arguments classes.Literal = row_6 ∷ []
arguments classes.Constant = row_6 ∷ []
arguments classes.Not = row_7 ∷ []
arguments classes.Let = row_7 ∷ []
arguments classes.Set = row_7 ∷ []
arguments classes.Show = row_7 ∷ []
arguments classes.Context = row_7 ∷ []
arguments classes.If = row_7 ∷ []
arguments classes.For = row_7 ∷ []
arguments classes.While = row_7 ∷ []
arguments classes.Break = row_7 ∷ []
arguments classes.Continue = row_7 ∷ []
arguments classes.Return = row_7 ∷ []
arguments classes.Import = row_7 ∷ []
arguments classes.Include = row_7 ∷ []
arguments _ = row_5 ∷ []

-- the comma behind an argument
abbrev pub arguments_comma : Class → List Row
arguments_comma classes.End = row_4 ∷ []
arguments_comma classes.RightBrace = row_4 ∷ []
arguments_comma classes.RightBracket = row_4 ∷ []
arguments_comma classes.RightParen = row_8 ∷ []
arguments_comma classes.Comma = row_12 ∷ []
arguments_comma classes.Semicolon = row_4 ∷ []
arguments_comma _ = row_11 ∷ []

-- what may follow an expression of one token
abbrev pub argument_value : Class → List Row
argument_value classes.End = row_4 ∷ []
argument_value classes.RightBrace = row_4 ∷ []
argument_value classes.LeftBracket = row_13 ∷ []
argument_value classes.RightBracket = row_4 ∷ []
argument_value classes.LeftParen = row_13 ∷ []
argument_value classes.RightParen = row_8 ∷ []
argument_value classes.Comma = row_12 ∷ []
argument_value classes.Semicolon = row_4 ∷ []
argument_value classes.Colon = row_14 ∷ []
argument_value classes.Dot = row_13 ∷ []
argument_value classes.Field = row_13 ∷ []
argument_value classes.Star = row_13 ∷ []
argument_value classes.Slash = row_13 ∷ []
argument_value classes.Eq = row_13 ∷ []
argument_value classes.Sign = row_13 ∷ []
argument_value classes.Comparison = row_13 ∷ []
argument_value classes.Assignment = row_13 ∷ []
argument_value classes.Not = row_13 ∷ []
argument_value classes.And = row_13 ∷ []
argument_value classes.Or = row_13 ∷ []
argument_value classes.In = row_13 ∷ []
argument_value _ = row_11 ∷ []

-- what may follow a name
abbrev pub argument_name : Class → List Row
argument_name classes.End = row_4 ∷ []
argument_name classes.RightBrace = row_4 ∷ []
argument_name classes.LeftBracket = row_13 ∷ []
argument_name classes.RightBracket = row_4 ∷ []
argument_name classes.LeftParen = row_13 ∷ []
argument_name classes.RightParen = row_8 ∷ []
argument_name classes.Comma = row_12 ∷ []
argument_name classes.Semicolon = row_4 ∷ []
argument_name classes.Colon = row_15 ∷ []
argument_name classes.Dot = row_13 ∷ []
argument_name classes.Field = row_13 ∷ []
argument_name classes.Arrow = row_16 ∷ []
argument_name classes.Star = row_13 ∷ []
argument_name classes.Slash = row_13 ∷ []
argument_name classes.Eq = row_13 ∷ []
argument_name classes.Sign = row_13 ∷ []
argument_name classes.Comparison = row_13 ∷ []
argument_name classes.Assignment = row_13 ∷ []
argument_name classes.Not = row_13 ∷ []
argument_name classes.And = row_13 ∷ []
argument_name classes.Or = row_13 ∷ []
argument_name classes.In = row_13 ∷ []
argument_name _ = row_11 ∷ []

-- the value of an argument with a name
abbrev pub named : Class → List Row
named classes.Label = row_18 ∷ []
named classes.Ident = row_19 ∷ []
named classes.Str = row_18 ∷ []
named classes.Literal = row_18 ∷ []
named classes.Constant = row_18 ∷ []
named _ = row_17 ∷ []

-- what may follow a value of one token
abbrev pub named_value : Class → List Row
named_value classes.LeftBracket = row_21 ∷ []
named_value classes.LeftParen = row_21 ∷ []
named_value classes.Dot = row_21 ∷ []
named_value classes.Field = row_21 ∷ []
named_value classes.Star = row_21 ∷ []
named_value classes.Slash = row_21 ∷ []
named_value classes.Eq = row_21 ∷ []
named_value classes.Sign = row_21 ∷ []
named_value classes.Comparison = row_21 ∷ []
named_value classes.Assignment = row_21 ∷ []
named_value classes.Not = row_21 ∷ []
named_value classes.And = row_21 ∷ []
named_value classes.Or = row_21 ∷ []
named_value classes.In = row_21 ∷ []
named_value _ = row_20 ∷ []

-- what may follow a value that is a name
abbrev pub named_name : Class → List Row
named_name classes.LeftBracket = row_21 ∷ []
named_name classes.LeftParen = row_21 ∷ []
named_name classes.Dot = row_21 ∷ []
named_name classes.Field = row_21 ∷ []
named_name classes.Arrow = row_22 ∷ []
named_name classes.Star = row_21 ∷ []
named_name classes.Slash = row_21 ∷ []
named_name classes.Eq = row_21 ∷ []
named_name classes.Sign = row_21 ∷ []
named_name classes.Comparison = row_21 ∷ []
named_name classes.Assignment = row_21 ∷ []
named_name classes.Not = row_21 ∷ []
named_name classes.And = row_21 ∷ []
named_name classes.Or = row_21 ∷ []
named_name classes.In = row_21 ∷ []
named_name _ = row_20 ∷ []

-- the end of an argument with a name
abbrev pub named_end : Class → List Row
named_end _ = row_20 ∷ []

-- an argument that is spread
abbrev pub spread_argument : Class → List Row
spread_argument classes.Dots = row_23 ∷ []
spread_argument _ = []

-- an argument: a value, or a name with its value
abbrev pub argument : Class → List Row
argument classes.Label = row_24 ∷ []
argument classes.Raw = row_24 ∷ []
argument classes.Dollar = row_24 ∷ []
argument classes.LeftBrace = row_24 ∷ []
argument classes.LeftBracket = row_24 ∷ []
argument classes.LeftParen = row_24 ∷ []
argument classes.Underscore = row_24 ∷ []
argument classes.Sign = row_24 ∷ []
argument classes.Ident = row_24 ∷ []
argument classes.Str = row_24 ∷ []
argument classes.Literal = row_24 ∷ []
argument classes.Constant = row_24 ∷ []
argument classes.Not = row_24 ∷ []
argument classes.Let = row_24 ∷ []
argument classes.Set = row_24 ∷ []
argument classes.Show = row_24 ∷ []
argument classes.Context = row_24 ∷ []
argument classes.If = row_24 ∷ []
argument classes.For = row_24 ∷ []
argument classes.While = row_24 ∷ []
argument classes.Break = row_24 ∷ []
argument classes.Continue = row_24 ∷ []
argument classes.Return = row_24 ∷ []
argument classes.Import = row_24 ∷ []
argument classes.Include = row_24 ∷ []
argument _ = []

-- the colon behind what is no name
abbrev pub argument_colon : Class → List Row
argument_colon classes.Colon = row_26 ∷ []
argument_colon _ = row_25 ∷ []

-- the rest of a row of `named`, once the frame that it opened has returned
abbrev pub named_rest : Class → List Row
named_rest _ = row_20 ∷ []

-- the rest of a row of `spread.argument`, once the frame that it opened has returned
abbrev pub spread_argument_rest : Class → List Row
spread_argument_rest _ = row_27 ∷ []

-- the rest of a row of `argument.colon`, once the frame that it opened has returned
abbrev pub argument_colon_rest : Class → List Row
argument_colon_rest _ = row_20 ∷ []
