-- Written by bench/grammar_crate.py from crates/grammar.table: change that and run it.
-- The rows of delimiters and arguments in math.
use Rattle.std.specs.Prelude.{List, [], ◌∷◌, true, false, Some, None}
use Rattle.typst_base.specs.declared.kind.SyntaxKind.TheVariants as kinds
use Rattle.typst_grammar.specs.declared.expectation.Expectation.TheVariants as expectations
use Rattle.typst_grammar.specs.declared.row.Action.TheVariants as actions
use Rattle.typst_grammar.specs.declared.row.Condition.TheVariants as conditions
use Rattle.typst_grammar.specs.declared.row.Take.TheVariants as takes
use Rattle.typst_grammar.specs.declared.row.Unique.TheVariants as uniques
use Rattle.typst_grammar.specs.declared.rows.Class.TheVariants as classes
use Rattle.typst_grammar.specs.declared.rows.State.TheVariants as states
use Rattle.typst_grammar.specs.declared.rows.Class.{Class}
use Rattle.typst_grammar.specs.Row.{Row}

abbrev pub row_0 : Row
row_0 = record {
  condition = conditions.Always;
  before = [];
  take = takes.EatAs kinds.MathText;
  after = actions.Goto states.DelimitedRest1 ∷ [];
  call = Some (record { state = states.DelimitedBody; number = 1; enters = false; is_deep = true; newline = None });
}

abbrev pub row_1 : Row
row_1 = record {
  condition = conditions.Always;
  before = [];
  take = takes.Eat;
  after = actions.Goto states.DelimitedRest2 ∷ [];
  call = Some (record { state = states.DelimitedBody; number = 1; enters = false; is_deep = true; newline = None });
}

abbrev pub row_2 : Row
row_2 = record {
  condition = conditions.Is 2;
  before = actions.Wrap kinds.Math ∷ actions.Return ∷ actions.Unclosed ∷ actions.Wrap kinds.Equation ∷ actions.Return ∷ [];
  take = takes.Nothing;
  after = [];
  call = None;
}

abbrev pub row_3 : Row
row_3 = record {
  condition = conditions.Always;
  before = actions.Return ∷ actions.Wrap kinds.Math ∷ [];
  take = takes.Nothing;
  after = [];
  call = None;
}

abbrev pub row_4 : Row
row_4 = record {
  condition = conditions.Always;
  before = [];
  take = takes.Unexpected;
  after = actions.Goto states.Math ∷ [];
  call = None;
}

abbrev pub row_5 : Row
row_5 = record {
  condition = conditions.Always;
  before = [];
  take = takes.Eat;
  after = actions.Goto states.MathLeaf ∷ [];
  call = None;
}

abbrev pub row_6 : Row
row_6 = record {
  condition = conditions.Always;
  before = [];
  take = takes.Eat;
  after = actions.Goto states.MathLetter ∷ [];
  call = None;
}

abbrev pub row_7 : Row
row_7 = record {
  condition = conditions.Always;
  before = actions.Goto states.Math ∷ [];
  take = takes.Nothing;
  after = [];
  call = Some (record { state = states.MathExpr; number = 0; enters = false; is_deep = false; newline = None });
}

abbrev pub row_8 : Row
row_8 = record {
  condition = conditions.Is 2;
  before = actions.Wrap kinds.Math ∷ actions.Return ∷ [];
  take = takes.Eat;
  after = actions.Wrap kinds.Equation ∷ actions.Return ∷ [];
  call = None;
}

abbrev pub row_9 : Row
row_9 = record {
  condition = conditions.UpTo 1;
  before = actions.Wrap kinds.Math ∷ actions.Return ∷ [];
  take = takes.EatAs kinds.MathText;
  after = actions.Wrap kinds.MathDelimited ∷ [];
  call = None;
}

abbrev pub row_10 : Row
row_10 = record {
  condition = conditions.Always;
  before = [];
  take = takes.EatAs kinds.MathText;
  after = actions.Goto states.MathLeaf ∷ [];
  call = None;
}

abbrev pub row_11 : Row
row_11 = record {
  condition = conditions.Is 0;
  before = actions.Wrap kinds.Math ∷ actions.Return ∷ [];
  take = takes.EatAs kinds.MathText;
  after = [];
  call = None;
}

abbrev pub row_12 : Row
row_12 = record {
  condition = conditions.Always;
  before = [];
  take = takes.Eat;
  after = actions.Goto states.MathName ∷ [];
  call = None;
}

abbrev pub row_13 : Row
row_13 = record {
  condition = conditions.UpTo 1;
  before = actions.Wrap kinds.Math ∷ actions.Return ∷ [];
  take = takes.Eat;
  after = actions.Wrap kinds.MathDelimited ∷ [];
  call = None;
}

abbrev pub row_14 : Row
row_14 = record {
  condition = conditions.Always;
  before = [];
  take = takes.Eat;
  after = actions.Goto states.MathArgsItem ∷ [];
  call = None;
}

abbrev pub row_15 : Row
row_15 = record {
  condition = conditions.Always;
  before = actions.Goto states.MathArgsClose ∷ [];
  take = takes.Nothing;
  after = [];
  call = None;
}

abbrev pub row_16 : Row
row_16 = record {
  condition = conditions.Always;
  before = actions.Goto states.MathArgsComma ∷ [];
  take = takes.Nothing;
  after = [];
  call = Some (record { state = states.MathArg; number = 0; enters = false; is_deep = false; newline = None });
}

abbrev pub row_17 : Row
row_17 = record {
  condition = conditions.Always;
  before = actions.Unclosed ∷ actions.Wrap kinds.MathArgs ∷ actions.Unique uniques.Argument ∷ actions.Return ∷ [];
  take = takes.Nothing;
  after = [];
  call = None;
}

abbrev pub row_18 : Row
row_18 = record {
  condition = conditions.Always;
  before = [];
  take = takes.Eat;
  after = actions.Wrap kinds.MathArgs ∷ actions.Unique uniques.Argument ∷ actions.Return ∷ [];
  call = None;
}

abbrev pub row_19 : Row
row_19 = record {
  condition = conditions.Always;
  before = actions.Goto states.MathValue ∷ [];
  take = takes.Nothing;
  after = [];
  call = None;
}

abbrev pub row_20 : Row
row_20 = record {
  condition = conditions.Always;
  before = [];
  take = takes.Eat;
  after = actions.Goto states.MathArgRest ∷ [];
  call = Some (record { state = states.MathValue; number = 0; enters = false; is_deep = false; newline = None });
}

abbrev pub row_21 : Row
row_21 = record {
  condition = conditions.Always;
  before = [];
  take = takes.Eat;
  after = actions.Goto states.MathArgColon ∷ [];
  call = None;
}

abbrev pub row_22 : Row
row_22 = record {
  condition = conditions.Always;
  before = [];
  take = takes.Mistake expectations.Identifier;
  after = actions.Goto states.MathArgColon ∷ [];
  call = None;
}

abbrev pub row_23 : Row
row_23 = record {
  condition = conditions.Always;
  before = [];
  take = takes.EatAs kinds.Colon;
  after = actions.Goto states.MathArgColonRest ∷ [];
  call = Some (record { state = states.MathNamed; number = 0; enters = false; is_deep = false; newline = None });
}

abbrev pub row_24 : Row
row_24 = record {
  condition = conditions.Always;
  before = actions.Expected expectations.Expression ∷ actions.Return ∷ [];
  take = takes.Nothing;
  after = [];
  call = None;
}

abbrev pub row_25 : Row
row_25 = record {
  condition = conditions.Always;
  before = actions.Flush ∷ actions.Wrap kinds.Math ∷ actions.Return ∷ [];
  take = takes.Nothing;
  after = [];
  call = None;
}

abbrev pub row_26 : Row
row_26 = record {
  condition = conditions.Always;
  before = [];
  take = takes.Unexpected;
  after = [];
  call = None;
}

abbrev pub row_27 : Row
row_27 = record {
  condition = conditions.Always;
  before = actions.Goto states.MathValueOne ∷ [];
  take = takes.Nothing;
  after = [];
  call = Some (record { state = states.MathExpr; number = 0; enters = false; is_deep = false; newline = None });
}

abbrev pub row_28 : Row
row_28 = record {
  condition = conditions.Always;
  before = actions.Return ∷ [];
  take = takes.Nothing;
  after = [];
  call = None;
}

abbrev pub row_29 : Row
row_29 = record {
  condition = conditions.Always;
  before = actions.Goto states.MathValueMore ∷ [];
  take = takes.Nothing;
  after = [];
  call = None;
}

abbrev pub row_30 : Row
row_30 = record {
  condition = conditions.Always;
  before = actions.Wrap kinds.Math ∷ actions.Return ∷ [];
  take = takes.Nothing;
  after = [];
  call = None;
}

abbrev pub row_31 : Row
row_31 = record {
  condition = conditions.Always;
  before = [];
  take = takes.Nothing;
  after = [];
  call = Some (record { state = states.MathExpr; number = 0; enters = false; is_deep = false; newline = None });
}

abbrev pub row_32 : Row
row_32 = record {
  condition = conditions.Always;
  before = actions.Wrap kinds.Spread ∷ actions.Return ∷ [];
  take = takes.Nothing;
  after = [];
  call = None;
}

abbrev pub row_33 : Row
row_33 = record {
  condition = conditions.Always;
  before = actions.Wrap kinds.Named ∷ actions.Return ∷ [];
  take = takes.Nothing;
  after = [];
  call = None;
}

-- delimiters with what is between them
abbrev pub delimited : Class → List Row
delimited classes.LeftBrace = row_0 ∷ []
delimited classes.LeftParen = row_0 ∷ []
delimited classes.Opening = row_1 ∷ []
delimited _ = []

-- what is between delimiters
abbrev pub delimited_body : Class → List Row
delimited_body classes.End = row_2 ∷ row_3 ∷ []
delimited_body classes.Linebreak = row_5 ∷ []
delimited_body classes.Escape = row_6 ∷ []
delimited_body classes.Hash = row_7 ∷ []
delimited_body classes.Dollar = row_8 ∷ row_3 ∷ []
delimited_body classes.LeftBrace = row_7 ∷ []
delimited_body classes.RightBrace = row_9 ∷ row_10 ∷ []
delimited_body classes.LeftParen = row_7 ∷ []
delimited_body classes.RightParen = row_11 ∷ row_9 ∷ row_10 ∷ []
delimited_body classes.Comma = row_10 ∷ []
delimited_body classes.Semicolon = row_10 ∷ []
delimited_body classes.Dot = row_10 ∷ []
delimited_body classes.Field = row_10 ∷ []
delimited_body classes.Str = row_6 ∷ []
delimited_body classes.MathIdent = row_12 ∷ []
delimited_body classes.MathLetter = row_6 ∷ []
delimited_body classes.MathText = row_5 ∷ []
delimited_body classes.MathPrimes = row_6 ∷ []
delimited_body classes.Opening = row_7 ∷ []
delimited_body classes.Closing = row_13 ∷ row_5 ∷ []
delimited_body classes.Bang = row_10 ∷ []
delimited_body classes.Root = row_7 ∷ []
delimited_body _ = row_4 ∷ []

-- the arguments of a call in math
abbrev pub math_args : Class → List Row
math_args classes.LeftParen = row_14 ∷ []
math_args _ = []

-- an argument, if another one comes
abbrev pub math_args_item : Class → List Row
math_args_item classes.End = row_15 ∷ []
math_args_item classes.Dollar = row_15 ∷ []
math_args_item classes.RightParen = row_15 ∷ []
math_args_item _ = row_16 ∷ []

-- the comma or semicolon behind an argument
abbrev pub math_args_comma : Class → List Row
math_args_comma classes.End = row_15 ∷ []
math_args_comma classes.Dollar = row_15 ∷ []
math_args_comma classes.RightParen = row_15 ∷ []
math_args_comma classes.Comma = row_14 ∷ []
math_args_comma classes.Semicolon = row_14 ∷ []
math_args_comma _ = []

-- the end of the arguments
abbrev pub math_args_close : Class → List Row
math_args_close classes.RightParen = row_18 ∷ []
math_args_close _ = row_17 ∷ []

-- an argument: a value, a name with its value, or values that are spread
abbrev pub math_arg : Class → List Row
math_arg classes.Dots = row_20 ∷ []
math_arg classes.ArgumentName = row_21 ∷ []
math_arg classes.ArgumentBlank = row_22 ∷ []
math_arg _ = row_19 ∷ []

-- the colon behind the name of an argument
abbrev pub math_arg_colon : Class → List Row
math_arg_colon classes.MathText = row_23 ∷ []
math_arg_colon _ = []

-- the value of an argument with a name
abbrev pub math_named : Class → List Row
math_named classes.End = row_24 ∷ []
math_named classes.Dollar = row_24 ∷ []
math_named classes.RightParen = row_24 ∷ []
math_named classes.Comma = row_24 ∷ []
math_named classes.Semicolon = row_24 ∷ []
math_named _ = row_19 ∷ []

-- the value of an argument
abbrev pub math_value : Class → List Row
math_value classes.End = row_25 ∷ []
math_value classes.Linebreak = row_27 ∷ []
math_value classes.Escape = row_27 ∷ []
math_value classes.Hash = row_27 ∷ []
math_value classes.Dollar = row_25 ∷ []
math_value classes.LeftBrace = row_27 ∷ []
math_value classes.RightBrace = row_27 ∷ []
math_value classes.LeftParen = row_27 ∷ []
math_value classes.RightParen = row_25 ∷ []
math_value classes.Comma = row_25 ∷ []
math_value classes.Semicolon = row_25 ∷ []
math_value classes.Dot = row_27 ∷ []
math_value classes.Field = row_27 ∷ []
math_value classes.Str = row_27 ∷ []
math_value classes.MathIdent = row_27 ∷ []
math_value classes.MathLetter = row_27 ∷ []
math_value classes.MathText = row_27 ∷ []
math_value classes.MathPrimes = row_27 ∷ []
math_value classes.Opening = row_27 ∷ []
math_value classes.Closing = row_27 ∷ []
math_value classes.Bang = row_27 ∷ []
math_value classes.Root = row_27 ∷ []
math_value _ = row_26 ∷ []

-- whether one expression is the value
abbrev pub math_value_one : Class → List Row
math_value_one classes.End = row_28 ∷ []
math_value_one classes.Dollar = row_28 ∷ []
math_value_one classes.RightParen = row_28 ∷ []
math_value_one classes.Comma = row_28 ∷ []
math_value_one classes.Semicolon = row_28 ∷ []
math_value_one _ = row_29 ∷ []

-- the value of an argument from the second expression on
abbrev pub math_value_more : Class → List Row
math_value_more classes.End = row_30 ∷ []
math_value_more classes.Linebreak = row_31 ∷ []
math_value_more classes.Escape = row_31 ∷ []
math_value_more classes.Hash = row_31 ∷ []
math_value_more classes.Dollar = row_30 ∷ []
math_value_more classes.LeftBrace = row_31 ∷ []
math_value_more classes.RightBrace = row_31 ∷ []
math_value_more classes.LeftParen = row_31 ∷ []
math_value_more classes.RightParen = row_30 ∷ []
math_value_more classes.Comma = row_30 ∷ []
math_value_more classes.Semicolon = row_30 ∷ []
math_value_more classes.Dot = row_31 ∷ []
math_value_more classes.Field = row_31 ∷ []
math_value_more classes.Str = row_31 ∷ []
math_value_more classes.MathIdent = row_31 ∷ []
math_value_more classes.MathLetter = row_31 ∷ []
math_value_more classes.MathText = row_31 ∷ []
math_value_more classes.MathPrimes = row_31 ∷ []
math_value_more classes.Opening = row_31 ∷ []
math_value_more classes.Closing = row_31 ∷ []
math_value_more classes.Bang = row_31 ∷ []
math_value_more classes.Root = row_31 ∷ []
math_value_more _ = row_26 ∷ []

-- the rest of a row of `delimited`, once the frame that it opened has returned
abbrev pub delimited_rest1 : Class → List Row
delimited_rest1 _ = row_28 ∷ []

-- the rest of a row of `delimited`, once the frame that it opened has returned
abbrev pub delimited_rest2 : Class → List Row
delimited_rest2 _ = row_28 ∷ []

-- the rest of a row of `math.arg`, once the frame that it opened has returned
abbrev pub math_arg_rest : Class → List Row
math_arg_rest _ = row_32 ∷ []

-- the rest of a row of `math.arg.colon`, once the frame that it opened has returned
abbrev pub math_arg_colon_rest : Class → List Row
math_arg_colon_rest _ = row_33 ∷ []
