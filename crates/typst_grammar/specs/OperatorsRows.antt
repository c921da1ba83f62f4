-- Written by bench/grammar_crate.py from crates/grammar.table: change that and run it.
-- The rows of what may follow an expression.
use Rattle.std.specs.Prelude.{List, [], ◌∷◌, false, Some, None}
use Rattle.typst_base.specs.declared.kind.SyntaxKind.TheVariants as kinds
use Rattle.typst_grammar.specs.declared.expectation.Expectation.TheVariants as expectations
use Rattle.typst_grammar.specs.declared.maps.Map.TheVariants as maps
use Rattle.typst_grammar.specs.declared.row.Action.TheVariants as actions
use Rattle.typst_grammar.specs.declared.row.Condition.TheVariants as conditions
use Rattle.typst_grammar.specs.declared.row.Take.TheVariants as takes
use Rattle.typst_grammar.specs.declared.row.Unique.TheVariants as uniques
use Rattle.typst_grammar.specs.declared.rows.Class.TheVariants as classes
use Rattle.typst_grammar.specs.declared.rows.State.TheVariants as states
use Rattle.typst_grammar.specs.declared.rows.Class.{Class}
use Rattle.typst_grammar.specs.Row.{Row}

abbrev pub row_0 : Row
row_0 = record {
  condition = conditions.Is 9;
  before = actions.Return ∷ [];
  take = takes.Nothing;
  after = [];
  call = None;
}

abbrev pub row_1 : Row
row_1 = record {
  condition = conditions.Always;
  before = actions.Return ∷ [];
  take = takes.Nothing;
  after = [];
  call = None;
}

abbrev pub row_2 : Row
row_2 = record {
  condition = conditions.Direct;
  before = actions.Goto states.ExprAfterRest1 ∷ [];
  take = takes.Nothing;
  after = [];
  call = Some (record { state = states.Args; number = 0; enters = false; is_deep = false; newline = None });
}

abbrev pub row_3 : Row
row_3 = record {
  condition = conditions.Always;
  before = [];
  take = takes.Eat;
  after = actions.Goto states.ExprAfterRest3 ∷ [];
  call = Some (record { state = states.Name; number = 0; enters = false; is_deep = false; newline = None });
}

abbrev pub row_4 : Row
row_4 = record {
  condition = conditions.Direct;
  before = [];
  take = takes.Eat;
  after = actions.Goto states.ExprAfterRest2 ∷ [];
  call = Some (record { state = states.Name; number = 0; enters = false; is_deep = false; newline = None });
}

abbrev pub row_5 : Row
row_5 = record {
  condition = conditions.UpTo 6;
  before = [];
  take = takes.Eat;
  after = actions.Goto states.ExprAfterRest4 ∷ [];
  call = Some (record { state = states.Expr; number = 7; enters = false; is_deep = false; newline = None });
}

abbrev pub row_6 : Row
row_6 = record {
  condition = conditions.UpTo 1;
  before = [];
  take = takes.Eat;
  after = actions.Goto states.ExprAfterRest9 ∷ [];
  call = Some (record { state = states.Expr; number = 1; enters = false; is_deep = false; newline = None });
}

abbrev pub row_7 : Row
row_7 = record {
  condition = conditions.UpTo 5;
  before = [];
  take = takes.Eat;
  after = actions.Goto states.ExprAfterRest5 ∷ [];
  call = Some (record { state = states.Expr; number = 6; enters = false; is_deep = false; newline = None });
}

abbrev pub row_8 : Row
row_8 = record {
  condition = conditions.UpTo 4;
  before = [];
  take = takes.Eat;
  after = actions.Goto states.ExprAfterRest6 ∷ [];
  call = Some (record { state = states.Expr; number = 5; enters = false; is_deep = false; newline = None });
}

abbrev pub row_9 : Row
row_9 = record {
  condition = conditions.UpTo 4;
  before = [];
  take = takes.Eat;
  after = actions.Goto states.ExprNot ∷ [];
  call = None;
}

abbrev pub row_10 : Row
row_10 = record {
  condition = conditions.UpTo 3;
  before = [];
  take = takes.Eat;
  after = actions.Goto states.ExprAfterRest7 ∷ [];
  call = Some (record { state = states.Expr; number = 4; enters = false; is_deep = false; newline = None });
}

abbrev pub row_11 : Row
row_11 = record {
  condition = conditions.UpTo 2;
  before = [];
  take = takes.Eat;
  after = actions.Goto states.ExprAfterRest8 ∷ [];
  call = Some (record { state = states.Expr; number = 3; enters = false; is_deep = false; newline = None });
}

abbrev pub row_12 : Row
row_12 = record {
  condition = conditions.Always;
  before = actions.Expected expectations.KeywordIn ∷ actions.Return ∷ [];
  take = takes.Nothing;
  after = [];
  call = None;
}

abbrev pub row_13 : Row
row_13 = record {
  condition = conditions.Always;
  before = [];
  take = takes.Eat;
  after = actions.Goto states.ExprNotRest ∷ [];
  call = Some (record { state = states.Expr; number = 5; enters = false; is_deep = false; newline = None });
}

abbrev pub row_14 : Row
row_14 = record {
  condition = conditions.UpTo 8;
  before = actions.Wrap kinds.Params ∷ [];
  take = takes.Eat;
  after = actions.Goto states.ExprNameRest ∷ [];
  call = Some (record { state = states.Expr; number = 1; enters = false; is_deep = false; newline = None });
}

abbrev pub row_15 : Row
row_15 = record {
  condition = conditions.Is 0;
  before = actions.Return ∷ [];
  take = takes.Nothing;
  after = [];
  call = None;
}

abbrev pub row_16 : Row
row_16 = record {
  condition = conditions.Always;
  before = actions.Wrong expectations.Expression ∷ actions.Goto states.ExprAfter ∷ [];
  take = takes.Nothing;
  after = [];
  call = None;
}

abbrev pub row_17 : Row
row_17 = record {
  condition = conditions.Always;
  before = actions.Wrap kinds.Params ∷ [];
  take = takes.Eat;
  after = actions.Goto states.ExprBlankRest1 ∷ [];
  call = Some (record { state = states.Expr; number = 1; enters = false; is_deep = false; newline = None });
}

abbrev pub row_18 : Row
row_18 = record {
  condition = conditions.Always;
  before = [];
  take = takes.Eat;
  after = actions.Goto states.ExprBlankRest2 ∷ [];
  call = Some (record { state = states.Expr; number = 1; enters = false; is_deep = false; newline = None });
}

abbrev pub row_19 : Row
row_19 = record {
  condition = conditions.Is 9;
  before = actions.Retag maps.Value ∷ actions.Unique uniques.Key ∷ actions.Goto states.ExprAfter ∷ [];
  take = takes.Nothing;
  after = [];
  call = None;
}

abbrev pub row_20 : Row
row_20 = record {
  condition = conditions.Always;
  before = actions.Retag maps.Value ∷ actions.Unique uniques.Key ∷ actions.Goto states.ExprAfter ∷ [];
  take = takes.Nothing;
  after = [];
  call = None;
}

abbrev pub row_21 : Row
row_21 = record {
  condition = conditions.Always;
  before = actions.Retag maps.Params ∷ actions.Unique uniques.Parameter ∷ [];
  take = takes.Eat;
  after = actions.Goto states.ExprGroupRest1 ∷ [];
  call = Some (record { state = states.Expr; number = 1; enters = false; is_deep = false; newline = None });
}

abbrev pub row_22 : Row
row_22 = record {
  condition = conditions.Last kinds.Array;
  before = actions.Retag maps.Target ∷ actions.Unique uniques.Sink ∷ [];
  take = takes.Eat;
  after = actions.Goto states.ExprGroupRest2 ∷ [];
  call = Some (record { state = states.Expr; number = 1; enters = false; is_deep = false; newline = None });
}

abbrev pub row_23 : Row
row_23 = record {
  condition = conditions.Last kinds.Dict;
  before = actions.Retag maps.Target ∷ actions.Unique uniques.Sink ∷ [];
  take = takes.Eat;
  after = actions.Goto states.ExprGroupRest2 ∷ [];
  call = Some (record { state = states.Expr; number = 1; enters = false; is_deep = false; newline = None });
}

abbrev pub row_24 : Row
row_24 = record {
  condition = conditions.Always;
  before = actions.Wrap kinds.FuncCall ∷ actions.Goto states.ExprAfter ∷ [];
  take = takes.Nothing;
  after = [];
  call = None;
}

abbrev pub row_25 : Row
row_25 = record {
  condition = conditions.Always;
  before = actions.Wrap kinds.FieldAccess ∷ actions.Goto states.ExprAfter ∷ [];
  take = takes.Nothing;
  after = [];
  call = None;
}

abbrev pub row_26 : Row
row_26 = record {
  condition = conditions.Always;
  before = actions.Wrap kinds.Binary ∷ actions.Goto states.ExprAfter ∷ [];
  take = takes.Nothing;
  after = [];
  call = None;
}

abbrev pub row_27 : Row
row_27 = record {
  condition = conditions.Always;
  before = actions.Wrap kinds.Closure ∷ actions.Goto states.ExprAfter ∷ [];
  take = takes.Nothing;
  after = [];
  call = None;
}

abbrev pub row_28 : Row
row_28 = record {
  condition = conditions.Always;
  before = actions.Wrap kinds.DestructAssignment ∷ actions.Goto states.ExprAfter ∷ [];
  take = takes.Nothing;
  after = [];
  call = None;
}

-- what may follow an expression
abbrev pub expr_after : Class → List Row
expr_after classes.LeftBracket = row_2 ∷ row_0 ∷ row_1 ∷ []
expr_after classes.LeftParen = row_2 ∷ row_0 ∷ row_1 ∷ []
expr_after classes.Dot = row_0 ∷ row_3 ∷ []
expr_after classes.Field = row_4 ∷ row_0 ∷ row_3 ∷ []
expr_after classes.Star = row_0 ∷ row_5 ∷ row_1 ∷ []
expr_after classes.Slash = row_0 ∷ row_5 ∷ row_1 ∷ []
expr_after classes.Eq = row_0 ∷ row_6 ∷ row_1 ∷ []
expr_after classes.Sign = row_0 ∷ row_7 ∷ row_1 ∷ []
expr_after classes.Comparison = row_0 ∷ row_8 ∷ row_1 ∷ []
expr_after classes.Assignment = row_0 ∷ row_6 ∷ row_1 ∷ []
expr_after classes.Not = row_0 ∷ row_9 ∷ row_1 ∷ []
expr_after classes.And = row_0 ∷ row_10 ∷ row_1 ∷ []
expr_after classes.Or = row_0 ∷ row_11 ∷ row_1 ∷ []
expr_after classes.In = row_0 ∷ row_8 ∷ row_1 ∷ []
expr_after _ = row_0 ∷ row_1 ∷ []

-- what has to follow `not` behind an expression
abbrev pub expr_not : Class → List Row
expr_not classes.In = row_13 ∷ []
expr_not _ = row_12 ∷ []

-- what may follow a name
abbrev pub expr_name : Class → List Row
expr_name classes.LeftBracket = row_2 ∷ row_0 ∷ row_1 ∷ []
expr_name classes.LeftParen = row_2 ∷ row_0 ∷ row_1 ∷ []
expr_name classes.Dot = row_0 ∷ row_3 ∷ []
expr_name classes.Field = row_4 ∷ row_0 ∷ row_3 ∷ []
expr_name classes.Arrow = row_14 ∷ row_0 ∷ row_1 ∷ []
expr_name classes.Star = row_0 ∷ row_5 ∷ row_1 ∷ []
expr_name classes.Slash = row_0 ∷ row_5 ∷ row_1 ∷ []
expr_name classes.Eq = row_0 ∷ row_6 ∷ row_1 ∷ []
expr_name classes.Sign = row_0 ∷ row_7 ∷ row_1 ∷ []
expr_name classes.Comparison = row_0 ∷ row_8 ∷ row_1 ∷ []
expr_name classes.Assignment = row_0 ∷ row_6 ∷ row_1 ∷ []
expr_name classes.Not = row_0 ∷ row_9 ∷ row_1 ∷ []
expr_name classes.And = row_0 ∷ row_10 ∷ row_1 ∷ []
expr_name classes.Or = row_0 ∷ row_11 ∷ row_1 ∷ []
expr_name classes.In = row_0 ∷ row_8 ∷ row_1 ∷ []
expr_name _ = row_0 ∷ row_1 ∷ []

-- what may follow an underscore
abbrev pub expr_blank : Class → List Row
expr_blank classes.End = row_15 ∷ row_16 ∷ []
expr_blank classes.RightBrace = row_15 ∷ row_16 ∷ []
expr_blank classes.RightBracket = row_15 ∷ row_16 ∷ []
expr_blank classes.RightParen = row_15 ∷ row_16 ∷ []
expr_blank classes.Comma = row_15 ∷ row_16 ∷ []
expr_blank classes.Semicolon = row_15 ∷ row_16 ∷ []
expr_blank classes.Colon = row_15 ∷ row_16 ∷ []
expr_blank classes.Arrow = row_17 ∷ []
expr_blank classes.Eq = row_18 ∷ []
expr_blank _ = row_16 ∷ []

-- what may follow a parenthesis
abbrev pub expr_group : Class → List Row
expr_group classes.End = row_19 ∷ row_15 ∷ row_20 ∷ []
expr_group classes.RightBrace = row_19 ∷ row_15 ∷ row_20 ∷ []
expr_group classes.RightBracket = row_19 ∷ row_15 ∷ row_20 ∷ []
expr_group classes.RightParen = row_19 ∷ row_15 ∷ row_20 ∷ []
expr_group classes.Comma = row_19 ∷ row_15 ∷ row_20 ∷ []
expr_group classes.Semicolon = row_19 ∷ row_15 ∷ row_20 ∷ []
expr_group classes.Colon = row_19 ∷ row_15 ∷ row_20 ∷ []
expr_group classes.Arrow = row_19 ∷ row_21 ∷ []
expr_group classes.Eq = row_19 ∷ row_22 ∷ row_23 ∷ row_20 ∷ []
expr_group _ = row_19 ∷ row_20 ∷ []

-- the rest of a row of `expr.after`, once the frame that it opened has returned
abbrev pub expr_after_rest1 : Class → List Row
expr_after_rest1 _ = row_24 ∷ []

-- the rest of a row of `expr.after`, once the frame that it opened has returned
abbrev pub expr_after_rest2 : Class → List Row
expr_after_rest2 _ = row_25 ∷ []

-- the rest of a row of `expr.after`, once the frame that it opened has returned
abbrev pub expr_after_rest3 : Class → List Row
expr_after_rest3 _ = row_25 ∷ []

-- the rest of a row of `expr.after`, once the frame that it opened has returned
abbrev pub expr_after_rest4 : Class → List Row
expr_after_rest4 _ = row_26 ∷ []

-- the rest of a row of `expr.after`, once the frame that it opened has returned
abbrev pub expr_after_rest5 : Class → List Row
expr_after_rest5 _ = row_26 ∷ []

-- the rest of a row of `expr.after`, once the frame that it opened has returned
abbrev pub expr_after_rest6 : Class → List Row
expr_after_rest6 _ = row_26 ∷ []

-- the rest of a row of `expr.after`, once the frame that it opened has returned
abbrev pub expr_after_rest7 : Class → List Row
expr_after_rest7 _ = row_26 ∷ []

-- the rest of a row of `expr.after`, once the frame that it opened has returned
abbrev pub expr_after_rest8 : Class → List Row
expr_after_rest8 _ = row_26 ∷ []

-- the rest of a row of `expr.after`, once the frame that it opened has returned
abbrev pub expr_after_rest9 : Class → List Row
expr_after_rest9 _ = row_26 ∷ []

-- the rest of a row of `expr.not`, once the frame that it opened has returned
abbrev pub expr_not_rest : Class → List Row
expr_not_rest _ = row_26 ∷ []

-- the rest of a row of `expr.name`, once the frame that it opened has returned
abbrev pub expr_name_rest : Class → List Row
expr_name_rest _ = row_27 ∷ []

-- the rest of a row of `expr.blank`, once the frame that it opened has returned
abbrev pub expr_blank_rest1 : Class → List Row
expr_blank_rest1 _ = row_27 ∷ []

-- the rest of a row of `expr.blank`, once the frame that it opened has returned
abbrev pub expr_blank_rest2 : Class → List Row
expr_blank_rest2 _ = row_28 ∷ []

-- the rest of a row of `expr.group`, once the frame that it opened has returned
abbrev pub expr_group_rest1 : Class → List Row
expr_group_rest1 _ = row_27 ∷ []

-- the rest of a row of `expr.group`, once the frame that it opened has returned
abbrev pub expr_group_rest2 : Class → List Row
expr_group_rest2 _ = row_28 ∷ []
