-- Written by bench/grammar_crate.py from crates/grammar.table: change that and run it.
-- The rows of code.
use Rattle.std.specs.Prelude.{List, [], ◌∷◌, true, false, Some, None}
use Rattle.typst_base.specs.declared.kind.SyntaxKind.TheVariants as kinds
use Rattle.typst_grammar.specs.declared.expectation.Expectation.TheVariants as expectations
use Rattle.typst_grammar.specs.declared.row.Action.TheVariants as actions
use Rattle.typst_grammar.specs.declared.row.Condition.TheVariants as conditions
use Rattle.typst_grammar.specs.declared.row.Newline.TheVariants as newlines
use Rattle.typst_grammar.specs.declared.row.Take.TheVariants as takes
use Rattle.typst_grammar.specs.declared.row.Unique.TheVariants as uniques
use Rattle.typst_grammar.specs.declared.rows.Class.TheVariants as classes
use Rattle.typst_grammar.specs.declared.rows.State.TheVariants as states
use Rattle.typst_grammar.specs.declared.rows.Class.{Class}
use Rattle.typst_grammar.specs.Row.{Row}

abbrev pub row_0 : Row
row_0 = record {
  condition = conditions.Always;
  before = actions.Expected expectations.Expression ∷ actions.Return ∷ [];
  take = takes.Nothing;
  after = [];
  call = None;
}

abbrev pub row_1 : Row
row_1 = record {
  condition = conditions.Direct;
  before = [];
  take = takes.Unexpected;
  after = actions.Goto states.EmbeddedExpr ∷ [];
  call = None;
}

abbrev pub row_2 : Row
row_2 = record {
  condition = conditions.Direct;
  before = actions.Goto states.EmbeddedExpr ∷ [];
  take = takes.Nothing;
  after = [];
  call = Some (record { state = states.Expr; number = 9; enters = false; is_deep = false; newline = None });
}

abbrev pub row_3 : Row
row_3 = record {
  condition = conditions.Direct;
  before = actions.Goto states.EmbeddedStatement ∷ [];
  take = takes.Nothing;
  after = [];
  call = Some (record { state = states.Expr; number = 9; enters = false; is_deep = false; newline = None });
}

abbrev pub row_4 : Row
row_4 = record {
  condition = conditions.Always;
  before = actions.Return ∷ [];
  take = takes.Nothing;
  after = [];
  call = None;
}

abbrev pub row_5 : Row
row_5 = record {
  condition = conditions.Always;
  before = actions.Expected expectations.SemicolonOrLineBreak ∷ actions.Return ∷ [];
  take = takes.Nothing;
  after = [];
  call = None;
}

abbrev pub row_6 : Row
row_6 = record {
  condition = conditions.Always;
  before = [];
  take = takes.Eat;
  after = actions.Return ∷ [];
  call = None;
}

abbrev pub row_7 : Row
row_7 = record {
  condition = conditions.Direct;
  before = [];
  take = takes.Eat;
  after = actions.Return ∷ [];
  call = None;
}

abbrev pub row_8 : Row
row_8 = record {
  condition = conditions.Always;
  before = actions.Expected expectations.Expression ∷ actions.Goto states.ExprAfter ∷ [];
  take = takes.Nothing;
  after = [];
  call = None;
}

abbrev pub row_9 : Row
row_9 = record {
  condition = conditions.Always;
  before = [];
  take = takes.Eat;
  after = actions.Goto states.ExprAfter ∷ [];
  call = None;
}

abbrev pub row_10 : Row
row_10 = record {
  condition = conditions.Always;
  before = actions.Goto states.ExprAfter ∷ [];
  take = takes.Nothing;
  after = [];
  call = Some (record { state = states.Equation; number = 0; enters = false; is_deep = true; newline = Some newlines.Go });
}

abbrev pub row_11 : Row
row_11 = record {
  condition = conditions.Always;
  before = actions.Goto states.ExprAfter ∷ [];
  take = takes.Nothing;
  after = [];
  call = Some (record { state = states.Braces; number = 0; enters = false; is_deep = true; newline = Some newlines.Go });
}

abbrev pub row_12 : Row
row_12 = record {
  condition = conditions.Always;
  before = actions.Goto states.ExprAfter ∷ [];
  take = takes.Nothing;
  after = [];
  call = Some (record { state = states.Content; number = 0; enters = false; is_deep = true; newline = Some newlines.Go });
}

abbrev pub row_13 : Row
row_13 = record {
  condition = conditions.Always;
  before = actions.Goto states.ExprGroup ∷ [];
  take = takes.Nothing;
  after = [];
  call = Some (record { state = states.Group; number = 0; enters = false; is_deep = true; newline = Some newlines.Go });
}

abbrev pub row_14 : Row
row_14 = record {
  condition = conditions.UpTo 8;
  before = [];
  take = takes.Eat;
  after = actions.Goto states.ExprBlank ∷ [];
  call = None;
}

abbrev pub row_15 : Row
row_15 = record {
  condition = conditions.UpTo 8;
  before = [];
  take = takes.Eat;
  after = actions.Goto states.ExprRest1 ∷ [];
  call = Some (record { state = states.Expr; number = 7; enters = false; is_deep = false; newline = None });
}

abbrev pub row_16 : Row
row_16 = record {
  condition = conditions.Always;
  before = [];
  take = takes.Eat;
  after = actions.Goto states.ExprName ∷ [];
  call = None;
}

abbrev pub row_17 : Row
row_17 = record {
  condition = conditions.UpTo 8;
  before = [];
  take = takes.Eat;
  after = actions.Goto states.ExprRest2 ∷ [];
  call = Some (record { state = states.Expr; number = 4; enters = false; is_deep = false; newline = None });
}

abbrev pub row_18 : Row
row_18 = record {
  condition = conditions.Always;
  before = [];
  take = takes.Eat;
  after = actions.Goto states.Binding ∷ [];
  call = None;
}

abbrev pub row_19 : Row
row_19 = record {
  condition = conditions.Always;
  before = [];
  take = takes.Eat;
  after = actions.Goto states.SetArguments ∷ [];
  call = Some (record { state = states.Target; number = 0; enters = false; is_deep = false; newline = None });
}

abbrev pub row_20 : Row
row_20 = record {
  condition = conditions.Always;
  before = [];
  take = takes.Eat;
  after = actions.Goto states.ShowSelector ∷ [];
  call = None;
}

abbrev pub row_21 : Row
row_21 = record {
  condition = conditions.UpTo 8;
  before = [];
  take = takes.Eat;
  after = actions.Goto states.ExprRest3 ∷ [];
  call = Some (record { state = states.Expr; number = 1; enters = false; is_deep = false; newline = None });
}

abbrev pub row_22 : Row
row_22 = record {
  condition = conditions.Always;
  before = [];
  take = takes.Eat;
  after = actions.Goto states.ExprRest4 ∷ [];
  call = Some (record { state = states.Expr; number = 9; enters = false; is_deep = false; newline = None });
}

abbrev pub row_23 : Row
row_23 = record {
  condition = conditions.Always;
  before = actions.Goto states.ExprAfter ∷ [];
  take = takes.Nothing;
  after = [];
  call = Some (record { state = states.Conditional; number = 0; enters = false; is_deep = false; newline = None });
}

abbrev pub row_24 : Row
row_24 = record {
  condition = conditions.Always;
  before = [];
  take = takes.Eat;
  after = actions.Goto states.ExprRest6 ∷ [];
  call = Some (record { state = states.Pattern; number = 0; enters = false; is_deep = false; newline = None });
}

abbrev pub row_25 : Row
row_25 = record {
  condition = conditions.Always;
  before = [];
  take = takes.Eat;
  after = actions.Goto states.ExprRest5 ∷ [];
  call = Some (record { state = states.Expr; number = 1; enters = false; is_deep = false; newline = None });
}

abbrev pub row_26 : Row
row_26 = record {
  condition = conditions.Always;
  before = [];
  take = takes.Eat;
  after = actions.Wrap kinds.LoopBreak ∷ actions.Goto states.ExprAfter ∷ [];
  call = None;
}

abbrev pub row_27 : Row
row_27 = record {
  condition = conditions.Always;
  before = [];
  take = takes.Eat;
  after = actions.Wrap kinds.LoopContinue ∷ actions.Goto states.ExprAfter ∷ [];
  call = None;
}

abbrev pub row_28 : Row
row_28 = record {
  condition = conditions.Always;
  before = [];
  take = takes.Eat;
  after = actions.Goto states.ReturnValue ∷ [];
  call = None;
}

abbrev pub row_29 : Row
row_29 = record {
  condition = conditions.Always;
  before = [];
  take = takes.Eat;
  after = actions.Goto states.ImportAs ∷ [];
  call = Some (record { state = states.Expr; number = 1; enters = false; is_deep = false; newline = None });
}

abbrev pub row_30 : Row
row_30 = record {
  condition = conditions.Always;
  before = [];
  take = takes.Eat;
  after = actions.Goto states.ExprRest7 ∷ [];
  call = Some (record { state = states.Expr; number = 1; enters = false; is_deep = false; newline = None });
}

abbrev pub row_31 : Row
row_31 = record {
  condition = conditions.Always;
  before = actions.Wrap kinds.Unary ∷ actions.Goto states.ExprAfter ∷ [];
  take = takes.Nothing;
  after = [];
  call = None;
}

abbrev pub row_32 : Row
row_32 = record {
  condition = conditions.Always;
  before = actions.Wrap kinds.Contextual ∷ actions.Goto states.ExprAfter ∷ [];
  take = takes.Nothing;
  after = [];
  call = None;
}

abbrev pub row_33 : Row
row_33 = record {
  condition = conditions.Always;
  before = actions.Goto states.ExprRest5Rest ∷ [];
  take = takes.Nothing;
  after = [];
  call = Some (record { state = states.Body; number = 0; enters = false; is_deep = false; newline = None });
}

abbrev pub row_34 : Row
row_34 = record {
  condition = conditions.Always;
  before = actions.Wrap kinds.WhileLoop ∷ actions.Goto states.ExprAfter ∷ [];
  take = takes.Nothing;
  after = [];
  call = None;
}

abbrev pub row_35 : Row
row_35 = record {
  condition = conditions.Always;
  before = actions.Unique uniques.Binding ∷ actions.Goto states.ForIn ∷ [];
  take = takes.Nothing;
  after = [];
  call = None;
}

abbrev pub row_36 : Row
row_36 = record {
  condition = conditions.Always;
  before = actions.Wrap kinds.ModuleInclude ∷ actions.Goto states.ExprAfter ∷ [];
  take = takes.Nothing;
  after = [];
  call = None;
}

-- the code behind a hash
abbrev pub embedded : Class → List Row
embedded classes.End = row_0 ∷ []
embedded classes.Label = row_2 ∷ row_1 ∷ row_0 ∷ []
embedded classes.Raw = row_2 ∷ row_1 ∷ row_0 ∷ []
embedded classes.Dollar = row_2 ∷ row_1 ∷ row_0 ∷ []
embedded classes.LeftBrace = row_2 ∷ row_1 ∷ row_0 ∷ []
embedded classes.LeftBracket = row_2 ∷ row_1 ∷ row_0 ∷ []
embedded classes.LeftParen = row_2 ∷ row_1 ∷ row_0 ∷ []
embedded classes.Ident = row_2 ∷ row_1 ∷ row_0 ∷ []
embedded classes.Str = row_2 ∷ row_1 ∷ row_0 ∷ []
embedded classes.Literal = row_2 ∷ row_1 ∷ row_0 ∷ []
embedded classes.Constant = row_2 ∷ row_1 ∷ row_0 ∷ []
embedded classes.Let = row_3 ∷ row_2 ∷ row_1 ∷ row_0 ∷ []
embedded classes.Set = row_3 ∷ row_2 ∷ row_1 ∷ row_0 ∷ []
embedded classes.Show = row_3 ∷ row_2 ∷ row_1 ∷ row_0 ∷ []
embedded classes.Context = row_2 ∷ row_1 ∷ row_0 ∷ []
embedded classes.If = row_2 ∷ row_1 ∷ row_0 ∷ []
embedded classes.For = row_2 ∷ row_1 ∷ row_0 ∷ []
embedded classes.While = row_2 ∷ row_1 ∷ row_0 ∷ []
embedded classes.Break = row_2 ∷ row_1 ∷ row_0 ∷ []
embedded classes.Continue = row_2 ∷ row_1 ∷ row_0 ∷ []
embedded classes.Return = row_3 ∷ row_2 ∷ row_1 ∷ row_0 ∷ []
embedded classes.Import = row_3 ∷ row_2 ∷ row_1 ∷ row_0 ∷ []
embedded classes.Include = row_3 ∷ row_2 ∷ row_1 ∷ row_0 ∷ []
embedded _ = row_1 ∷ row_0 ∷ []

-- the end of a statement behind a hash
abbrev pub embedded_statement : Class → List Row
embedded_statement classes.End = row_4 ∷ []
embedded_statement classes.RightBracket = row_4 ∷ []
embedded_statement classes.Semicolon = row_6 ∷ []
embedded_statement _ = row_5 ∷ []

-- the end of an expression behind a hash
abbrev pub embedded_expr : Class → List Row
embedded_expr classes.Semicolon = row_7 ∷ row_4 ∷ []
embedded_expr _ = row_4 ∷ []

-- an expression
abbrev pub expr : Class → List Row
expr classes.Label = row_9 ∷ []
expr classes.Raw = row_9 ∷ []
expr classes.Dollar = row_10 ∷ []
expr classes.LeftBrace = row_11 ∷ []
expr classes.LeftBracket = row_12 ∷ []
expr classes.LeftParen = row_13 ∷ []
expr classes.Underscore = row_14 ∷ row_8 ∷ []
expr classes.Sign = row_15 ∷ row_8 ∷ []
expr classes.Ident = row_16 ∷ []
expr classes.Str = row_9 ∷ []
expr classes.Literal = row_9 ∷ []
expr classes.Constant = row_9 ∷ []
expr classes.Not = row_17 ∷ row_8 ∷ []
expr classes.Let = row_18 ∷ []
expr classes.Set = row_19 ∷ []
expr classes.Show = row_20 ∷ []
expr classes.Context = row_21 ∷ row_22 ∷ []
expr classes.If = row_23 ∷ []
expr classes.For = row_24 ∷ []
expr classes.While = row_25 ∷ []
expr classes.Break = row_26 ∷ []
expr classes.Continue = row_27 ∷ []
expr classes.Return = row_28 ∷ []
expr classes.Import = row_29 ∷ []
expr classes.Include = row_30 ∷ []
expr _ = row_8 ∷ []

-- an expression of a block of code
abbrev pub statement : Class → List Row
statement class = expr class

-- the rest of a row of `expr`, once the frame that it opened has returned
abbrev pub expr_rest1 : Class → List Row
expr_rest1 _ = row_31 ∷ []

-- the rest of a row of `expr`, once the frame that it opened has returned
abbrev pub expr_rest2 : Class → List Row
expr_rest2 _ = row_31 ∷ []

-- the rest of a row of `expr`, once the frame that it opened has returned
abbrev pub expr_rest3 : Class → List Row
expr_rest3 _ = row_32 ∷ []

-- the rest of a row of `expr`, once the frame that it opened has returned
abbrev pub expr_rest4 : Class → List Row
expr_rest4 _ = row_32 ∷ []

-- the rest of a row of `expr`, once the frame that it opened has returned
abbrev pub expr_rest5 : Class → List Row
expr_rest5 _ = row_33 ∷ []

-- the rest of a row of `expr.rest5`, once the frame that it opened has returned
abbrev pub expr_rest5_rest : Class → List Row
expr_rest5_rest _ = row_34 ∷ []

-- the rest of a row of `expr`, once the frame that it opened has returned
abbrev pub expr_rest6 : Class → List Row
expr_rest6 _ = row_35 ∷ []

-- the rest of a row of `expr`, once the frame that it opened has returned
abbrev pub expr_rest7 : Class → List Row
expr_rest7 _ = row_36 ∷ []
