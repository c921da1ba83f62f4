-- Written by bench/grammar_crate.py from crates/grammar.table: change that and run it.
-- The rows of math.
use Rattle.std.specs.Prelude.{List, [], ◌∷◌, true, false, Some, None}
use Rattle.typst_base.specs.declared.kind.SyntaxKind.TheVariants as kinds
use Rattle.typst_grammar.specs.declared.expectation.Expectation.TheVariants as expectations
use Rattle.typst_grammar.specs.declared.row.Action.TheVariants as actions
use Rattle.typst_grammar.specs.declared.row.Condition.TheVariants as conditions
use Rattle.typst_grammar.specs.declared.row.Newline.TheVariants as newlines
use Rattle.typst_grammar.specs.declared.row.Take.TheVariants as takes
use Rattle.typst_grammar.specs.declared.rows.Class.TheVariants as classes
use Rattle.typst_grammar.specs.declared.rows.State.TheVariants as states
use Rattle.typst_grammar.specs.declared.rows.Class.{Class}
use Rattle.typst_grammar.specs.Row.{Row}

abbrev pub row_0 : Row
row_0 = record {
  condition = conditions.Always;
  before = [];
  take = takes.Eat;
  after = [];
  call = Some (record { state = states.Math; number = 2; enters = false; is_deep = false; newline = None });
}

abbrev pub row_1 : Row
row_1 = record {
  condition = conditions.Is 2;
  before = actions.Wrap kinds.Math ∷ actions.Return ∷ actions.Unclosed ∷ actions.Wrap kinds.Equation ∷ actions.Return ∷ [];
  take = takes.Nothing;
  after = [];
  call = None;
}

abbrev pub row_2 : Row
row_2 = record {
  condition = conditions.Always;
  before = actions.Return ∷ actions.Wrap kinds.Math ∷ [];
  take = takes.Nothing;
  after = [];
  call = None;
}

abbrev pub row_3 : Row
row_3 = record {
  condition = conditions.Always;
  before = [];
  take = takes.Unexpected;
  after = actions.Goto states.Math ∷ [];
  call = None;
}

abbrev pub row_4 : Row
row_4 = record {
  condition = conditions.Always;
  before = [];
  take = takes.Eat;
  after = actions.Goto states.MathLeaf ∷ [];
  call = None;
}

abbrev pub row_5 : Row
row_5 = record {
  condition = conditions.Always;
  before = [];
  take = takes.Eat;
  after = actions.Goto states.MathLetter ∷ [];
  call = None;
}

abbrev pub row_6 : Row
row_6 = record {
  condition = conditions.Always;
  before = actions.Goto states.Math ∷ [];
  take = takes.Nothing;
  after = [];
  call = Some (record { state = states.MathExpr; number = 0; enters = false; is_deep = false; newline = None });
}

abbrev pub row_7 : Row
row_7 = record {
  condition = conditions.Is 2;
  before = actions.Wrap kinds.Math ∷ actions.Return ∷ [];
  take = takes.Eat;
  after = actions.Wrap kinds.Equation ∷ actions.Return ∷ [];
  call = None;
}

abbrev pub row_8 : Row
row_8 = record {
  condition = conditions.UpTo 1;
  before = actions.Wrap kinds.Math ∷ actions.Return ∷ [];
  take = takes.EatAs kinds.MathText;
  after = actions.Wrap kinds.MathDelimited ∷ [];
  call = None;
}

abbrev pub row_9 : Row
row_9 = record {
  condition = conditions.Always;
  before = [];
  take = takes.EatAs kinds.MathText;
  after = actions.Goto states.MathLeaf ∷ [];
  call = None;
}

abbrev pub row_10 : Row
row_10 = record {
  condition = conditions.Is 0;
  before = actions.Wrap kinds.Math ∷ actions.Return ∷ [];
  take = takes.EatAs kinds.MathText;
  after = [];
  call = None;
}

abbrev pub row_11 : Row
row_11 = record {
  condition = conditions.Always;
  before = [];
  take = takes.Eat;
  after = actions.Goto states.MathName ∷ [];
  call = None;
}

abbrev pub row_12 : Row
row_12 = record {
  condition = conditions.UpTo 1;
  before = actions.Wrap kinds.Math ∷ actions.Return ∷ [];
  take = takes.Eat;
  after = actions.Wrap kinds.MathDelimited ∷ [];
  call = None;
}

abbrev pub row_13 : Row
row_13 = record {
  condition = conditions.Always;
  before = actions.Around states.Math 0 ∷ [];
  take = takes.Eat;
  after = actions.Goto states.MathLeafRest ∷ [];
  call = Some (record { state = states.MathExpr; number = 1; enters = false; is_deep = false; newline = None });
}

abbrev pub row_14 : Row
row_14 = record {
  condition = conditions.Always;
  before = actions.Around states.Math 0 ∷ [];
  take = takes.Eat;
  after = actions.Goto states.MathBelow ∷ [];
  call = Some (record { state = states.MathExpr; number = 2; enters = false; is_deep = false; newline = None });
}

abbrev pub row_15 : Row
row_15 = record {
  condition = conditions.Direct;
  before = actions.Around states.Math 0 ∷ [];
  take = takes.Eat;
  after = actions.Goto states.MathPrimed ∷ [];
  call = None;
}

abbrev pub row_16 : Row
row_16 = record {
  condition = conditions.Always;
  before = actions.Around states.Math 0 ∷ [];
  take = takes.Eat;
  after = actions.Goto states.MathAbove ∷ [];
  call = Some (record { state = states.MathExpr; number = 3; enters = false; is_deep = false; newline = None });
}

abbrev pub row_17 : Row
row_17 = record {
  condition = conditions.Direct;
  before = actions.Around states.Math 0 ∷ [];
  take = takes.EatAs kinds.MathText;
  after = actions.Wrap kinds.Math ∷ actions.Goto states.MathAfter ∷ [];
  call = None;
}

abbrev pub row_18 : Row
row_18 = record {
  condition = conditions.Direct;
  before = actions.Around states.Math 0 ∷ actions.Goto states.MathLetterRest ∷ [];
  take = takes.Nothing;
  after = [];
  call = Some (record { state = states.Delimited; number = 0; enters = false; is_deep = false; newline = None });
}

abbrev pub row_19 : Row
row_19 = record {
  condition = conditions.Direct;
  before = actions.Around states.Math 0 ∷ actions.Goto states.MathNameRest2 ∷ [];
  take = takes.Nothing;
  after = [];
  call = Some (record { state = states.MathArgs; number = 0; enters = false; is_deep = true; newline = None });
}

abbrev pub row_20 : Row
row_20 = record {
  condition = conditions.Direct;
  before = actions.Around states.Math 0 ∷ [];
  take = takes.Eat;
  after = actions.Goto states.MathNameRest1 ∷ [];
  call = Some (record { state = states.Field; number = 0; enters = false; is_deep = false; newline = None });
}

abbrev pub row_21 : Row
row_21 = record {
  condition = conditions.Always;
  before = actions.Expected expectations.Expression ∷ actions.Goto states.MathAfter ∷ [];
  take = takes.Nothing;
  after = [];
  call = None;
}

abbrev pub row_22 : Row
row_22 = record {
  condition = conditions.Always;
  before = [];
  take = takes.Eat;
  after = actions.Goto states.MathAfter ∷ [];
  call = None;
}

abbrev pub row_23 : Row
row_23 = record {
  condition = conditions.Always;
  before = [];
  take = takes.Eat;
  after = actions.Goto states.MathJoined ∷ [];
  call = None;
}

abbrev pub row_24 : Row
row_24 = record {
  condition = conditions.Always;
  before = actions.Goto states.MathAfter ∷ [];
  take = takes.Nothing;
  after = [];
  call = Some (record { state = states.Hash; number = 0; enters = false; is_deep = false; newline = Some newlines.Stop });
}

abbrev pub row_25 : Row
row_25 = record {
  condition = conditions.Always;
  before = [];
  take = takes.EatAs kinds.MathText;
  after = actions.Goto states.MathAfter ∷ [];
  call = Some (record { state = states.DelimitedBody; number = 1; enters = false; is_deep = true; newline = None });
}

abbrev pub row_26 : Row
row_26 = record {
  condition = conditions.Always;
  before = [];
  take = takes.EatAs kinds.MathText;
  after = actions.Goto states.MathAfter ∷ [];
  call = None;
}

abbrev pub row_27 : Row
row_27 = record {
  condition = conditions.Is 0;
  before = [];
  take = takes.EatAs kinds.MathText;
  after = actions.Goto states.MathParen ∷ [];
  call = Some (record { state = states.DelimitedBody; number = 0; enters = false; is_deep = true; newline = None });
}

abbrev pub row_28 : Row
row_28 = record {
  condition = conditions.Is 1;
  before = actions.Goto states.MathExprRest1 ∷ [];
  take = takes.Nothing;
  after = [];
  call = Some (record { state = states.MathGroup; number = 1; enters = false; is_deep = false; newline = None });
}

abbrev pub row_29 : Row
row_29 = record {
  condition = conditions.Is 2;
  before = actions.Goto states.MathExprRest2 ∷ [];
  take = takes.Nothing;
  after = [];
  call = Some (record { state = states.MathGroup; number = 2; enters = false; is_deep = false; newline = None });
}

abbrev pub row_30 : Row
row_30 = record {
  condition = conditions.Always;
  before = actions.Goto states.MathExprRest3 ∷ [];
  take = takes.Nothing;
  after = [];
  call = Some (record { state = states.MathGroup; number = 3; enters = false; is_deep = false; newline = None });
}

abbrev pub row_31 : Row
row_31 = record {
  condition = conditions.Always;
  before = [];
  take = takes.Eat;
  after = actions.Goto states.MathIdent ∷ [];
  call = None;
}

abbrev pub row_32 : Row
row_32 = record {
  condition = conditions.Always;
  before = [];
  take = takes.Eat;
  after = actions.Goto states.MathAfter ∷ [];
  call = Some (record { state = states.DelimitedBody; number = 1; enters = false; is_deep = true; newline = None });
}

abbrev pub row_33 : Row
row_33 = record {
  condition = conditions.Is 3;
  before = [];
  take = takes.Eat;
  after = actions.Goto states.MathExprRest4 ∷ [];
  call = Some (record { state = states.MathExpr; number = 3; enters = false; is_deep = false; newline = None });
}

abbrev pub row_34 : Row
row_34 = record {
  condition = conditions.Is 2;
  before = [];
  take = takes.Eat;
  after = actions.Goto states.MathExprRest5 ∷ [];
  call = Some (record { state = states.MathExpr; number = 2; enters = false; is_deep = false; newline = None });
}

abbrev pub row_35 : Row
row_35 = record {
  condition = conditions.Always;
  before = [];
  take = takes.Eat;
  after = actions.Goto states.MathExprRest6 ∷ [];
  call = Some (record { state = states.MathExpr; number = 1; enters = false; is_deep = false; newline = None });
}

abbrev pub row_36 : Row
row_36 = record {
  condition = conditions.Always;
  before = actions.Wrap kinds.MathFrac ∷ actions.Goto states.MathAfter ∷ [];
  take = takes.Nothing;
  after = [];
  call = None;
}

abbrev pub row_37 : Row
row_37 = record {
  condition = conditions.Always;
  before = actions.Wrap kinds.Math ∷ actions.Goto states.MathAfter ∷ [];
  take = takes.Nothing;
  after = [];
  call = None;
}

abbrev pub row_38 : Row
row_38 = record {
  condition = conditions.Always;
  before = actions.Wrap kinds.MathFieldAccess ∷ actions.Goto states.MathIdent ∷ [];
  take = takes.Nothing;
  after = [];
  call = None;
}

abbrev pub row_39 : Row
row_39 = record {
  condition = conditions.Always;
  before = actions.Wrap kinds.MathCall ∷ actions.Goto states.MathAfter ∷ [];
  take = takes.Nothing;
  after = [];
  call = None;
}

abbrev pub row_40 : Row
row_40 = record {
  condition = conditions.Always;
  before = actions.Return ∷ [];
  take = takes.Nothing;
  after = [];
  call = None;
}

abbrev pub row_41 : Row
row_41 = record {
  condition = conditions.Always;
  before = actions.Wrap kinds.MathRoot ∷ actions.Goto states.MathAfter ∷ [];
  take = takes.Nothing;
  after = [];
  call = None;
}

-- an equation
abbrev pub equation : Class → List Row
equation classes.Dollar = row_0 ∷ []
equation _ = []

-- the content of an equation
abbrev pub math : Class → List Row
math classes.End = row_1 ∷ row_2 ∷ []
math classes.Linebreak = row_4 ∷ []
math classes.Escape = row_5 ∷ []
math classes.Hash = row_6 ∷ []
math classes.Dollar = row_7 ∷ row_2 ∷ []
math classes.LeftBrace = row_6 ∷ []
math classes.RightBrace = row_8 ∷ row_9 ∷ []
math classes.LeftParen = row_6 ∷ []
math classes.RightParen = row_10 ∷ row_8 ∷ row_9 ∷ []
math classes.Comma = row_9 ∷ []
math classes.Semicolon = row_9 ∷ []
math classes.Dot = row_9 ∷ []
math classes.Field = row_9 ∷ []
math classes.Str = row_5 ∷ []
math classes.MathIdent = row_11 ∷ []
math classes.MathLetter = row_5 ∷ []
math classes.MathText = row_4 ∷ []
math classes.MathPrimes = row_5 ∷ []
math classes.Opening = row_6 ∷ []
math classes.Closing = row_12 ∷ row_4 ∷ []
math classes.Bang = row_9 ∷ []
math classes.Root = row_6 ∷ []
math _ = row_3 ∷ []

-- what may follow a token of the content
abbrev pub math_leaf : Class → List Row
math_leaf classes.End = row_1 ∷ row_2 ∷ []
math_leaf classes.Linebreak = row_4 ∷ []
math_leaf classes.Escape = row_5 ∷ []
math_leaf classes.Hash = row_6 ∷ []
math_leaf classes.Dollar = row_7 ∷ row_2 ∷ []
math_leaf classes.LeftBrace = row_6 ∷ []
math_leaf classes.RightBrace = row_8 ∷ row_9 ∷ []
math_leaf classes.LeftParen = row_6 ∷ []
math_leaf classes.RightParen = row_10 ∷ row_8 ∷ row_9 ∷ []
math_leaf classes.Comma = row_9 ∷ []
math_leaf classes.Semicolon = row_9 ∷ []
math_leaf classes.Dot = row_9 ∷ []
math_leaf classes.Field = row_9 ∷ []
math_leaf classes.Slash = row_13 ∷ []
math_leaf classes.Underscore = row_14 ∷ []
math_leaf classes.Str = row_5 ∷ []
math_leaf classes.MathIdent = row_11 ∷ []
math_leaf classes.MathLetter = row_5 ∷ []
math_leaf classes.MathText = row_4 ∷ []
math_leaf classes.MathPrimes = row_15 ∷ row_5 ∷ []
math_leaf classes.Opening = row_6 ∷ []
math_leaf classes.Closing = row_12 ∷ row_4 ∷ []
math_leaf classes.Hat = row_16 ∷ []
math_leaf classes.Bang = row_17 ∷ row_9 ∷ []
math_leaf classes.Root = row_6 ∷ []
math_leaf _ = row_3 ∷ []

-- what may follow a letter or a string of the content
abbrev pub math_letter : Class → List Row
math_letter classes.End = row_1 ∷ row_2 ∷ []
math_letter classes.Linebreak = row_4 ∷ []
math_letter classes.Escape = row_5 ∷ []
math_letter classes.Hash = row_6 ∷ []
math_letter classes.Dollar = row_7 ∷ row_2 ∷ []
math_letter classes.LeftBrace = row_18 ∷ row_6 ∷ []
math_letter classes.RightBrace = row_8 ∷ row_9 ∷ []
math_letter classes.LeftParen = row_18 ∷ row_6 ∷ []
math_letter classes.RightParen = row_10 ∷ row_8 ∷ row_9 ∷ []
math_letter classes.Comma = row_9 ∷ []
math_letter classes.Semicolon = row_9 ∷ []
math_letter classes.Dot = row_9 ∷ []
math_letter classes.Field = row_9 ∷ []
math_letter classes.Slash = row_13 ∷ []
math_letter classes.Underscore = row_14 ∷ []
math_letter classes.Str = row_5 ∷ []
math_letter classes.MathIdent = row_11 ∷ []
math_letter classes.MathLetter = row_5 ∷ []
math_letter classes.MathText = row_4 ∷ []
math_letter classes.MathPrimes = row_15 ∷ row_5 ∷ []
math_letter classes.Opening = row_18 ∷ row_6 ∷ []
math_letter classes.Closing = row_12 ∷ row_4 ∷ []
math_letter classes.Hat = row_16 ∷ []
math_letter classes.Bang = row_17 ∷ row_9 ∷ []
math_letter classes.Root = row_6 ∷ []
math_letter _ = row_3 ∷ []

-- what may follow a name of the content
abbrev pub math_name : Class → List Row
math_name classes.End = row_1 ∷ row_2 ∷ []
math_name classes.Linebreak = row_4 ∷ []
math_name classes.Escape = row_5 ∷ []
math_name classes.Hash = row_6 ∷ []
math_name classes.Dollar = row_7 ∷ row_2 ∷ []
math_name classes.LeftBrace = row_18 ∷ row_6 ∷ []
math_name classes.RightBrace = row_8 ∷ row_9 ∷ []
math_name classes.LeftParen = row_19 ∷ row_18 ∷ row_6 ∷ []
math_name classes.RightParen = row_10 ∷ row_8 ∷ row_9 ∷ []
math_name classes.Comma = row_9 ∷ []
math_name classes.Semicolon = row_9 ∷ []
math_name classes.Dot = row_9 ∷ []
math_name classes.Field = row_20 ∷ row_9 ∷ []
math_name classes.Slash = row_13 ∷ []
math_name classes.Underscore = row_14 ∷ []
math_name classes.Str = row_5 ∷ []
math_name classes.MathIdent = row_11 ∷ []
math_name classes.MathLetter = row_5 ∷ []
math_name classes.MathText = row_4 ∷ []
math_name classes.MathPrimes = row_15 ∷ row_5 ∷ []
math_name classes.Opening = row_18 ∷ row_6 ∷ []
math_name classes.Closing = row_12 ∷ row_4 ∷ []
math_name classes.Hat = row_16 ∷ []
math_name classes.Bang = row_17 ∷ row_9 ∷ []
math_name classes.Root = row_6 ∷ []
math_name _ = row_3 ∷ []

-- an expression in math
abbrev pub math_expr : Class → List Row
math_expr classes.Linebreak = row_22 ∷ []
math_expr classes.Escape = row_23 ∷ []
math_expr classes.Hash = row_24 ∷ []
math_expr classes.LeftBrace = row_25 ∷ []
math_expr classes.RightBrace = row_26 ∷ []
math_expr classes.LeftParen = row_27 ∷ row_28 ∷ row_29 ∷ row_30 ∷ []
math_expr classes.RightParen = row_26 ∷ []
math_expr classes.Comma = row_26 ∷ []
math_expr classes.Semicolon = row_26 ∷ []
math_expr classes.Dot = row_26 ∷ []
math_expr classes.Field = row_26 ∷ []
math_expr classes.Str = row_23 ∷ []
math_expr classes.MathIdent = row_31 ∷ []
math_expr classes.MathLetter = row_23 ∷ []
math_expr classes.MathText = row_22 ∷ []
math_expr classes.MathPrimes = row_23 ∷ []
math_expr classes.Opening = row_32 ∷ []
math_expr classes.Closing = row_22 ∷ []
math_expr classes.Bang = row_26 ∷ []
math_expr classes.Root = row_33 ∷ row_34 ∷ row_35 ∷ []
math_expr _ = row_21 ∷ []

-- the rest of a row of `math.leaf`, once the frame that it opened has returned
abbrev pub math_leaf_rest : Class → List Row
math_leaf_rest _ = row_36 ∷ []

-- the rest of a row of `math.letter`, once the frame that it opened has returned
abbrev pub math_letter_rest : Class → List Row
math_letter_rest _ = row_37 ∷ []

-- the rest of a row of `math.name`, once the frame that it opened has returned
abbrev pub math_name_rest1 : Class → List Row
math_name_rest1 _ = row_38 ∷ []

-- the rest of a row of `math.name`, once the frame that it opened has returned
abbrev pub math_name_rest2 : Class → List Row
math_name_rest2 _ = row_39 ∷ []

-- the rest of a row of `math.expr`, once the frame that it opened has returned
abbrev pub math_expr_rest1 : Class → List Row
math_expr_rest1 _ = row_40 ∷ []

-- the rest of a row of `math.expr`, once the frame that it opened has returned
abbrev pub math_expr_rest2 : Class → List Row
math_expr_rest2 _ = row_40 ∷ []

-- the rest of a row of `math.expr`, once the frame that it opened has returned
abbrev pub math_expr_rest3 : Class → List Row
math_expr_rest3 _ = row_40 ∷ []

-- the rest of a row of `math.expr`, once the frame that it opened has returned
abbrev pub math_expr_rest4 : Class → List Row
math_expr_rest4 _ = row_41 ∷ []

-- the rest of a row of `math.expr`, once the frame that it opened has returned
abbrev pub math_expr_rest5 : Class → List Row
math_expr_rest5 _ = row_41 ∷ []

-- the rest of a row of `math.expr`, once the frame that it opened has returned
abbrev pub math_expr_rest6 : Class → List Row
math_expr_rest6 _ = row_41 ∷ []
