-- Written by bench/grammar_crate.py from crates/grammar.table: change that and run it.
-- The rows of what may follow an expression in math.
use Rattle.std.specs.Prelude.{List, [], ◌∷◌, true, false, Some, None}
use Rattle.typst_base.specs.declared.kind.SyntaxKind.TheVariants as kinds
use Rattle.typst_grammar.specs.declared.row.Action.TheVariants as actions
use Rattle.typst_grammar.specs.declared.row.Condition.TheVariants as conditions
use Rattle.typst_grammar.specs.declared.row.Take.TheVariants as takes
use Rattle.typst_grammar.specs.declared.rows.Class.TheVariants as classes
use Rattle.typst_grammar.specs.declared.rows.State.TheVariants as states
use Rattle.typst_grammar.specs.declared.rows.Class.{Class}
use Rattle.typst_grammar.specs.Row.{Row}

abbrev pub row_0 : Row
row_0 = record {
  condition = conditions.Always;
  before = actions.Return ∷ [];
  take = takes.Nothing;
  after = [];
  call = None;
}

abbrev pub row_1 : Row
row_1 = record {
  condition = conditions.Direct;
  before = actions.Goto states.MathJoinedRest ∷ [];
  take = takes.Nothing;
  after = [];
  call = Some (record { state = states.Delimited; number = 0; enters = false; is_deep = false; newline = None });
}

abbrev pub row_2 : Row
row_2 = record {
  condition = conditions.Direct;
  before = actions.Goto states.MathIdentRest2 ∷ [];
  take = takes.Nothing;
  after = [];
  call = Some (record { state = states.MathArgs; number = 0; enters = false; is_deep = true; newline = None });
}

abbrev pub row_3 : Row
row_3 = record {
  condition = conditions.Direct;
  before = [];
  take = takes.Eat;
  after = actions.Goto states.MathIdentRest1 ∷ [];
  call = Some (record { state = states.Field; number = 0; enters = false; is_deep = false; newline = None });
}

abbrev pub row_4 : Row
row_4 = record {
  condition = conditions.Is 0;
  before = [];
  take = takes.Eat;
  after = actions.Goto states.MathAfterRest ∷ [];
  call = Some (record { state = states.MathExpr; number = 1; enters = false; is_deep = false; newline = None });
}

abbrev pub row_5 : Row
row_5 = record {
  condition = conditions.Is 3;
  before = actions.Return ∷ [];
  take = takes.Nothing;
  after = [];
  call = None;
}

abbrev pub row_6 : Row
row_6 = record {
  condition = conditions.Always;
  before = [];
  take = takes.Eat;
  after = actions.Goto states.MathBelow ∷ [];
  call = Some (record { state = states.MathExpr; number = 2; enters = false; is_deep = false; newline = None });
}

abbrev pub row_7 : Row
row_7 = record {
  condition = conditions.Direct;
  before = [];
  take = takes.Eat;
  after = actions.Goto states.MathPrimed ∷ [];
  call = None;
}

abbrev pub row_8 : Row
row_8 = record {
  condition = conditions.Is 2;
  before = actions.Return ∷ [];
  take = takes.Nothing;
  after = [];
  call = None;
}

abbrev pub row_9 : Row
row_9 = record {
  condition = conditions.Always;
  before = [];
  take = takes.Eat;
  after = actions.Goto states.MathAbove ∷ [];
  call = Some (record { state = states.MathExpr; number = 3; enters = false; is_deep = false; newline = None });
}

abbrev pub row_10 : Row
row_10 = record {
  condition = conditions.Direct;
  before = [];
  take = takes.EatAs kinds.MathText;
  after = actions.Wrap kinds.Math ∷ actions.Goto states.MathAfter ∷ [];
  call = None;
}

abbrev pub row_11 : Row
row_11 = record {
  condition = conditions.Always;
  before = [];
  take = takes.EatAs kinds.MathIdent;
  after = actions.Return ∷ [];
  call = None;
}

abbrev pub row_12 : Row
row_12 = record {
  condition = conditions.Always;
  before = [];
  take = takes.EatAs kinds.MathText;
  after = actions.Goto states.MathParen ∷ [];
  call = Some (record { state = states.DelimitedBody; number = 0; enters = false; is_deep = true; newline = None });
}

abbrev pub row_13 : Row
row_13 = record {
  condition = conditions.Only kinds.Math;
  before = actions.Goto states.MathAfter ∷ [];
  take = takes.Nothing;
  after = [];
  call = None;
}

abbrev pub row_14 : Row
row_14 = record {
  condition = conditions.Only kinds.MathDelimited;
  before = actions.Goto states.MathAfter ∷ [];
  take = takes.Nothing;
  after = [];
  call = None;
}

abbrev pub row_15 : Row
row_15 = record {
  condition = conditions.Is 0;
  before = actions.Wrap kinds.MathDelimited ∷ actions.Return ∷ [];
  take = takes.Nothing;
  after = [];
  call = None;
}

abbrev pub row_16 : Row
row_16 = record {
  condition = conditions.Always;
  before = actions.Delimit kinds.LeftParen kinds.RightParen ∷ actions.Wrap kinds.Math ∷ actions.Return ∷ [];
  take = takes.Nothing;
  after = [];
  call = None;
}

abbrev pub row_17 : Row
row_17 = record {
  condition = conditions.Is 0;
  before = actions.Delimit kinds.LeftParen kinds.RightParen ∷ actions.Wrap kinds.Math ∷ [];
  take = takes.Eat;
  after = actions.Goto states.MathParenRest ∷ [];
  call = Some (record { state = states.MathExpr; number = 1; enters = false; is_deep = false; newline = None });
}

abbrev pub row_18 : Row
row_18 = record {
  condition = conditions.Is 3;
  before = actions.Delimit kinds.LeftParen kinds.RightParen ∷ actions.Wrap kinds.Math ∷ actions.Return ∷ [];
  take = takes.Nothing;
  after = [];
  call = None;
}

abbrev pub row_19 : Row
row_19 = record {
  condition = conditions.Always;
  before = actions.Wrap kinds.MathDelimited ∷ actions.Goto states.MathAfter ∷ [];
  take = takes.Nothing;
  after = [];
  call = None;
}

abbrev pub row_20 : Row
row_20 = record {
  condition = conditions.Direct;
  before = actions.Wrap kinds.MathDelimited ∷ actions.Goto states.MathAfter ∷ [];
  take = takes.Nothing;
  after = [];
  call = None;
}

abbrev pub row_21 : Row
row_21 = record {
  condition = conditions.Is 2;
  before = actions.Delimit kinds.LeftParen kinds.RightParen ∷ actions.Wrap kinds.Math ∷ actions.Return ∷ [];
  take = takes.Nothing;
  after = [];
  call = None;
}

abbrev pub row_22 : Row
row_22 = record {
  condition = conditions.Always;
  before = actions.Wrap kinds.MathAttach ∷ actions.Goto states.MathAfter ∷ [];
  take = takes.Nothing;
  after = [];
  call = None;
}

abbrev pub row_23 : Row
row_23 = record {
  condition = conditions.Is 3;
  before = actions.Wrap kinds.MathAttach ∷ actions.Return ∷ [];
  take = takes.Nothing;
  after = [];
  call = None;
}

abbrev pub row_24 : Row
row_24 = record {
  condition = conditions.Is 2;
  before = actions.Wrap kinds.MathAttach ∷ actions.Return ∷ [];
  take = takes.Nothing;
  after = [];
  call = None;
}

abbrev pub row_25 : Row
row_25 = record {
  condition = conditions.Always;
  before = actions.Wrap kinds.MathAttach ∷ actions.Return ∷ [];
  take = takes.Nothing;
  after = [];
  call = None;
}

abbrev pub row_26 : Row
row_26 = record {
  condition = conditions.Always;
  before = [];
  take = takes.Eat;
  after = actions.Goto states.MathBelowRest ∷ [];
  call = Some (record { state = states.MathExpr; number = 1; enters = false; is_deep = false; newline = None });
}

abbrev pub row_27 : Row
row_27 = record {
  condition = conditions.Always;
  before = [];
  take = takes.Eat;
  after = actions.Goto states.MathAboveRest ∷ [];
  call = Some (record { state = states.MathExpr; number = 1; enters = false; is_deep = false; newline = None });
}

abbrev pub row_28 : Row
row_28 = record {
  condition = conditions.Always;
  before = actions.Wrap kinds.MathFieldAccess ∷ actions.Goto states.MathIdent ∷ [];
  take = takes.Nothing;
  after = [];
  call = None;
}

abbrev pub row_29 : Row
row_29 = record {
  condition = conditions.Always;
  before = actions.Wrap kinds.MathCall ∷ actions.Goto states.MathAfter ∷ [];
  take = takes.Nothing;
  after = [];
  call = None;
}

abbrev pub row_30 : Row
row_30 = record {
  condition = conditions.Always;
  before = actions.Wrap kinds.Math ∷ actions.Goto states.MathAfter ∷ [];
  take = takes.Nothing;
  after = [];
  call = None;
}

abbrev pub row_31 : Row
row_31 = record {
  condition = conditions.Always;
  before = actions.Wrap kinds.MathFrac ∷ actions.Goto states.MathAfter ∷ [];
  take = takes.Nothing;
  after = [];
  call = None;
}

-- what may follow a name in math directly
abbrev pub math_ident : Class → List Row
math_ident classes.LeftBrace = row_1 ∷ row_0 ∷ []
math_ident classes.LeftParen = row_2 ∷ row_1 ∷ row_0 ∷ []
math_ident classes.Field = row_3 ∷ row_0 ∷ []
math_ident classes.Slash = row_4 ∷ row_0 ∷ []
math_ident classes.Underscore = row_5 ∷ row_6 ∷ []
math_ident classes.MathPrimes = row_7 ∷ row_0 ∷ []
math_ident classes.Opening = row_1 ∷ row_0 ∷ []
math_ident classes.Hat = row_8 ∷ row_9 ∷ []
math_ident classes.Bang = row_10 ∷ row_0 ∷ []
math_ident _ = row_0 ∷ []

-- the name of a field in math
abbrev pub field : Class → List Row
field classes.MathIdent = row_11 ∷ []
field classes.MathLetter = row_11 ∷ []
field _ = []

-- a delimiter directly behind a name, a letter or a string
abbrev pub math_joined : Class → List Row
math_joined classes.LeftBrace = row_1 ∷ row_0 ∷ []
math_joined classes.LeftParen = row_1 ∷ row_0 ∷ []
math_joined classes.Slash = row_4 ∷ row_0 ∷ []
math_joined classes.Underscore = row_5 ∷ row_6 ∷ []
math_joined classes.MathPrimes = row_7 ∷ row_0 ∷ []
math_joined classes.Opening = row_1 ∷ row_0 ∷ []
math_joined classes.Hat = row_8 ∷ row_9 ∷ []
math_joined classes.Bang = row_10 ∷ row_0 ∷ []
math_joined _ = row_0 ∷ []

-- parentheses of an operand
abbrev pub math_group : Class → List Row
math_group classes.LeftParen = row_12 ∷ []
math_group _ = []

-- whether parentheses stay
abbrev pub math_paren : Class → List Row
math_paren classes.Slash = row_13 ∷ row_14 ∷ row_17 ∷ row_15 ∷ row_16 ∷ []
math_paren classes.Underscore = row_13 ∷ row_14 ∷ row_18 ∷ row_19 ∷ []
math_paren classes.MathPrimes = row_13 ∷ row_14 ∷ row_20 ∷ row_15 ∷ row_16 ∷ []
math_paren classes.Hat = row_13 ∷ row_14 ∷ row_21 ∷ row_19 ∷ []
math_paren classes.Bang = row_13 ∷ row_14 ∷ row_20 ∷ row_15 ∷ row_16 ∷ []
math_paren _ = row_13 ∷ row_14 ∷ row_15 ∷ row_16 ∷ []

-- what may follow an expression in math
abbrev pub math_after : Class → List Row
math_after classes.Slash = row_4 ∷ row_0 ∷ []
math_after classes.Underscore = row_5 ∷ row_6 ∷ []
math_after classes.MathPrimes = row_7 ∷ row_0 ∷ []
math_after classes.Hat = row_8 ∷ row_9 ∷ []
math_after classes.Bang = row_10 ∷ row_0 ∷ []
math_after _ = row_0 ∷ []

-- what may follow primes
abbrev pub math_primed : Class → List Row
math_primed classes.Underscore = row_23 ∷ row_6 ∷ []
math_primed classes.Hat = row_24 ∷ row_9 ∷ []
math_primed _ = row_22 ∷ []

-- whether a script above follows the one below
abbrev pub math_below : Class → List Row
math_below classes.Slash = row_22 ∷ []
math_below classes.Underscore = row_22 ∷ []
math_below classes.MathPrimes = row_22 ∷ []
math_below classes.Hat = row_26 ∷ []
math_below classes.Bang = row_22 ∷ []
math_below _ = row_25 ∷ []

-- whether a script below follows the one above
abbrev pub math_above : Class → List Row
math_above classes.Slash = row_22 ∷ []
math_above classes.Underscore = row_27 ∷ []
math_above classes.MathPrimes = row_22 ∷ []
math_above classes.Hat = row_22 ∷ []
math_above classes.Bang = row_22 ∷ []
math_above _ = row_25 ∷ []

-- the rest of a row of `math.ident`, once the frame that it opened has returned
abbrev pub math_ident_rest1 : Class → List Row
math_ident_rest1 _ = row_28 ∷ []

-- the rest of a row of `math.ident`, once the frame that it opened has returned
abbrev pub math_ident_rest2 : Class → List Row
math_ident_rest2 _ = row_29 ∷ []

-- the rest of a row of `math.joined`, once the frame that it opened has returned
abbrev pub math_joined_rest : Class → List Row
math_joined_rest _ = row_30 ∷ []

-- the rest of a row of `math.paren`, once the frame that it opened has returned
abbrev pub math_paren_rest : Class → List Row
math_paren_rest _ = row_31 ∷ []

-- the rest of a row of `math.after`, once the frame that it opened has returned
abbrev pub math_after_rest : Class → List Row
math_after_rest _ = row_31 ∷ []

-- the rest of a row of `math.below`, once the frame that it opened has returned
abbrev pub math_below_rest : Class → List Row
math_below_rest _ = row_22 ∷ []

-- the rest of a row of `math.above`, once the frame that it opened has returned
abbrev pub math_above_rest : Class → List Row
math_above_rest _ = row_22 ∷ []
