-- Written by bench/grammar_crate.py from crates/grammar.table: change that and run it.
-- The rows of statements and control flow.
use Rattle.std.specs.Prelude.{List, [], ◌∷◌, true, false, Some, None}
use Rattle.typst_base.specs.declared.kind.SyntaxKind.TheVariants as kinds
use Rattle.typst_grammar.specs.declared.expectation.Expectation.TheVariants as expectations
use Rattle.typst_grammar.specs.declared.row.Action.TheVariants as actions
use Rattle.typst_grammar.specs.declared.row.Condition.TheVariants as conditions
use Rattle.typst_grammar.specs.declared.row.Newline.TheVariants as newlines
use Rattle.typst_grammar.specs.declared.row.Take.TheVariants as takes
use Rattle.typst_grammar.specs.declared.row.Unique.TheVariants as uniques
use Rattle.typst_grammar.specs.declared.rows.Class.TheVariants as classes
use Rattle.typst_grammar.specs.declared.rows.State.TheVariants as states
use Rattle.typst_grammar.specs.declared.rows.Class.{Class}
use Rattle.typst_grammar.specs.Row.{Row}

abbrev pub row_0 : Row
row_0 = record {
  condition = conditions.Always;
  before = actions.Goto states.BindingRest ∷ [];
  take = takes.Nothing;
  after = [];
  call = Some (record { state = states.Pattern; number = 0; enters = false; is_deep = false; newline = None });
}

abbrev pub row_1 : Row
row_1 = record {
  condition = conditions.Always;
  before = [];
  take = takes.Eat;
  after = actions.Goto states.BindingName ∷ [];
  call = None;
}

abbrev pub row_2 : Row
row_2 = record {
  condition = conditions.Always;
  before = actions.Wrap kinds.LetBinding ∷ actions.Goto states.ExprAfter ∷ [];
  take = takes.Nothing;
  after = [];
  call = None;
}

abbrev pub row_3 : Row
row_3 = record {
  condition = conditions.Direct;
  before = actions.Around states.BindingEnd 0 ∷ actions.Goto states.BindingClosure ∷ [];
  take = takes.Nothing;
  after = [];
  call = Some (record { state = states.Params; number = 0; enters = false; is_deep = true; newline = Some newlines.Go });
}

abbrev pub row_4 : Row
row_4 = record {
  condition = conditions.Always;
  before = [];
  take = takes.Eat;
  after = actions.Goto states.BindingNameRest ∷ [];
  call = Some (record { state = states.Expr; number = 1; enters = false; is_deep = false; newline = None });
}

abbrev pub row_5 : Row
row_5 = record {
  condition = conditions.Always;
  before = actions.Expected expectations.EqualsSign ∷ actions.Wrap kinds.Closure ∷ actions.Return ∷ [];
  take = takes.Nothing;
  after = [];
  call = None;
}

abbrev pub row_6 : Row
row_6 = record {
  condition = conditions.Always;
  before = [];
  take = takes.Eat;
  after = actions.Goto states.BindingClosureRest ∷ [];
  call = Some (record { state = states.Expr; number = 1; enters = false; is_deep = false; newline = None });
}

abbrev pub row_7 : Row
row_7 = record {
  condition = conditions.Always;
  before = actions.Expected expectations.EqualsSign ∷ actions.Wrap kinds.LetBinding ∷ actions.Goto states.ExprAfter ∷ [];
  take = takes.Nothing;
  after = [];
  call = None;
}

abbrev pub row_8 : Row
row_8 = record {
  condition = conditions.Always;
  before = [];
  take = takes.Eat;
  after = actions.Goto states.BindingValueRest ∷ [];
  call = Some (record { state = states.Expr; number = 1; enters = false; is_deep = false; newline = None });
}

abbrev pub row_9 : Row
row_9 = record {
  condition = conditions.Always;
  before = actions.Goto states.TargetField ∷ [];
  take = takes.Nothing;
  after = [];
  call = Some (record { state = states.Name; number = 0; enters = false; is_deep = false; newline = None });
}

abbrev pub row_10 : Row
row_10 = record {
  condition = conditions.Always;
  before = actions.Return ∷ [];
  take = takes.Nothing;
  after = [];
  call = None;
}

abbrev pub row_11 : Row
row_11 = record {
  condition = conditions.Always;
  before = [];
  take = takes.Eat;
  after = actions.Goto states.TargetFieldRest ∷ [];
  call = Some (record { state = states.Name; number = 0; enters = false; is_deep = false; newline = None });
}

abbrev pub row_12 : Row
row_12 = record {
  condition = conditions.Always;
  before = actions.Expected expectations.ArgumentList ∷ actions.Goto states.SetCondition ∷ [];
  take = takes.Nothing;
  after = [];
  call = Some (record { state = states.Args; number = 0; enters = false; is_deep = false; newline = None });
}

abbrev pub row_13 : Row
row_13 = record {
  condition = conditions.Direct;
  before = actions.Goto states.SetCondition ∷ [];
  take = takes.Nothing;
  after = [];
  call = Some (record { state = states.Args; number = 0; enters = false; is_deep = false; newline = None });
}

abbrev pub row_14 : Row
row_14 = record {
  condition = conditions.Always;
  before = actions.Wrap kinds.SetRule ∷ actions.Goto states.ExprAfter ∷ [];
  take = takes.Nothing;
  after = [];
  call = None;
}

abbrev pub row_15 : Row
row_15 = record {
  condition = conditions.Always;
  before = [];
  take = takes.Eat;
  after = actions.Goto states.SetConditionRest ∷ [];
  call = Some (record { state = states.Expr; number = 1; enters = false; is_deep = false; newline = None });
}

abbrev pub row_16 : Row
row_16 = record {
  condition = conditions.Always;
  before = actions.Goto states.ShowColon ∷ [];
  take = takes.Nothing;
  after = [];
  call = Some (record { state = states.Expr; number = 1; enters = false; is_deep = false; newline = None });
}

abbrev pub row_17 : Row
row_17 = record {
  condition = conditions.Always;
  before = actions.Goto states.ShowColon ∷ [];
  take = takes.Nothing;
  after = [];
  call = None;
}

abbrev pub row_18 : Row
row_18 = record {
  condition = conditions.Always;
  before = actions.Expected expectations.Colon ∷ actions.Wrap kinds.ShowRule ∷ actions.Goto states.ExprAfter ∷ [];
  take = takes.Nothing;
  after = [];
  call = None;
}

abbrev pub row_19 : Row
row_19 = record {
  condition = conditions.Always;
  before = [];
  take = takes.Eat;
  after = actions.Goto states.ShowColonRest ∷ [];
  call = Some (record { state = states.Expr; number = 1; enters = false; is_deep = false; newline = None });
}

abbrev pub row_20 : Row
row_20 = record {
  condition = conditions.Always;
  before = actions.Wrap kinds.FuncReturn ∷ actions.Goto states.ExprAfter ∷ [];
  take = takes.Nothing;
  after = [];
  call = None;
}

abbrev pub row_21 : Row
row_21 = record {
  condition = conditions.Always;
  before = actions.Goto states.ReturnValueRest ∷ [];
  take = takes.Nothing;
  after = [];
  call = Some (record { state = states.Expr; number = 1; enters = false; is_deep = false; newline = None });
}

abbrev pub row_22 : Row
row_22 = record {
  condition = conditions.Always;
  before = actions.Unique uniques.Binding ∷ actions.Goto states.BindingValue ∷ [];
  take = takes.Nothing;
  after = [];
  call = None;
}

abbrev pub row_23 : Row
row_23 = record {
  condition = conditions.Always;
  before = actions.Wrap kinds.Closure ∷ actions.Return ∷ [];
  take = takes.Nothing;
  after = [];
  call = None;
}

abbrev pub row_24 : Row
row_24 = record {
  condition = conditions.Always;
  before = actions.Wrap kinds.FieldAccess ∷ actions.Goto states.TargetField ∷ [];
  take = takes.Nothing;
  after = [];
  call = None;
}

abbrev pub row_25 : Row
row_25 = record {
  condition = conditions.Always;
  before = actions.Wrap kinds.ShowRule ∷ actions.Goto states.ExprAfter ∷ [];
  take = takes.Nothing;
  after = [];
  call = None;
}

-- what `let` binds
abbrev pub binding : Class → List Row
binding classes.Ident = row_1 ∷ []
binding _ = row_0 ∷ []

-- what may follow a name that is bound
abbrev pub binding_name : Class → List Row
binding_name classes.LeftParen = row_3 ∷ row_2 ∷ []
binding_name classes.Eq = row_4 ∷ []
binding_name _ = row_2 ∷ []

-- the body of a function that has a name
abbrev pub binding_closure : Class → List Row
binding_closure classes.Eq = row_6 ∷ []
binding_closure _ = row_5 ∷ []

-- the end of a function that has a name
abbrev pub binding_end : Class → List Row
binding_end _ = row_2 ∷ []

-- the value of a pattern
abbrev pub binding_value : Class → List Row
binding_value classes.Eq = row_8 ∷ []
binding_value _ = row_7 ∷ []

-- the function of a set rule
abbrev pub target : Class → List Row
target _ = row_9 ∷ []

-- the fields of such a function
abbrev pub target_field : Class → List Row
target_field classes.Dot = row_11 ∷ []
target_field classes.Field = row_11 ∷ []
target_field _ = row_10 ∷ []

-- the arguments of a set rule
abbrev pub set_arguments : Class → List Row
set_arguments classes.LeftBracket = row_13 ∷ row_12 ∷ []
set_arguments classes.LeftParen = row_13 ∷ row_12 ∷ []
set_arguments _ = row_12 ∷ []

-- the condition of a set rule
abbrev pub set_condition : Class → List Row
set_condition classes.If = row_15 ∷ []
set_condition _ = row_14 ∷ []

-- the selector of a show rule
abbrev pub show_selector : Class → List Row
show_selector classes.Colon = row_17 ∷ []
show_selector _ = row_16 ∷ []

-- the colon of a show rule
abbrev pub show_colon : Class → List Row
show_colon classes.Colon = row_19 ∷ []
show_colon _ = row_18 ∷ []

-- the value that `return` may have
abbrev pub return_value : Class → List Row
return_value classes.Label = row_21 ∷ []
return_value classes.Raw = row_21 ∷ []
return_value classes.Dollar = row_21 ∷ []
return_value classes.LeftBrace = row_21 ∷ []
return_value classes.LeftBracket = row_21 ∷ []
return_value classes.LeftParen = row_21 ∷ []
return_value classes.Underscore = row_21 ∷ []
return_value classes.Sign = row_21 ∷ []
return_value classes.Ident = row_21 ∷ []
return_value classes.Str = row_21 ∷ []
return_value classes.Literal = row_21 ∷ []
return_value classes.Constant = row_21 ∷ []
return_value classes.Not = row_21 ∷ []
return_value classes.Let = row_21 ∷ []
return_value classes.Set = row_21 ∷ []
return_value classes.Show = row_21 ∷ []
return_value classes.Context = row_21 ∷ []
return_value classes.If = row_21 ∷ []
return_value classes.For = row_21 ∷ []
return_value classes.While = row_21 ∷ []
return_value classes.Break = row_21 ∷ []
return_value classes.Continue = row_21 ∷ []
return_value classes.Return = row_21 ∷ []
return_value classes.Import = row_21 ∷ []
return_value classes.Include = row_21 ∷ []
return_value _ = row_20 ∷ []

-- the rest of a row of `binding`, once the frame that it opened has returned
abbrev pub binding_rest : Class → List Row
binding_rest _ = row_22 ∷ []

-- the rest of a row of `binding.name`, once the frame that it opened has returned
abbrev pub binding_name_rest : Class → List Row
binding_name_rest _ = row_2 ∷ []

-- the rest of a row of `binding.closure`, once the frame that it opened has returned
abbrev pub binding_closure_rest : Class → List Row
binding_closure_rest _ = row_23 ∷ []

-- the rest of a row of `binding.value`, once the frame that it opened has returned
abbrev pub binding_value_rest : Class → List Row
binding_value_rest _ = row_2 ∷ []

-- the rest of a row of `target.field`, once the frame that it opened has returned
abbrev pub target_field_rest : Class → List Row
target_field_rest _ = row_24 ∷ []

-- the rest of a row of `set.condition`, once the frame that it opened has returned
abbrev pub set_condition_rest : Class → List Row
set_condition_rest _ = row_14 ∷ []

-- the rest of a row of `show.colon`, once the frame that it opened has returned
abbrev pub show_colon_rest : Class → List Row
show_colon_rest _ = row_25 ∷ []

-- the rest of a row of `return.value`, once the frame that it opened has returned
abbrev pub return_value_rest : Class → List Row
return_value_rest _ = row_20 ∷ []
