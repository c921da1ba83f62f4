-- Written by bench/grammar_crate.py from crates/grammar.table: change that and run it.
-- The rows of patterns.
use Rattle.std.specs.Prelude.{List, [], ◌∷◌, true, false, Some, None}
use Rattle.typst_base.specs.declared.kind.SyntaxKind.TheVariants as kinds
use Rattle.typst_grammar.specs.declared.expectation.Expectation.TheVariants as expectations
use Rattle.typst_grammar.specs.declared.row.Action.TheVariants as actions
use Rattle.typst_grammar.specs.declared.row.Condition.TheVariants as conditions
use Rattle.typst_grammar.specs.declared.row.Newline.TheVariants as newlines
use Rattle.typst_grammar.specs.declared.row.Take.TheVariants as takes
use Rattle.typst_grammar.specs.declared.rows.Class.TheVariants as classes
use Rattle.typst_grammar.specs.declared.rows.State.TheVariants as states
use Rattle.typst_grammar.specs.declared.rows.Class.{Class}
use Rattle.typst_grammar.specs.Row.{Row}

abbrev pub row_0 : Row
row_0 = record {
  condition = conditions.Always;
  before = actions.Expected expectations.Pattern ∷ actions.Return ∷ [];
  take = takes.Nothing;
  after = [];
  call = None;
}

abbrev pub row_1 : Row
row_1 = record {
  condition = conditions.Always;
  before = actions.Goto states.LeafCheck ∷ [];
  take = takes.Nothing;
  after = [];
  call = Some (record { state = states.Expr; number = 9; enters = false; is_deep = false; newline = None });
}

abbrev pub row_2 : Row
row_2 = record {
  condition = conditions.Always;
  before = [];
  take = takes.Mistake expectations.Pattern;
  after = actions.Return ∷ [];
  call = None;
}

abbrev pub row_3 : Row
row_3 = record {
  condition = conditions.Only kinds.Ident;
  before = actions.Return ∷ [];
  take = takes.Nothing;
  after = [];
  call = None;
}

abbrev pub row_4 : Row
row_4 = record {
  condition = conditions.Always;
  before = actions.Wrong expectations.Pattern ∷ actions.Return ∷ [];
  take = takes.Nothing;
  after = [];
  call = None;
}

abbrev pub row_5 : Row
row_5 = record {
  condition = conditions.Always;
  before = actions.Goto states.PatternRest ∷ [];
  take = takes.Nothing;
  after = [];
  call = Some (record { state = states.Tuple; number = 0; enters = false; is_deep = true; newline = Some newlines.Go });
}

abbrev pub row_6 : Row
row_6 = record {
  condition = conditions.Always;
  before = [];
  take = takes.Eat;
  after = actions.Return ∷ [];
  call = None;
}

abbrev pub row_7 : Row
row_7 = record {
  condition = conditions.Always;
  before = [];
  take = takes.Eat;
  after = actions.Goto states.TupleFirst ∷ [];
  call = None;
}

abbrev pub row_8 : Row
row_8 = record {
  condition = conditions.Always;
  before = actions.Goto states.TupleClose ∷ [];
  take = takes.Nothing;
  after = [];
  call = None;
}

abbrev pub row_9 : Row
row_9 = record {
  condition = conditions.Always;
  before = [];
  take = takes.Unexpected;
  after = [];
  call = None;
}

abbrev pub row_10 : Row
row_10 = record {
  condition = conditions.Always;
  before = actions.Goto states.TupleOne ∷ [];
  take = takes.Nothing;
  after = [];
  call = Some (record { state = states.Element; number = 0; enters = false; is_deep = false; newline = None });
}

abbrev pub row_11 : Row
row_11 = record {
  condition = conditions.Last kinds.Named;
  before = actions.Goto states.TupleComma ∷ [];
  take = takes.Nothing;
  after = [];
  call = None;
}

abbrev pub row_12 : Row
row_12 = record {
  condition = conditions.Last kinds.Spread;
  before = actions.Goto states.TupleComma ∷ [];
  take = takes.Nothing;
  after = [];
  call = None;
}

abbrev pub row_13 : Row
row_13 = record {
  condition = conditions.Always;
  before = actions.Goto states.GroupClose ∷ [];
  take = takes.Nothing;
  after = [];
  call = None;
}

abbrev pub row_14 : Row
row_14 = record {
  condition = conditions.Always;
  before = actions.Expected expectations.Comma ∷ actions.Goto states.TupleMore ∷ [];
  take = takes.Nothing;
  after = [];
  call = None;
}

abbrev pub row_15 : Row
row_15 = record {
  condition = conditions.Always;
  before = [];
  take = takes.Eat;
  after = actions.Goto states.TupleItem ∷ [];
  call = None;
}

abbrev pub row_16 : Row
row_16 = record {
  condition = conditions.Always;
  before = actions.Goto states.TupleItem ∷ [];
  take = takes.Nothing;
  after = [];
  call = None;
}

abbrev pub row_17 : Row
row_17 = record {
  condition = conditions.Always;
  before = actions.Goto states.TupleComma ∷ [];
  take = takes.Nothing;
  after = [];
  call = Some (record { state = states.Element; number = 0; enters = false; is_deep = false; newline = None });
}

abbrev pub row_18 : Row
row_18 = record {
  condition = conditions.Always;
  before = actions.Expected expectations.Comma ∷ actions.Goto states.TupleItem ∷ [];
  take = takes.Nothing;
  after = [];
  call = None;
}

abbrev pub row_19 : Row
row_19 = record {
  condition = conditions.Always;
  before = actions.Unclosed ∷ actions.Wrap kinds.Destructuring ∷ actions.Return ∷ [];
  take = takes.Nothing;
  after = [];
  call = None;
}

abbrev pub row_20 : Row
row_20 = record {
  condition = conditions.Always;
  before = [];
  take = takes.Eat;
  after = actions.Wrap kinds.Destructuring ∷ actions.Return ∷ [];
  call = None;
}

abbrev pub row_21 : Row
row_21 = record {
  condition = conditions.Always;
  before = actions.Goto states.ElementColon ∷ [];
  take = takes.Nothing;
  after = [];
  call = Some (record { state = states.Pattern; number = 0; enters = false; is_deep = false; newline = None });
}

abbrev pub row_22 : Row
row_22 = record {
  condition = conditions.Always;
  before = [];
  take = takes.Eat;
  after = actions.Goto states.Sink ∷ [];
  call = None;
}

abbrev pub row_23 : Row
row_23 = record {
  condition = conditions.Always;
  before = actions.Return ∷ [];
  take = takes.Nothing;
  after = [];
  call = None;
}

abbrev pub row_24 : Row
row_24 = record {
  condition = conditions.Only kinds.Ident;
  before = [];
  take = takes.Eat;
  after = actions.Goto states.ElementColonRest1 ∷ [];
  call = Some (record { state = states.Pattern; number = 0; enters = false; is_deep = false; newline = None });
}

abbrev pub row_25 : Row
row_25 = record {
  condition = conditions.Always;
  before = actions.Wrong expectations.Identifier ∷ [];
  take = takes.Eat;
  after = actions.Goto states.ElementColonRest2 ∷ [];
  call = Some (record { state = states.Pattern; number = 0; enters = false; is_deep = false; newline = None });
}

abbrev pub row_26 : Row
row_26 = record {
  condition = conditions.Always;
  before = actions.Wrap kinds.Named ∷ actions.Return ∷ [];
  take = takes.Nothing;
  after = [];
  call = None;
}

-- a pattern that is a name
abbrev pub leaf : Class → List Row
leaf classes.Label = row_1 ∷ []
leaf classes.Raw = row_1 ∷ []
leaf classes.Dollar = row_1 ∷ []
leaf classes.LeftBrace = row_1 ∷ []
leaf classes.LeftBracket = row_1 ∷ []
leaf classes.LeftParen = row_1 ∷ []
leaf classes.Ident = row_1 ∷ []
leaf classes.Str = row_1 ∷ []
leaf classes.Literal = row_1 ∷ []
leaf classes.Constant = row_2 ∷ []
leaf classes.Not = row_2 ∷ []
leaf classes.And = row_2 ∷ []
leaf classes.Or = row_2 ∷ []
leaf classes.Let = row_2 ∷ []
leaf classes.Set = row_2 ∷ []
leaf classes.Show = row_2 ∷ []
leaf classes.Context = row_2 ∷ []
leaf classes.If = row_2 ∷ []
leaf classes.Else = row_2 ∷ []
leaf classes.For = row_2 ∷ []
leaf classes.In = row_2 ∷ []
leaf classes.While = row_2 ∷ []
leaf classes.Break = row_2 ∷ []
leaf classes.Continue = row_2 ∷ []
leaf classes.Return = row_2 ∷ []
leaf classes.Import = row_2 ∷ []
leaf classes.Include = row_2 ∷ []
leaf classes.As = row_2 ∷ []
leaf _ = row_0 ∷ []

-- whether a pattern is a name
abbrev pub leaf_check : Class → List Row
leaf_check _ = row_3 ∷ row_4 ∷ []

-- a pattern
abbrev pub pattern : Class → List Row
pattern classes.Label = row_1 ∷ []
pattern classes.Raw = row_1 ∷ []
pattern classes.Dollar = row_1 ∷ []
pattern classes.LeftBrace = row_1 ∷ []
pattern classes.LeftBracket = row_1 ∷ []
pattern classes.LeftParen = row_5 ∷ []
pattern classes.Underscore = row_6 ∷ []
pattern classes.Ident = row_1 ∷ []
pattern classes.Str = row_1 ∷ []
pattern classes.Literal = row_1 ∷ []
pattern classes.Constant = row_2 ∷ []
pattern classes.Not = row_2 ∷ []
pattern classes.And = row_2 ∷ []
pattern classes.Or = row_2 ∷ []
pattern classes.Let = row_2 ∷ []
pattern classes.Set = row_2 ∷ []
pattern classes.Show = row_2 ∷ []
pattern classes.Context = row_2 ∷ []
pattern classes.If = row_2 ∷ []
pattern classes.Else = row_2 ∷ []
pattern classes.For = row_2 ∷ []
pattern classes.In = row_2 ∷ []
pattern classes.While = row_2 ∷ []
pattern classes.Break = row_2 ∷ []
pattern classes.Continue = row_2 ∷ []
pattern classes.Return = row_2 ∷ []
pattern classes.Import = row_2 ∷ []
pattern classes.Include = row_2 ∷ []
pattern classes.As = row_2 ∷ []
pattern _ = row_0 ∷ []

-- a pattern in a parenthesis
abbrev pub tuple : Class → List Row
tuple classes.LeftParen = row_7 ∷ []
tuple _ = []

-- the first item of a pattern
abbrev pub tuple_first : Class → List Row
tuple_first classes.End = row_8 ∷ []
tuple_first classes.Label = row_10 ∷ []
tuple_first classes.Raw = row_10 ∷ []
tuple_first classes.Dollar = row_10 ∷ []
tuple_first classes.LeftBrace = row_10 ∷ []
tuple_first classes.RightBrace = row_8 ∷ []
tuple_first classes.LeftBracket = row_10 ∷ []
tuple_first classes.RightBracket = row_8 ∷ []
tuple_first classes.LeftParen = row_10 ∷ []
tuple_first classes.RightParen = row_8 ∷ []
tuple_first classes.Semicolon = row_8 ∷ []
tuple_first classes.Dots = row_10 ∷ []
tuple_first classes.Underscore = row_10 ∷ []
tuple_first classes.Ident = row_10 ∷ []
tuple_first classes.Str = row_10 ∷ []
tuple_first classes.Literal = row_10 ∷ []
tuple_first classes.Constant = row_10 ∷ []
tuple_first classes.Let = row_10 ∷ []
tuple_first classes.Set = row_10 ∷ []
tuple_first classes.Show = row_10 ∷ []
tuple_first classes.Context = row_10 ∷ []
tuple_first classes.If = row_10 ∷ []
tuple_first classes.For = row_10 ∷ []
tuple_first classes.While = row_10 ∷ []
tuple_first classes.Break = row_10 ∷ []
tuple_first classes.Continue = row_10 ∷ []
tuple_first classes.Return = row_10 ∷ []
tuple_first classes.Import = row_10 ∷ []
tuple_first classes.Include = row_10 ∷ []
tuple_first _ = row_9 ∷ []

-- what may follow the first item of a pattern
abbrev pub tuple_one : Class → List Row
tuple_one classes.End = row_11 ∷ row_12 ∷ row_13 ∷ []
tuple_one classes.RightBrace = row_11 ∷ row_12 ∷ row_13 ∷ []
tuple_one classes.RightBracket = row_11 ∷ row_12 ∷ row_13 ∷ []
tuple_one classes.RightParen = row_11 ∷ row_12 ∷ row_13 ∷ []
tuple_one classes.Comma = row_11 ∷ row_12 ∷ row_15 ∷ []
tuple_one classes.Semicolon = row_11 ∷ row_12 ∷ row_13 ∷ []
tuple_one _ = row_11 ∷ row_12 ∷ row_14 ∷ []

-- what may follow the first item of a pattern if no comma does
abbrev pub tuple_more : Class → List Row
tuple_more classes.End = row_13 ∷ []
tuple_more classes.Label = row_16 ∷ []
tuple_more classes.Raw = row_16 ∷ []
tuple_more classes.Dollar = row_16 ∷ []
tuple_more classes.LeftBrace = row_16 ∷ []
tuple_more classes.RightBrace = row_13 ∷ []
tuple_more classes.LeftBracket = row_16 ∷ []
tuple_more classes.RightBracket = row_13 ∷ []
tuple_more classes.LeftParen = row_16 ∷ []
tuple_more classes.RightParen = row_13 ∷ []
tuple_more classes.Semicolon = row_13 ∷ []
tuple_more classes.Dots = row_16 ∷ []
tuple_more classes.Underscore = row_16 ∷ []
tuple_more classes.Ident = row_16 ∷ []
tuple_more classes.Str = row_16 ∷ []
tuple_more classes.Literal = row_16 ∷ []
tuple_more classes.Constant = row_16 ∷ []
tuple_more classes.Let = row_16 ∷ []
tuple_more classes.Set = row_16 ∷ []
tuple_more classes.Show = row_16 ∷ []
tuple_more classes.Context = row_16 ∷ []
tuple_more classes.If = row_16 ∷ []
tuple_more classes.For = row_16 ∷ []
tuple_more classes.While = row_16 ∷ []
tuple_more classes.Break = row_16 ∷ []
tuple_more classes.Continue = row_16 ∷ []
tuple_more classes.Return = row_16 ∷ []
tuple_more classes.Import = row_16 ∷ []
tuple_more classes.Include = row_16 ∷ []
tuple_more _ = row_9 ∷ []

-- an item of a pattern, if another one comes
abbrev pub tuple_item : Class → List Row
tuple_item classes.End = row_8 ∷ []
tuple_item classes.Label = row_17 ∷ []
tuple_item classes.Raw = row_17 ∷ []
tuple_item classes.Dollar = row_17 ∷ []
tuple_item classes.LeftBrace = row_17 ∷ []
tuple_item classes.RightBrace = row_8 ∷ []
tuple_item classes.LeftBracket = row_17 ∷ []
tuple_item classes.RightBracket = row_8 ∷ []
tuple_item classes.LeftParen = row_17 ∷ []
tuple_item classes.RightParen = row_8 ∷ []
tuple_item classes.Semicolon = row_8 ∷ []
tuple_item classes.Dots = row_17 ∷ []
tuple_item classes.Underscore = row_17 ∷ []
tuple_item classes.Ident = row_17 ∷ []
tuple_item classes.Str = row_17 ∷ []
tuple_item classes.Literal = row_17 ∷ []
tuple_item classes.Constant = row_17 ∷ []
tuple_item classes.Let = row_17 ∷ []
tuple_item classes.Set = row_17 ∷ []
tuple_item classes.Show = row_17 ∷ []
tuple_item classes.Context = row_17 ∷ []
tuple_item classes.If = row_17 ∷ []
tuple_item classes.For = row_17 ∷ []
tuple_item classes.While = row_17 ∷ []
tuple_item classes.Break = row_17 ∷ []
tuple_item classes.Continue = row_17 ∷ []
tuple_item classes.Return = row_17 ∷ []
tuple_item classes.Import = row_17 ∷ []
tuple_item classes.Include = row_17 ∷ []
tuple_item _ = row_9 ∷ []

-- the comma behind an item of a pattern
abbrev pub tuple_comma : Class → List Row
tuple_comma classes.End = row_8 ∷ []
tuple_comma classes.RightBrace = row_8 ∷ []
tuple_comma classes.RightBracket = row_8 ∷ []
tuple_comma classes.RightParen = row_8 ∷ []
tuple_comma classes.Comma = row_15 ∷ []
tuple_comma classes.Semicolon = row_8 ∷ []
tuple_comma _ = row_18 ∷ []

-- the end of a pattern
abbrev pub tuple_close : Class → List Row
tuple_close classes.RightParen = row_20 ∷ []
tuple_close _ = row_19 ∷ []

-- an item of a pattern: a pattern, a key with a pattern, or a sink
abbrev pub element : Class → List Row
element classes.Label = row_21 ∷ []
element classes.Raw = row_21 ∷ []
element classes.Dollar = row_21 ∷ []
element classes.LeftBrace = row_21 ∷ []
element classes.LeftBracket = row_21 ∷ []
element classes.LeftParen = row_21 ∷ []
element classes.Dots = row_22 ∷ []
element classes.Underscore = row_21 ∷ []
element classes.Ident = row_21 ∷ []
element classes.Str = row_21 ∷ []
element classes.Literal = row_21 ∷ []
element classes.Constant = row_21 ∷ []
element classes.Let = row_21 ∷ []
element classes.Set = row_21 ∷ []
element classes.Show = row_21 ∷ []
element classes.Context = row_21 ∷ []
element classes.If = row_21 ∷ []
element classes.For = row_21 ∷ []
element classes.While = row_21 ∷ []
element classes.Break = row_21 ∷ []
element classes.Continue = row_21 ∷ []
element classes.Return = row_21 ∷ []
element classes.Import = row_21 ∷ []
element classes.Include = row_21 ∷ []
element _ = []

-- the colon behind a key of a pattern
abbrev pub element_colon : Class → List Row
element_colon classes.Colon = row_24 ∷ row_25 ∷ []
element_colon _ = row_23 ∷ []

-- the rest of a row of `pattern`, once the frame that it opened has returned
abbrev pub pattern_rest : Class → List Row
pattern_rest _ = row_23 ∷ []

-- the rest of a row of `element.colon`, once the frame that it opened has returned
abbrev pub element_colon_rest1 : Class → List Row
element_colon_rest1 _ = row_26 ∷ []

-- the rest of a row of `element.colon`, once the frame that it opened has returned
abbrev pub element_colon_rest2 : Class → List Row
element_colon_rest2 _ = row_26 ∷ []
