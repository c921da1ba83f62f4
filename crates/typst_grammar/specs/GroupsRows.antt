-- Written by bench/grammar_crate.py from crates/grammar.table: change that and run it.
-- The rows of parentheses and arguments.
use Rattle.std.specs.Prelude.{List, [], ◌∷◌, false, Some, None}
use Rattle.typst_base.specs.declared.kind.SyntaxKind.TheVariants as kinds
use Rattle.typst_grammar.specs.declared.expectation.Expectation.TheVariants as expectations
use Rattle.typst_grammar.specs.declared.row.Action.TheVariants as actions
use Rattle.typst_grammar.specs.declared.row.Condition.TheVariants as conditions
use Rattle.typst_grammar.specs.declared.row.Take.TheVariants as takes
use Rattle.typst_grammar.specs.declared.rows.Class.TheVariants as classes
use Rattle.typst_grammar.specs.declared.rows.State.TheVariants as states
use Rattle.typst_grammar.specs.declared.rows.Class.{Class}
use Rattle.typst_grammar.specs.Row.{Row}

abbrev pub row_0 : Row
row_0 = record {
  condition = conditions.Always;
  before = [];
  take = takes.Eat;
  after = actions.Goto states.GroupFirst ∷ [];
  call = None;
}

abbrev pub row_1 : Row
row_1 = record {
  condition = conditions.Always;
  before = actions.Goto states.ArrayClose ∷ [];
  take = takes.Nothing;
  after = [];
  call = None;
}

abbrev pub row_2 : Row
row_2 = record {
  condition = conditions.Always;
  before = [];
  take = takes.Unexpected;
  after = [];
  call = None;
}

abbrev pub row_3 : Row
row_3 = record {
  condition = conditions.Always;
  before = actions.Goto states.GroupOne ∷ [];
  take = takes.Nothing;
  after = [];
  call = Some (record { state = states.Pair; number = 0; enters = false; is_deep = false; newline = None });
}

abbrev pub row_4 : Row
row_4 = record {
  condition = conditions.Always;
  before = [];
  take = takes.Eat;
  after = actions.Goto states.Dict ∷ [];
  call = None;
}

abbrev pub row_5 : Row
row_5 = record {
  condition = conditions.Always;
  before = actions.Goto states.LooseComma ∷ [];
  take = takes.Nothing;
  after = [];
  call = Some (record { state = states.Spread; number = 0; enters = false; is_deep = false; newline = None });
}

abbrev pub row_6 : Row
row_6 = record {
  condition = conditions.Last kinds.Named;
  before = actions.Goto states.DictComma ∷ [];
  take = takes.Nothing;
  after = [];
  call = None;
}

abbrev pub row_7 : Row
row_7 = record {
  condition = conditions.Last kinds.Keyed;
  before = actions.Goto states.DictComma ∷ [];
  take = takes.Nothing;
  after = [];
  call = None;
}

abbrev pub row_8 : Row
row_8 = record {
  condition = conditions.Always;
  before = actions.Goto states.GroupClose ∷ [];
  take = takes.Nothing;
  after = [];
  call = None;
}

abbrev pub row_9 : Row
row_9 = record {
  condition = conditions.Always;
  before = actions.Expected expectations.Comma ∷ actions.Goto states.GroupMore ∷ [];
  take = takes.Nothing;
  after = [];
  call = None;
}

abbrev pub row_10 : Row
row_10 = record {
  condition = conditions.Always;
  before = [];
  take = takes.Eat;
  after = actions.Goto states.Array ∷ [];
  call = None;
}

abbrev pub row_11 : Row
row_11 = record {
  condition = conditions.Always;
  before = actions.Goto states.Array ∷ [];
  take = takes.Nothing;
  after = [];
  call = None;
}

abbrev pub row_12 : Row
row_12 = record {
  condition = conditions.Always;
  before = actions.Unclosed ∷ actions.Wrap kinds.Parenthesized ∷ actions.Return ∷ [];
  take = takes.Nothing;
  after = [];
  call = None;
}

abbrev pub row_13 : Row
row_13 = record {
  condition = conditions.Always;
  before = [];
  take = takes.Eat;
  after = actions.Wrap kinds.Parenthesized ∷ actions.Return ∷ [];
  call = None;
}

abbrev pub row_14 : Row
row_14 = record {
  condition = conditions.Always;
  before = actions.Goto states.LooseItem ∷ [];
  take = takes.Nothing;
  after = [];
  call = Some (record { state = states.Pair; number = 0; enters = false; is_deep = false; newline = None });
}

abbrev pub row_15 : Row
row_15 = record {
  condition = conditions.Always;
  before = actions.Goto states.ArrayComma ∷ [];
  take = takes.Nothing;
  after = [];
  call = None;
}

abbrev pub row_16 : Row
row_16 = record {
  condition = conditions.Always;
  before = actions.Expected expectations.Comma ∷ actions.Goto states.Loose ∷ [];
  take = takes.Nothing;
  after = [];
  call = None;
}

abbrev pub row_17 : Row
row_17 = record {
  condition = conditions.Always;
  before = [];
  take = takes.Eat;
  after = actions.Goto states.Loose ∷ [];
  call = None;
}

-- a parenthesis, an array or a dictionary
abbrev pub group : Class → List Row
group classes.LeftParen = row_0 ∷ []
group _ = []

-- the first item, or the colon of a dictionary
abbrev pub group_first : Class → List Row
group_first classes.End = row_1 ∷ []
group_first classes.Label = row_3 ∷ []
group_first classes.Raw = row_3 ∷ []
group_first classes.Dollar = row_3 ∷ []
group_first classes.LeftBrace = row_3 ∷ []
group_first classes.RightBrace = row_1 ∷ []
group_first classes.LeftBracket = row_3 ∷ []
group_first classes.RightBracket = row_1 ∷ []
group_first classes.LeftParen = row_3 ∷ []
group_first classes.RightParen = row_1 ∷ []
group_first classes.Semicolon = row_1 ∷ []
group_first classes.Colon = row_4 ∷ []
group_first classes.Dots = row_5 ∷ []
group_first classes.Underscore = row_3 ∷ []
group_first classes.Sign = row_3 ∷ []
group_first classes.Ident = row_3 ∷ []
group_first classes.Str = row_3 ∷ []
group_first classes.Literal = row_3 ∷ []
group_first classes.Constant = row_3 ∷ []
group_first classes.Not = row_3 ∷ []
group_first classes.Let = row_3 ∷ []
group_first classes.Set = row_3 ∷ []
group_first classes.Show = row_3 ∷ []
group_first classes.Context = row_3 ∷ []
group_first classes.If = row_3 ∷ []
group_first classes.For = row_3 ∷ []
group_first classes.While = row_3 ∷ []
group_first classes.Break = row_3 ∷ []
group_first classes.Continue = row_3 ∷ []
group_first classes.Return = row_3 ∷ []
group_first classes.Import = row_3 ∷ []
group_first classes.Include = row_3 ∷ []
group_first _ = row_2 ∷ []

-- what may follow the first item
abbrev pub group_one : Class → List Row
group_one classes.End = row_6 ∷ row_7 ∷ row_8 ∷ []
group_one classes.RightBrace = row_6 ∷ row_7 ∷ row_8 ∷ []
group_one classes.RightBracket = row_6 ∷ row_7 ∷ row_8 ∷ []
group_one classes.RightParen = row_6 ∷ row_7 ∷ row_8 ∷ []
group_one classes.Comma = row_6 ∷ row_7 ∷ row_10 ∷ []
group_one classes.Semicolon = row_6 ∷ row_7 ∷ row_8 ∷ []
group_one _ = row_6 ∷ row_7 ∷ row_9 ∷ []

-- what may follow the first item if no comma does
abbrev pub group_more : Class → List Row
group_more classes.End = row_8 ∷ []
group_more classes.Label = row_11 ∷ []
group_more classes.Raw = row_11 ∷ []
group_more classes.Dollar = row_11 ∷ []
group_more classes.LeftBrace = row_11 ∷ []
group_more classes.RightBrace = row_8 ∷ []
group_more classes.LeftBracket = row_11 ∷ []
group_more classes.RightBracket = row_8 ∷ []
group_more classes.LeftParen = row_11 ∷ []
group_more classes.RightParen = row_8 ∷ []
group_more classes.Semicolon = row_8 ∷ []
group_more classes.Dots = row_11 ∷ []
group_more classes.Underscore = row_11 ∷ []
group_more classes.Sign = row_11 ∷ []
group_more classes.Ident = row_11 ∷ []
group_more classes.Str = row_11 ∷ []
group_more classes.Literal = row_11 ∷ []
group_more classes.Constant = row_11 ∷ []
group_more classes.Not = row_11 ∷ []
group_more classes.Let = row_11 ∷ []
group_more classes.Set = row_11 ∷ []
group_more classes.Show = row_11 ∷ []
group_more classes.Context = row_11 ∷ []
group_more classes.If = row_11 ∷ []
group_more classes.For = row_11 ∷ []
group_more classes.While = row_11 ∷ []
group_more classes.Break = row_11 ∷ []
group_more classes.Continue = row_11 ∷ []
group_more classes.Return = row_11 ∷ []
group_more classes.Import = row_11 ∷ []
group_more classes.Include = row_11 ∷ []
group_more _ = row_2 ∷ []

-- the end of a parenthesis
abbrev pub group_close : Class → List Row
group_close classes.RightParen = row_13 ∷ []
group_close _ = row_12 ∷ []

-- an item behind items that are spread
abbrev pub loose : Class → List Row
loose classes.End = row_1 ∷ []
loose classes.Label = row_14 ∷ []
loose classes.Raw = row_14 ∷ []
loose classes.Dollar = row_14 ∷ []
loose classes.LeftBrace = row_14 ∷ []
loose classes.RightBrace = row_1 ∷ []
loose classes.LeftBracket = row_14 ∷ []
loose classes.RightBracket = row_1 ∷ []
loose classes.LeftParen = row_14 ∷ []
loose classes.RightParen = row_1 ∷ []
loose classes.Semicolon = row_1 ∷ []
loose classes.Dots = row_5 ∷ []
loose classes.Underscore = row_14 ∷ []
loose classes.Sign = row_14 ∷ []
loose classes.Ident = row_14 ∷ []
loose classes.Str = row_14 ∷ []
loose classes.Literal = row_14 ∷ []
loose classes.Constant = row_14 ∷ []
loose classes.Not = row_14 ∷ []
loose classes.Let = row_14 ∷ []
loose classes.Set = row_14 ∷ []
loose classes.Show = row_14 ∷ []
loose classes.Context = row_14 ∷ []
loose classes.If = row_14 ∷ []
loose classes.For = row_14 ∷ []
loose classes.While = row_14 ∷ []
loose classes.Break = row_14 ∷ []
loose classes.Continue = row_14 ∷ []
loose classes.Return = row_14 ∷ []
loose classes.Import = row_14 ∷ []
loose classes.Include = row_14 ∷ []
loose _ = row_2 ∷ []

-- what the first item that isn't spread makes of the list
abbrev pub loose_item : Class → List Row
loose_item _ = row_6 ∷ row_7 ∷ row_15 ∷ []

-- the comma behind an item that is spread
abbrev pub loose_comma : Class → List Row
loose_comma classes.End = row_1 ∷ []
loose_comma classes.RightBrace = row_1 ∷ []
loose_comma classes.RightBracket = row_1 ∷ []
loose_comma classes.RightParen = row_1 ∷ []
loose_comma classes.Comma = row_17 ∷ []
loose_comma classes.Semicolon = row_1 ∷ []
loose_comma _ = row_16 ∷ []
