-- Written by bench/grammar_crate.py from crates/grammar.table: change that and run it.
-- The rows of arrays and dictionaries.
use Rattle.std.specs.Prelude.{List, [], ◌∷◌, false, Some, None}
use Rattle.typst_base.specs.declared.kind.SyntaxKind.TheVariants as kinds
use Rattle.typst_grammar.specs.declared.expectation.Expectation.TheVariants as expectations
use Rattle.typst_grammar.specs.declared.row.Action.TheVariants as actions
use Rattle.typst_grammar.specs.declared.row.Condition.TheVariants as conditions
use Rattle.typst_grammar.specs.declared.row.Take.TheVariants as takes
use Rattle.typst_grammar.specs.declared.rows.Class.TheVariants as classes
use Rattle.typst_grammar.specs.declared.rows.State.TheVariants as states
use Rattle.typst_grammar.specs.declared.rows.Class.{Class}
use Rattle.typst_grammar.specs.Row.{Row}

abbrev pub row_0 : Row
row_0 = record {
  condition = conditions.Always;
  before = actions.Goto states.ArrayClose ∷ [];
  take = takes.Nothing;
  after = [];
  call = None;
}

abbrev pub row_1 : Row
row_1 = record {
  condition = conditions.Always;
  before = [];
  take = takes.Unexpected;
  after = [];
  call = None;
}

abbrev pub row_2 : Row
row_2 = record {
  condition = conditions.Always;
  before = actions.Goto states.ArrayComma ∷ [];
  take = takes.Nothing;
  after = [];
  call = Some (record { state = states.Pair; number = 0; enters = false; is_deep = false; newline = None });
}

abbrev pub row_3 : Row
row_3 = record {
  condition = conditions.Always;
  before = actions.Goto states.ArrayComma ∷ [];
  take = takes.Nothing;
  after = [];
  call = Some (record { state = states.Spread; number = 0; enters = false; is_deep = false; newline = None });
}

abbrev pub row_4 : Row
row_4 = record {
  condition = conditions.Always;
  before = actions.Expected expectations.Comma ∷ actions.Goto states.Array ∷ [];
  take = takes.Nothing;
  after = [];
  call = None;
}

abbrev pub row_5 : Row
row_5 = record {
  condition = conditions.Always;
  before = [];
  take = takes.Eat;
  after = actions.Goto states.Array ∷ [];
  call = None;
}

abbrev pub row_6 : Row
row_6 = record {
  condition = conditions.Always;
  before = actions.Unclosed ∷ actions.Wrap kinds.Array ∷ actions.Return ∷ [];
  take = takes.Nothing;
  after = [];
  call = None;
}

abbrev pub row_7 : Row
row_7 = record {
  condition = conditions.Always;
  before = [];
  take = takes.Eat;
  after = actions.Wrap kinds.Array ∷ actions.Return ∷ [];
  call = None;
}

abbrev pub row_8 : Row
row_8 = record {
  condition = conditions.Always;
  before = actions.Goto states.DictClose ∷ [];
  take = takes.Nothing;
  after = [];
  call = None;
}

abbrev pub row_9 : Row
row_9 = record {
  condition = conditions.Always;
  before = actions.Goto states.DictComma ∷ [];
  take = takes.Nothing;
  after = [];
  call = Some (record { state = states.Pair; number = 0; enters = false; is_deep = false; newline = None });
}

abbrev pub row_10 : Row
row_10 = record {
  condition = conditions.Always;
  before = actions.Goto states.DictComma ∷ [];
  take = takes.Nothing;
  after = [];
  call = Some (record { state = states.Spread; number = 0; enters = false; is_deep = false; newline = None });
}

abbrev pub row_11 : Row
row_11 = record {
  condition = conditions.Always;
  before = actions.Expected expectations.Comma ∷ actions.Goto states.Dict ∷ [];
  take = takes.Nothing;
  after = [];
  call = None;
}

abbrev pub row_12 : Row
row_12 = record {
  condition = conditions.Always;
  before = [];
  take = takes.Eat;
  after = actions.Goto states.Dict ∷ [];
  call = None;
}

abbrev pub row_13 : Row
row_13 = record {
  condition = conditions.Always;
  before = actions.Unclosed ∷ actions.Wrap kinds.Dict ∷ actions.Return ∷ [];
  take = takes.Nothing;
  after = [];
  call = None;
}

abbrev pub row_14 : Row
row_14 = record {
  condition = conditions.Always;
  before = [];
  take = takes.Eat;
  after = actions.Wrap kinds.Dict ∷ actions.Return ∷ [];
  call = None;
}

abbrev pub row_15 : Row
row_15 = record {
  condition = conditions.Always;
  before = [];
  take = takes.Eat;
  after = actions.Goto states.SpreadValue ∷ [];
  call = None;
}

abbrev pub row_16 : Row
row_16 = record {
  condition = conditions.Always;
  before = actions.Wrap kinds.Spread ∷ actions.Return ∷ [];
  take = takes.Nothing;
  after = [];
  call = None;
}

abbrev pub row_17 : Row
row_17 = record {
  condition = conditions.Always;
  before = actions.Goto states.SpreadValueRest ∷ [];
  take = takes.Nothing;
  after = [];
  call = Some (record { state = states.Expr; number = 1; enters = false; is_deep = false; newline = None });
}

abbrev pub row_18 : Row
row_18 = record {
  condition = conditions.Always;
  before = actions.Goto states.PairColon ∷ [];
  take = takes.Nothing;
  after = [];
  call = Some (record { state = states.Expr; number = 0; enters = false; is_deep = false; newline = None });
}

abbrev pub row_19 : Row
row_19 = record {
  condition = conditions.Always;
  before = actions.Return ∷ [];
  take = takes.Nothing;
  after = [];
  call = None;
}

abbrev pub row_20 : Row
row_20 = record {
  condition = conditions.Only kinds.Ident;
  before = [];
  take = takes.Eat;
  after = actions.Goto states.PairColonRest1 ∷ [];
  call = Some (record { state = states.Expr; number = 0; enters = false; is_deep = false; newline = None });
}

abbrev pub row_21 : Row
row_21 = record {
  condition = conditions.Always;
  before = [];
  take = takes.Eat;
  after = actions.Goto states.PairColonRest2 ∷ [];
  call = Some (record { state = states.Expr; number = 0; enters = false; is_deep = false; newline = None });
}

abbrev pub row_22 : Row
row_22 = record {
  condition = conditions.Always;
  before = actions.Wrap kinds.Named ∷ actions.Return ∷ [];
  take = takes.Nothing;
  after = [];
  call = None;
}

abbrev pub row_23 : Row
row_23 = record {
  condition = conditions.Always;
  before = actions.Wrap kinds.Keyed ∷ actions.Return ∷ [];
  take = takes.Nothing;
  after = [];
  call = None;
}

-- an item of an array
abbrev pub array : Class → List Row
array classes.End = row_0 ∷ []
array classes.Label = row_2 ∷ []
array classes.Raw = row_2 ∷ []
array classes.Dollar = row_2 ∷ []
array classes.LeftBrace = row_2 ∷ []
array classes.RightBrace = row_0 ∷ []
array classes.LeftBracket = row_2 ∷ []
array classes.RightBracket = row_0 ∷ []
array classes.LeftParen = row_2 ∷ []
array classes.RightParen = row_0 ∷ []
array classes.Semicolon = row_0 ∷ []
array classes.Dots = row_3 ∷ []
array classes.Underscore = row_2 ∷ []
array classes.Sign = row_2 ∷ []
array classes.Ident = row_2 ∷ []
array classes.Str = row_2 ∷ []
array classes.Literal = row_2 ∷ []
array classes.Constant = row_2 ∷ []
array classes.Not = row_2 ∷ []
array classes.Let = row_2 ∷ []
array classes.Set = row_2 ∷ []
array classes.Show = row_2 ∷ []
array classes.Context = row_2 ∷ []
array classes.If = row_2 ∷ []
array classes.For = row_2 ∷ []
array classes.While = row_2 ∷ []
array classes.Break = row_2 ∷ []
array classes.Continue = row_2 ∷ []
array classes.Return = row_2 ∷ []
array classes.Import = row_2 ∷ []
array classes.Include = row_2 ∷ []
array _ = row_1 ∷ []

-- the comma behind an item of an array
abbrev pub array_comma : Class → List Row
array_comma classes.End = row_0 ∷ []
array_comma classes.RightBrace = row_0 ∷ []
array_comma classes.RightBracket = row_0 ∷ []
array_comma classes.RightParen = row_0 ∷ []
array_comma classes.Comma = row_5 ∷ []
array_comma classes.Semicolon = row_0 ∷ []
array_comma _ = row_4 ∷ []

-- the end of an array
abbrev pub array_close : Class → List Row
array_close classes.RightParen = row_7 ∷ []
array_close _ = row_6 ∷ []

-- a pair of a dictionary
abbrev pub dict : Class → List Row
dict classes.End = row_8 ∷ []
dict classes.Label = row_9 ∷ []
dict classes.Raw = row_9 ∷ []
dict classes.Dollar = row_9 ∷ []
dict classes.LeftBrace = row_9 ∷ []
dict classes.RightBrace = row_8 ∷ []
dict classes.LeftBracket = row_9 ∷ []
dict classes.RightBracket = row_8 ∷ []
dict classes.LeftParen = row_9 ∷ []
dict classes.RightParen = row_8 ∷ []
dict classes.Semicolon = row_8 ∷ []
dict classes.Dots = row_10 ∷ []
dict classes.Underscore = row_9 ∷ []
dict classes.Sign = row_9 ∷ []
dict classes.Ident = row_9 ∷ []
dict classes.Str = row_9 ∷ []
dict classes.Literal = row_9 ∷ []
dict classes.Constant = row_9 ∷ []
dict classes.Not = row_9 ∷ []
dict classes.Let = row_9 ∷ []
dict classes.Set = row_9 ∷ []
dict classes.Show = row_9 ∷ []
dict classes.Context = row_9 ∷ []
dict classes.If = row_9 ∷ []
dict classes.For = row_9 ∷ []
dict classes.While = row_9 ∷ []
dict classes.Break = row_9 ∷ []
dict classes.Continue = row_9 ∷ []
dict classes.Return = row_9 ∷ []
dict classes.Import = row_9 ∷ []
dict classes.Include = row_9 ∷ []
dict _ = row_1 ∷ []

-- the comma behind a pair
abbrev pub dict_comma : Class → List Row
dict_comma classes.End = row_8 ∷ []
dict_comma classes.RightBrace = row_8 ∷ []
dict_comma classes.RightBracket = row_8 ∷ []
dict_comma classes.RightParen = row_8 ∷ []
dict_comma classes.Comma = row_12 ∷ []
dict_comma classes.Semicolon = row_8 ∷ []
dict_comma _ = row_11 ∷ []

-- the end of a dictionary
abbrev pub dict_close : Class → List Row
dict_close classes.RightParen = row_14 ∷ []
dict_close _ = row_13 ∷ []

-- an item that is spread
abbrev pub spread : Class → List Row
spread classes.Dots = row_15 ∷ []
spread _ = []

-- what is spread, which a pattern needn't have
abbrev pub spread_value : Class → List Row
spread_value classes.End = row_16 ∷ []
spread_value classes.RightBrace = row_16 ∷ []
spread_value classes.RightBracket = row_16 ∷ []
spread_value classes.RightParen = row_16 ∷ []
spread_value classes.Comma = row_16 ∷ []
spread_value classes.Semicolon = row_16 ∷ []
spread_value _ = row_17 ∷ []

-- an item: a value, or a key with its value
abbrev pub pair : Class → List Row
pair classes.Label = row_18 ∷ []
pair classes.Raw = row_18 ∷ []
pair classes.Dollar = row_18 ∷ []
pair classes.LeftBrace = row_18 ∷ []
pair classes.LeftBracket = row_18 ∷ []
pair classes.LeftParen = row_18 ∷ []
pair classes.Underscore = row_18 ∷ []
pair classes.Sign = row_18 ∷ []
pair classes.Ident = row_18 ∷ []
pair classes.Str = row_18 ∷ []
pair classes.Literal = row_18 ∷ []
pair classes.Constant = row_18 ∷ []
pair classes.Not = row_18 ∷ []
pair classes.Let = row_18 ∷ []
pair classes.Set = row_18 ∷ []
pair classes.Show = row_18 ∷ []
pair classes.Context = row_18 ∷ []
pair classes.If = row_18 ∷ []
pair classes.For = row_18 ∷ []
pair classes.While = row_18 ∷ []
pair classes.Break = row_18 ∷ []
pair classes.Continue = row_18 ∷ []
pair classes.Return = row_18 ∷ []
pair classes.Import = row_18 ∷ []
pair classes.Include = row_18 ∷ []
pair _ = []

-- the colon behind a key
abbrev pub pair_colon : Class → List Row
pair_colon classes.Colon = row_20 ∷ row_21 ∷ []
pair_colon _ = row_19 ∷ []

-- the rest of a row of `spread.value`, once the frame that it opened has returned
abbrev pub spread_value_rest : Class → List Row
spread_value_rest _ = row_16 ∷ []

-- the rest of a row of `pair.colon`, once the frame that it opened has returned
abbrev pub pair_colon_rest1 : Class → List Row
pair_colon_rest1 _ = row_22 ∷ []

-- the rest of a row of `pair.colon`, once the frame that it opened has returned
abbrev pub pair_colon_rest2 : Class → List Row
pair_colon_rest2 _ = row_23 ∷ []
