-- Written by bench/grammar_crate.py from crates/grammar.table: change that and run it.
-- The maps that give nodes other kinds.
use Rattle.std.specs.Prelude.{List, [], ◌∷◌, Some, None}
use Rattle.typst_base.specs.declared.kind.SyntaxKind.{SyntaxKind}
use Rattle.typst_base.specs.declared.kind.SyntaxKind.TheVariants as kinds
use Rattle.typst_grammar.specs.declared.change.Effect.TheVariants as effects
use Rattle.typst_grammar.specs.declared.change.Test.TheVariants as tests
use Rattle.typst_grammar.specs.declared.expectation.Expectation.TheVariants as expectations
use Rattle.typst_grammar.specs.declared.maps.Map.{Map}
use Rattle.typst_grammar.specs.declared.maps.Map.TheVariants as maps
use Rattle.typst_grammar.specs.declared.change.Change.{Change}

abbrev pub change_0 : Change
change_0 = record {
  test = tests.Always;
  effect = effects.Become (record { kind = Some kinds.Parenthesized; first = Some maps.Item; others = Some maps.Item });
}

abbrev pub change_1 : Change
change_1 = record {
  test = tests.Always;
  effect = effects.Become (record { kind = Some kinds.Array; first = Some maps.Item; others = Some maps.Item });
}

abbrev pub change_2 : Change
change_2 = record {
  test = tests.Always;
  effect = effects.Become (record { kind = Some kinds.Dict; first = Some maps.Entry; others = Some maps.Entry });
}

abbrev pub change_3 : Change
change_3 = record {
  test = tests.Always;
  effect = effects.Wrong expectations.Expression;
}

abbrev pub change_4 : Change
change_4 = record {
  test = tests.Alone;
  effect = effects.Expected expectations.Expression;
}

abbrev pub change_5 : Change
change_5 = record {
  test = tests.Always;
  effect = effects.Wrong expectations.NamedOrKeyedPair;
}

abbrev pub change_6 : Change
change_6 = record {
  test = tests.Always;
  effect = effects.Become (record { kind = None; first = Some maps.Part; others = Some maps.Part });
}

abbrev pub change_7 : Change
change_7 = record {
  test = tests.Expr;
  effect = effects.Wrong expectations.NamedOrKeyedPair;
}

abbrev pub change_8 : Change
change_8 = record {
  test = tests.Always;
  effect = effects.Become (record { kind = Some kinds.Params; first = Some maps.Param; others = Some maps.Param });
}

abbrev pub change_9 : Change
change_9 = record {
  test = tests.Always;
  effect = effects.Wrong expectations.Pattern;
}

abbrev pub change_10 : Change
change_10 = record {
  test = tests.Always;
  effect = effects.Become (record { kind = None; first = None; others = None });
}

abbrev pub change_11 : Change
change_11 = record {
  test = tests.Always;
  effect = effects.Become (record { kind = None; first = Some maps.Pattern; others = Some maps.Pattern });
}

abbrev pub change_12 : Change
change_12 = record {
  test = tests.Always;
  effect = effects.Become (record { kind = Some kinds.Destructuring; first = Some maps.Member; others = Some maps.Member });
}

abbrev pub change_13 : Change
change_13 = record {
  test = tests.Always;
  effect = effects.Become (record { kind = Some kinds.Named; first = Some maps.Mistaken; others = Some maps.Part });
}

abbrev pub change_14 : Change
change_14 = record {
  test = tests.Always;
  effect = effects.Become (record { kind = None; first = Some maps.Sink; others = Some maps.Sink });
}

abbrev pub change_15 : Change
change_15 = record {
  test = tests.Expr;
  effect = effects.Wrong expectations.Pattern;
}

abbrev pub change_16 : Change
change_16 = record {
  test = tests.Always;
  effect = effects.Become (record { kind = Some kinds.Named; first = Some maps.Mistaken; others = Some maps.Pattern });
}

abbrev pub change_17 : Change
change_17 = record {
  test = tests.Always;
  effect = effects.Become (record { kind = None; first = Some maps.Target; others = Some maps.Target });
}

abbrev pub change_18 : Change
change_18 = record {
  test = tests.Always;
  effect = effects.Become (record { kind = Some kinds.Destructuring; first = Some maps.Place; others = Some maps.Place });
}

abbrev pub change_19 : Change
change_19 = record {
  test = tests.Always;
  effect = effects.Become (record { kind = Some kinds.Named; first = Some maps.Mistaken; others = Some maps.Target });
}

-- a parenthesis that is a value
abbrev pub value : SyntaxKind → List Change
value kinds.Parenthesized = change_0 ∷ []
value kinds.Array = change_1 ∷ []
value kinds.Dict = change_2 ∷ []
value _ = []

-- an item of an array
abbrev pub item : SyntaxKind → List Change
item kinds.Underscore = change_3 ∷ []
item kinds.Parenthesized = change_0 ∷ []
item kinds.Array = change_1 ∷ []
item kinds.Dict = change_2 ∷ []
item kinds.Named = change_3 ∷ []
item kinds.Keyed = change_3 ∷ []
item kinds.Spread = change_4 ∷ []
item _ = []

-- a pair of a dictionary
abbrev pub entry : SyntaxKind → List Change
entry kinds.Underscore = change_5 ∷ []
entry kinds.Named = change_6 ∷ []
entry kinds.Keyed = change_6 ∷ []
entry kinds.Spread = change_4 ∷ []
entry _ = change_7 ∷ []

-- a key or a value
abbrev pub part : SyntaxKind → List Change
part kinds.Underscore = change_3 ∷ []
part kinds.Parenthesized = change_0 ∷ []
part kinds.Array = change_1 ∷ []
part kinds.Dict = change_2 ∷ []
part _ = []

-- a parenthesis that holds parameters
abbrev pub params : SyntaxKind → List Change
params kinds.Parenthesized = change_8 ∷ []
params kinds.Array = change_8 ∷ []
params kinds.Dict = change_8 ∷ []
params _ = []

-- a parameter
abbrev pub param : SyntaxKind → List Change
param kinds.Colon = change_9 ∷ []
param kinds.Underscore = change_10 ∷ []
param kinds.Ident = change_10 ∷ []
param kinds.Parenthesized = change_11 ∷ []
param kinds.Array = change_12 ∷ []
param kinds.Dict = change_12 ∷ []
param kinds.Named = change_6 ∷ []
param kinds.Keyed = change_13 ∷ []
param kinds.Spread = change_14 ∷ []
param _ = change_15 ∷ []

-- what is in the parentheses of a pattern
abbrev pub member : SyntaxKind → List Change
member kinds.Colon = change_9 ∷ []
member kinds.Underscore = change_10 ∷ []
member kinds.Ident = change_10 ∷ []
member kinds.Parenthesized = change_11 ∷ []
member kinds.Array = change_12 ∷ []
member kinds.Dict = change_12 ∷ []
member kinds.Named = change_11 ∷ []
member kinds.Keyed = change_16 ∷ []
member kinds.Spread = change_14 ∷ []
member _ = change_15 ∷ []

-- a pattern
abbrev pub pattern : SyntaxKind → List Change
pattern kinds.Underscore = change_10 ∷ []
pattern kinds.Ident = change_10 ∷ []
pattern kinds.Parenthesized = change_11 ∷ []
pattern kinds.Array = change_12 ∷ []
pattern kinds.Dict = change_12 ∷ []
pattern kinds.Named = change_11 ∷ []
pattern kinds.Keyed = change_16 ∷ []
pattern kinds.Spread = change_14 ∷ []
pattern _ = change_15 ∷ []

-- the name of a sink
abbrev pub sink : SyntaxKind → List Change
sink kinds.Underscore = change_9 ∷ []
sink kinds.Ident = change_10 ∷ []
sink _ = change_15 ∷ []

-- a key that has to be a name
abbrev pub mistaken : SyntaxKind → List Change
mistaken kinds.Underscore = change_9 ∷ []
mistaken _ = change_15 ∷ []

-- what is in the parentheses of a target
abbrev pub place : SyntaxKind → List Change
place kinds.Colon = change_9 ∷ []
place kinds.Parenthesized = change_17 ∷ []
place kinds.Array = change_18 ∷ []
place kinds.Dict = change_18 ∷ []
place kinds.Named = change_17 ∷ []
place kinds.Keyed = change_19 ∷ []
place kinds.Unary = change_9 ∷ []
place kinds.Binary = change_9 ∷ []
place kinds.Closure = change_9 ∷ []
place kinds.DestructAssignment = change_9 ∷ []
place _ = []

-- what a value is assigned to
abbrev pub target : SyntaxKind → List Change
target kinds.Parenthesized = change_17 ∷ []
target kinds.Array = change_18 ∷ []
target kinds.Dict = change_18 ∷ []
target kinds.Named = change_17 ∷ []
target kinds.Keyed = change_19 ∷ []
target kinds.Unary = change_9 ∷ []
target kinds.Binary = change_9 ∷ []
target kinds.Closure = change_9 ∷ []
target kinds.DestructAssignment = change_9 ∷ []
target _ = []

-- the changes of a map for a kind
unfoldable pub changes : Map → SyntaxKind → List Change
changes maps.Value kind = value kind
changes maps.Item kind = item kind
changes maps.Entry kind = entry kind
changes maps.Part kind = part kind
changes maps.Params kind = params kind
changes maps.Param kind = param kind
changes maps.Member kind = member kind
changes maps.Pattern kind = pattern kind
changes maps.Sink kind = sink kind
changes maps.Mistaken kind = mistaken kind
changes maps.Place kind = place kind
changes maps.Target kind = target kind
