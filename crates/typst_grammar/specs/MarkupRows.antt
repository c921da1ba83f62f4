-- Written by bench/grammar_crate.py from crates/grammar.table: change that and run it.
-- The rows of markup.
use Rattle.std.specs.Prelude.{List, [], ◌∷◌, true, false, Some, None}
use Rattle.typst_base.specs.declared.kind.SyntaxKind.TheVariants as kinds
use Rattle.typst_grammar.specs.declared.row.Action.TheVariants as actions
use Rattle.typst_grammar.specs.declared.row.Condition.TheVariants as conditions
use Rattle.typst_grammar.specs.declared.row.Newline.TheVariants as newlines
use Rattle.typst_grammar.specs.declared.row.Take.TheVariants as takes
use Rattle.typst_grammar.specs.declared.rows.Class.TheVariants as classes
use Rattle.typst_grammar.specs.declared.rows.State.TheVariants as states
use Rattle.typst_grammar.specs.declared.rows.Class.{Class}
use Rattle.typst_grammar.specs.Row.{Row}

abbrev pub row_0 : Row
row_0 = record {
  condition = conditions.Always;
  before = [];
  take = takes.Unexpected;
  after = [];
  call = None;
}

abbrev pub row_1 : Row
row_1 = record {
  condition = conditions.Always;
  before = [];
  take = takes.Eat;
  after = [];
  call = None;
}

abbrev pub row_2 : Row
row_2 = record {
  condition = conditions.Always;
  before = [];
  take = takes.Nothing;
  after = [];
  call = Some (record { state = states.Reference; number = 0; enters = false; is_deep = false; newline = None });
}

abbrev pub row_3 : Row
row_3 = record {
  condition = conditions.Empty;
  before = [];
  take = takes.Nothing;
  after = [];
  call = Some (record { state = states.Heading; number = 0; enters = false; is_deep = false; newline = Some newlines.Stop });
}

abbrev pub row_4 : Row
row_4 = record {
  condition = conditions.Newline;
  before = [];
  take = takes.Nothing;
  after = [];
  call = Some (record { state = states.Heading; number = 0; enters = false; is_deep = false; newline = Some newlines.Stop });
}

abbrev pub row_5 : Row
row_5 = record {
  condition = conditions.Always;
  before = [];
  take = takes.EatAs kinds.Text;
  after = [];
  call = None;
}

abbrev pub row_6 : Row
row_6 = record {
  condition = conditions.Empty;
  before = [];
  take = takes.Nothing;
  after = [];
  call = Some (record { state = states.Item; number = 0; enters = false; is_deep = true; newline = Some newlines.Column });
}

abbrev pub row_7 : Row
row_7 = record {
  condition = conditions.Newline;
  before = [];
  take = takes.Nothing;
  after = [];
  call = Some (record { state = states.Item; number = 0; enters = false; is_deep = true; newline = Some newlines.Column });
}

abbrev pub row_8 : Row
row_8 = record {
  condition = conditions.Empty;
  before = [];
  take = takes.Nothing;
  after = [];
  call = Some (record { state = states.Term; number = 0; enters = false; is_deep = true; newline = Some newlines.Column });
}

abbrev pub row_9 : Row
row_9 = record {
  condition = conditions.Newline;
  before = [];
  take = takes.Nothing;
  after = [];
  call = Some (record { state = states.Term; number = 0; enters = false; is_deep = true; newline = Some newlines.Column });
}

abbrev pub row_10 : Row
row_10 = record {
  condition = conditions.Always;
  before = [];
  take = takes.Nothing;
  after = [];
  call = Some (record { state = states.Hash; number = 0; enters = false; is_deep = false; newline = Some newlines.Stop });
}

abbrev pub row_11 : Row
row_11 = record {
  condition = conditions.Always;
  before = [];
  take = takes.Nothing;
  after = [];
  call = Some (record { state = states.Equation; number = 0; enters = false; is_deep = true; newline = Some newlines.Go });
}

abbrev pub row_12 : Row
row_12 = record {
  condition = conditions.Always;
  before = [];
  take = takes.EatAs kinds.Text;
  after = actions.Up ∷ [];
  call = None;
}

abbrev pub row_13 : Row
row_13 = record {
  condition = conditions.Is 0;
  before = [];
  take = takes.Unexpected;
  after = [];
  call = None;
}

abbrev pub row_14 : Row
row_14 = record {
  condition = conditions.Always;
  before = [];
  take = takes.EatAs kinds.Text;
  after = actions.Down ∷ [];
  call = None;
}

abbrev pub row_15 : Row
row_15 = record {
  condition = conditions.Always;
  before = [];
  take = takes.Nothing;
  after = [];
  call = Some (record { state = states.Strong; number = 0; enters = false; is_deep = true; newline = Some newlines.Par });
}

abbrev pub row_16 : Row
row_16 = record {
  condition = conditions.Always;
  before = [];
  take = takes.Nothing;
  after = [];
  call = Some (record { state = states.Emph; number = 0; enters = false; is_deep = true; newline = Some newlines.Par });
}

abbrev pub row_17 : Row
row_17 = record {
  condition = conditions.Always;
  before = [];
  take = takes.Eat;
  after = actions.Goto states.HashRest ∷ [];
  call = Some (record { state = states.Embedded; number = 0; enters = false; is_deep = false; newline = None });
}

abbrev pub row_18 : Row
row_18 = record {
  condition = conditions.Always;
  before = [];
  take = takes.Eat;
  after = [];
  call = Some (record { state = states.StrongBody; number = 0; enters = true; is_deep = false; newline = None });
}

abbrev pub row_19 : Row
row_19 = record {
  condition = conditions.Always;
  before = actions.Flush ∷ actions.Wrap kinds.Markup ∷ actions.Return ∷ actions.Unclosed ∷ actions.Wrap kinds.Strong ∷ actions.Return ∷ [];
  take = takes.Nothing;
  after = [];
  call = None;
}

abbrev pub row_20 : Row
row_20 = record {
  condition = conditions.Is 0;
  before = actions.Flush ∷ actions.Wrap kinds.Markup ∷ actions.Return ∷ actions.Unclosed ∷ actions.Wrap kinds.Strong ∷ actions.Return ∷ [];
  take = takes.Nothing;
  after = [];
  call = None;
}

abbrev pub row_21 : Row
row_21 = record {
  condition = conditions.Always;
  before = actions.Flush ∷ actions.Wrap kinds.Markup ∷ actions.Return ∷ [];
  take = takes.Eat;
  after = actions.Wrap kinds.Strong ∷ actions.Return ∷ [];
  call = None;
}

abbrev pub row_22 : Row
row_22 = record {
  condition = conditions.Always;
  before = [];
  take = takes.Eat;
  after = [];
  call = Some (record { state = states.EmphBody; number = 0; enters = true; is_deep = false; newline = None });
}

abbrev pub row_23 : Row
row_23 = record {
  condition = conditions.Always;
  before = actions.Flush ∷ actions.Wrap kinds.Markup ∷ actions.Return ∷ actions.Unclosed ∷ actions.Wrap kinds.Emph ∷ actions.Return ∷ [];
  take = takes.Nothing;
  after = [];
  call = None;
}

abbrev pub row_24 : Row
row_24 = record {
  condition = conditions.Is 0;
  before = actions.Flush ∷ actions.Wrap kinds.Markup ∷ actions.Return ∷ actions.Unclosed ∷ actions.Wrap kinds.Emph ∷ actions.Return ∷ [];
  take = takes.Nothing;
  after = [];
  call = None;
}

abbrev pub row_25 : Row
row_25 = record {
  condition = conditions.Always;
  before = actions.Flush ∷ actions.Wrap kinds.Markup ∷ actions.Return ∷ [];
  take = takes.Eat;
  after = actions.Wrap kinds.Emph ∷ actions.Return ∷ [];
  call = None;
}

abbrev pub row_26 : Row
row_26 = record {
  condition = conditions.Always;
  before = actions.Return ∷ [];
  take = takes.Nothing;
  after = [];
  call = None;
}

-- the nodes of the text
abbrev pub document : Class → List Row
document classes.Text = row_1 ∷ []
document classes.Linebreak = row_1 ∷ []
document classes.Escape = row_1 ∷ []
document classes.Label = row_1 ∷ []
document classes.RefMarker = row_2 ∷ []
document classes.Raw = row_1 ∷ []
document classes.HeadingMarker = row_3 ∷ row_4 ∷ row_5 ∷ []
document classes.ListMarker = row_6 ∷ row_7 ∷ row_5 ∷ []
document classes.EnumMarker = row_6 ∷ row_7 ∷ row_5 ∷ []
document classes.TermMarker = row_8 ∷ row_9 ∷ row_5 ∷ []
document classes.Hash = row_10 ∷ []
document classes.Dollar = row_11 ∷ []
document classes.Plain = row_5 ∷ []
document classes.LeftBracket = row_12 ∷ []
document classes.RightBracket = row_13 ∷ row_14 ∷ []
document classes.Colon = row_5 ∷ []
document classes.Star = row_15 ∷ []
document classes.Underscore = row_16 ∷ []
document _ = row_0 ∷ []

-- a hash with the code behind it
abbrev pub hash : Class → List Row
hash classes.Hash = row_17 ∷ []
hash _ = []

-- strong content with its delimiters
abbrev pub strong : Class → List Row
strong classes.Star = row_18 ∷ []
strong _ = []

-- strong content
abbrev pub strong_body : Class → List Row
strong_body classes.End = row_19 ∷ []
strong_body classes.Text = row_1 ∷ []
strong_body classes.Linebreak = row_1 ∷ []
strong_body classes.Escape = row_1 ∷ []
strong_body classes.Label = row_1 ∷ []
strong_body classes.RefMarker = row_2 ∷ []
strong_body classes.Raw = row_1 ∷ []
strong_body classes.HeadingMarker = row_4 ∷ row_5 ∷ []
strong_body classes.ListMarker = row_7 ∷ row_5 ∷ []
strong_body classes.EnumMarker = row_7 ∷ row_5 ∷ []
strong_body classes.TermMarker = row_9 ∷ row_5 ∷ []
strong_body classes.Hash = row_10 ∷ []
strong_body classes.Dollar = row_11 ∷ []
strong_body classes.Plain = row_5 ∷ []
strong_body classes.LeftBracket = row_12 ∷ []
strong_body classes.RightBracket = row_20 ∷ row_13 ∷ row_14 ∷ []
strong_body classes.Colon = row_5 ∷ []
strong_body classes.Star = row_21 ∷ []
strong_body classes.Underscore = row_16 ∷ []
strong_body _ = row_0 ∷ []

-- emphasized content with its delimiters
abbrev pub emph : Class → List Row
emph classes.Underscore = row_22 ∷ []
emph _ = []

-- emphasized content
abbrev pub emph_body : Class → List Row
emph_body classes.End = row_23 ∷ []
emph_body classes.Text = row_1 ∷ []
emph_body classes.Linebreak = row_1 ∷ []
emph_body classes.Escape = row_1 ∷ []
emph_body classes.Label = row_1 ∷ []
emph_body classes.RefMarker = row_2 ∷ []
emph_body classes.Raw = row_1 ∷ []
emph_body classes.HeadingMarker = row_4 ∷ row_5 ∷ []
emph_body classes.ListMarker = row_7 ∷ row_5 ∷ []
emph_body classes.EnumMarker = row_7 ∷ row_5 ∷ []
emph_body classes.TermMarker = row_9 ∷ row_5 ∷ []
emph_body classes.Hash = row_10 ∷ []
emph_body classes.Dollar = row_11 ∷ []
emph_body classes.Plain = row_5 ∷ []
emph_body classes.LeftBracket = row_12 ∷ []
emph_body classes.RightBracket = row_24 ∷ row_13 ∷ row_14 ∷ []
emph_body classes.Colon = row_5 ∷ []
emph_body classes.Star = row_15 ∷ []
emph_body classes.Underscore = row_25 ∷ []
emph_body _ = row_0 ∷ []

-- the rest of a row of `hash`, once the frame that it opened has returned
abbrev pub hash_rest : Class → List Row
hash_rest _ = row_26 ∷ []
