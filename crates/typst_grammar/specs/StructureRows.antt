-- Written by bench/grammar_crate.py from crates/grammar.table: change that and run it.
-- The rows of headings, items, references and blocks of content.
use Rattle.std.specs.Prelude.{List, [], ◌∷◌, true, false, Some, None}
use Rattle.typst_base.specs.declared.kind.SyntaxKind.TheVariants as kinds
use Rattle.typst_grammar.specs.declared.expectation.Expectation.TheVariants as expectations
use Rattle.typst_grammar.specs.declared.row.Action.TheVariants as actions
use Rattle.typst_grammar.specs.declared.row.Condition.TheVariants as conditions
use Rattle.typst_grammar.specs.declared.row.Newline.TheVariants as newlines
use Rattle.typst_grammar.specs.declared.row.Take.TheVariants as takes
use Rattle.typst_grammar.specs.declared.rows.Class.TheVariants as classes
use Rattle.typst_grammar.specs.declared.rows.State.TheVariants as states
use Rattle.typst_grammar.specs.declared.rows.Class.{Class}
use Rattle.typst_grammar.specs.Row.{Row}

abbrev pub row_0 : Row
row_0 = record {
  condition = conditions.Always;
  before = [];
  take = takes.Eat;
  after = [];
  call = Some (record { state = states.HeadingBody; number = 0; enters = false; is_deep = false; newline = None });
}

abbrev pub row_1 : Row
row_1 = record {
  condition = conditions.Always;
  before = actions.Wrap kinds.Markup ∷ actions.Return ∷ actions.Wrap kinds.Heading ∷ actions.Return ∷ [];
  take = takes.Nothing;
  after = [];
  call = None;
}

abbrev pub row_2 : Row
row_2 = record {
  condition = conditions.Always;
  before = [];
  take = takes.Unexpected;
  after = [];
  call = None;
}

abbrev pub row_3 : Row
row_3 = record {
  condition = conditions.Always;
  before = [];
  take = takes.Eat;
  after = [];
  call = None;
}

abbrev pub row_4 : Row
row_4 = record {
  condition = conditions.Always;
  before = [];
  take = takes.Nothing;
  after = [];
  call = Some (record { state = states.Reference; number = 0; enters = false; is_deep = false; newline = None });
}

abbrev pub row_5 : Row
row_5 = record {
  condition = conditions.Newline;
  before = [];
  take = takes.Nothing;
  after = [];
  call = Some (record { state = states.Heading; number = 0; enters = false; is_deep = false; newline = Some newlines.Stop });
}

abbrev pub row_6 : Row
row_6 = record {
  condition = conditions.Always;
  before = [];
  take = takes.EatAs kinds.Text;
  after = [];
  call = None;
}

abbrev pub row_7 : Row
row_7 = record {
  condition = conditions.Newline;
  before = [];
  take = takes.Nothing;
  after = [];
  call = Some (record { state = states.Item; number = 0; enters = false; is_deep = true; newline = Some newlines.Column });
}

abbrev pub row_8 : Row
row_8 = record {
  condition = conditions.Newline;
  before = [];
  take = takes.Nothing;
  after = [];
  call = Some (record { state = states.Term; number = 0; enters = false; is_deep = true; newline = Some newlines.Column });
}

abbrev pub row_9 : Row
row_9 = record {
  condition = conditions.Always;
  before = [];
  take = takes.Nothing;
  after = [];
  call = Some (record { state = states.Hash; number = 0; enters = false; is_deep = false; newline = Some newlines.Stop });
}

abbrev pub row_10 : Row
row_10 = record {
  condition = conditions.Always;
  before = [];
  take = takes.Nothing;
  after = [];
  call = Some (record { state = states.Equation; number = 0; enters = false; is_deep = true; newline = Some newlines.Go });
}

abbrev pub row_11 : Row
row_11 = record {
  condition = conditions.Always;
  before = [];
  take = takes.EatAs kinds.Text;
  after = actions.Up ∷ [];
  call = None;
}

abbrev pub row_12 : Row
row_12 = record {
  condition = conditions.Is 0;
  before = actions.Wrap kinds.Markup ∷ actions.Return ∷ actions.Wrap kinds.Heading ∷ actions.Return ∷ [];
  take = takes.Nothing;
  after = [];
  call = None;
}

abbrev pub row_13 : Row
row_13 = record {
  condition = conditions.Is 0;
  before = [];
  take = takes.Unexpected;
  after = [];
  call = None;
}

abbrev pub row_14 : Row
row_14 = record {
  condition = conditions.Always;
  before = [];
  take = takes.EatAs kinds.Text;
  after = actions.Down ∷ [];
  call = None;
}

abbrev pub row_15 : Row
row_15 = record {
  condition = conditions.Always;
  before = [];
  take = takes.Nothing;
  after = [];
  call = Some (record { state = states.Strong; number = 0; enters = false; is_deep = true; newline = Some newlines.Par });
}

abbrev pub row_16 : Row
row_16 = record {
  condition = conditions.Always;
  before = [];
  take = takes.Nothing;
  after = [];
  call = Some (record { state = states.Emph; number = 0; enters = false; is_deep = true; newline = Some newlines.Par });
}

abbrev pub row_17 : Row
row_17 = record {
  condition = conditions.Always;
  before = [];
  take = takes.Eat;
  after = actions.Goto states.ItemRest1 ∷ [];
  call = Some (record { state = states.ItemBody; number = 0; enters = false; is_deep = false; newline = None });
}

abbrev pub row_18 : Row
row_18 = record {
  condition = conditions.Always;
  before = [];
  take = takes.Eat;
  after = actions.Goto states.ItemRest2 ∷ [];
  call = Some (record { state = states.ItemBody; number = 0; enters = false; is_deep = false; newline = None });
}

abbrev pub row_19 : Row
row_19 = record {
  condition = conditions.Always;
  before = actions.Wrap kinds.Markup ∷ actions.Return ∷ [];
  take = takes.Nothing;
  after = [];
  call = None;
}

abbrev pub row_20 : Row
row_20 = record {
  condition = conditions.Empty;
  before = [];
  take = takes.Nothing;
  after = [];
  call = Some (record { state = states.Heading; number = 0; enters = false; is_deep = false; newline = Some newlines.Stop });
}

abbrev pub row_21 : Row
row_21 = record {
  condition = conditions.Empty;
  before = [];
  take = takes.Nothing;
  after = [];
  call = Some (record { state = states.Item; number = 0; enters = false; is_deep = true; newline = Some newlines.Column });
}

abbrev pub row_22 : Row
row_22 = record {
  condition = conditions.Empty;
  before = [];
  take = takes.Nothing;
  after = [];
  call = Some (record { state = states.Term; number = 0; enters = false; is_deep = true; newline = Some newlines.Column });
}

abbrev pub row_23 : Row
row_23 = record {
  condition = conditions.Is 0;
  before = actions.Wrap kinds.Markup ∷ actions.Return ∷ [];
  take = takes.Nothing;
  after = [];
  call = None;
}

abbrev pub row_24 : Row
row_24 = record {
  condition = conditions.Always;
  before = actions.Goto states.TermColon ∷ [];
  take = takes.Nothing;
  after = [];
  call = Some (record { state = states.TermHead; number = 0; enters = false; is_deep = false; newline = Some newlines.Stop });
}

abbrev pub row_25 : Row
row_25 = record {
  condition = conditions.Always;
  before = [];
  take = takes.Eat;
  after = actions.Goto states.TermHeadRest ∷ [];
  call = Some (record { state = states.TermName; number = 0; enters = false; is_deep = false; newline = None });
}

abbrev pub row_26 : Row
row_26 = record {
  condition = conditions.Always;
  before = actions.Expected expectations.Colon ∷ actions.Goto states.TermColonRest2 ∷ [];
  take = takes.Nothing;
  after = [];
  call = Some (record { state = states.ItemBody; number = 0; enters = false; is_deep = false; newline = None });
}

abbrev pub row_27 : Row
row_27 = record {
  condition = conditions.Always;
  before = [];
  take = takes.Eat;
  after = actions.Goto states.TermColonRest1 ∷ [];
  call = Some (record { state = states.ItemBody; number = 0; enters = false; is_deep = false; newline = None });
}

abbrev pub row_28 : Row
row_28 = record {
  condition = conditions.Always;
  before = [];
  take = takes.Eat;
  after = actions.Goto states.ReferenceSupplement ∷ [];
  call = None;
}

abbrev pub row_29 : Row
row_29 = record {
  condition = conditions.Always;
  before = actions.Wrap kinds.Ref ∷ actions.Return ∷ [];
  take = takes.Nothing;
  after = [];
  call = None;
}

abbrev pub row_30 : Row
row_30 = record {
  condition = conditions.Direct;
  before = actions.Goto states.ReferenceSupplementRest ∷ [];
  take = takes.Nothing;
  after = [];
  call = Some (record { state = states.Content; number = 0; enters = false; is_deep = true; newline = Some newlines.Go });
}

abbrev pub row_31 : Row
row_31 = record {
  condition = conditions.Always;
  before = [];
  take = takes.Eat;
  after = [];
  call = Some (record { state = states.ContentBody; number = 0; enters = true; is_deep = false; newline = None });
}

abbrev pub row_32 : Row
row_32 = record {
  condition = conditions.Always;
  before = actions.Flush ∷ actions.Wrap kinds.Markup ∷ actions.Return ∷ actions.Unclosed ∷ actions.Wrap kinds.ContentBlock ∷ actions.Return ∷ [];
  take = takes.Nothing;
  after = [];
  call = None;
}

abbrev pub row_33 : Row
row_33 = record {
  condition = conditions.Is 0;
  before = actions.Flush ∷ actions.Wrap kinds.Markup ∷ actions.Return ∷ [];
  take = takes.Eat;
  after = actions.Wrap kinds.ContentBlock ∷ actions.Return ∷ [];
  call = None;
}

abbrev pub row_34 : Row
row_34 = record {
  condition = conditions.Always;
  before = actions.Wrap kinds.ListItem ∷ actions.Return ∷ [];
  take = takes.Nothing;
  after = [];
  call = None;
}

abbrev pub row_35 : Row
row_35 = record {
  condition = conditions.Always;
  before = actions.Wrap kinds.EnumItem ∷ actions.Return ∷ [];
  take = takes.Nothing;
  after = [];
  call = None;
}

abbrev pub row_36 : Row
row_36 = record {
  condition = conditions.Always;
  before = actions.Return ∷ [];
  take = takes.Nothing;
  after = [];
  call = None;
}

abbrev pub row_37 : Row
row_37 = record {
  condition = conditions.Always;
  before = actions.Wrap kinds.TermItem ∷ actions.Return ∷ [];
  take = takes.Nothing;
  after = [];
  call = None;
}

-- a heading with its marker
abbrev pub heading : Class → List Row
heading classes.HeadingMarker = row_0 ∷ []
heading _ = []

-- the content of a heading
abbrev pub heading_body : Class → List Row
heading_body classes.End = row_1 ∷ []
heading_body classes.Text = row_3 ∷ []
heading_body classes.Linebreak = row_3 ∷ []
heading_body classes.Escape = row_3 ∷ []
heading_body classes.Label = row_1 ∷ []
heading_body classes.RefMarker = row_4 ∷ []
heading_body classes.Raw = row_3 ∷ []
heading_body classes.HeadingMarker = row_5 ∷ row_6 ∷ []
heading_body classes.ListMarker = row_7 ∷ row_6 ∷ []
heading_body classes.EnumMarker = row_7 ∷ row_6 ∷ []
heading_body classes.TermMarker = row_8 ∷ row_6 ∷ []
heading_body classes.Hash = row_9 ∷ []
heading_body classes.Dollar = row_10 ∷ []
heading_body classes.Plain = row_6 ∷ []
heading_body classes.LeftBracket = row_11 ∷ []
heading_body classes.RightBracket = row_12 ∷ row_13 ∷ row_14 ∷ []
heading_body classes.Colon = row_6 ∷ []
heading_body classes.Star = row_15 ∷ []
heading_body classes.Underscore = row_16 ∷ []
heading_body _ = row_2 ∷ []

-- an item of a list with its marker
abbrev pub item : Class → List Row
item classes.ListMarker = row_17 ∷ []
item classes.EnumMarker = row_18 ∷ []
item _ = []

-- the content of an item
abbrev pub item_body : Class → List Row
item_body classes.End = row_19 ∷ []
item_body classes.Text = row_3 ∷ []
item_body classes.Linebreak = row_3 ∷ []
item_body classes.Escape = row_3 ∷ []
item_body classes.Label = row_3 ∷ []
item_body classes.RefMarker = row_4 ∷ []
item_body classes.Raw = row_3 ∷ []
item_body classes.HeadingMarker = row_20 ∷ row_5 ∷ row_6 ∷ []
item_body classes.ListMarker = row_21 ∷ row_7 ∷ row_6 ∷ []
item_body classes.EnumMarker = row_21 ∷ row_7 ∷ row_6 ∷ []
item_body classes.TermMarker = row_22 ∷ row_8 ∷ row_6 ∷ []
item_body classes.Hash = row_9 ∷ []
item_body classes.Dollar = row_10 ∷ []
item_body classes.Plain = row_6 ∷ []
item_body classes.LeftBracket = row_11 ∷ []
item_body classes.RightBracket = row_23 ∷ row_13 ∷ row_14 ∷ []
item_body classes.Colon = row_6 ∷ []
item_body classes.Star = row_15 ∷ []
item_body classes.Underscore = row_16 ∷ []
item_body _ = row_2 ∷ []

-- an item of a term list
abbrev pub term : Class → List Row
term classes.TermMarker = row_24 ∷ []
term _ = []

-- the marker of a term with the term
abbrev pub term_head : Class → List Row
term_head classes.TermMarker = row_25 ∷ []
term_head _ = []

-- a term that is described
abbrev pub term_name : Class → List Row
term_name classes.End = row_19 ∷ []
term_name classes.Text = row_3 ∷ []
term_name classes.Linebreak = row_3 ∷ []
term_name classes.Escape = row_3 ∷ []
term_name classes.Label = row_3 ∷ []
term_name classes.RefMarker = row_4 ∷ []
term_name classes.Raw = row_3 ∷ []
term_name classes.HeadingMarker = row_5 ∷ row_6 ∷ []
term_name classes.ListMarker = row_7 ∷ row_6 ∷ []
term_name classes.EnumMarker = row_7 ∷ row_6 ∷ []
term_name classes.TermMarker = row_8 ∷ row_6 ∷ []
term_name classes.Hash = row_9 ∷ []
term_name classes.Dollar = row_10 ∷ []
term_name classes.Plain = row_6 ∷ []
term_name classes.LeftBracket = row_11 ∷ []
term_name classes.RightBracket = row_23 ∷ row_13 ∷ row_14 ∷ []
term_name classes.Colon = row_19 ∷ []
term_name classes.Star = row_15 ∷ []
term_name classes.Underscore = row_16 ∷ []
term_name _ = row_2 ∷ []

-- the colon behind a term, with the description
abbrev pub term_colon : Class → List Row
term_colon classes.Colon = row_27 ∷ []
term_colon _ = row_26 ∷ []

-- a reference
abbrev pub reference : Class → List Row
reference classes.RefMarker = row_28 ∷ []
reference _ = []

-- what may follow the marker of a reference
abbrev pub reference_supplement : Class → List Row
reference_supplement classes.LeftBracket = row_30 ∷ row_29 ∷ []
reference_supplement _ = row_29 ∷ []

-- a block of content
abbrev pub content : Class → List Row
content classes.LeftBracket = row_31 ∷ []
content _ = []

-- the content of a block
abbrev pub content_body : Class → List Row
content_body classes.End = row_32 ∷ []
content_body classes.Text = row_3 ∷ []
content_body classes.Linebreak = row_3 ∷ []
content_body classes.Escape = row_3 ∷ []
content_body classes.Label = row_3 ∷ []
content_body classes.RefMarker = row_4 ∷ []
content_body classes.Raw = row_3 ∷ []
content_body classes.HeadingMarker = row_20 ∷ row_5 ∷ row_6 ∷ []
content_body classes.ListMarker = row_21 ∷ row_7 ∷ row_6 ∷ []
content_body classes.EnumMarker = row_21 ∷ row_7 ∷ row_6 ∷ []
content_body classes.TermMarker = row_22 ∷ row_8 ∷ row_6 ∷ []
content_body classes.Hash = row_9 ∷ []
content_body classes.Dollar = row_10 ∷ []
content_body classes.Plain = row_6 ∷ []
content_body classes.LeftBracket = row_11 ∷ []
content_body classes.RightBracket = row_33 ∷ row_13 ∷ row_14 ∷ []
content_body classes.Colon = row_6 ∷ []
content_body classes.Star = row_15 ∷ []
content_body classes.Underscore = row_16 ∷ []
content_body _ = row_2 ∷ []

-- the rest of a row of `item`, once the frame that it opened has returned
abbrev pub item_rest1 : Class → List Row
item_rest1 _ = row_34 ∷ []

-- the rest of a row of `item`, once the frame that it opened has returned
abbrev pub item_rest2 : Class → List Row
item_rest2 _ = row_35 ∷ []

-- the rest of a row of `term.head`, once the frame that it opened has returned
abbrev pub term_head_rest : Class → List Row
term_head_rest _ = row_36 ∷ []

-- the rest of a row of `term.colon`, once the frame that it opened has returned
abbrev pub term_colon_rest1 : Class → List Row
term_colon_rest1 _ = row_37 ∷ []

-- the rest of a row of `term.colon`, once the frame that it opened has returned
abbrev pub term_colon_rest2 : Class → List Row
term_colon_rest2 _ = row_37 ∷ []

-- the rest of a row of `reference.supplement`, once the frame that it opened has returned
abbrev pub reference_supplement_rest : Class → List Row
reference_supplement_rest _ = row_29 ∷ []
