-- Written by bench/grammar_crate.py from crates/grammar.table: change that and run it.
-- The rows of names and blocks of code.
use Rattle.std.specs.Prelude.{List, [], ◌∷◌, true, false, Some, None}
use Rattle.typst_base.specs.declared.kind.SyntaxKind.TheVariants as kinds
use Rattle.typst_grammar.specs.declared.expectation.Expectation.TheVariants as expectations
use Rattle.typst_grammar.specs.declared.row.Action.TheVariants as actions
use Rattle.typst_grammar.specs.declared.row.Condition.TheVariants as conditions
use Rattle.typst_grammar.specs.declared.row.Newline.TheVariants as newlines
use Rattle.typst_grammar.specs.declared.row.Take.TheVariants as takes
use Rattle.typst_grammar.specs.declared.rows.Class.TheVariants as classes
use Rattle.typst_grammar.specs.declared.rows.State.TheVariants as states
use Rattle.typst_grammar.specs.declared.rows.Class.{Class}
use Rattle.typst_grammar.specs.Row.{Row}

abbrev pub row_0 : Row
row_0 = record {
  condition = conditions.Always;
  before = actions.Expected expectations.Identifier ∷ actions.Return ∷ [];
  take = takes.Nothing;
  after = [];
  call = None;
}

abbrev pub row_1 : Row
row_1 = record {
  condition = conditions.Always;
  before = [];
  take = takes.Eat;
  after = actions.Return ∷ [];
  call = None;
}

abbrev pub row_2 : Row
row_2 = record {
  condition = conditions.Always;
  before = [];
  take = takes.Mistake expectations.Identifier;
  after = actions.Return ∷ [];
  call = None;
}

abbrev pub row_3 : Row
row_3 = record {
  condition = conditions.Always;
  before = [];
  take = takes.Eat;
  after = [];
  call = Some (record { state = states.Code; number = 0; enters = true; is_deep = false; newline = None });
}

abbrev pub row_4 : Row
row_4 = record {
  condition = conditions.Always;
  before = actions.Flush ∷ actions.Wrap kinds.Code ∷ actions.Return ∷ actions.Unclosed ∷ actions.Wrap kinds.CodeBlock ∷ actions.Return ∷ [];
  take = takes.Nothing;
  after = [];
  call = None;
}

abbrev pub row_5 : Row
row_5 = record {
  condition = conditions.Always;
  before = [];
  take = takes.Unexpected;
  after = [];
  call = None;
}

abbrev pub row_6 : Row
row_6 = record {
  condition = conditions.Always;
  before = actions.Goto states.CodeEnd ∷ [];
  take = takes.Nothing;
  after = [];
  call = Some (record { state = states.Statement; number = 1; enters = false; is_deep = false; newline = Some newlines.Context });
}

abbrev pub row_7 : Row
row_7 = record {
  condition = conditions.Always;
  before = actions.Flush ∷ actions.Wrap kinds.Code ∷ actions.Return ∷ [];
  take = takes.Eat;
  after = actions.Wrap kinds.CodeBlock ∷ actions.Return ∷ [];
  call = None;
}

abbrev pub row_8 : Row
row_8 = record {
  condition = conditions.Newline;
  before = actions.Goto states.Code ∷ [];
  take = takes.Nothing;
  after = [];
  call = None;
}

abbrev pub row_9 : Row
row_9 = record {
  condition = conditions.Always;
  before = actions.Expected expectations.SemicolonOrLineBreak ∷ actions.Goto states.Code ∷ [];
  take = takes.Nothing;
  after = [];
  call = None;
}

abbrev pub row_10 : Row
row_10 = record {
  condition = conditions.Always;
  before = [];
  take = takes.Eat;
  after = actions.Goto states.Code ∷ [];
  call = None;
}

-- a name
abbrev pub name : Class → List Row
name classes.Ident = row_1 ∷ []
name classes.Constant = row_2 ∷ []
name classes.Not = row_2 ∷ []
name classes.And = row_2 ∷ []
name classes.Or = row_2 ∷ []
name classes.Let = row_2 ∷ []
name classes.Set = row_2 ∷ []
name classes.Show = row_2 ∷ []
name classes.Context = row_2 ∷ []
name classes.If = row_2 ∷ []
name classes.Else = row_2 ∷ []
name classes.For = row_2 ∷ []
name classes.In = row_2 ∷ []
name classes.While = row_2 ∷ []
name classes.Break = row_2 ∷ []
name classes.Continue = row_2 ∷ []
name classes.Return = row_2 ∷ []
name classes.Import = row_2 ∷ []
name classes.Include = row_2 ∷ []
name classes.As = row_2 ∷ []
name _ = row_0 ∷ []

-- a block of code
abbrev pub braces : Class → List Row
braces classes.LeftBrace = row_3 ∷ []
braces _ = []

-- the expressions of a block of code
abbrev pub code : Class → List Row
code classes.End = row_4 ∷ []
code classes.Label = row_6 ∷ []
code classes.Raw = row_6 ∷ []
code classes.Dollar = row_6 ∷ []
code classes.LeftBrace = row_6 ∷ []
code classes.RightBrace = row_7 ∷ []
code classes.LeftBracket = row_6 ∷ []
code classes.RightBracket = row_4 ∷ []
code classes.LeftParen = row_6 ∷ []
code classes.RightParen = row_4 ∷ []
code classes.Underscore = row_6 ∷ []
code classes.Sign = row_6 ∷ []
code classes.Ident = row_6 ∷ []
code classes.Str = row_6 ∷ []
code classes.Literal = row_6 ∷ []
code classes.Constant = row_6 ∷ []
code classes.Not = row_6 ∷ []
code classes.Let = row_6 ∷ []
code classes.Set = row_6 ∷ []
code classes.Show = row_6 ∷ []
code classes.Context = row_6 ∷ []
code classes.If = row_6 ∷ []
code classes.For = row_6 ∷ []
code classes.While = row_6 ∷ []
code classes.Break = row_6 ∷ []
code classes.Continue = row_6 ∷ []
code classes.Return = row_6 ∷ []
code classes.Import = row_6 ∷ []
code classes.Include = row_6 ∷ []
code _ = row_5 ∷ []

-- the end of an expression of a block of code
abbrev pub code_end : Class → List Row
code_end classes.End = row_8 ∷ row_4 ∷ []
code_end classes.RightBrace = row_8 ∷ row_7 ∷ []
code_end classes.RightBracket = row_8 ∷ row_4 ∷ []
code_end classes.RightParen = row_8 ∷ row_4 ∷ []
code_end classes.Semicolon = row_8 ∷ row_10 ∷ []
code_end _ = row_8 ∷ row_9 ∷ []
