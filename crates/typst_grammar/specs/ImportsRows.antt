-- Written by bench/grammar_crate.py from crates/grammar.table: change that and run it.
-- The rows of imports.
use Rattle.std.specs.Prelude.{List, [], ◌∷◌, true, false, Some, None}
use Rattle.typst_base.specs.declared.kind.SyntaxKind.TheVariants as kinds
use Rattle.typst_grammar.specs.declared.expectation.Expectation.TheVariants as expectations
use Rattle.typst_grammar.specs.declared.row.Action.TheVariants as actions
use Rattle.typst_grammar.specs.declared.row.Condition.TheVariants as conditions
use Rattle.typst_grammar.specs.declared.row.Newline.TheVariants as newlines
use Rattle.typst_grammar.specs.declared.row.Take.TheVariants as takes
use Rattle.typst_grammar.specs.declared.rows.Class.TheVariants as classes
use Rattle.typst_grammar.specs.declared.rows.State.TheVariants as states
use Rattle.typst_grammar.specs.declared.rows.Class.{Class}
use Rattle.typst_grammar.specs.Row.{Row}

abbrev pub row_0 : Row
row_0 = record {
  condition = conditions.Always;
  before = actions.Wrap kinds.ModuleImport ∷ actions.Goto states.ExprAfter ∷ [];
  take = takes.Nothing;
  after = [];
  call = None;
}

abbrev pub row_1 : Row
row_1 = record {
  condition = conditions.Always;
  before = [];
  take = takes.Eat;
  after = actions.Goto states.ImportWhat ∷ [];
  call = None;
}

abbrev pub row_2 : Row
row_2 = record {
  condition = conditions.Always;
  before = [];
  take = takes.Eat;
  after = actions.Goto states.ImportColon ∷ [];
  call = Some (record { state = states.Name; number = 0; enters = false; is_deep = false; newline = None });
}

abbrev pub row_3 : Row
row_3 = record {
  condition = conditions.Always;
  before = actions.Goto states.ImportWhatRest2 ∷ [];
  take = takes.Nothing;
  after = [];
  call = Some (record { state = states.Imports; number = 0; enters = false; is_deep = false; newline = None });
}

abbrev pub row_4 : Row
row_4 = record {
  condition = conditions.Always;
  before = actions.Goto states.ImportWhatRest1 ∷ [];
  take = takes.Nothing;
  after = [];
  call = Some (record { state = states.ImportList; number = 0; enters = false; is_deep = true; newline = Some newlines.Go });
}

abbrev pub row_5 : Row
row_5 = record {
  condition = conditions.Always;
  before = [];
  take = takes.Eat;
  after = actions.Wrap kinds.ModuleImport ∷ actions.Goto states.ExprAfter ∷ [];
  call = None;
}

abbrev pub row_6 : Row
row_6 = record {
  condition = conditions.Always;
  before = [];
  take = takes.Eat;
  after = actions.Goto states.ImportClose ∷ [];
  call = Some (record { state = states.Imports; number = 0; enters = false; is_deep = false; newline = None });
}

abbrev pub row_7 : Row
row_7 = record {
  condition = conditions.Always;
  before = actions.Unclosed ∷ actions.Return ∷ [];
  take = takes.Nothing;
  after = [];
  call = None;
}

abbrev pub row_8 : Row
row_8 = record {
  condition = conditions.Always;
  before = [];
  take = takes.Eat;
  after = actions.Return ∷ [];
  call = None;
}

abbrev pub row_9 : Row
row_9 = record {
  condition = conditions.Always;
  before = actions.Wrap kinds.ImportItems ∷ actions.Return ∷ [];
  take = takes.Nothing;
  after = [];
  call = None;
}

abbrev pub row_10 : Row
row_10 = record {
  condition = conditions.Always;
  before = actions.Goto states.ImportsComma ∷ [];
  take = takes.Nothing;
  after = [];
  call = Some (record { state = states.Imported; number = 0; enters = false; is_deep = false; newline = None });
}

abbrev pub row_11 : Row
row_11 = record {
  condition = conditions.Always;
  before = actions.Goto states.Imports ∷ [];
  take = takes.Nothing;
  after = [];
  call = None;
}

abbrev pub row_12 : Row
row_12 = record {
  condition = conditions.Always;
  before = actions.Expected expectations.Comma ∷ actions.Goto states.Imports ∷ [];
  take = takes.Nothing;
  after = [];
  call = None;
}

abbrev pub row_13 : Row
row_13 = record {
  condition = conditions.Always;
  before = [];
  take = takes.Eat;
  after = actions.Goto states.Imports ∷ [];
  call = None;
}

abbrev pub row_14 : Row
row_14 = record {
  condition = conditions.Always;
  before = [];
  take = takes.Unexpected;
  after = actions.Goto states.ImportedPath ∷ [];
  call = None;
}

abbrev pub row_15 : Row
row_15 = record {
  condition = conditions.Always;
  before = [];
  take = takes.Eat;
  after = actions.Goto states.ImportedPath ∷ [];
  call = None;
}

abbrev pub row_16 : Row
row_16 = record {
  condition = conditions.Always;
  before = actions.Wrap kinds.ImportItemPath ∷ actions.Return ∷ [];
  take = takes.Nothing;
  after = [];
  call = None;
}

abbrev pub row_17 : Row
row_17 = record {
  condition = conditions.Always;
  before = [];
  take = takes.Eat;
  after = actions.Goto states.ImportedPath ∷ [];
  call = Some (record { state = states.Name; number = 0; enters = false; is_deep = false; newline = None });
}

abbrev pub row_18 : Row
row_18 = record {
  condition = conditions.Always;
  before = actions.Wrap kinds.ImportItemPath ∷ [];
  take = takes.Eat;
  after = actions.Goto states.ImportedPathRest ∷ [];
  call = Some (record { state = states.Name; number = 0; enters = false; is_deep = false; newline = None });
}

abbrev pub row_19 : Row
row_19 = record {
  condition = conditions.Always;
  before = actions.Wrap kinds.RenamedImportItem ∷ actions.Return ∷ [];
  take = takes.Nothing;
  after = [];
  call = None;
}

-- what follows the source of an import
abbrev pub import_as : Class → List Row
import_as classes.Colon = row_1 ∷ []
import_as classes.As = row_2 ∷ []
import_as _ = row_0 ∷ []

-- the colon of an import
abbrev pub import_colon : Class → List Row
import_colon classes.Colon = row_1 ∷ []
import_colon _ = row_0 ∷ []

-- what is imported
abbrev pub import_what : Class → List Row
import_what classes.LeftParen = row_4 ∷ []
import_what classes.Star = row_5 ∷ []
import_what _ = row_3 ∷ []

-- items of an import in a parenthesis
abbrev pub import_list : Class → List Row
import_list classes.LeftParen = row_6 ∷ []
import_list _ = []

-- the end of such items
abbrev pub import_close : Class → List Row
import_close classes.RightParen = row_8 ∷ []
import_close _ = row_7 ∷ []

-- the items of an import
abbrev pub imports : Class → List Row
imports classes.End = row_9 ∷ []
imports classes.RightBrace = row_9 ∷ []
imports classes.RightBracket = row_9 ∷ []
imports classes.RightParen = row_9 ∷ []
imports classes.Semicolon = row_9 ∷ []
imports _ = row_10 ∷ []

-- the comma behind an item of an import
abbrev pub imports_comma : Class → List Row
imports_comma classes.End = row_11 ∷ []
imports_comma classes.RightBrace = row_11 ∷ []
imports_comma classes.RightBracket = row_11 ∷ []
imports_comma classes.RightParen = row_11 ∷ []
imports_comma classes.Comma = row_13 ∷ []
imports_comma classes.Semicolon = row_11 ∷ []
imports_comma _ = row_12 ∷ []

-- an item of an import
abbrev pub imported : Class → List Row
imported classes.Ident = row_15 ∷ []
imported _ = row_14 ∷ []

-- the path of an item, and the name that it gets
abbrev pub imported_path : Class → List Row
imported_path classes.Dot = row_17 ∷ []
imported_path classes.Field = row_17 ∷ []
imported_path classes.As = row_18 ∷ []
imported_path _ = row_16 ∷ []

-- the rest of a row of `import.what`, once the frame that it opened has returned
abbrev pub import_what_rest1 : Class → List Row
import_what_rest1 _ = row_0 ∷ []

-- the rest of a row of `import.what`, once the frame that it opened has returned
abbrev pub import_what_rest2 : Class → List Row
import_what_rest2 _ = row_0 ∷ []

-- the rest of a row of `imported.path`, once the frame that it opened has returned
abbrev pub imported_path_rest : Class → List Row
imported_path_rest _ = row_19 ∷ []
