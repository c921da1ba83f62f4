-- Rows of the table.
use Rattle.std.specs.Prelude.{List, Option, map}
use Rattle.typst_grammar.specs.declared.row.Action.{Action}
use Rattle.typst_grammar.specs.declared.row.Call.{Call}
use Rattle.typst_grammar.specs.declared.row.Condition.{Condition}
use Rattle.typst_grammar.specs.declared.row.Row.{Row as CodeRow}
use Rattle.typst_grammar.specs.declared.row.Take.{Take}

-- when a row fits, what happens before the token, what becomes of the token, what happens behind it, and what opens
pub record Row : Type 0 where
  pub condition : Condition
  pub before : List Action
  pub take : Take
  pub after : List Action
  pub call : Option Call

-- how contracts see the code's rows
abbrev pub row_of : CodeRow → Row
row_of r = record { condition = r.condition; before = r.before.now; take = r.take; after = r.after.now; call = r.call }

-- how contracts see lists of the code's rows
abbrev pub rows_of : List CodeRow → List Row
rows_of rs = map row_of rs
