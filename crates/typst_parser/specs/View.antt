-- How contracts see the code's table, rows and stack.
use Rattle.std.specs.Prelude.{◌≡◌, Bool, List, Option, if◌then◌else◌}
use Rattle.std.specs.Option.{option_map}
use Rattle.typst_grammar.specs.Row.{Row, row_of}
use Rattle.typst_grammar.specs.declared.row.Row.{Row as CodeRow}
use Rattle.typst_grammar.specs.Table.{mode_of, rows}
use Rattle.typst_grammar.specs.declared.rows.Class.{Class}
use Rattle.typst_grammar.specs.declared.rows.State.{State}
use Rattle.typst_parser.specs.declared.block.FirstBlock.{FirstBlock as CodeBlock}
use Rattle.typst_parser.specs.FirstBlock.{FirstBlock}
use Rattle.typst_parser.specs.declared.stack.Stack.{Stack as CodeStack}
use Rattle.typst_parser.specs.declared.table.Table.{Table as CodeTable}
use Rattle.typst_parser.specs.Rows.{Table, as_markup}
use Rattle.typst_parser.specs.Stack.{Stack}
use denote.Ref.{Bor}

-- how contracts see the code's stack
abbrev pub stack_of : CodeStack → Stack
stack_of s = record {
  events = s.events.items;
  white = s.white.items;
  missing = s.missing;
  from = s.from;
  next = s.next;
  far = s.far;
  phase = s.phase;
  top = s.top;
  below = s.below.items;
  judge = s.judge;
}

-- the rows of the grammar, where a hash and a dollar are text if nothing is embedded
abbrev pub rows_of_table : Bool → State → Class → List Row
rows_of_table embeds state class = rows state (if embeds then class else as_markup class)

-- how contracts see the code's table
abbrev pub table_of : CodeTable → Table
table_of t = record { rows = rows_of_table t.embeds; modes = mode_of; most_deep = t.most_deep; most_looks = t.most_looks; most_levels = t.most_levels }

-- a row that was found
abbrev pub found_of : Option (Bor CodeRow) → Option Row
found_of found = option_map (λ r. row_of r.now) found

-- what was made is the block
pub record IsBlock (block : FirstBlock) (made : CodeBlock) : Type 0 where
  pub len : made.len ≡ block.len
  pub reach : made.reach ≡ block.reach
  pub trees : made.nodes.items ≡ block.trees
