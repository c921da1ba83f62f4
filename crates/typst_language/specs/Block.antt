-- The first block of a text: what the machine makes of it by the rows of the whole syntax, or of markup alone.
use Rattle.std.specs.Prelude.{ℕ, List, false}
use Rattle.typst_parser.specs.FirstBlock.{first_block}
use Rattle.typst_parser.specs.Rows.{Table}
use Rattle.typst_parser.specs.View.{rows_of_table}
use Rattle.typst_grammar.specs.Table.{mode_of, rows}
use Rattle.typst_source.specs.Blocks.{Block}

-- the table of the language: its rows, how the lexer reads in each state, how many deep frames may be open, how often a
-- token is looked at, and how many levels a node may have
unfoldable pub language : Table
language = record { rows = rows; modes = mode_of; most_deep = 64; most_looks = 1024; most_levels = 255 }

-- the table of markup alone: the same, but a hash and a dollar are text
unfoldable pub markup : Table
markup = record { rows = rows_of_table false; modes = mode_of; most_deep = 64; most_looks = 1024; most_levels = 255 }

-- the first block of a text by a table
abbrev pub first_by : Table → List ℕ → Block
first_by t text = let block = first_block t text in record { len = block.len; reach = block.reach; trees = block.trees }

-- the first block of a text of Typst
abbrev pub first : List ℕ → Block
first text = first_by language text

-- the first block of a text of markup alone
abbrev pub first_of_markup : List ℕ → Block
first_of_markup text = first_by markup text
