use Rattle.std.proofs.Common.{refl}
use Rattle.typst_parser.specs.View.{table_of}
use Rattle.typst_language.proofs.Made.{made}
use Rattle.typst_language.proofs.parser.parse_by.Goals as goal

pub returns-clause-parsed : goal.returns-clause-parsed
returns-clause-parsed c = made (table_of c.args.table.now) c.args.text.now c.in_ok-block.block _ c.in_ok-block.ensures.block refl refl refl
