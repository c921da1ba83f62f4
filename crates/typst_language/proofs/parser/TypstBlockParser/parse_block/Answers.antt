use Rattle.std.proofs.Common.{sym, subst}
use Rattle.std.specs.Prelude.{IfOk}
use Rattle.typst_node.specs.Count.{SumsFit}
use Rattle.typst_parser.specs.Rows.{Table}
use Rattle.typst_source.specs.Parsed.{IsParsedBlock}
use Rattle.typst_language.specs.Block.{first_by}
use Rattle.typst_language.proofs.parser.TypstBlockParser.parse_block.Goals as goal

pub returns-clause-parsed : goal.returns-clause-parsed
returns-clause-parsed c = subst (λ (t : Table). IfOk c.parse_by.result (IsParsedBlock (first_by t c.args.text.now))) c.bounds.ensures c.parse_by.ensures.parsed

pub returns-clause-overflow : goal.returns-clause-overflow
returns-clause-overflow c is fits =
    c.parse_by.ensures.overflow is (subst (λ (t : Table). SumsFit (first_by t c.args.text.now).trees) (sym c.bounds.ensures) fits)
