use Rattle.std.proofs.Common.{◌≡◌, ◌∙◌, ap, length, rules}
use Rattle.typst_shown.specs.Rows.{rows_of}
use Rattle.typst_shown.proofs.RowFacts.{length-rows}
use Rattle.typst_shown.proofs.listed.rows.Goals as goal

pub returns-clause-many : goal.returns-clause-many
returns-clause-many c =
    let each : c.loop-node.rows.items ≡ rows_of c.args.root.now = search rules in
    ap length each ∙ length-rows c.args.root.now
