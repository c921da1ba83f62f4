use Rattle.std.proofs.Common.{◌<◌, ◌^◌, length, arith}
use Rattle.std.proofs.lemmas.Grind.{common_steps}
use Rattle.typst_parser.proofs.Within.{token_fits}
use Rattle.typst_parser.proofs.read.token_at.Goals as goal

pub returns-clause-fits : goal.returns-clause-fits
returns-clause-fits c =
    let some : 0 < length c.rest_at-rest.result.now = grind (arith, common_steps) in
    let small : length c.args.text.now < 2 ^ 63 = grind (arith, common_steps) in
    token_fits c.args.mode c.args.place.behind c.args.place.at c.args.text.now c.rest_at-rest.result.now c.token_of_bytes.result c.token_of_bytes.ensures c.rest_at-rest.ensures some small
