use Rattle.std.proofs.Common.{◌∙◌, ap}
use Rattle.std.proofs.lemmas.List.{take_rest}
use Rattle.typst_parser.specs.Faults.{exponent_len}
use Rattle.typst_parser.proofs.Boundaries.{number_boundary}
use Rattle.typst_parser.proofs.message.number_len.Goals as goal

pub returns-clause-boundary : goal.returns-clause-boundary
returns-clause-boundary c =
    number_boundary c.args.text.now c.as_bytes-bytes.result.now c.mantissa_len-mantissa.result c.exponent_len.result c.utf8.text c.as_bytes-bytes.ensures.value
    c.mantissa_len-mantissa.ensures.len (c.exponent_len.ensures.len ∙ ap exponent_len (take_rest c.as_bytes-bytes.result.now c.mantissa_len-mantissa.result))
