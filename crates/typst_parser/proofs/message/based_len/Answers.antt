use Rattle.std.proofs.Common.{◌∙◌, ap, sym}
use Rattle.std.proofs.lemmas.List.{take_rest}
use Rattle.std.specs.Char.{is_ascii_alphanumeric, is_ascii_digit}
use Rattle.std.specs.List.{prefix_len}
use Rattle.typst_parser.proofs.Boundaries.{based_boundary, letter_ascii, prefix_boundary}
use Rattle.typst_parser.proofs.message.based_len.Goals as goal

pub returns-then-has_digits-clause-boundary : goal.returns-then-has_digits-clause-boundary
returns-then-has_digits-clause-boundary c =
    based_boundary c.args.text.now c.as_bytes-bytes.result.now c.digits.result c.utf8.text c.as_bytes-bytes.ensures.value
    (c.has_digits.ensures.some c.if-has_digits.true) (sym c.has_digits.ensures.mark ∙ c.if-has_digits.true)
    (c.digits.ensures.len ∙ ap (prefix_len is_ascii_digit) (take_rest c.as_bytes-bytes.result.now 2))

pub returns-else-has_digits-clause-boundary : goal.returns-else-has_digits-clause-boundary
returns-else-has_digits-clause-boundary c =
    prefix_boundary is_ascii_alphanumeric letter_ascii c.args.text.now c.as_bytes-bytes.result.now c.letters.result c.utf8.text c.as_bytes-bytes.ensures.value c.letters.ensures.len
