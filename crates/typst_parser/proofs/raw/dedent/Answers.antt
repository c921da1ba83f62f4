use Rattle.std.proofs.Common.{rules, ◌≡◌, ◌-◌, ◌∙◌, Some, ap, drop, length, map, take}
use Rattle.std.proofs.lemmas.List.{take_rest}
use Rattle.std.specs.List.{slice_get}
use Rattle.typst_parser.specs.LineViews.{line_of}
use Rattle.typst_parser.specs.Raw.{least_indent}
use Rattle.typst_parser.proofs.RawLines.{dedent_is}
use Rattle.typst_parser.proofs.raw.dedent.Goals as goal

pub returns-in-Some : goal.returns-in-Some
returns-in-Some c =
    let ls = c.args.lines.now in
    let last : slice_get ls (length ls - 1) ≡ Some c.in-Some.last.now = search rules in
    dedent_is ls (take (length ls - 1) (drop 1 ls)) c.in-Some.last.now c.least_indent.result last (take_rest ls 1)
    (c.least_indent.ensures ∙ ap (λ n. least_indent n (map line_of (take (length ls - 1) (drop 1 ls)))) c.indent.ensures)
