use Rattle.std.proofs.Common.{◌-◌, ◌∙◌, ap, length, min, reverse, take}
use Rattle.std.proofs.lemmas.List.{take_rest}
use Rattle.typst_parser.specs.Events.{bytes}
use Rattle.typst_parser.proofs.Spanning.{last_bytes}
use Rattle.typst_parser.proofs.span.width.Goals as goal

pub returns : goal.returns
returns c =
    let all = c.args.events.now in
    c.capped_bytes.ensures
    ∙ ap (λ n. min n 0xFFFF_FFFF_FFFF_FFFF)
    (ap bytes (take_rest all (length all - c.span.result)) ∙ last_bytes c.span.result all ∙ ap (λ n. bytes (take n (reverse all))) c.span.ensures.span)
