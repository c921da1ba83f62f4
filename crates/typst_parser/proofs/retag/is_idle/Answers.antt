use Rattle.std.proofs.Common.{rules, ◌≡◌, ◌-◌, ◌∙◌, [], Some, ap, length, sym}
use Rattle.std.specs.List.{slice_get}
use Rattle.typst_parser.specs.Events.{kind_of}
use Rattle.typst_parser.proofs.Walking.{idle_at, nothing}
use Rattle.typst_grammar.specs.Maps.{changes}
use Rattle.typst_parser.proofs.retag.is_idle.Goals as goal

pub returns-in-Some : goal.returns-in-Some
returns-in-Some c is =
    let es = c.args.events.now in
    let last : slice_get es (length es - 1) ≡ Some c.in-Some.event.now = search rules in
    let none : changes c.args.map (kind_of c.in-Some.event.now) ≡ [] =
    sym (c.changes.ensures ∙ ap (changes c.args.map) c.kind.ensures) ∙ nothing c.changes.result.now (sym c.is_empty.ensures ∙ is) in
    idle_at c.args.map es c.in-Some.event.now last none
