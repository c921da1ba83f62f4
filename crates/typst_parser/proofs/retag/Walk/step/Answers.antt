use Rattle.std.proofs.Common.{rules, ◌≡◌, ◌++◌, ◌-◌, ◌∙◌, ap, drop, take}
use Rattle.typst_parser.specs.Events.{bytes, bytes_of}
use Rattle.typst_parser.specs.Retag.{effect_of, gone, maps_below, put_back}
use Rattle.typst_parser.specs.Walks.{Walk, walk_of}
use Rattle.typst_parser.proofs.Walking.{walk_step}
use Rattle.typst_parser.proofs.retag.Walk.step.Goals as goal

pub returns-clause-step : goal.returns-clause-step
returns-clause-step c =
    let old : Walk = walk_of c.args.self.now in
    let new : Walk = walk_of c.skip.new.self in
    let e = c.args.event in
    let f = c.effect_of-effect.result in
    let f_is : f ≡ effect_of c.args.map e = search rules in
    let put : walk_of c.put.new.self ≡ record old { done = old.done ++ put_back f old.end e old.events } = search rules in
    let done_is : new.done ≡ old.done ++ put_back f old.end e old.events = c.skip.ensures.done ∙ ap (λ (w : Walk). w.done) put in
    let maps_is : new.maps ≡ maps_below f e old.events ++ old.maps = search rules in
    let events_is : new.events ≡ drop (gone f e old.events) old.events = search rules in
    let end_is : new.end ≡ old.end - bytes_of e - bytes (take (gone f e old.events) old.events) = search rules in
    walk_step c.args.map e old new f f_is done_is maps_is events_is end_is
