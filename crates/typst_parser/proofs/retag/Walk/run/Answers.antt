use Rattle.std.proofs.Common.{◌∙◌, ◌++◌, ap, reverse, sym}
use Rattle.typst_parser.specs.Walks.{walk_of}
use Rattle.typst_parser.proofs.Walking.{popped_none, walk_all, walk_none}
use Rattle.typst_parser.proofs.retag.Walk.run.Goals as goal

pub returns-in-None : goal.returns-in-None
returns-in-None c =
    let w = c.loop-map.self in
    let none = popped_none _ w.events.items c.pop-in-Some.new.self.items c.in-None.ensures.cases.0 c.in-None.ensures.rest c.in-None.ensures.items in
    ap (λ es. w.done.items ++ reverse es) none.1 ∙ sym (walk_all (walk_of w) (ap reverse none.0)) ∙ c.loop-map.invariant

pub returns : goal.returns
returns c =
    let w = c.loop-map.self in
    let parts = rw c.in_default.is at c.pop.ensures.cases in
    let items = rw c.in_default.is at c.pop.ensures.items in
    let none = popped_none _ w.maps.items c.pop.new.self.items parts.0 c.pop.ensures.rest items in
    sym (walk_none (walk_of w) (ap reverse none.0)) ∙ c.loop-map.invariant
