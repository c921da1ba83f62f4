use Rattle.std.proofs.Common.{◌≡◌, ◌+◌, ◌-◌, ◌++◌, ◌∙◌, ap, drop, length, min, reverse, refl, sym, arith}
use Rattle.typst_parser.specs.Unique.{faulted_back}
use Rattle.typst_parser.proofs.Finding.{take_all, take_next, take_none}
use Rattle.typst_parser.proofs.Spanning.{reverse-push}
use Rattle.typst_parser.proofs.Walking.{popped_none}
use Rattle.typst_parser.proofs.unique.take_faulted.Goals as goal

pub loop-at-preserved : goal.loop-at-preserved
loop-at-preserved c =
    let faults = c.args.faults.now in
    let after = reverse c.pop.new.self.items in
    let gone = c.in_ok-gone.gone in
    let back : reverse c.take_one.new.events.items ≡ drop gone after = c.in_ok-gone.ensures.events ∙ ap (λ n. drop n after) (sym c.in_ok-gone.ensures.gone) in
    let next : c.loop-at.at + (1 + c.min.result) ≡ c.loop-at.at + 1 + min gone (length faults - c.loop-at.at - 1) = omega (arith, c.min.ensures) in
    ap (λ es. c.take_one.new.taken.items ++ faulted_back 0 c.args.end (drop (c.loop-at.at + (1 + c.min.result)) faults) es) back
    ∙ take_next faults c.loop-at.at gone (c.loop-at.at + (1 + c.min.result)) c.args.end _ _ c.in-Some.event (reverse c.loop-at.events.items) after c.loop-at.taken.items c.take_one.new.taken.items _
    c.loop-at-test.true refl (ap reverse c.in-Some.ensures.items ∙ reverse-push c.pop.new.self.items c.in-Some.event) c.in_ok-gone.ensures.taken c.in_ok-gone.ensures.gone next c.loop-at.invariant

pub returns-in_default : goal.returns-in_default
returns-in_default c =
    let none = popped_none _ c.loop-at.events.items c.pop.new.self.items c.in_default.ensures.cases.0 c.in_default.ensures.rest c.in_default.ensures.items in
    take_none c.args.faults.now c.loop-at.at c.args.end (reverse c.loop-at.events.items) c.loop-at.taken.items (reverse c.pop.new.self.items) _ (ap reverse none.0) (ap reverse none.1) c.loop-at.invariant

pub returns : goal.returns
returns c = take_all c.args.faults.now c.loop-at.at c.args.end (reverse c.loop-at.events.items) c.loop-at.taken.items _ (omega arith) c.loop-at.invariant
