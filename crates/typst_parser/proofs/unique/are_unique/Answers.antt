use Rattle.std.proofs.Common.{◌≡◌, ◌∷◌, ◌∙◌, [], false, ap, refl, reverse, sym, arith}
use Rattle.std.specs.Option.{is_some}
use Rattle.typst_parser.specs.Roles.{root_role}
use Rattle.typst_parser.specs.Seen.{fault_if_seen}
use Rattle.typst_parser.specs.Unique.{faults_of, found_back}
use Rattle.typst_parser.proofs.Finding.{faultless}
use Rattle.typst_parser.proofs.Fresh.{fresh_end, fresh_next}
use Rattle.typst_parser.proofs.unique.are_unique.Goals as goal

pub loop-search-preserved : goal.loop-search-preserved
loop-search-preserved c =
    let next = rw c.in-Some.is at c.in_ok-one.ensures.next in
    let none : is_some (fault_if_seen c.loop-search.seen c.in-Some.one) ≡ false =
    ap is_some (sym c.in_ok-see_any.ensures.fault) ∙ sym c.is_some.ensures ∙ c.if-is_some.false in
    record {
      within = omega arith;
      fresh = fresh_next c.loop-search.seen c.see_any.new.seen c.in-Some.one _ _ _ c.loop-search.invariant.fresh next c.in_ok-see_any.ensures.seen none;
    }

pub returns : goal.returns
returns c _ =
    let none = rw c.in_default.is at c.in_ok-one.ensures.next in
    let whole = found_back c.args.what (root_role c.args.what ∷ []) c.args.text.now (reverse c.args.events.now) in
    faultless c.args.what c.args.text.now c.args.events.now (faults_of whole) refl
    (fresh_end c.loop-search.seen _ whole c.loop-search.invariant.fresh none)
