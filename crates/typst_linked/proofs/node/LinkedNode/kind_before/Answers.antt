use Rattle.std.proofs.Common.{◌≡◌, ◌∙◌, Some, length, ap, sym, refl, arith}
use Rattle.std.specs.Prelude.{slice_get}
use Rattle.std.specs.Option.{option_map, option_and_then}
use Rattle.std.proofs.lemmas.Option.{slice_get_read}
use Rattle.typst_linked.specs.Place.{last_step}
use Rattle.typst_linked.specs.Siblings.{kind_at, siblings, before_it}
use Rattle.typst_linked.proofs.OuterModes.{before_is}
use Rattle.typst_linked.proofs.node.LinkedNode.kind_before.Goals as goal

pub returns : goal.returns
returns c =
    let k = c.in_ok-before.before in
    let ts = siblings c.args.self.now in
    let i = last_step c.args.self.now.path in
    let pick : before_it i ts ≡ Some k = before_is i k ts (omega (arith, c.in_ok-before.ensures, c.index.ensures)) (omega (arith, c.in_ok-before.ensures, c.index.ensures)) in
    let s : slice_get c.siblings-siblings.result.now k ≡ Some c.index-siblings-before.result =
    slice_get_read c.siblings-siblings.result.now (length c.siblings-siblings.result.now) k c.index-siblings-before.result refl (omega (arith, c.in_ok-before.ensures, c.index.ensures, c.siblings-siblings.ensures.within)) c.index-siblings-before.is in
    ap Some c.kind.ensures.kind
    ∙ sym (ap (option_and_then (λ j. option_map kind_at (slice_get ts j))) pick ∙ ap (λ us. option_map kind_at (slice_get us k)) (sym c.siblings-siblings.ensures.siblings) ∙ ap (option_map kind_at) s)
