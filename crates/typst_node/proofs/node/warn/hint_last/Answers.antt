use Rattle.std.proofs.Common.{◌-◌, [], ◌∷◌, ap, ◌∙◌, arith, reverse}
use Rattle.std.proofs.lemmas.Result.{err_from_is_err_and}
use Rattle.std.proofs.Math.Seq.{map-set_same}
use Rattle.typst_node.specs.Hints.{hint_one}
use Rattle.typst_node.specs.View.{hint_text, warning_text}
use Rattle.typst_node.proofs.HintLemmas.{shown_set_last, pushed_hint, same_hints}
use Rattle.typst_node.proofs.node.warn.hint_last.Goals as goal

pub returns-in_err-push-clause-err : goal.returns-in_err-push-clause-err
returns-in_err-push-clause-err c =
    let p = err_from_is_err_and c.from_residual.result c.from_residual.ensures.1 in
    rw p.1
    (ap reverse
    (map-set_same warning_text c.args.warnings.now.items (c.len-last.result - 1) _ c.index_mut.result.now
    (same_hints c.index_mut.result.now c.push.new.self c.in_err-push.ensures.items ∙ ap warning_text c.index_mut.ensures.value)))

pub returns-clause-ok : goal.returns-clause-ok
returns-clause-ok c =
    let more = hint_text c.args.hint ∷ [] in
    shown_set_last c.args.warnings.now.items (c.len-last.result - 1) _ c.index_mut.result.now more (omega arith)
    (pushed_hint c.index_mut.result.now c.push.new.self c.args.hint c.in_ok-push.ensures.items ∙ ap (λ w. hint_one more (warning_text w)) c.index_mut.ensures.value)
