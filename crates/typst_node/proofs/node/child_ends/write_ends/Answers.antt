use Rattle.std.proofs.Common.{arith, ◌≡◌, ◌+◌, ◌%◌, ◌^◌, ◌∷◌, ℕ, length, length-set, take, drop, get_or, ap, ◌∙◌}
use Rattle.std.proofs.lemmas.List.{drop-set-lt}
use Rattle.typst_node.specs.Text.{text, text_of_all}
use Rattle.typst_node.proofs.Settled.{end_before, text_more, end_more}
use Rattle.typst_node.proofs.node.child_ends.write_ends.Goals as goal

pub loop-i-preserved : goal.loop-i-preserved
loop-i-preserved c =
    let old = c.loop-i.ends in
    let ts = c.args.children.now in
    let n = c.loop-i.i in
    let start = end_before old ts n (omega arith) c.loop-i.invariant.before in
    let more = text_more ts n c.index-children-i.result (omega arith) in
    let same : length (text c.index-children-i.result) ≡ length (text (get_or ts n c.index-children-i.result)) = ap (λ t. length (text t)) c.index-children-i.is in
    let written : ℕ = (get_or (0 ∷ old) n 0 + c.low.result) % 2 ^ 32 in
    let end : written ≡ length (text_of_all (take (n + 1) ts)) % 2 ^ 32 = omega (arith, start, c.low.ensures, c.len.ensures, more, same) in
    record {
      many = ap length c.follow.ensures ∙ (length-set old n written ∙ c.loop-i.invariant.many);
      before = ap (take (n + 1)) c.follow.ensures ∙ end_more old ts n written (omega arith) (omega (arith, c.loop-i.invariant.many)) c.loop-i.invariant.before end;
      behind = ap (drop c.args.to) c.follow.ensures ∙ drop-set-lt c.args.to old n written (omega arith) ∙ c.loop-i.invariant.behind;
    }
