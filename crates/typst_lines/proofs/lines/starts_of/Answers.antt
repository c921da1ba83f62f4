use Rattle.std.proofs.Common.{◌≡◌, ◌+◌, ◌≤◌, true, false, ap, sym, ◌∙◌, arith}
use Rattle.std.proofs.lemmas.Grind.{common_steps}
use Rattle.typst_lines.specs.LineStarts.{begins_line}
use Rattle.typst_lines.proofs.Picked.{picked-more_yes, picked-more_no}
use Rattle.typst_lines.proofs.Seams.{begins-first}
use Rattle.typst_lines.proofs.lines.starts_of.Goals as goal
use Rattle.typst_lines.proofs.lines.starts_of.Goals.{then-begins_line+in_ok-push-2, else-begins_line}

pub loop-at-init : goal.loop-at-init
loop-at-init c = let e = begins-first c.args.ends c.args.text.now in grind (arith, common_steps)

pub loop-at-preserved : goal.loop-at-preserved
loop-at-preserved c =
    let text = c.args.text.now in
    let low : 0 ≤ c.loop-at.at + 1 = omega arith in
    let same : c.begins_line.result ≡ begins_line c.args.ends text (c.loop-at.at + 1) = c.begins_line.ensures ∙ ap (λ t. begins_line c.whole_text-parts.result.ends t (c.loop-at.at + 1)) c.whole_text-parts.ensures.text ∙ ap (λ ends. begins_line ends text (c.loop-at.at + 1)) c.whole_text-parts.ensures.ends in
    elim c.if-begins_line.branch [
      | then-begins_line+in_ok-push-2 w ↦
          let e : begins_line c.args.ends text (c.loop-at.at + 1) ≡ true = sym same ∙ w.if-begins_line.true in
          let more = picked-more_yes (begins_line c.args.ends text) 0 (c.loop-at.at + 1) low e in
          let is = ap (λ v. v.items) w.starts-is in
          grind (arith, common_steps)
      | else-begins_line w ↦
          let e : begins_line c.args.ends text (c.loop-at.at + 1) ≡ false = sym same ∙ w.if-begins_line.false in
          ap (λ v. v.items) w.starts-is ∙ c.loop-at.invariant ∙ sym (picked-more_no (begins_line c.args.ends text) 0 (c.loop-at.at + 1) low e)
    ]
