use Rattle.std.proofs.Common.{rules, arith, ap, ◌∙◌, ◌≡◌, ◌≤◌, ◌+◌, ◌-◌, ◌++◌, ◌∷◌, [], true, length, min, reverse, take}
use Rattle.typst_parser.specs.Events.{bytes_of, kind_of}
use Rattle.typst_parser.specs.Mistakes.{can_be_mistaken}
use Rattle.typst_parser.specs.Spans.{children_of, span, width}
use Rattle.typst_parser.specs.declared.event.Event.TheVariants.{Error}
use Rattle.typst_parser.specs.declared.fault.Fault.TheVariants as faults
use Rattle.typst_parser.proofs.Mistaking.{capped_twice, mistake_is}
use Rattle.typst_parser.proofs.mistake.mistake.Goals as goal

pub returns-in_ok-push : goal.returns-in_ok-push
returns-in_ok-push c =
    let all = c.args.events.now.items in
    let front = c.pop.new.self.items in
    let e = c.in-Some.event in
    let all_is : all ≡ front ++ e ∷ [] = c.in-Some.ensures.items in
    let can : can_be_mistaken (reverse all) ≡ true = search rules in
    let children : c.width.result ≡ min (width (children_of e) (reverse front)) 0xFFFF_FFFF_FFFF_FFFF = search rules in
    let len : c.saturating_add-bytes.result ≡ min (bytes_of e + width (children_of e) (reverse front)) 0xFFFF_FFFF_FFFF_FFFF = omega (arith, c.saturating_add-bytes.ensures, c.len.ensures, children) in
    let fits : c.args.end ≤ 0xFFFF_FFFF_FFFF_FFFF = search rules in
    let capped : c.min.result ≡ min (bytes_of e + width (children_of e) (reverse front)) c.args.end = c.min.ensures ∙ ap (λ n. min n c.args.end) len ∙ capped_twice (bytes_of e + width (children_of e) (reverse front)) c.args.end fits in
    let new : c.push.new.self.items ≡ take (length front - span (children_of e) (reverse front)) front ++ Error (faults.Mistake c.args.what (kind_of e)) c.min.result ∷ [] = search rules in
    mistake_is c.args.what c.args.end all front e c.min.result c.push.new.self.items all_is can capped new
