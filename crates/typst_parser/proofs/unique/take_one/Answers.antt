use Rattle.std.proofs.Common.{rules, ◌≡◌, ◌-◌, ◌∙◌, ap, drop, length, reverse, sym, take}
use Rattle.typst_parser.specs.Spans.{children_of, span}
use Rattle.typst_parser.specs.Unique.{fault_gone}
use Rattle.typst_parser.proofs.Spanning.{reverse-but_last}
use Rattle.typst_parser.proofs.unique.take_one.Goals as goal

pub returns-clause-events : goal.returns-clause-events
returns-clause-events c =
    let items = c.args.events.now.items in
    let e = c.args.event in
    let count : c.len-2.result ≡ length items = search rules in
    let spans : c.span-gone.result ≡ span (children_of e) (reverse items) = search rules in
    let gone : c.span-gone.result ≡ fault_gone c.args.fault e (reverse items) = spans ∙ sym (ap (λ f. fault_gone f e (reverse items)) c.in-Some.is) in
    ap reverse (c.truncate.ensures.items ∙ ap (λ n. take (n - c.span-gone.result) items) count) ∙ reverse-but_last c.span-gone.result items ∙ ap (λ n. drop n (reverse items)) gone
