use Rattle.std.proofs.Common.{rules, ◌≡◌, ◌-◌, ◌∙◌, ap, drop, length, min, reverse, take, arith}
use Rattle.std.proofs.lemmas.List.{take_rest}
use Rattle.typst_parser.specs.Events.{bytes}
use Rattle.typst_parser.proofs.Spanning.{last_bytes, reverse-but_last}
use Rattle.typst_parser.proofs.retag.Walk.skip.Goals as goal

pub returns-clause-events : goal.returns-clause-events
returns-clause-events c =
    let items = c.args.self.now.events.items in
    let count : c.len.result ≡ length items = search rules in
    ap reverse (c.truncate.ensures.items ∙ ap (λ n. take (n - c.args.events) items) count) ∙ reverse-but_last c.args.events items

pub returns-clause-end : goal.returns-clause-end
returns-clause-end c =
    let items = c.args.self.now.events.items in
    let n = c.args.events in
    let count : c.len.result ≡ length items = search rules in
    let all : c.capped_bytes-bytes.result ≡ min (bytes (take n (reverse items))) 0xFFFF_FFFF_FFFF_FFFF =
    c.capped_bytes-bytes.ensures
    ∙ ap (λ m. min m 0xFFFF_FFFF_FFFF_FFFF)
    (ap bytes (take_rest c.deref.result.now (c.len.result - n)) ∙ (λ i. bytes (drop (count i - n) (c.deref.ensures.value i))) ∙ last_bytes n items) in
    omega (arith, c.saturating_sub-self.ensures, all)
