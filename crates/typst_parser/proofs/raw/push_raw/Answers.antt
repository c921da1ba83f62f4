use Rattle.std.proofs.Common.{rules, ◌≡◌, ◌++◌, ◌∷◌, ◌-◌, [], length}
use Rattle.typst_base.specs.declared.kind.SyntaxKind.TheVariants as kinds
use Rattle.typst_parser.specs.Raw.{close_len, inner_events, open_len}
use Rattle.typst_parser.specs.declared.event.Event.TheVariants.{Leaf}
use Rattle.typst_parser.proofs.RawLines.{raw_is}
use Rattle.typst_parser.proofs.raw.push_raw.Goals as goal

pub returns : goal.returns
returns c =
    let bs = c.args.text.now in
    let old = c.args.events.now.items in
    let one : c.push.new.self.items ≡ old ++ Leaf kinds.RawDelim (open_len bs) ∷ [] = search rules in
    let two : c.push_inner.new.events.items ≡ c.push.new.self.items ++ inner_events (open_len bs) bs = search rules in
    let three : c.push-2.new.self.items ≡ c.push_inner.new.events.items ++ Leaf kinds.RawDelim (close_len (open_len bs) bs) ∷ [] = search rules in
    raw_is old c.push.new.self.items c.push_inner.new.events.items c.push-2.new.self.items c.push-3.new.self.items bs (length c.push-2.new.self.items - length old) one two three (search rules) (search rules)
