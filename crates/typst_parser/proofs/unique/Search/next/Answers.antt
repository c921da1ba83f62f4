use Rattle.std.proofs.Common.{rules, ◌≡◌, ◌-◌, ◌++◌, ◌∷◌, ◌∙◌, [], ap, min, refl, reverse, sym, take, arith}
use Rattle.std.specs.Option.{option_map}
use Rattle.typst_parser.specs.FoundViews.{found_of}
use Rattle.typst_parser.specs.Events.{but_last, bytes_of, kind_of, last_some}
use Rattle.typst_parser.specs.Roles.{first_role, others_role}
use Rattle.typst_parser.specs.Spans.{children_of}
use Rattle.typst_parser.specs.Unique.{child_roles, found_back, found_in}
use Rattle.typst_parser.specs.declared.event.Event.{Event}
use Rattle.typst_parser.proofs.Finding.{find_next, found_none, no_roles}
use Rattle.typst_parser.proofs.Spanning.{reverse-push}
use Rattle.typst_parser.proofs.Walking.{popped_none}
use Rattle.typst_parser.proofs.unique.Search.next.Goals as goal

pub returns-in_default-clause-next : goal.returns-in_default-clause-next
returns-in_default-clause-next c =
    let s = c.args.self.now in
    let back = reverse (take s.left c.args.events.now) in
    let none = popped_none _ s.roles.items c.pop.new.self.items c.in_default.ensures.cases.0 c.in_default.ensures.rest c.in_default.ensures.items in
    ap (λ rs. found_back c.args.what (reverse rs) s.text.now back) none.0 ∙ no_roles c.args.what s.text.now back

pub returns-then-self-eq0-clause-next : goal.returns-then-self-eq0-clause-next
returns-then-self-eq0-clause-next c =
    let s = c.args.self.now in
    ap (λ n. found_back c.args.what (reverse s.roles.items) s.text.now (reverse (take n c.args.events.now))) c.if-self-eq0.true
    ∙ found_none c.args.what (reverse s.roles.items) s.text.now

pub returns-clause-next : goal.returns-clause-next
returns-clause-next c =
    let what = c.args.what in
    let all = c.args.events.now in
    let left = c.args.self.now.left in
    let e : Event = c.event_at-event.result in
    let role = c.in-Some.role in
    let rest = c.args.self.now.text.now in
    let piece = c.split_at.result.1.now in
    let under = c.pop.new.self.items in
    let piece_is : piece ≡ last_some (bytes_of e) rest = search rules in
    let before_is : c.split_at.result.0.now ≡ but_last (bytes_of e) rest = search rules in
    let new_is : reverse c.push_below.new.roles.items ≡ child_roles (first_role role (kind_of e) (left - 1)) (others_role role (kind_of e) (left - 1)) (min (children_of e) (left - 1)) ++ reverse under = search rules in
    let one : option_map found_of c.found_in.result ≡ found_in what role (kind_of e) piece = search rules in
    let roles_are : reverse c.args.self.now.roles.items ≡ role ∷ reverse under = ap reverse c.in-Some.ensures.items ∙ reverse-push under role in
    sym (find_next what all left e e role (reverse under) (reverse c.push_below.new.roles.items) rest c.split_at.result.0.now piece [] (option_map found_of c.found_in.result ∷ []) _ (children_of e)
    (omega arith) (omega arith) refl (c.event_at-event.ensures e) piece_is before_is new_is (ap (λ f. f ∷ []) one)
    (sym (ap (λ rs. found_back what rs rest (reverse (take left all))) roles_are)))
