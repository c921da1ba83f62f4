use Rattle.std.proofs.Common.{◌≡◌, refl, subst, sym}
use Rattle.std.specs.Prelude.{IsSomeAnd}
use Rattle.typst_node.specs.Paths.{IsPath}
use Rattle.typst_session.specs.Finding.{place_in}
use Rattle.typst_session.proofs.OwnPlaces.{own_place}
use Rattle.typst_session.proofs.session.Session.linked_at.Goals as goal

pub unreachable-requires : goal.unreachable-requires
unreachable-requires c =
    let there : IsPath c.args.path.now c.in-Some.root.now = c.in-Some-node_at.ensures.some.0 refl in
    let found = own_place c.in-Some.root.now c.in-Some-node_at.node.now c.new.result c.span.result c.args.path.now c.in_ok-node.field-0
    c.new.ensures.root c.new.ensures.path c.in-Some.ensures.numbered there c.in-Some-node_at.ensures.node c.span.ensures c.in_ok-node.ensures.own in
    cc

pub returns-clause-ok : goal.returns-clause-ok
returns-clause-ok c =
    let there : IsPath c.args.path.now c.in-Some.root.now = c.in-Some-node_at.ensures.some.0 refl in
    let found = own_place c.in-Some.root.now c.in-Some-node_at.node.now c.new.result c.span.result c.args.path.now c.in_ok-node.field-0
    c.new.ensures.root c.new.ensures.path c.in-Some.ensures.numbered there c.in-Some-node_at.ensures.node c.span.ensures c.in_ok-node.ensures.own in
    let same : c.in-Some-2.node ≡ place_in c.in-Some.root.now c.args.path.now = cc in
    subst (λ o. IsSomeAnd o (λ root. IsPath c.args.path.now root × (c.in-Some-2.node ≡ place_in root c.args.path.now))) (sym c.in-Some.ensures.root) (there, same)
