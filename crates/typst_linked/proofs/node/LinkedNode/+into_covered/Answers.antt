use Rattle.std.proofs.Common.{◌≡◌, ℕ, ◌-◌, ◌<◌, [], subst, sym, refl, arith}
use Rattle.std.specs.Prelude.{IsSomeAnd, Option}
use Rattle.typst_node.specs.Tree.{Tree, trees}
use Rattle.typst_linked.specs.Place.{Place, subtree}
use Rattle.typst_linked.specs.Part.{IsFirstEnding, EndsBefore}
use Rattle.typst_linked.specs.Ranges.{begin_of}
use Rattle.typst_linked.specs.LeafAt.{least_end, CoversCursor}
use Rattle.typst_linked.proofs.Covers.{child_there}
use Rattle.typst_linked.proofs.LeafWays.{part_covers, none_covers}
use Rattle.typst_linked.proofs.Searching.{count_there, smaller_turn, below-nothing}
use Rattle.typst_linked.proofs.node.LinkedNode.+into_covered.Goals as goal

pub returns-in_default : goal.returns-in_default
returns-in_default t c =
    let n = c.get.result.now in
    let same : c.least_end.result - c.offset.result ≡ least_end c.args.side c.args.cursor - begin_of c.args.self = omega (arith, c.least_end.ensures, c.offset.ensures) in
    let early = subst (λ k. EndsBefore k (trees n.children)) same c.in_default.ensures.found in
    let bare = none_covers c.args.side c.args.cursor c.args.self n c.get.ensures c.in_default.ensures.no_text c.requires early in
    record {
      path = [];
      place_is = below-nothing c.args.self;
      covers = c.requires;
      childless = subst (λ (o : Option Tree). IsSomeAnd o (λ u. trees u.children ≡ [])) (sym c.get.ensures) bare;
    }

pub into_covered-requires : goal.into_covered-requires
into_covered-requires t c =
    let n = c.get.result.now in
    let same : c.least_end.result - c.offset.result ≡ least_end c.args.side c.args.cursor - begin_of c.args.self = omega (arith, c.least_end.ensures, c.offset.ensures) in
    let i = c.in-Some.part.index in
    let first = subst (λ k. IsFirstEnding k (trees n.children) c.in-Some.part) same c.in-Some.ensures.found in
    let child = child_there (trees n.children) i first.within in
    let l = smaller_turn n child.0 c.args.self c.in_ok-child.child i (trees n.children) c.get.ensures refl child.1 c.in_ok-child.ensures in
    let covers = part_covers c.args.side c.args.cursor c.args.self n child.0 c.in-Some.part c.get.ensures c.in-Some.ensures.no_text child.1 c.requires first in (
      subst (λ (k : ℕ). count_there (subtree c.in_ok-child.child) < k) c.decreases l,
      subst (λ (p : Place). CoversCursor c.args.side c.args.cursor p) (sym c.in_ok-child.ensures) covers,
    )
