use Rattle.std.proofs.Common.{◌≡◌, ℕ, ◌+◌, ◌-◌, ◌<◌, ◌≤◌, length, ◌∙◌, [], Some, ap, subst, sym, refl, arith}
use Rattle.std.specs.Prelude.{IsSomeAnd, Option}
use Rattle.std.proofs.lemmas.Result.{IfOk-weaker}
use Rattle.typst_node.specs.Tree.{Tree, trees}
use Rattle.typst_node.specs.Count.{count}
use Rattle.typst_linked.specs.Place.{Place, subtree, child_place}
use Rattle.typst_linked.specs.Part.{IsFirstEnding, EndsBefore}
use Rattle.typst_linked.specs.Ranges.{begin_of}
use Rattle.typst_linked.specs.LeafLooks.{HasLookEachFork, one_if_several}
use Rattle.typst_linked.specs.LeafAt.{least_end, CoversCursor}
use Rattle.typst_linked.proofs.Covers.{child_there}
use Rattle.typst_linked.proofs.LeafWays.{part_covers, none_covers, covering_next, way_on, fork_end, fork_on}
use Rattle.typst_linked.proofs.Ordered.{count_child, count_children}
use Rattle.typst_linked.proofs.Searching.{count_there, smaller_turn, below-nothing}
use Rattle.typst_node.proofs.PathSteps.{at-push}
use Rattle.typst_linked.proofs.Places.{same_node}
use Rattle.typst_linked.proofs.node.LinkedNode.+into_covering.Goals as goal

pub first_ending-requires : goal.first_ending-requires
first_ending-requires t c = omega (arith, c.requires.room c.get.result.now c.get.ensures, count_children c.get.result.now)

pub returns-in_default-clause-leaf : goal.returns-in_default-clause-leaf
returns-in_default-clause-leaf t c =
    let n = c.get.result.now in
    let same : c.least_end.result - c.offset.result ≡ least_end c.args.side c.args.cursor - begin_of c.args.self = omega (arith, c.least_end.ensures, c.offset.ensures) in
    let early = subst (λ k. EndsBefore k (trees n.children)) same c.in_default.ensures.found in
    let bare = none_covers c.args.side c.args.cursor c.args.self n c.get.ensures c.in_default.ensures.no_text c.requires.covers early in
    record {
      path = [];
      place_is = below-nothing c.args.self;
      covers = c.requires.covers;
      childless = subst (λ (o : Option Tree). IsSomeAnd o (λ u. trees u.children ≡ [])) (sym c.get.ensures) bare;
    }

pub into_covering-requires : goal.into_covering-requires
into_covering-requires t c =
    let n = c.get.result.now in
    let same : c.least_end.result - c.offset.result ≡ least_end c.args.side c.args.cursor - begin_of c.args.self = omega (arith, c.least_end.ensures, c.offset.ensures) in
    let i = c.in-Some.part.index in
    let first = subst (λ k. IsFirstEnding k (trees n.children) c.in-Some.part) same c.in-Some.ensures.found in
    let child = child_there (trees n.children) i first.within in
    let there = at-push c.args.self.path i c.args.self.root n child.0 c.get.ensures child.1 in
    let l = smaller_turn n child.0 c.args.self c.in_ok-child.child i (trees n.children) c.get.ensures refl child.1 c.in_ok-child.ensures in
    let covers = part_covers c.args.side c.args.cursor c.args.self n child.0 c.in-Some.part c.get.ensures c.in-Some.ensures.no_text child.1 c.requires.covers first in (
      subst (λ (k : ℕ). count_there (subtree c.in_ok-child.child) < k) c.decreases l,
      (
        λ x h.
            let is : subtree (child_place c.args.self i) ≡ Some x = ap subtree (sym c.in_ok-child.ensures) ∙ h in
            let one = same_node child.0 x (child_place c.args.self i) there is in
            let e : count child.0 ≡ count x = ap count one in
            omega (arith, e, count_child n child.0 i child.1, c.requires.room n c.get.ensures, c.in-Some.ensures.few),
        subst (λ (p : Place). CoversCursor c.args.side c.args.cursor p) (sym c.in_ok-child.ensures) covers,
      ),
    )

pub returns-clause-looks : goal.returns-clause-looks
returns-clause-looks t c =
    let n = c.get.result.now in
    let same : c.least_end.result - c.offset.result ≡ least_end c.args.side c.args.cursor - begin_of c.args.self = omega (arith, c.least_end.ensures, c.offset.ensures) in
    let i = c.in-Some.part.index in
    let first = subst (λ k. IsFirstEnding k (trees n.children) c.in-Some.part) same c.in-Some.ensures.found in
    let child = child_there (trees n.children) i first.within in
    let there = at-push c.args.self.path i c.args.self.root n child.0 c.get.ensures child.1 in
    let covers = part_covers c.args.side c.args.cursor c.args.self n child.0 c.in-Some.part c.get.ensures c.in-Some.ensures.no_text child.1 c.requires.covers first in
    way_on c.args.side c.args.cursor c.args.looks.now c.first_ending.new.looks c.into_covering.new.looks i c.args.self c.in_ok-child.child n child.0 c.get.ensures child.1 (ap subtree c.in_ok-child.ensures ∙ there) c.in_ok-child.ensures
    (covering_next c.args.side c.args.cursor c.args.self i covers) c.in-Some.ensures.cost (λ cover. (c.in-Some.ensures.least, subst (λ (q : Place). CoversCursor c.args.side c.args.cursor q) (sym c.in_ok-child.ensures) covers)) c.into_covering.ensures.looks

pub returns-in_default-clause-forks : goal.returns-in_default-clause-forks
returns-in_default-clause-forks t c =
    let n = c.get.result.now in
    let same : c.least_end.result - c.offset.result ≡ least_end c.args.side c.args.cursor - begin_of c.args.self = omega (arith, c.least_end.ensures, c.offset.ensures) in
    let early = subst (λ k. EndsBefore k (trees n.children)) same c.in_default.ensures.found in
    let bare = none_covers c.args.side c.args.cursor c.args.self n c.get.ensures c.in_default.ensures.no_text c.requires.covers early in
    let end = fork_end c.args.self n c.args.looks.now c.get.ensures bare in
    record { path = end.path; place_is = end.place_is; forks = λ u h. omega (arith, end.forks u h, c.first_ending.ensures.grows) }

pub returns-clause-forks : goal.returns-clause-forks
returns-clause-forks t c =
    let n = c.get.result.now in
    let same : c.least_end.result - c.offset.result ≡ least_end c.args.side c.args.cursor - begin_of c.args.self = omega (arith, c.least_end.ensures, c.offset.ensures) in
    let i = c.in-Some.part.index in
    let first = subst (λ k. IsFirstEnding k (trees n.children) c.in-Some.part) same c.in-Some.ensures.found in
    let child = child_there (trees n.children) i first.within in
    let there = at-push c.args.self.path i c.args.self.root n child.0 c.get.ensures child.1 in
    let cost : c.args.looks.now + one_if_several (length (trees n.children)) ≤ c.first_ending.new.looks = omega (arith, c.in-Some.ensures.least) in
    IfOk-weaker c.into_covering.result (HasLookEachFork c.in_ok-child.child c.first_ending.new.looks c.into_covering.new.looks) (HasLookEachFork c.args.self c.args.looks.now c.into_covering.new.looks)
    (λ found h. fork_on c.args.looks.now c.first_ending.new.looks c.into_covering.new.looks i c.args.self c.in_ok-child.child found n child.0 c.get.ensures child.1 (ap subtree c.in_ok-child.ensures ∙ there) c.in_ok-child.ensures cost h) c.into_covering.ensures.forks
