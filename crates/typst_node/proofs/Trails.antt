-- A trail leads down to the narrowest place of an edit.
use Rattle.std.proofs.Common.{◌≡◌, ℕ, suc, zero, ◌+◌, ◌-◌, ◌<◌, ◌≤◌, ◌⊎◌, inl, inr, Bool, true, false, List, [], ◌∷◌, length, map, get_or, take, drop, reverse, refl, sym, ap, subst, ◌∙◌, arith, Option, Some, None, length-drop}
use Rattle.std.specs.Prelude.{nat_lt, if◌then◌else◌}
use Rattle.std.proofs.lemmas.Bool.{lt-ltb, le-ltb, cases_lt}
use Rattle.std.proofs.lemmas.List.{reverse-append, take_all}
use Rattle.typst_node.specs.Tree.{Tree, trees, IsInner}
use Rattle.typst_node.specs.Plain.{plain}
use Rattle.typst_node.specs.Labels.{number, bound}
use Rattle.typst_node.specs.Count.{count}
use Rattle.typst_node.specs.Paths.{no_tree, tree_at, trees_at, with_children}
use Rattle.typst_node.specs.Edit.{Edit, Fits, site_by}
use Rattle.typst_node.specs.EditBelow.{child_of}
use Rattle.typst_node.specs.Narrower.{GoesOnAs, GoesOnWithin, EndsOnAs, HasNoLeaf, IsStep, IsLast, LeadsTo, edit_inside}
use Rattle.typst_node.specs.Narrowing.{IsOnlyPair, IsLeafPair, IsTrail, IsTrailOf, IsTraced, IsEmptyTrail, ArePaired, NoneGoesOn, LeadOn, LeadDown, RaisesBy, IsNarrowedTo, edit_along, replaced_by, steps_within}
use Rattle.typst_node.specs.declared.node.narrow.Trail.{Trail}
use Rattle.typst_node.specs.declared.node.narrow.Paired.{Paired}
use Rattle.typst_node.specs.declared.node.narrow.Paired.TheVariants.{Alike, GoesOn, Ends, Other}
use Rattle.typst_node.specs.ChangedChildren.{kept_first}
use Rattle.typst_node.proofs.Trees.{forest-trees}
use Rattle.typst_node.proofs.Outside.{get_drop}
use Rattle.typst_node.proofs.EditStep.{kids_plain}
use Rattle.typst_node.proofs.EditsBelow.{plain_kids}
use Rattle.typst_node.proofs.Put.{child_at}
use Rattle.typst_node.proofs.SamePlain.{one_alike}
use Rattle.typst_node.proofs.OnlyChange.{IsPairAt, pair_changes, change_is_pair, at_slice, taken}
use Rattle.typst_node.proofs.Narrowed.{only_same, step_fits, leads_cons, as_it_is, as_within, goes_on_plain}

-- all pairs on the way go on in this way
abbrev AllGo : (Tree → Tree → Type 0) → List Tree → List Tree → List ℕ → Type 0
AllGo Goes xs ys [] = Unit {0}
AllGo Goes xs ys (i ∷ path) =
    IsOnlyPair xs ys i × Goes (child_of xs i) (child_of ys i) × AllGo Goes (trees (child_of xs i).children) (trees (child_of ys i).children) path

-- ---- one step, from the children in the range of an edit
module _ (e : Edit) (t : Tree) (fit : Fits e t) (xs : List Tree) (is : xs ≡ replaced_by e t) (i : ℕ) (pair : IsOnlyPair xs e.others i) where
  abbrev n : Tree
  n = tree_at e.path t

  abbrev c : Tree
  c = child_of (trees n.children) (e.from + i)

  abbrev u : Tree
  u = child_of e.others i

  abbrev below : Edit
  below = edit_inside e (e.from + i) c u

  pair_there : IsOnlyPair (replaced_by e t) e.others i
  pair_there = subst (λ ts. IsOnlyPair ts e.others i) is pair

  pub changes : IsPairAt (site_by e t) (trees_at e.path t) e.others (e.from + i) i
  changes = pair_changes e.from e.to e.others n fit.2 fit.3 i pair_there

  pub same_child : child_of xs i ≡ c
  same_child = ap (λ ts. child_of ts i) is ∙ at_slice e.from e.to e.others n fit.2 fit.3 i pair_there.inside

  pub one_step : (Goes : Tree → Tree → Type 0) → Goes (child_of xs i) u → IsStep Goes e t below
  one_step Goes on = record {
    c = c;
    u = u;
    only = changes.only;
    goes_on = subst (λ d. Goes d u) same_child on;
    is = ap (λ k. edit_inside e k c u) changes.child;
  }

  pub child_there : tree_at below.path t ≡ c
  child_there = child_at e.path (e.from + i) t

  pub rows_there : trees (child_of xs i).children ≡ replaced_by below t
  rows_there =
      ap (λ (d : Tree). trees d.children) same_child
      ∙ (sym (take_all (length (trees c.children) - 0) (trees c.children) (omega arith)) ∙ ap (λ (d : Tree). take (length (trees c.children) - 0) (trees d.children)) (sym child_there))

  -- any other step is the same
  pub same_step : (Goes : Tree → Tree → Type 0) (g : Edit) → IsStep Goes e t g → Goes (child_of xs i) u
  same_step Goes g step =
      let same = only_same (site_by e t) (trees_at e.path t) c u changes.only step.c step.u step.only in
      coe 0 1 (k. Goes ((same.0 ∙ sym same_child) k) (same.1 k)) step.goes_on

  pub no_leaf_here : GoesOnAs (child_of xs i) u → HasNoLeaf e t
  no_leaf_here on d v only ends =
      let same = only_same (site_by e t) (trees_at e.path t) c u changes.only d v only in
      ends.leaf (subst (λ (d : Tree). IsInner d.label.content) (sym (same.0 ∙ sym same_child)) on.inner)

-- ---- all steps
leads_along : (Goes : Tree → Tree → Type 0) (plainly : (c u : Tree) → Goes c u → GoesOnAs c u) (e : Edit) (t n : Tree) (fit : Fits e t) (xs : List Tree) → xs ≡ replaced_by e t → n ≡ tree_at e.path t → (path : List ℕ) → AllGo Goes xs e.others path
    → LeadsTo Goes (length path) e t (edit_along e n path)
leads_along Goes plainly e t n fit xs is node [] all = refl
leads_along Goes plainly e t n fit xs is node (i ∷ path) all =
    let one = one_step e t fit xs is i all.0 Goes all.1 in
    let g = below e t fit xs is i all.0 in
    let rows = rows_there e t fit xs is i all.0 in
    let rest : LeadsTo Goes (length path) g t (edit_along g (c e t fit xs is i all.0) path) =
    leads_along Goes plainly g t (c e t fit xs is i all.0) (step_fits Goes plainly e t g fit one) (trees (child_of xs i).children) rows (sym (child_there e t fit xs is i all.0)) path all.2 in
    subst (λ m. LeadsTo Goes (suc (length path)) e t (edit_along e m (i ∷ path))) (sym node) (leads_cons Goes plainly (length path) e t g (edit_along g (c e t fit xs is i all.0) path) one rest)

-- the indices are those of children and of nodes in their place
pub leads_down : (xs ys : List Tree) (path : List ℕ) (leaf : Option ℕ) → IsTrail xs ys path leaf → LeadDown xs ys path
leads_down xs ys [] leaf trail = tt
leads_down xs ys (i ∷ path) leaf trail =
    (trail.0.inside, omega (arith, trail.0.inside, trail.0.many), leads_down (trees (child_of xs i).children) (trees (child_of ys i).children) path leaf trail.2)

pub leads_on : (e : Edit) (t n : Tree) (fit : Fits e t) (xs : List Tree) → xs ≡ replaced_by e t → n ≡ tree_at e.path t → (path : List ℕ) (k : ℕ) (leaf : Option ℕ) → IsTrail xs e.others path leaf → LeadOn e n (take k path)
leads_on e t n fit xs is node path zero leaf trail = tt
leads_on e t n fit xs is node [] (suc k) leaf trail = tt
leads_on e t n fit xs is node (i ∷ path) (suc k) leaf trail =
    let one = one_step e t fit xs is i trail.0 GoesOnAs trail.1 in
    let g = below e t fit xs is i trail.0 in
    let at = changes e t fit xs is i trail.0 in
    let rest = leads_on g t (c e t fit xs is i trail.0) (step_fits GoesOnAs as_it_is e t g fit one) (trees (child_of xs i).children) (rows_there e t fit xs is i trail.0) (sym (child_there e t fit xs is i trail.0)) path k leaf trail.2 in
    subst (λ m. LeadOn e m (i ∷ take k path)) (sym node) (at.inside, at.other, rest)

all_go : (xs ys : List Tree) (path : List ℕ) (leaf : Option ℕ) → IsTrail xs ys path leaf → AllGo GoesOnAs xs ys path
all_go xs ys [] leaf trail = tt
all_go xs ys (i ∷ path) leaf trail = (trail.0, trail.1, all_go (trees (child_of xs i).children) (trees (child_of ys i).children) path leaf trail.2)

-- no step leads on where nothing goes on
last_of_none : (e : Edit) (t : Tree) (fit : Fits e t) (xs : List Tree) → xs ≡ replaced_by e t → NoneGoesOn xs e.others → (Goes : Tree → Tree → Type 0) → ((c u : Tree) → Goes c u → GoesOnAs c u) → IsLast Goes e t × HasNoLeaf e t
last_of_none e t fit xs is none Goes plainly = (
  λ g step.
      let i = kept e t in
      let pair = subst (λ ts. IsOnlyPair ts e.others i) (sym is) (change_is_pair e.from e.to e.others (tree_at e.path t) fit.2 fit.3 step.c step.u step.only) in
      (none i pair).0 (plainly (child_of xs i) (child_of e.others i) (same_step e t fit xs is i pair Goes g step)),
  λ c u only ends.
      let i = kept e t in
      let pair = subst (λ ts. IsOnlyPair ts e.others i) (sym is) (change_is_pair e.from e.to e.others (tree_at e.path t) fit.2 fit.3 c u only) in
      let at = changes e t fit xs is i pair in
      let same = only_same (site_by e t) (trees_at e.path t) (child_of (trees_at e.path t) (e.from + i)) (child_of e.others i) at.only c u only in
      (none i pair).1 (coe 0 1 (k. EndsOnAs ((same.0 ∙ sym (same_child e t fit xs is i pair)) k) (same.1 k)) ends),
)
  where
    kept : Edit → Tree → ℕ
    kept e t = kept_first e.from e.to e.others (trees_at e.path t)

-- ---- where a leaf goes on
leaf_there : (e : Edit) (t n : Tree) (fit : Fits e t) (xs : List Tree) → xs ≡ replaced_by e t → n ≡ tree_at e.path t → (path : List ℕ) (i : ℕ) → IsTrail xs e.others path (Some i)
    → IsLast GoesOnAs (edit_along e n path) t × IsLeafPair (edit_along e n path) t record { child = (edit_along e n path).from + i; other = i }
leaf_there e t n fit xs is node [] i trail =
    let at = changes e t fit xs is i trail.0 in
    let ends = subst (λ d. EndsOnAs d (child_of e.others i)) (same_child e t fit xs is i trail.0) trail.1 in (
      λ g step. trail.1.leaf (same_step e t fit xs is i trail.0 GoesOnAs g step).inner,
      record { child = at.child; inside = at.inside; other = at.other; only = at.only; ends = ends },
    )
leaf_there e t n fit xs is node (j ∷ path) i trail =
    let one = one_step e t fit xs is j trail.0 GoesOnAs trail.1 in
    let g = below e t fit xs is j trail.0 in
    let rest = leaf_there g t (c e t fit xs is j trail.0) (step_fits GoesOnAs as_it_is e t g fit one) (trees (child_of xs j).children) (rows_there e t fit xs is j trail.0) (sym (child_there e t fit xs is j trail.0)) path i trail.2 in
    subst (λ m. IsLast GoesOnAs (edit_along e m (j ∷ path)) t × IsLeafPair (edit_along e m (j ∷ path)) t record { child = (edit_along e m (j ∷ path)).from + i; other = i }) (sym node) rest

-- ---- where none does
none_there : (e : Edit) (t n : Tree) (fit : Fits e t) (xs : List Tree) → xs ≡ replaced_by e t → n ≡ tree_at e.path t → (path : List ℕ) → IsTrail xs e.others path None
    → IsLast GoesOnAs (edit_along e n path) t × HasNoLeaf (edit_along e n path) t
none_there e t n fit xs is node [] trail = last_of_none e t fit xs is trail GoesOnAs as_it_is
none_there e t n fit xs is node (j ∷ path) trail =
    let one = one_step e t fit xs is j trail.0 GoesOnAs trail.1 in
    let g = below e t fit xs is j trail.0 in
    let rest = none_there g t (c e t fit xs is j trail.0) (step_fits GoesOnAs as_it_is e t g fit one) (trees (child_of xs j).children) (rows_there e t fit xs is j trail.0) (sym (child_there e t fit xs is j trail.0)) path trail.2 in
    subst (λ m. IsLast GoesOnAs (edit_along e m (j ∷ path)) t × HasNoLeaf (edit_along e m (j ∷ path)) t) (sym node) rest

-- the steps for which the numbers suffice
module _ (e : Edit) (t : Tree) where
  record Narrows (n : Tree) (xs ys : List Tree) (path : List ℕ) (steps : ℕ) : Type 0 where
    all : AllGo GoesOnWithin xs ys (take steps path)
    last : IsLast GoesOnWithin (edit_along e n (take steps path)) t

narrows_step : (e : Edit) (t m : Tree) (fit : Fits e t) (xs : List Tree) (is : xs ≡ replaced_by e t) → m ≡ tree_at e.path t → (i : ℕ) (path : List ℕ) (pair : IsOnlyPair xs e.others i) (on : GoesOnAs (child_of xs i) (child_of e.others i)) (steps : ℕ)
    → Narrows (below e t fit xs is i pair) t (c e t fit xs is i pair) (trees (child_of xs i).children) (trees (child_of e.others i).children) path steps
    → (number (child_of xs i).label + count (child_of e.others i) < bound (child_of xs i).label) ⊎ (bound (child_of xs i).label ≤ number (child_of xs i).label + count (child_of e.others i))
    → Narrows e t m xs e.others (i ∷ path) (if nat_lt (number (child_of xs i).label + count (child_of e.others i)) (bound (child_of xs i).label) then suc steps else 0)
narrows_step e t m fit xs is node i path pair on steps rest (inl few) =
    let yes : nat_lt (number (child_of xs i).label + count (child_of e.others i)) (bound (child_of xs i).label) ≡ true = lt-ltb (number (child_of xs i).label + count (child_of e.others i)) (bound (child_of xs i).label) few in
    subst (λ b. Narrows e t m xs e.others (i ∷ path) (if b then suc steps else 0)) (sym yes)
    record {
      all = (pair, (on, few), rest.all);
      last = subst (λ k. IsLast GoesOnWithin (edit_along e k (i ∷ take steps path)) t) (sym node) rest.last;
    }
narrows_step e t m fit xs is node i path pair on steps rest (inr many) =
    let never : nat_lt (number (child_of xs i).label + count (child_of e.others i)) (bound (child_of xs i).label) ≡ false = le-ltb (number (child_of xs i).label + count (child_of e.others i)) (bound (child_of xs i).label) many in
    subst (λ b. Narrows e t m xs e.others (i ∷ path) (if b then suc steps else 0)) (sym never)
    record {
      all = tt;
      last = λ g step. let goes = same_step e t fit xs is i pair GoesOnWithin g step in absurd (omega (arith, many, goes.1));
    }

narrows : (e : Edit) (t m : Tree) (fit : Fits e t) (xs : List Tree) → xs ≡ replaced_by e t → m ≡ tree_at e.path t → (path : List ℕ) → IsTrail xs e.others path None → Narrows e t m xs e.others path (steps_within xs e.others path)
narrows e t m fit xs is node [] trail = record { all = tt; last = (last_of_none e t fit xs is trail GoesOnWithin as_within).0 }
narrows e t m fit xs is node (i ∷ path) trail =
    let one = one_step e t fit xs is i trail.0 GoesOnAs trail.1 in
    let g = below e t fit xs is i trail.0 in
    let rest = narrows g t (c e t fit xs is i trail.0) (step_fits GoesOnAs as_it_is e t g fit one) (trees (child_of xs i).children) (rows_there e t fit xs is i trail.0) (sym (child_there e t fit xs is i trail.0)) path trail.2 in
    narrows_step e t m fit xs is node i path trail.0 trail.1 (steps_within (trees (child_of xs i).children) (trees (child_of e.others i).children) path) rest
    (cases_lt (number (child_of xs i).label + count (child_of e.others i)) (bound (child_of xs i).label))

-- ---- what is found
module _ (e : Edit) (t m : Tree) (fit : Fits e t) (xs : List Tree) (is : xs ≡ replaced_by e t) (node : m ≡ tree_at e.path t) (path : List ℕ) (f : Edit) where
  pub leaf_found : (i : ℕ) → IsTrail xs e.others path (Some i) → f ≡ edit_along e m path → IsNarrowedTo e t f (Some record { child = f.from + i; other = i })
  leaf_found i trail f_is =
      let there = leaf_there e t m fit xs is node path i trail in
      let leads = leads_along GoesOnAs as_it_is e t m fit xs is node path (all_go xs e.others path (Some i) trail) in
      subst (λ (g : Edit). IsNarrowedTo e t g (Some record { child = g.from + i; other = i })) (sym f_is) (record { steps = length path; leads = leads; last = there.0 }, there.1)

  pub none_found : IsTrail xs e.others path None → f ≡ edit_along e m (take (steps_within xs e.others path) path) → IsNarrowedTo e t f None
  none_found trail f_is =
      let there = none_there e t m fit xs is node path trail in
      let leads = leads_along GoesOnAs as_it_is e t m fit xs is node path (all_go xs e.others path None trail) in
      let narrow = narrows e t m fit xs is node path trail in
      let k = steps_within xs e.others path in
      let within = leads_along GoesOnWithin as_within e t m fit xs is node (take k path) narrow.all in
      subst (λ g. IsNarrowedTo e t g None) (sym f_is)
      (record { steps = length (take k path); leads = within; last = narrow.last }, record { lowest = edit_along e m path; is_lowest = record { steps = length path; leads = leads; last = there.0 }; none = there.1 })

  pub all_lead_on : (leaf : Option ℕ) → IsTrail xs e.others path leaf → LeadOn e m path
  all_lead_on leaf trail = subst (LeadOn e m) (take_all (length path) path (omega arith)) (leads_on e t m fit xs is node path (length path) leaf trail)

-- the index of a leaf fits
along_zero : (e : Edit) (t : Tree) (path : List ℕ) → e.from ≡ 0 → (edit_along e t path).from ≡ 0
along_zero e t [] none = none
along_zero e t (i ∷ path) none = along_zero (edit_inside e (e.from + i) (child_of (trees t.children) (e.from + i)) (child_of e.others i)) (child_of (trees t.children) (e.from + i)) path refl

pub leaf_below : (e : Edit) (t : Tree) (xs : List Tree) (path : List ℕ) (i n : ℕ) → IsTrail xs e.others path (Some i) → e.from + length xs < n → i < n → (edit_along e t path).from + i < n
leaf_below e t xs [] i n trail most few = omega (arith, most, trail.0.inside)
leaf_below e t xs (j ∷ path) i n trail most few =
    omega (
      arith,
      few,
      along_zero (edit_inside e (e.from + j) (child_of (trees t.children) (e.from + j)) (child_of e.others j)) (child_of (trees t.children) (e.from + j)) path refl,
    )

-- ---- what is recorded
get_or_other : (ts : List Tree) (i : ℕ) (d e : Tree) → i < length ts → get_or ts i d ≡ get_or ts i e
get_or_other [] i d e h = absurd (omega arith)
get_or_other (t ∷ ts) zero d e h = refl
get_or_other (t ∷ ts) (suc i) d e h = get_or_other ts i d e (omega arith)

-- lists that are alike have no pair that changes
pub none_if_alike : (xs ys : List Tree) → map plain xs ≡ map plain ys → NoneGoesOn xs ys
none_if_alike xs ys same i pair = absurd (pair.differ (one_alike xs ys i same))

pub none_if_longer : (xs ys : List Tree) → ¬ (length xs ≡ length ys) → NoneGoesOn xs ys
none_if_longer xs ys differ i pair = absurd (differ pair.many)

-- a pair that changes is the only one, or there is none
only_place : (xs ys : List Tree) (i j : ℕ) → ¬ (plain (child_of xs i) ≡ plain (child_of ys i)) → IsOnlyPair xs ys j → i ≡ j
only_place xs ys i j differ pair =
    let less : i < j → ⊥ = λ h. differ (ap plain (sym (taken j i xs h)) ∙ (one_alike (take j xs) (take j ys) i pair.before ∙ ap plain (taken j i ys h))) in
    let more : j < i → ⊥ =
    λ h.
    let place : suc j + (i - suc j) ≡ i = omega (arith, h) in
    differ
    (ap (λ k. plain (child_of xs k)) (sym place) ∙ (ap plain (sym (get_drop (suc j) (i - suc j) xs no_tree)) ∙ (one_alike (drop (suc j) xs) (drop (suc j) ys) (i - suc j) pair.behind ∙ (ap plain (get_drop (suc j) (i - suc j) ys no_tree) ∙ ap (λ k. plain (child_of ys k)) place)))) in
    omega (arith, less, more)

pub none_if_more : (xs ys : List Tree) (i : ℕ) → ¬ (plain (child_of xs i) ≡ plain (child_of ys i)) → ¬ (map plain (drop (suc i) xs) ≡ map plain (drop (suc i) ys)) → NoneGoesOn xs ys
none_if_more xs ys i differ more j pair =
    let same = only_place xs ys i j differ pair in
    absurd (more (subst (λ k. map plain (drop (suc k) xs) ≡ map plain (drop (suc k) ys)) (sym same) pair.behind))

none_if_other : (xs ys : List Tree) (i : ℕ) → ¬ (plain (child_of xs i) ≡ plain (child_of ys i)) → ¬ (GoesOnAs (child_of xs i) (child_of ys i)) → ¬ (EndsOnAs (child_of xs i) (child_of ys i)) → NoneGoesOn xs ys
none_if_other xs ys i differ on ends j pair =
    let same = only_place xs ys i j differ pair in
    subst (λ k. ¬ (GoesOnAs (child_of xs k) (child_of ys k)) × ¬ (EndsOnAs (child_of xs k) (child_of ys k))) same (on, ends)

-- the only pair that changes, above what is recorded of it
pub raised : (xs ys : List Tree) (i : ℕ) (paired : Paired) (old new : Trail) → IsOnlyPair xs ys i → ArePaired (child_of xs i) (child_of ys i) old paired → RaisesBy i paired old new → IsTrailOf xs ys new
raised xs ys i Alike old new pair (same, empty) by = absurd (pair.differ same)
raised xs ys i GoesOn old new pair (differ, on, below) by =
    let way : reverse new.steps.items ≡ i ∷ reverse old.steps.items = ap reverse by.0 ∙ reverse-append old.steps.items (i ∷ []) in
    coe 1 0 (k. IsTrail xs ys (way k) (by.1 k)) (pair, on, below)
raised xs ys i Ends old new pair (differ, ends, empty) by =
    coe 1 0 (k. IsTrail xs ys ((ap reverse (by.0 ∙ empty.0)) k) (by.1 k)) (pair, ends)
raised xs ys i Other old new pair (differ, on, ends, empty) by =
    coe 1 0 (k. IsTrail xs ys ((ap reverse (by.0 ∙ empty.0)) k) ((by.1 ∙ empty.1) k)) (none_if_other xs ys i differ on ends)

pub empty_trail : (xs ys : List Tree) (trail : Trail) → IsEmptyTrail trail → NoneGoesOn xs ys → IsTrailOf xs ys trail
empty_trail xs ys trail empty none = coe 1 0 (k. IsTrail xs ys ((ap reverse empty.0) k) (empty.1 k)) none

-- a node that goes on is alike if its children are
pub alike_if_kids : (c u : Tree) → GoesOnAs c u → map plain (trees c.children) ≡ map plain (trees u.children) → plain c ≡ plain u
alike_if_kids c u on same =
    let whole : with_children [] (trees c.children) c ≡ c = λ i. record { label = c.label; children = forest-trees c.children i } in
    sym (ap plain whole) ∙ (plain_kids [] (trees c.children) (trees u.children) c same ∙ goes_on_plain c u on)

pub unlike_if_kids : (c u : Tree) → ¬ (map plain (trees c.children) ≡ map plain (trees u.children)) → ¬ (plain c ≡ plain u)
unlike_if_kids c u differ same = differ (kids_plain c u same)

pub traced_trail : (xs ys : List Tree) (trail : Trail) (b : Bool) → IsTraced xs ys trail b → IsTrailOf xs ys trail
traced_trail xs ys trail true traced = empty_trail xs ys trail traced.1 (none_if_alike xs ys traced.0)
traced_trail xs ys trail false traced = traced.1

pub unlike_pair : (c u : Tree) (trail : Trail) (paired : Paired) → ¬ (paired ≡ Alike) → ArePaired c u trail paired → ¬ (plain c ≡ plain u)
unlike_pair c u trail Alike never pair same = never refl
unlike_pair c u trail GoesOn never pair same = pair.0 same
unlike_pair c u trail Ends never pair same = pair.0 same
unlike_pair c u trail Other never pair same = pair.0 same

-- the rest of a list behind an item
pub rest_is : (ts : List Tree) (i : ℕ) → take (length ts - (i + 1)) (drop (i + 1) ts) ≡ drop (suc i) ts
rest_is ts i =
    let next : i + 1 ≡ suc i = omega arith in
    take_all (length ts - (i + 1)) (drop (i + 1) ts) (omega (arith, length-drop (i + 1) ts)) ∙ ap (λ n. drop n ts) next

-- the first pair that differs
module _ (xs ys : List Tree) (i : ℕ) (x y : Tree) (many : length xs ≡ length ys) (inside : i < length xs) (old : x ≡ get_or xs i x) (new : y ≡ get_or ys i y) (trail : Trail) (paired : Paired) (never : ¬ (paired ≡ Alike)) (pair : ArePaired x y trail paired) where
  old_is : child_of xs i ≡ x
  old_is = get_or_other xs i no_tree x inside ∙ sym old

  new_is : child_of ys i ≡ y
  new_is = get_or_other ys i no_tree y (omega (arith, inside, many)) ∙ sym new

  there : ArePaired (child_of xs i) (child_of ys i) trail paired
  there = coe 1 0 (k. ArePaired (old_is k) (new_is k) trail paired) pair

  differ : ¬ (plain (child_of xs i) ≡ plain (child_of ys i))
  differ = unlike_pair (child_of xs i) (child_of ys i) trail paired never there

  pub lists_differ : ¬ (map plain xs ≡ map plain ys)
  lists_differ same = differ (one_alike xs ys i same)

  pub only_pair : map plain (take i xs) ≡ map plain (take i ys) → map plain (drop (suc i) xs) ≡ map plain (drop (suc i) ys) → (next : Trail) → RaisesBy i paired trail next → IsTrailOf xs ys next
  only_pair before behind next by = raised xs ys i paired trail next (record { many = many; inside = inside; before = before; behind = behind; differ = differ }) there by

  pub more_pairs : ¬ (map plain (drop (suc i) xs) ≡ map plain (drop (suc i) ys)) → (next : Trail) → IsEmptyTrail next → IsTrailOf xs ys next
  more_pairs more next empty = empty_trail xs ys next empty (none_if_more xs ys i differ more)
