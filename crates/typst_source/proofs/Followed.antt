-- The numbers of nodes, followed through a whole run.
use Rattle.std.proofs.Common.{◌≡◌, ℕ, inl, inr, ◌⊎◌, List, [], ◌∷◌, refl, sym, ap, subst, ◌∙◌, Option, Some, None}
use Rattle.typst_linked.proofs.OneNumber.{own_number}
use Rattle.typst_node.specs.Tree.{Tree, Content, AsLeaf, AsError, AsInner, Label, kind_of}
use Rattle.typst_node.specs.Labels.{number}
use Rattle.typst_node.specs.Numbered.{IsNumbered}
use Rattle.typst_node.specs.Paths.{IsPath, tree_at}
use Rattle.typst_node.specs.Plain.{plain_label, unbounded}
use Rattle.typst_node.specs.Edit.{Edit}
use Rattle.typst_node.specs.Moves.{NumberMoves, followed}
use Rattle.typst_node.specs.Following.{AllGoOnOrGo, place_after}
use Rattle.typst_node.specs.Reconciled.{LeafKeepsNumbers}
use Rattle.typst_node.specs.declared.node.reconcile.Touched.{Touched}
use Rattle.typst_node.specs.declared.node.reconcile.Touched.TheVariants.{Leaf, Window}
use Rattle.typst_source.specs.Blocks.{Block}
use Rattle.typst_source.specs.Runs.{IsServed, IsRun}
use Rattle.typst_source.specs.Kept.{TakesTo, IsTakenTo, IsTakenThrough, followed_by, followed_through, IsFoundAt}
use Rattle.typst_source.specs.declared.runs.TextEdit.{TextEdit}
use Rattle.typst_source.specs.declared.runs.Outcome.{Outcome}
use Rattle.typst_source.specs.declared.runs.Outcome.TheVariants.{Edited, Misfit, Refused}

-- the node at q of the new tree has the kind of the one at p of the old tree, and the number that follows
pub record IsAfter (follows : Option ℕ) (old new : Tree) (p q : List ℕ) : Type 0 where
  pub path : IsPath q new
  pub kind : kind_of (tree_at q new).label.content ≡ kind_of (tree_at p old).label.content
  pub is : follows ≡ Some (number (tree_at q new).label)

kind_unbounded : (a : Content) → kind_of (unbounded a) ≡ kind_of a
kind_unbounded (AsLeaf kind text) = refl
kind_unbounded (AsError text message hints) = refl
kind_unbounded (AsInner kind bound) = refl

same_kind : (a b : Label) → plain_label a ≡ plain_label b → kind_of a.content ≡ kind_of b.content
same_kind a b same = sym (kind_unbounded a.content) ∙ (ap (λ l. kind_of l.content) same ∙ kind_unbounded b.content)

-- a node that a reconciliation takes to a path
taken_there : (e : Edit) (path : List ℕ) (touched : Touched) (m : NumberMoves) (old new : Tree) (p q : List ℕ) → LeafKeepsNumbers touched m old new
    → TakesTo e old path touched m new p q → IsPath p old → IsAfter (followed m (number (tree_at p old).label)) old new p q
taken_there e path (Leaf index) m old new p q still is there =
    let stays = still.1 p there in
    subst (IsAfter (followed m (number (tree_at p old).label)) old new p) (sym is) (record { path = stays.0; kind = stays.2; is = stays.3 ∙ ap Some (sym stays.1) })
taken_there e path (Window r) m old new p q still takes there =
    let place = place_after takes.0.narrowest old new p in
    let same = takes.0.followed.stays p there takes.1 in
    subst (IsAfter (followed m (number (tree_at p old).label)) old new p) (sym takes.2)
    (record { path = same.path; kind = same_kind (tree_at place new).label (tree_at p old).label same.plain; is = same.number })

-- no node moves where the tree stays
after_same : (old new : Tree) (p q : List ℕ) → new ≡ old → q ≡ p → IsPath p old → IsAfter (Some (number (tree_at p old).label)) old new p q
after_same old new p q t e there = record {
  path = coe 1 0 (i. IsPath (e i) (t i)) there;
  kind = λ i. kind_of (tree_at (e i) (t i)).label.content;
  is = sym (λ i. Some (number (tree_at (e i) (t i)).label));
}

-- nothing follows from nothing
gone_through : (outs : List Outcome) → followed_through outs None ≡ None
gone_through [] = refl
gone_through (out ∷ outs) = refl

module _ (first : List ℕ → Block) where
  taken_once : (edit : TextEdit) (out : Outcome) (old new : Tree) (p q : List ℕ) → IsTakenTo first edit out old new p q → IsServed first old edit out new → IsPath p old
      → IsAfter (followed_by out (number (tree_at p old).label)) old new p q
  taken_once edit (Edited done) old new p q taken s there =
      taken_there taken.0 done.path.items done.touched done.moves old new p q s.1.still taken.2 there
  taken_once edit Misfit old new p q taken s there = after_same old new p q s.1 taken there
  taken_once edit (Refused error) old new p q taken s there = after_same old new p q s.2 taken there

  -- what follows through one more edit
  after_more : (out : Outcome) (outs : List Outcome) (old mid new : Tree) (p between q : List ℕ) → IsAfter (followed_by out (number (tree_at p old).label)) old mid p between
      → IsAfter (followed_through outs (Some (number (tree_at between mid).label))) mid new between q
      → IsAfter (followed_through (out ∷ outs) (Some (number (tree_at p old).label))) old new p q
  after_more out outs old mid new p between q one rest = record {
    path = rest.path;
    kind = rest.kind ∙ one.kind;
    is = ap (followed_through outs) one.is ∙ rest.is;
  }

  taken_through : (edits : List TextEdit) (outs : List Outcome) (old new : Tree) (p q : List ℕ) → IsTakenThrough first old edits outs new p q → IsPath p old
      → IsAfter (followed_through outs (Some (number (tree_at p old).label))) old new p q
  taken_through [] [] old new p q taken there = after_same old new p q taken.0 taken.1 there
  taken_through (edit ∷ edits) (out ∷ outs) old new p q taken there =
      let one = taken_once edit out old taken.0 p taken.1 taken.3 taken.2 there in
      after_more out outs old taken.0 new p taken.1 q one (taken_through edits outs taken.0 new taken.1 q taken.4 one.path)
  taken_through [] (out ∷ outs) old new p q taken there = absurd taken
  taken_through (edit ∷ edits) [] old new p q taken there = absurd taken

  -- a node goes on over one edit, or nothing follows
  abbrev Settles : Option ℕ → Tree → Tree → List ℕ → Type 0
  Settles follows old new p = ((q : List ℕ) × IsAfter follows old new p q) ⊎ (follows ≡ None)

  settled_by : (m : NumberMoves) (old new : Tree) (p : List ℕ) → AllGoOnOrGo m old new → IsPath p old → Settles (followed m (number (tree_at p old).label)) old new p
  settled_by m old new p all there = elim (all p there) [
    | inl on ↦ inl (on.0, record { path = on.1; kind = on.2; is = on.3 })
    | inr gone ↦ inr gone
  ]

  settled_once : (edit : TextEdit) (out : Outcome) (old new : Tree) (p : List ℕ) → IsServed first old edit out new → IsPath p old → Settles (followed_by out (number (tree_at p old).label)) old new p
  settled_once edit (Edited done) old new p s there = settled_by done.moves old new p s.1.all there
  settled_once edit Misfit old new p s there = inl (p, after_same old new p p s.1 refl there)
  settled_once edit (Refused error) old new p s there = inl (p, after_same old new p p s.2 refl there)

  settled_through : (edits : List TextEdit) (outs : List Outcome) (old new : Tree) (p : List ℕ) → IsRun first old edits outs new → IsPath p old
      → Settles (followed_through outs (Some (number (tree_at p old).label))) old new p
  settled_through [] [] old new p r there = inl (p, after_same old new p p r refl there)
  settled_through (edit ∷ edits) (out ∷ outs) old new p r there = elim (settled_once edit out old r.0 p r.1 there) [
    | inl on ↦ elim (settled_through edits outs r.0 new on.0 r.2 on.1.path) [
      | inl rest ↦ inl (rest.0, after_more out outs old r.0 new p on.0 rest.0 on.1 rest.1)
      | inr gone ↦ inr (ap (followed_through outs) on.1.is ∙ gone)
    ]
    | inr gone ↦ inr (ap (followed_through outs) gone ∙ gone_through outs)
  ]
  settled_through [] (out ∷ outs) old new p r there = absurd r
  settled_through (edit ∷ edits) [] old new p r there = absurd r

  -- a node with the number that follows is found by it
  found_at : (outs : List Outcome) (old new : Tree) (p q : List ℕ) → IsNumbered new → IsAfter (followed_through outs (Some (number (tree_at p old).label))) old new p q → IsFoundAt outs old new p q
  found_at outs old new p q numbered after = record { path = after.path; kind = after.kind; follows = after.is; found = own_number new q numbered after.path }

  pub followed_found : (edits : List TextEdit) (outs : List Outcome) (old new : Tree) (p q : List ℕ) → IsNumbered new → IsTakenThrough first old edits outs new p q → IsPath p old → IsFoundAt outs old new p q
  followed_found edits outs old new p q numbered taken there = found_at outs old new p q numbered (taken_through edits outs old new p q taken there)

  pub all_found : (edits : List TextEdit) (outs : List Outcome) (old new : Tree) (p : List ℕ) → IsNumbered new → IsRun first old edits outs new → IsPath p old
      → ((q : List ℕ) × IsFoundAt outs old new p q) ⊎ (followed_through outs (Some (number (tree_at p old).label)) ≡ None)
  all_found edits outs old new p numbered r there = elim (settled_through edits outs old new p r there) [
    | inl on ↦ inl (on.0, found_at outs old new p on.0 numbered on.1)
    | inr gone ↦ inr gone
  ]
