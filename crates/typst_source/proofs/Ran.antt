-- What a whole run leaves.
use Rattle.std.proofs.Common.{◌≡◌, ℕ, inl, inr, List, [], ◌∷◌, ◌++◌, refl, sym, ap, subst, ◌∙◌, is_ok, true}
use Rattle.std.specs.Prelude.{Result, Ok, Err, OnErr}
use Rattle.typst_base.specs.Span.{SpanParts}
use Rattle.typst_node.specs.Tree.{Tree}
use Rattle.typst_node.specs.Labels.{number}
use Rattle.typst_node.specs.Text.{text}
use Rattle.typst_node.specs.Plain.{plain}
use Rattle.typst_node.specs.Numbered.{IsNumbered, IsNumberedFor}
use Rattle.typst_node.specs.Outside.{KeepsLabel}
use Rattle.typst_node.specs.Paths.{IsPath, tree_at}
use Rattle.typst_source.specs.Blocks.{Block, document}
use Rattle.typst_source.specs.Runs.{IsServed, IsRun, if_edited, edited_text}
use Rattle.typst_node.specs.Moves.{NumberMoves}
use Rattle.typst_node.specs.Reconciled.{LeafKeepsNumbers}
use Rattle.typst_node.specs.declared.node.reconcile.Touched.{Touched}
use Rattle.typst_node.specs.declared.node.reconcile.Touched.TheVariants.{Leaf, Window}
use Rattle.typst_source.specs.Kept.{GoesOn, NumberGoesOn, StaysThrough, NumberStaysThrough, IsLeafTouched}
use Rattle.typst_source.specs.declared.runs.TextEdit.{TextEdit}
use Rattle.typst_source.specs.declared.runs.Outcome.{Outcome}
use Rattle.typst_source.specs.declared.runs.Outcome.TheVariants.{Edited, Misfit, Refused}

-- the tree is the one that its text is parsed into
abbrev pub IsFresh : (List ℕ → Block) → Tree → Type 0
IsFresh first t = plain t ≡ document first (text t)

module _ (first : List ℕ → Block) where
  -- a run goes on by one edit
  pub run_more : (t : Tree) (edits : List TextEdit) (outs : List Outcome) (u : Tree) (edit : TextEdit) (out : Outcome) (v : Tree)
      → IsRun first t edits outs u → IsServed first u edit out v → IsRun first t (edits ++ edit ∷ []) (outs ++ out ∷ []) v
  run_more t [] [] u edit out v r s = (v, subst (λ (w : Tree). IsServed first w edit out v) r s, refl)
  run_more t (e ∷ es) (o ∷ os) u edit out v r s = (r.0, r.1, run_more r.0 es os u edit out v r.2 s)
  run_more t [] (o ∷ os) u edit out v r s = absurd r
  run_more t (e ∷ es) [] u edit out v r s = absurd r

  served_text : (t : Tree) (edit : TextEdit) (out : Outcome) (u : Tree) → IsServed first t edit out u → text u ≡ if_edited edit out (text t)
  served_text t edit (Edited done) u s = s.1.edited
  served_text t edit Misfit u s = ap text s.1
  served_text t edit (Refused error) u s = ap text s.2

  -- the text is the plainly edited one
  pub run_text : (t : Tree) (edits : List TextEdit) (outs : List Outcome) (u : Tree) → IsRun first t edits outs u → text u ≡ edited_text edits outs (text t)
  run_text t [] [] u r = ap text r
  run_text t (e ∷ es) (o ∷ os) u r = run_text r.0 es os u r.2 ∙ ap (edited_text es os) (served_text t e o r.0 r.1)
  run_text t [] (o ∷ os) u r = absurd r
  run_text t (e ∷ es) [] u r = absurd r

  served_fresh : (t : Tree) (edit : TextEdit) (out : Outcome) (u : Tree) → IsFresh first t → IsServed first t edit out u → IsFresh first u
  served_fresh t edit (Edited done) u h s = s.1.fresh
  served_fresh t edit Misfit u h s = subst (IsFresh first) (sym s.1) h
  served_fresh t edit (Refused error) u h s = subst (IsFresh first) (sym s.2) h

  pub run_fresh : (t : Tree) (edits : List TextEdit) (outs : List Outcome) (u : Tree) → IsFresh first t → IsRun first t edits outs u → IsFresh first u
  run_fresh t [] [] u h r = subst (IsFresh first) (sym r) h
  run_fresh t (e ∷ es) (o ∷ os) u h r = run_fresh r.0 es os u (served_fresh t e o r.0 h r.1) r.2
  run_fresh t [] (o ∷ os) u h r = absurd r
  run_fresh t (e ∷ es) [] u h r = absurd r

  served_numbered : (file : ℕ) (t : Tree) (edit : TextEdit) (out : Outcome) (u : Tree) → IsNumberedFor file t → IsServed first t edit out u → IsNumberedFor file u
  served_numbered file t edit (Edited done) u n s = subst (λ k. IsNumberedFor k u) n.in_file.0.0 s.1.numbered
  served_numbered file t edit Misfit u n s = subst (IsNumberedFor file) (sym s.1) n
  served_numbered file t edit (Refused error) u n s = subst (IsNumberedFor file) (sym s.2) n

  pub run_numbered : (file : ℕ) (t : Tree) (edits : List TextEdit) (outs : List Outcome) (u : Tree) → IsNumberedFor file t → IsRun first t edits outs u → IsNumberedFor file u
  run_numbered file t [] [] u n r = subst (IsNumberedFor file) (sym r) n
  run_numbered file t (e ∷ es) (o ∷ os) u n r = run_numbered file r.0 es os u (served_numbered file t e o r.0 n r.1) r.2
  run_numbered file t [] (o ∷ os) u n r = absurd r
  run_numbered file t (e ∷ es) [] u n r = absurd r

  same_tree : (old new : Tree) (p q : List ℕ) → new ≡ old → q ≡ p → IsPath p old → KeepsLabel p q old new
  same_tree old new p q t e there = (coe 1 0 (i. IsPath (e i) (t i)) there, λ i. (tree_at (e i) (t i)).label)

  served_same : (edit : TextEdit) (out : Outcome) (old new : Tree) (p q : List ℕ) → IsServed first old edit out new → GoesOn edit out old new p q → IsPath p old → KeepsLabel p q old new
  served_same edit (Edited done) old new p q s on there = (on.0, (s.1.outside q on.0 on.1).1 ∙ ap (λ place. (tree_at place old).label) on.2)
  served_same edit Misfit old new p q s on there = same_tree old new p q s.1 on there
  served_same edit (Refused error) old new p q s on there = same_tree old new p q s.2 on there

  -- the paths that go on lead to nodes with the same labels
  pub kept_same : (edits : List TextEdit) (outs : List Outcome) (old new : Tree) (p q : List ℕ) → StaysThrough first old edits outs new p q → IsPath p old → KeepsLabel p q old new
  kept_same [] [] old new p q kept there = same_tree old new p q kept.0 kept.1 there
  kept_same (edit ∷ edits) (out ∷ outs) old new p q kept there =
      let over = served_same edit out old kept.0 p kept.1 kept.2 kept.3 there in
      let rest = kept_same edits outs kept.0 new kept.1 q kept.4 over.0 in
      (rest.0, rest.1 ∙ over.1)
  kept_same [] (out ∷ outs) old new p q kept there = absurd kept
  kept_same (edit ∷ edits) [] old new p q kept there = absurd kept

  -- the number at a path stays, and the path leads somewhere
  abbrev HasNumber : Tree → Tree → List ℕ → List ℕ → Type 0
  HasNumber old new p q = IsPath q new × (number (tree_at q new).label ≡ number (tree_at p old).label)

  same_number : (old new : Tree) (p q : List ℕ) → KeepsLabel p q old new → HasNumber old new p q
  same_number old new p q same = (same.0, ap number same.1)

  leaf_number : (touched : Touched) (m : NumberMoves) (old new : Tree) (p q : List ℕ) → LeafKeepsNumbers touched m old new → IsLeafTouched touched → IsPath q new → q ≡ p → HasNumber old new p q
  leaf_number (Leaf index) m old new p q kept leaf there is =
      (there, ap (λ (span : SpanParts). span.low) (kept.0 q there).1 ∙ ap (λ place. number (tree_at place old).label) is)
  leaf_number (Window r) m old new p q kept leaf there is = absurd leaf

  -- and so do the numbers that go on
  number_after : (edit : TextEdit) (out : Outcome) (old new : Tree) (p q : List ℕ) → IsServed first old edit out new → NumberGoesOn edit out old new p q → IsPath p old → HasNumber old new p q
  number_after edit (Edited done) old new p q s (inl on) there = same_number old new p q (served_same edit (Edited done) old new p q s on there)
  number_after edit (Edited done) old new p q s (inr still) there = leaf_number done.touched done.moves old new p q s.1.still still.0 still.1 still.2
  number_after edit Misfit old new p q s on there = same_number old new p q (same_tree old new p q s.1 on there)
  number_after edit (Refused error) old new p q s on there = same_number old new p q (same_tree old new p q s.2 on there)

  pub number_kept : (edits : List TextEdit) (outs : List Outcome) (old new : Tree) (p q : List ℕ) → NumberStaysThrough first old edits outs new p q → IsPath p old → HasNumber old new p q
  number_kept [] [] old new p q kept there = same_number old new p q (same_tree old new p q kept.0 kept.1 there)
  number_kept (edit ∷ edits) (out ∷ outs) old new p q kept there =
      let over = number_after edit out old kept.0 p kept.1 kept.2 kept.3 there in
      let rest = number_kept edits outs kept.0 new kept.1 q kept.4 over.0 in
      (rest.0, rest.1 ∙ over.1)
  number_kept [] (out ∷ outs) old new p q kept there = absurd kept
  number_kept (edit ∷ edits) [] old new p q kept there = absurd kept

-- a numbered tree is numbered for its own file
pub own_file : (t : Tree) → IsNumbered t → IsNumberedFor t.label.span.file t
own_file t n = subst (λ file. IsNumberedFor file t) (sym n.2.in_file.0.0) n.2

-- a call that fails only where room is missing is done where it isn't
pub ok_of : {A E : Type 0} {Full : Type 0} (r : Result A E) → OnErr r Full → (Full → ⊥) → is_ok r ≡ true
ok_of (Ok a) h n = refl
ok_of (Err e) h n = absurd (n h)
