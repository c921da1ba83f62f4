-- Where the nodes of a tree are after a run.
use Rattle.std.specs.Prelude.{ℕ, ◌≡◌, ◌⊎◌, List, [], ◌∷◌, length, Option, Some, None}
use Rattle.typst_node.specs.Tree.{Tree, kind_of}
use Rattle.typst_node.specs.Labels.{number}
use Rattle.typst_node.specs.Text.{text}
use Rattle.typst_node.specs.Paths.{IsPath, tree_at}
use Rattle.typst_node.specs.Edit.{Edit}
use Rattle.typst_node.specs.Moves.{NumberMoves, followed}
use Rattle.typst_node.specs.Following.{IsGone, place_after}
use Rattle.typst_node.specs.Outside.{GoesOnBeside}
use Rattle.typst_node.specs.Reconciled.{IsEditReconciled, touched_children}
use Rattle.typst_node.specs.declared.node.reconcile.Touched.{Touched}
use Rattle.typst_node.specs.declared.node.reconcile.Touched.TheVariants.{Leaf, Window}
use Rattle.typst_linked.specs.Search.{with_number}
use Rattle.typst_source.specs.Blocks.{Block}
use Rattle.typst_source.specs.Edited.{ReplacesBlocks}
use Rattle.typst_source.specs.Reparsed.{cut_of}
use Rattle.typst_source.specs.Runs.{IsServed}
use Rattle.typst_source.specs.declared.runs.TextEdit.{TextEdit}
use Rattle.typst_source.specs.declared.runs.Outcome.{Outcome}
use Rattle.typst_source.specs.declared.runs.Outcome.TheVariants.{Edited, Misfit, Refused}

-- An edit that was done takes the path p to the path q, which leads outside the subtrees of the touched children. Any
-- other edit leaves the path as it is.
abbrev pub GoesOn : TextEdit → Outcome → Tree → Tree → List ℕ → List ℕ → Type 0
GoesOn edit (Edited done) old new p q = GoesOnBeside done.path.items (touched_children done.touched) old new p q
GoesOn edit Misfit old new p q = q ≡ p
GoesOn edit (Refused error) old new p q = q ≡ p

-- a leaf or an error went on
abbrev pub IsLeafTouched : Touched → Type 0
IsLeafTouched (Leaf index) = Unit {0}
IsLeafTouched (Window renumbered) = ⊥

-- The number at a path goes on: the path does, or an edit within a leaf left all paths and changed no number.
abbrev pub NumberGoesOn : TextEdit → Outcome → Tree → Tree → List ℕ → List ℕ → Type 0
NumberGoesOn edit (Edited done) old new p q =
    GoesOn edit (Edited done) old new p q ⊎ (IsLeafTouched done.touched × IsPath q new × (q ≡ p))
NumberGoesOn edit Misfit old new p q = q ≡ p
NumberGoesOn edit (Refused error) old new p q = q ≡ p

-- A reconciliation takes the node at the path p to the path q. Where a leaf or an error went on, each node stays at its
-- path. Otherwise the node isn't one of those that went, and q is its place after the narrowest edit.
abbrev pub TakesTo : Edit → Tree → List ℕ → Touched → NumberMoves → Tree → List ℕ → List ℕ → Type 0
TakesTo e old path (Leaf index) m new p q = q ≡ p
TakesTo e old path (Window renumbered) m new p q =
    (made : IsEditReconciled e old path renumbered m new) × ¬ (IsGone made.narrowest old p) × (q ≡ place_after made.narrowest old new p)

-- An edit that was done takes the node at p to q, as the edit of the blocks that were parsed anew does. Any other edit
-- leaves the path as it is.
abbrev pub IsTakenTo : (List ℕ → Block) → TextEdit → Outcome → Tree → Tree → List ℕ → List ℕ → Type 0
IsTakenTo first edit (Edited done) old new p q =
    (e : Edit) × ReplacesBlocks first (cut_of edit.range (length edit.with.now)) (text old) (text new) done.reparsed e
    × TakesTo e old done.path.items done.touched done.moves new p q
IsTakenTo first edit Misfit old new p q = q ≡ p
IsTakenTo first edit (Refused error) old new p q = q ≡ p

-- the path p of the first tree goes on in this way over each edit, and is q at the end
abbrev pub GoesThrough : (TextEdit → Outcome → Tree → Tree → List ℕ → List ℕ → Type 0) → (List ℕ → Block) → Tree → List TextEdit → List Outcome → Tree → List ℕ → List ℕ → Type 0
GoesThrough goes first old [] [] new p q = (new ≡ old) × (q ≡ p)
GoesThrough goes first old (edit ∷ edits) (outcome ∷ outcomes) new p q =
    (mid : Tree) × (between : List ℕ) × IsServed first old edit outcome mid × goes edit outcome old mid p between
    × GoesThrough goes first mid edits outcomes new between q
GoesThrough goes first old [] (outcome ∷ outcomes) new p q = ⊥
GoesThrough goes first old (edit ∷ edits) [] new p q = ⊥

-- the path p of the first tree goes on over each edit, and is q at the end
abbrev pub StaysThrough : (List ℕ → Block) → Tree → List TextEdit → List Outcome → Tree → List ℕ → List ℕ → Type 0
StaysThrough first old edits outcomes new p q = GoesThrough GoesOn first old edits outcomes new p q

-- the number at the path p of the first tree goes on over each edit, and is at q at the end
abbrev pub NumberStaysThrough : (List ℕ → Block) → Tree → List TextEdit → List Outcome → Tree → List ℕ → List ℕ → Type 0
NumberStaysThrough first old edits outcomes new p q = GoesThrough NumberGoesOn first old edits outcomes new p q

-- the node at the path p of the first tree goes on over each edit, and is at q at the end
abbrev pub IsTakenThrough : (List ℕ → Block) → Tree → List TextEdit → List Outcome → Tree → List ℕ → List ℕ → Type 0
IsTakenThrough first old edits outcomes new p q = GoesThrough (IsTakenTo first) first old edits outcomes new p q

-- the number that follows from a number by the moves of an edit that was done; any other edit leaves it as it is
abbrev pub followed_by : Outcome → ℕ → Option ℕ
followed_by (Edited done) n = followed done.moves n
followed_by Misfit n = Some n
followed_by (Refused error) n = Some n

-- the number that follows by all outcomes, in order, if it follows by each
abbrev pub followed_through : List Outcome → Option ℕ → Option ℕ
followed_through [] n = n
followed_through (outcome ∷ outcomes) None = None
followed_through (outcome ∷ outcomes) (Some n) = followed_through outcomes (followed_by outcome n)

-- The number of the node at p, followed through the outcomes, is that of the node at q of the new tree. Both nodes have
-- one kind, and the plain search for the number leads to q.
pub record IsFoundAt (outcomes : List Outcome) (old new : Tree) (p q : List ℕ) : Type 0 where
  pub path : IsPath q new
  pub kind : kind_of (tree_at q new).label.content ≡ kind_of (tree_at p old).label.content
  pub follows : followed_through outcomes (Some (number (tree_at p old).label)) ≡ Some (number (tree_at q new).label)
  pub found : with_number (number (tree_at q new).label) new ≡ Some q

-- each node of the old tree is found by its number, followed through the outcomes, or nothing follows
abbrev pub AllAreFoundOrGone : List Outcome → Tree → Tree → Type 0
AllAreFoundOrGone outcomes old new =
    (p : List ℕ) → IsPath p old
    → ((q : List ℕ) × IsFoundAt outcomes old new p q)
    ⊎ (followed_through outcomes (Some (number (tree_at p old).label)) ≡ None)
