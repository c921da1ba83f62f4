-- Paths that a run keeps.
use Rattle.std.specs.Prelude.{ℕ, ◌≡◌, List, [], ◌∷◌}
use Rattle.typst_node.specs.Tree.{Tree}
use Rattle.typst_node.specs.Outside.{GoesOnBeside}
use Rattle.typst_tree.specs.Run.{Answers}
use Rattle.typst_tree.specs.declared.session.Request.{Request}
use Rattle.typst_tree.specs.declared.session.Request.TheVariants.{Replace, Find}
use Rattle.typst_tree.specs.declared.session.Reply.{Reply}
use Rattle.typst_tree.specs.declared.session.Reply.TheVariants.{Renumbered, Misfit, Refused, Found, NotFound, NoMemory}
use Rattle.typst_tree.specs.declared.session.Slot.{Slot}
use Rattle.typst_tree.specs.declared.session.Slot.TheVariants.{Ask, Told}

-- A replacement that was done takes the path p to the path q, which leads outside the window's subtrees. Any other step
-- leaves the path as it is.
abbrev pub GoesOnOver : Request → Reply → Tree → Tree → List ℕ → List ℕ → Type 0
GoesOnOver (Replace path range others) (Renumbered r) old new p q = GoesOnBeside path.items r.window old new p q
GoesOnOver (Replace path range others) Misfit old new p q = q ≡ p
GoesOnOver (Replace path range others) (Refused e) old new p q = q ≡ p
GoesOnOver (Replace path range others) (Found path' o l) old new p q = q ≡ p
GoesOnOver (Replace path range others) (NotFound l) old new p q = q ≡ p
GoesOnOver (Replace path range others) NoMemory old new p q = q ≡ p
GoesOnOver (Find span) reply old new p q = q ≡ p

-- A request that is answered takes the path p to the path q as its reply says. Otherwise the path stays as it is.
abbrev pub GoesOn : Slot → Slot → Tree → Tree → List ℕ → List ℕ → Type 0
GoesOn (Ask request) (Told reply) old new p q = GoesOnOver request reply old new p q
GoesOn (Ask request) (Ask again) old new p q = q ≡ p
GoesOn (Told told) after old new p q = q ≡ p

-- the path p of the first tree goes on over each slot, and is q at the end
abbrev pub StaysThrough : Tree → List Slot → List Slot → Tree → List ℕ → List ℕ → Type 0
StaysThrough old [] [] new p q = (new ≡ old) × (q ≡ p)
StaysThrough old (before ∷ befores) (after ∷ afters) new p q =
    (mid : Tree) × (between : List ℕ) × Answers old before after mid × GoesOn before after old mid p between × StaysThrough mid befores afters new between q
StaysThrough old [] (after ∷ afters) new p q = ⊥
StaysThrough old (before ∷ befores) [] new p q = ⊥
