-- What a run keeps at the paths that go on.
use Rattle.std.proofs.Common.{◌≡◌, ℕ, List, [], ◌∷◌, ◌∙◌, ap}
use Rattle.typst_node.specs.Tree.{Tree}
use Rattle.typst_node.specs.Outside.{KeepsLabel}
use Rattle.typst_node.specs.Paths.{IsPath, tree_at}
use Rattle.typst_tree.specs.declared.session.Request.{Request}
use Rattle.typst_tree.specs.declared.session.Request.TheVariants.{Replace, Find}
use Rattle.typst_tree.specs.declared.session.Reply.{Reply}
use Rattle.typst_tree.specs.declared.session.Reply.TheVariants.{Renumbered, Misfit, Refused, Found, NotFound, NoMemory}
use Rattle.typst_tree.specs.declared.session.Slot.{Slot}
use Rattle.typst_tree.specs.declared.session.Slot.TheVariants.{Ask, Told}
use Rattle.typst_tree.specs.Step.{Step}
use Rattle.typst_tree.specs.Run.{Answers}
use Rattle.typst_tree.specs.Kept.{GoesOnOver, GoesOn, StaysThrough}

same_tree : (old new : Tree) (p q : List ℕ) → new ≡ old → q ≡ p → IsPath p old → KeepsLabel p q old new
same_tree old new p q t e there = (coe 1 0 (i. IsPath (e i) (t i)) there, λ i. (tree_at (e i) (t i)).label)

step_same : (request : Request) (reply : Reply) (old new : Tree) (p q : List ℕ) → Step old request reply new → GoesOnOver request reply old new p q → IsPath p old → KeepsLabel p q old new
step_same (Replace path range others) (Renumbered r) old new p q step on there =
    (on.0, (step.outside q on.0 on.1).1 ∙ ap (λ place. (tree_at place old).label) on.2)
step_same (Replace path range others) Misfit old new p q step on there = same_tree old new p q step.1 on there
step_same (Replace path range others) (Refused e) old new p q step on there = same_tree old new p q step.2 on there
step_same (Replace path range others) (Found path' o l) old new p q step on there = absurd step
step_same (Replace path range others) (NotFound l) old new p q step on there = absurd step
step_same (Replace path range others) NoMemory old new p q step on there = absurd step
step_same (Find span) (Found path o l) old new p q step on there = same_tree old new p q step.0 on there
step_same (Find span) (NotFound l) old new p q step on there = same_tree old new p q step.0 on there
step_same (Find span) NoMemory old new p q step on there = same_tree old new p q step.1 on there
step_same (Find span) (Renumbered r) old new p q step on there = absurd step
step_same (Find span) (Refused e) old new p q step on there = absurd step
step_same (Find span) Misfit old new p q step on there = absurd step

slot_same : (before after : Slot) (old new : Tree) (p q : List ℕ) → Answers old before after new → GoesOn before after old new p q → IsPath p old → KeepsLabel p q old new
slot_same (Ask request) (Told reply) old new p q step on there = step_same request reply old new p q step on there
slot_same (Ask request) (Ask again) old new p q step on there = absurd step
slot_same (Told told) after old new p q step on there = same_tree old new p q step.1 on there

-- over a whole run
pub kept_same : (befores afters : List Slot) (old new : Tree) (p q : List ℕ) → StaysThrough old befores afters new p q → IsPath p old → KeepsLabel p q old new
kept_same [] [] old new p q kept there = same_tree old new p q kept.0 kept.1 there
kept_same (before ∷ befores) (after ∷ afters) old new p q kept there =
    let first = slot_same before after old kept.0 p kept.1 kept.2 kept.3 there in
    let rest = kept_same befores afters kept.0 new kept.1 q kept.4 first.0 in
    (rest.0, rest.1 ∙ first.1)
kept_same [] (after ∷ afters) old new p q kept there = absurd kept
kept_same (before ∷ befores) [] old new p q kept there = absurd kept
