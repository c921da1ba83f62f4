-- Whole runs: one step for each request, in order.
use Rattle.std.specs.Prelude.{◌≡◌, List, [], ◌∷◌}
use Rattle.typst_node.specs.Tree.{Tree}
use Rattle.typst_node.specs.Edit.{edit_of, edited_by as plainly_edited_by}
use Rattle.typst_tree.specs.Step.{Step}
use Rattle.typst_tree.specs.declared.session.Request.{Request}
use Rattle.typst_tree.specs.declared.session.Request.TheVariants.{Replace, Find}
use Rattle.typst_tree.specs.declared.session.Reply.{Reply}
use Rattle.typst_tree.specs.declared.session.Reply.TheVariants.{Renumbered, Misfit, Refused, Found, NotFound, NoMemory}
use Rattle.typst_tree.specs.declared.session.Slot.{Slot}
use Rattle.typst_tree.specs.declared.session.Slot.TheVariants.{Ask, Told}

-- what becomes of one slot: an `Ask` becomes the `Told` of its reply by a step, and a `Told` stays
abbrev pub Answers : Tree → Slot → Slot → Tree → Type 0
Answers old (Ask request) (Told reply) new = Step old request reply new
Answers old (Ask request) (Ask again) new = ⊥
Answers old (Told told) after new = (after ≡ Told told) × (new ≡ old)

-- the steps run one after the other, each on the tree that the one before it left
abbrev pub Run : Tree → List Slot → List Slot → Tree → Type 0
Run old [] [] new = new ≡ old
Run old (before ∷ befores) (after ∷ afters) new = (mid : Tree) × Answers old before after mid × Run mid befores afters new
Run old [] (after ∷ afters) new = ⊥
Run old (before ∷ befores) [] new = ⊥

-- the tree after the plain edit of a request, if its reply says that the edit was done
abbrev pub edited_if_done : Request → Reply → Tree → Tree
edited_if_done (Replace path range others) (Renumbered r) t = plainly_edited_by (edit_of path.items range others.items) t
edited_if_done (Replace path range others) Misfit t = t
edited_if_done (Replace path range others) (Refused e) t = t
edited_if_done (Replace path range others) (Found p o l) t = t
edited_if_done (Replace path range others) (NotFound l) t = t
edited_if_done (Replace path range others) NoMemory t = t
edited_if_done (Find span) reply t = t

-- the tree after the plain edit of a slot's request, if a step answers it and the reply says that the edit was done
abbrev pub edited_by_slot : Slot → Slot → Tree → Tree
edited_by_slot (Ask request) (Told reply) t = edited_if_done request reply t
edited_by_slot (Ask request) (Ask again) t = t
edited_by_slot (Told told) after t = t

-- the tree after the plain edits of all requests that were done, in order, and of no others
abbrev pub edited_by : List Slot → List Slot → Tree → Tree
edited_by [] afters t = t
edited_by (before ∷ befores) [] t = t
edited_by (before ∷ befores) (after ∷ afters) t = edited_by befores afters (edited_by_slot before after t)
