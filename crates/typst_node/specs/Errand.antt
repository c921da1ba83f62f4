-- A replacement on its way down to its node.
use Rattle.std.specs.Prelude.{ℕ, ◌≡◌, ◌-◌, ◌≤◌, List, length, None, IsNone, IfSome, IsErrOf}
use Rattle.typst_node.specs.Tree.{Tree}
use Rattle.typst_node.specs.PlainEdit.{FitsInner}
use Rattle.typst_node.specs.Edit.{IsNumberedOrUnfiled}
use Rattle.typst_node.specs.Growth.{CanGrow}
use Rattle.typst_node.specs.EditBelow.{IsReplacement}
use Rattle.typst_node.specs.Moves.{AreNotedFor}
use Rattle.typst_node.specs.declared.node.replace.ReplaceError.TheVariants.{Memory}
use Rattle.typst_node.specs.declared.node.replace_at.Errand.{Errand}

-- the path leads to an inner node whose children hold the errand's range
abbrev pub FitsAt : List ℕ → Errand → Tree → Type 0
FitsAt path e t = FitsInner path e.edit.from e.edit.to t

-- an errand without an answer yet; the tree can grow as far as the errand allows, and if the errand fits, the tree is
-- numbered, or the edited node has no file id
abbrev pub IsErrand : List ℕ → Errand → Tree → Type 0
IsErrand path e t = (e.answer ≡ None) × CanGrow e.edit.growth t × (FitsAt path e t → IsNumberedOrUnfiled path t)

-- the answer of the errand says how its replacement changed the node
abbrev pub IsCarriedOut : Errand → Errand → Tree → Tree → Type 0
IsCarriedOut before after old new = IfSome after.answer (IsReplacement before.edit.from before.edit.to before.edit.others.items before.edit.growth old new)

-- what is noted, if the errand asks for it, is that of its replacement in this node
abbrev pub IsNoted : Errand → Errand → Tree → Type 0
IsNoted before after old = IfSome after.answer (AreNotedFor before.edit.from before.edit.to before.edit.others.items old after.noted)

-- unless the errand asks for a note, it needs memory only if the number of children grows
abbrev pub IsSparing : Errand → Errand → Type 0
IsSparing before after =
    IsNone before.noted → length before.edit.others.items ≤ before.edit.to - before.edit.from
    → IfSome after.answer (λ answer. ¬ (IsErrOf answer Memory))
