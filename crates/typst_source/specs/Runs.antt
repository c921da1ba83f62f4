-- Runs of text edits.
use Rattle.std.specs.Prelude.{ℕ, ◌≡◌, List, [], ◌∷◌}
use Rattle.std.specs.List.{replace_range}
use Rattle.typst_node.specs.Tree.{Tree}
use Rattle.typst_node.specs.Text.{text}
use Rattle.typst_source.specs.Blocks.{Block}
use Rattle.typst_source.specs.Fits.{FitsText}
use Rattle.typst_source.specs.Edited.{IsEdited, IsRefusedBy}
use Rattle.typst_source.specs.declared.runs.TextEdit.{TextEdit}
use Rattle.typst_source.specs.declared.runs.Outcome.{Outcome}
use Rattle.typst_source.specs.declared.runs.Outcome.TheVariants.{Edited, Misfit, Refused}

-- a text in which the edit's bytes replace those of its range
abbrev pub with_edit : TextEdit → List ℕ → List ℕ
with_edit edit source = replace_range source edit.range.start edit.range.end edit.with.now

-- what becomes of one edit: it is done, or nothing changes
abbrev pub IsServed : (List ℕ → Block) → Tree → TextEdit → Outcome → Tree → Type 0
IsServed first old edit (Edited done) new = FitsText (text old) edit.range × IsEdited first old edit.range edit.with.now done new
IsServed first old edit Misfit new = ¬ (FitsText (text old) edit.range) × (new ≡ old)
IsServed first old edit (Refused error) new =
    FitsText (text old) edit.range × IsRefusedBy error first old (with_edit edit (text old)) × (new ≡ old)

-- the edits run one after the other, each on the tree that the one before it left
abbrev pub IsRun : (List ℕ → Block) → Tree → List TextEdit → List Outcome → Tree → Type 0
IsRun first old [] [] new = new ≡ old
IsRun first old (edit ∷ edits) (outcome ∷ outcomes) new =
    (mid : Tree) × IsServed first old edit outcome mid × IsRun first mid edits outcomes new
IsRun first old [] (outcome ∷ outcomes) new = ⊥
IsRun first old (edit ∷ edits) [] new = ⊥

-- the text after an edit, if it was done
abbrev pub if_edited : TextEdit → Outcome → List ℕ → List ℕ
if_edited edit (Edited done) source = with_edit edit source
if_edited edit Misfit source = source
if_edited edit (Refused error) source = source

-- the text after all edits that were done, in order, and no others
abbrev pub edited_text : List TextEdit → List Outcome → List ℕ → List ℕ
edited_text [] outcomes source = source
edited_text (edit ∷ edits) [] source = source
edited_text (edit ∷ edits) (outcome ∷ outcomes) source = edited_text edits outcomes (if_edited edit outcome source)
