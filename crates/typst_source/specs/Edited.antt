-- What an edit of a text leaves.
use Rattle.std.specs.Prelude.{ℕ, [], ◌≡◌, ◌+◌, ◌-◌, ◌^◌, ◌<◌, ◌≤◌, List, length}
use Rattle.std.specs.List.{replace_range}
use Rattle.std.specs.declared.ops.Range.{Range}
use Rattle.typst_node.specs.Tree.{Tree}
use Rattle.typst_node.specs.Text.{text}
use Rattle.typst_node.specs.Plain.{plain}
use Rattle.typst_node.specs.Count.{count}
use Rattle.typst_node.specs.Labels.{number, bound}
use Rattle.typst_node.specs.Numbered.{IsNumberedFor}
use Rattle.typst_node.specs.Edit.{Edit}
use Rattle.typst_node.specs.Following.{AllGoOnOrGo, SpansFollow}
use Rattle.typst_node.specs.Outside.{KeepsBeside}
use Rattle.typst_node.specs.Reconciled.{IsReconciled, LeafKeepsNumbers, touched_children}
use Rattle.typst_source.specs.Blocks.{Block, document}
use Rattle.typst_source.specs.Reparsed.{AreReparsed, AreSeams, cut_of}
use Rattle.typst_source.specs.Source.{IsTooLarge}
use Rattle.typst_source.specs.declared.cut.Cut.{Cut}
use Rattle.typst_source.specs.declared.edited.Edited.{Edited}
use Rattle.typst_source.specs.declared.error.SourceError.{SourceError}
use Rattle.typst_source.specs.declared.error.SourceError.TheVariants.{Unnumberable, Overflow, Memory}

-- the edit of the root's children that puts the nodes of the blocks that were parsed anew in place of those of old blocks
abbrev pub ReplacesBlocks : (List ℕ → Block) → Cut → List ℕ → List ℕ → Range ℕ → Edit → Type 0
ReplacesBlocks first cut old new bytes e = (e.path ≡ []) × AreSeams first old new cut bytes e.from e.to (length e.others)

-- the nodes of the blocks that were parsed anew came, and the nodes that go on stayed
abbrev pub IsReplaced : (List ℕ → Block) → Cut → Tree → Edited → Tree → Type 0
IsReplaced first cut old done new =
    (e : Edit) × ReplacesBlocks first cut (text old) (text new) done.reparsed e
    × IsReconciled e old done.path.items done.touched done.moves new

-- A cut was made, after which the tree has this text. The tree is the one that the text is parsed into, numbered for the
-- same file. The bytes that were parsed anew are those of `AreReparsed`. The nodes that go on stay, and all nodes outside
-- the touched children keep their labels. Each node of the old tree goes on or is gone, as the moves say, by its number
-- and by its span. If a leaf or an error went on, all nodes keep their places and numbers.
pub record IsEditedTo (first : List ℕ → Block) (old : Tree) (cut : Cut) (source : List ℕ) (done : Edited) (new : Tree) : Type 0 where
  pub edited : text new ≡ source
  pub fresh : plain new ≡ document first (text new)
  pub numbered : IsNumberedFor old.label.span.file new
  pub reparsed : AreReparsed first (text old) (text new) cut done.reparsed
  pub replaced : IsReplaced first cut old done new
  pub outside : KeepsBeside done.path.items (touched_children done.touched) old new
  pub all : AllGoOnOrGo done.moves old new
  pub spans : SpansFollow done.moves old
  pub still : LeafKeepsNumbers done.touched done.moves old new

-- other bytes came in place of those of a range
abbrev pub IsEdited : (List ℕ → Block) → Tree → Range ℕ → List ℕ → Edited → Tree → Type 0
IsEdited first old range with done new =
    IsEditedTo first old (cut_of range (length with)) (replace_range (text old) range.start range.end with) done new

-- The numbers after the root's own and below its bound are fewer than the nodes of the tree that a text is parsed into.
-- These are at least 2^46.
abbrev pub IsCrowdedBy : (List ℕ → Block) → Tree → List ℕ → Type 0
IsCrowdedBy first root source =
    (bound root.label - (number root.label + 1) < count (document first source)) × (2 ^ 46 ≤ count (document first source))

-- why an edit that results in this text is refused
abbrev pub IsRefusedBy : SourceError → (List ℕ → Block) → Tree → List ℕ → Type 0
IsRefusedBy Unnumberable first root source = IsCrowdedBy first root source
IsRefusedBy Overflow first root source = IsTooLarge first source
IsRefusedBy Memory first root source = Unit {0}
