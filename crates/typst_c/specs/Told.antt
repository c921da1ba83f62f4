-- How outcomes are told to C.
use Rattle.std.specs.Prelude.{ℕ, ◌≡◌, ◌==◌, ◌⊎◌, Bool, not, List, Option, Some, None, IsTrue, Result, Ok, Err, if◌then◌else◌}
use Rattle.std.specs.declared.ops.Range.{Range}
use Rattle.typst_lines.specs.declared.column.ColumnUnit.{ColumnUnit}
use Rattle.typst_lines.specs.declared.column.ColumnUnit.TheVariants.{Byte, Character, Utf16}
use Rattle.typst_lines.specs.declared.ends.LineEnds.{LineEnds}
use Rattle.typst_lines.specs.declared.ends.LineEnds.TheVariants.{Unicode, Editor}
use Rattle.typst_linked.specs.declared.cursor.Side.{Side}
use Rattle.typst_linked.specs.declared.cursor.Side.TheVariants.{Before, After}
use Rattle.typst_node.specs.declared.node.reconcile.Touched.{Touched}
use Rattle.typst_node.specs.declared.node.reconcile.Touched.TheVariants as touched
use Rattle.typst_node.specs.declared.node.replace.Renumbered.{Renumbered}
use Rattle.typst_session.specs.Codes.{code_of}
use Rattle.typst_session.specs.Flags.{IsFlag}
use Rattle.typst_session.specs.Texts.{IsWritten, IsTooShort, Output}
use Rattle.typst_session.specs.declared.changes.Change.{Change as TreeChange}
use Rattle.typst_session.specs.declared.editing.TextChange.{TextChange}
use Rattle.typst_session.specs.declared.finding.Found.{Found}
use Rattle.typst_session.specs.declared.neighbors.Neighbor.{Neighbor}
use Rattle.typst_session.specs.declared.neighbors.Neighbor.TheVariants.{NextLeaf, PrevLeaf, NextSibling, PrevSibling}
use Rattle.typst_session.specs.declared.refusal.Refusal.{Refusal}
use Rattle.typst_session.specs.declared.session.Session.{Session}
use Rattle.typst_session.specs.declared.refusal.Refusal.TheVariants.{Buffer}
use Rattle.typst_c.specs.declared.told.Window.{Window}
use Rattle.typst_c.specs.declared.told.Change.{Change}
use Rattle.typst_c.specs.declared.told.Edited.{Edited}
use Rattle.typst_c.specs.declared.told.Length.{Length}
use Rattle.typst_c.specs.declared.told.Place.{Place}
use Rattle.typst_c.specs.declared.told.ByteRange.{ByteRange}

-- A value was told as C has it, or why there is none. Then what the caller had is the same.
abbrev pub Tells : {V C : Type 0} → (V → C → Type 0) → C → C → ℕ → Result V Refusal → Type 0
Tells IsTold old told status (Ok value) = (status ≡ 0) × IsTold value told
Tells IsTold old told status (Err refusal) = (status ≡ code_of refusal) × (told ≡ old)

-- the value was told as it is
abbrev pub TellsValue : {C : Type 0} → C → C → ℕ → Result C Refusal → Type 0
TellsValue {C} old told status outcome = Tells (λ (value now : C). now ≡ value) old told status outcome

-- 1 was told if it holds, and 0 if not
abbrev pub TellsFlag : ℕ → ℕ → ℕ → Result Bool Refusal → Type 0
TellsFlag old told status outcome = Tells (λ flag now. IsFlag now (IsTrue flag)) old told status outcome

-- the range as C has it
pub record IsByteRange (range : Range ℕ) (told : ByteRange) : Type 0 where
  pub start : told.start ≡ range.start
  pub end : told.end ≡ range.end

-- the children that were numbered anew, and the number of windows that were tried
pub record IsWindow (done : Renumbered) (told : Window) : Type 0 where
  pub start : told.start ≡ done.window.start
  pub end : told.end ≡ done.window.end
  pub tried : told.tried ≡ done.tried

-- the window of children that were numbered anew; if a leaf or an error went on, an empty window at it, and none was tried
abbrev pub IsTouched : Touched → Window → Type 0
IsTouched (touched.Leaf index) told = (told.start ≡ index) × (told.end ≡ index) × (told.tried ≡ 0)
IsTouched (touched.Window done) told = IsWindow done told

-- how long the path to the edited node is, what was changed of its children, how many nodes moved, and that the root itself
-- stayed
pub record IsChange (done : TreeChange) (told : Change) : Type 0 where
  pub depth : told.depth ≡ done.depth
  pub window : IsTouched done.touched told.window
  pub moved : told.moved ≡ done.moved
  pub below : told.root ≡ 0

-- the root itself was changed, and nothing else is told
pub record IsRootChange (told : Change) : Type 0 where
  pub root : told.root ≡ 1
  pub depth : told.depth ≡ 0
  pub start : told.window.start ≡ 0
  pub end : told.window.end ≡ 0
  pub tried : told.window.tried ≡ 0
  pub moved : told.moved ≡ 0

-- what was changed below the root, or that the root itself was
abbrev pub IsUpdate : Option TreeChange → Change → Type 0
IsUpdate (Some done) told = IsChange done told
IsUpdate None told = IsRootChange told

-- the copy was put into another handle, or why it still holds what it held
abbrev pub TellsCopy : Option Session → Option Session → ℕ → Result Session Refusal → Type 0
TellsCopy old told status (Ok copy) = (status ≡ 0) × (told ≡ Some copy)
TellsCopy old told status (Err refusal) = (status ≡ code_of refusal) × (told ≡ old)

-- the bytes that were parsed anew, and what was changed in the tree
pub record IsEdit (done : TextChange) (told : Edited) : Type 0 where
  pub start : told.start ≡ done.reparsed.start
  pub end : told.end ≡ done.reparsed.end
  pub change : IsChange done.change told.change

-- The path that was found was written into a buffer with room for it, or only its length was told. Where its text
-- begins was told in both cases.
abbrev pub TellsPlace : List ℕ → List ℕ → Place → Place → ℕ → Result Found Refusal → Type 0
TellsPlace old new was told status (Ok found) =
    (told.offset ≡ found.offset)
    × (((status ≡ 0) × IsWritten found.path.items old new told.depth) ⊎ ((status ≡ code_of Buffer) × IsTooShort found.path.items old new told.depth))
TellsPlace old new was told status (Err refusal) = (status ≡ code_of refusal) × (new ≡ old) × (told ≡ was)

-- a buffer, and the length that is told of what is written there
abbrev pub buffer : {X : Type 0} → List X → Length → Output X
buffer items length = record { items = items; len = length.len }

-- the side of a cursor that a number means: 0 is before it, any other number after it
abbrev pub side_of : ℕ → Side
side_of side = if side == 0 then Before else After

-- the neighbor that a number means: 0 is the next leaf, 1 the leaf before, 2 the next sibling, and any other number the
-- sibling before
abbrev pub neighbor_from : ℕ → Neighbor
neighbor_from which =
    if which == 0 then NextLeaf else (if which == 1 then PrevLeaf else (if which == 2 then NextSibling else PrevSibling))

-- the unit of columns that a number means: 0 is bytes, 1 characters, and any other number units of UTF-16
abbrev pub unit_of : ℕ → ColumnUnit
unit_of unit = if unit == 0 then Byte else (if unit == 1 then Character else Utf16)

-- what ends lines that a number means: 0 is all line ends of Unicode, and any other number those of editors
abbrev pub line_ends_of : ℕ → LineEnds
line_ends_of ends = if ends == 0 then Unicode else Editor

-- whether a number means that children are counted from the end: 0 doesn't, any other number does
abbrev pub is_from_end : ℕ → Bool
is_from_end number = not (number == 0)

-- the range with these ends
abbrev pub range_from : ℕ → ℕ → Range ℕ
range_from from to = record { start = from; end = to }
