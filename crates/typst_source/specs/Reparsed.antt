-- Which bytes are parsed anew after a part of a text is replaced.
use Rattle.std.specs.Prelude.{ℕ, ◌≡◌, ◌+◌, ◌-◌, ◌≤◌, List, length, take, drop}
use Rattle.std.specs.declared.ops.Range.{Range}
use Rattle.typst_source.specs.Blocks.{Block, blocks, bytes_of, reach_of, trees_of}
use Rattle.typst_source.specs.declared.cut.Cut.{Cut}

-- the cut of a text in which `len` bytes replace those of a range
abbrev pub cut_of : Range ℕ → ℕ → Cut
cut_of range len = record { start = range.start; old_end = range.end; new_end = range.start + len }

-- the two texts are the same before the cut and after it
pub record IsCut (old new : List ℕ) (cut : Cut) : Type 0 where
  pub old_ordered : cut.start ≤ cut.old_end
  pub new_ordered : cut.start ≤ cut.new_end
  pub old_within : cut.old_end ≤ length old
  pub new_within : cut.new_end ≤ length new
  pub before : take cut.start old ≡ take cut.start new
  pub behind : drop cut.old_end old ≡ drop cut.new_end new

-- the first `many` blocks of a text end at a place
abbrev pub IsEndOf : (List ℕ → Block) → List ℕ → ℕ → ℕ → Type 0
IsEndOf first text many place = (many ≤ length (blocks first text)) × (bytes_of (take many (blocks first text)) ≡ place)

-- the text begins at a place, or one of its blocks ends there
abbrev pub IsEnd : (List ℕ → Block) → List ℕ → ℕ → Type 0
IsEnd first text place = (many : ℕ) × IsEndOf first text many place

-- The text begins at a place, or one of its blocks ends there. For the blocks before the place the parser looked at no
-- byte from `start` on.
abbrev pub IsUntouched : (List ℕ → Block) → List ℕ → ℕ → ℕ → Type 0
IsUntouched first text start place = (many : ℕ) × IsEndOf first text many place × (reach_of (take many (blocks first text)) ≤ start)

-- A place of the new text isn't before the cut's end. One of the new text's blocks ends there, and one of the old
-- text's blocks ended there.
abbrev pub IsMeeting : (List ℕ → Block) → List ℕ → List ℕ → Cut → ℕ → Type 0
IsMeeting first old new cut place = (cut.new_end ≤ place) × IsEnd first new place × IsEnd first old (cut.old_end + (place - cut.new_end))

-- The bytes of the new text that are parsed anew. They go from the last place whose blocks the cut can't have touched
-- to the first meeting.
pub record AreReparsed (first : List ℕ → Block) (old new : List ℕ) (cut : Cut) (bytes : Range ℕ) : Type 0 where
  pub untouched : IsUntouched first old cut.start bytes.start
  pub last : (place : ℕ) → IsUntouched first old cut.start place → place ≤ bytes.start
  pub meeting : IsMeeting first old new cut bytes.end
  pub earliest : (place : ℕ) → IsMeeting first old new cut place → bytes.end ≤ place

-- the first `many` trees of a document are those of the blocks up to a place of its text
abbrev pub IsSeam : (List ℕ → Block) → List ℕ → ℕ → ℕ → Type 0
IsSeam first text place many = (k : ℕ) × IsEndOf first text k place × (many ≡ length (trees_of (take k (blocks first text))))

-- The trees of the blocks that were parsed anew, `many` of them, replaced the old text's trees from `from` up to `to`.
pub record AreSeams (first : List ℕ → Block) (old new : List ℕ) (cut : Cut) (bytes : Range ℕ) (from to many : ℕ) : Type 0 where
  pub old_start : IsSeam first old bytes.start from
  pub old_end : IsSeam first old (cut.old_end + (bytes.end - cut.new_end)) to
  pub new_start : IsSeam first new bytes.start from
  pub new_end : IsSeam first new bytes.end (from + many)
