-- What a call tells of the answer of an accessor.
use Rattle.std.specs.Prelude.{ℕ, ℤ, pos, ◌≡◌, Bool, true, false, cond, List, [], length, string_bytes, Result, Ok, Err}
use Rattle.typst_accessors.specs.Accessors.{accessor_number}
use Rattle.typst_accessors.specs.Answers.{Answers, string_value}
use Rattle.typst_accessors.specs.declared.accessor.Accessor.{Accessor as AnAccessor}
use Rattle.typst_accessors.specs.declared.answer.Answer.{Answer}
use Rattle.typst_accessors.specs.declared.answer.Answer.TheVariants.{Nothing, Flag, Natural, Integer, Character, Text, Owned, Node}
use Rattle.typst_node.specs.Labels.{number as number_in}
use Rattle.typst_session.specs.Reading.{IsNoNode, OfNode}
use Rattle.typst_session.specs.Texts.{IsWritten, IsTooShort}
use Rattle.typst_session.specs.declared.refusal.Refusal.{Refusal}
use Rattle.typst_session.specs.declared.refusal.Refusal.TheVariants.{Memory, Buffer, Accessor}
use Rattle.typst_session.specs.declared.session.Session.{Session}
use Rattle.typst_session.specs.declared.views.Asked.{Asked}
use Rattle.typst_session.specs.declared.views.ViewAnswer.{ViewAnswer}

-- the text of an answer, which is empty if the answer is none
abbrev pub text_of : Answer → List ℕ
text_of (Text said) = said.now
text_of (Owned value) = string_bytes value
text_of _ = []

-- the number of the form of an answer
abbrev pub form_of : Answer → ℕ
form_of Nothing = 0
form_of (Flag flag) = 1
form_of (Natural number) = 2
form_of (Integer value) = 3
form_of (Character c) = 4
form_of (Text said) = 5
form_of (Owned value) = 5
form_of (Node node) = 6

-- the number of an answer: 1 for true, a natural number, the code of a character, or the number of a node, and 0 for any
-- other answer
abbrev pub number_of : Answer → ℕ
number_of (Flag flag) = cond flag 1 0
number_of (Natural number) = number
number_of (Character c) = c
number_of (Node node) = number_in node.now.label
number_of _ = 0

-- the integer of an answer, and 0 for any other answer
abbrev pub integer_of : Answer → ℤ
integer_of (Integer value) = value
integer_of _ = pos 0

-- what is told of an answer
abbrev pub told_of : Answer → ViewAnswer
told_of answer = record {
  number = number_of answer;
  integer = integer_of answer;
  len = length (text_of answer);
  form = form_of answer;
}

-- what a call writes to: a buffer for a text, and what is told of the answer
pub record Told : Type 0 where
  pub bytes : List ℕ
  pub answer : ViewAnswer

-- an answer is told, and its text is written if the buffer has room for it; if not, the buffer stays as it was
abbrev pub TellsAnswer : Answer → Told → Told → Bool → Type 0
TellsAnswer answer old new true =
    (new.answer ≡ told_of answer) × IsWritten (text_of answer) old.bytes new.bytes new.answer.len
TellsAnswer answer old new false =
    (new.answer ≡ told_of answer) × IsTooShort (text_of answer) old.bytes new.bytes new.answer.len

-- no accessor has the number
abbrev pub IsNoAccessor : ℕ → Refusal → Type 0
IsNoAccessor number refusal = (refusal ≡ Accessor) × ((accessor : AnAccessor) → ¬ (accessor_number accessor ≡ number))

-- an accessor has the number, and its answer of the node that a path leads to is told
abbrev pub TellsOfNode : List ℕ → Asked → Session → Told → Told → Bool → Type 0
TellsOfNode path asked s old new has_room =
    (accessor : AnAccessor) × (accessor_number accessor ≡ asked.accessor)
    × OfNode (λ t. (answer : Answer) × Answers accessor asked.index t answer × TellsAnswer answer old new has_room) path s

-- the answer of an accessor is told, or why not
abbrev pub ReadsView : List ℕ → Asked → Session → Told → Told → Result (Unit {0}) Refusal → Type 0
ReadsView path asked s old new (Ok done) = TellsOfNode path asked s old new true
ReadsView path asked s old new (Err Buffer) = TellsOfNode path asked s old new false
ReadsView path asked s old new (Err Memory) = (accessor_number string_value ≡ asked.accessor) × (new ≡ old)
ReadsView path asked s old new (Err Accessor) = IsNoAccessor asked.accessor Accessor × (new ≡ old)
ReadsView path asked s old new (Err refusal) = IsNoNode path s refusal × (new ≡ old)
