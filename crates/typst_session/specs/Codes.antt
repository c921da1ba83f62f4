-- The codes of refusals, and the refusals for the errors of other crates.
use Rattle.std.specs.Prelude.{ℕ}
use Rattle.typst_node.specs.declared.node.replace.ReplaceError.{ReplaceError}
use Rattle.typst_node.specs.declared.node.replace.ReplaceError.TheVariants as replace
use Rattle.typst_source.specs.declared.error.SourceError.{SourceError}
use Rattle.typst_source.specs.declared.error.SourceError.TheVariants as source
use Rattle.typst_tree.specs.declared.edit.EditError.{EditError}
use Rattle.typst_tree.specs.declared.edit.EditError.TheVariants as edit
use Rattle.typst_session.specs.declared.refusal.Refusal.{Refusal}
use Rattle.typst_session.specs.declared.refusal.Refusal.TheVariants.{Memory, Kind, Text, Stack, Overflow, NoTree, IsDocument, NoDocument, File, Numbers, Unnumberable, NoNode, Leaf, Range, NotFound, Buffer, NoHints, Set, NoPlace, Accessor, NoEdit}

-- the code of a refusal; 0 says that a call was done, and 1 that a handle holds nothing
abbrev pub code_of : Refusal → ℕ
code_of Memory = 2
code_of Kind = 3
code_of Text = 4
code_of Stack = 5
code_of Overflow = 6
code_of NoTree = 7
code_of IsDocument = 8
code_of NoDocument = 9
code_of File = 10
code_of Numbers = 11
code_of Unnumberable = 12
code_of NoNode = 13
code_of Leaf = 14
code_of Range = 15
code_of NotFound = 16
code_of Buffer = 17
code_of NoHints = 18
code_of Set = 19
code_of NoPlace = 20
code_of Accessor = 21
code_of NoEdit = 22

-- the refusal for an error of an edit of a tree
abbrev pub of_edit : EditError → Refusal
of_edit (edit.NoNode depth index children) = NoNode
of_edit edit.Leaf = Leaf
of_edit (edit.Range start end children) = Range
of_edit (edit.Refused replace.Unnumberable) = Unnumberable
of_edit (edit.Refused replace.Overflow) = Overflow
of_edit (edit.Refused replace.Memory) = Memory

-- the refusal for an error of an update of a whole tree
abbrev pub of_update : ReplaceError → Refusal
of_update replace.Unnumberable = Unnumberable
of_update replace.Overflow = Overflow
of_update replace.Memory = Memory

-- the refusal for an error of a text, or of an edit of a text
abbrev pub of_source : SourceError → Refusal
of_source source.Unnumberable = Unnumberable
of_source source.Overflow = Overflow
of_source source.Memory = Memory
