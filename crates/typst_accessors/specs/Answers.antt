-- What an accessor answers of a node.
use Rattle.std.specs.Prelude.{ℕ, ◌≡◌, ◌==◌, ◌&&◌, Bool, true, Option, Some, None, MatchBool, slice_get, string_bytes}
use Rattle.typst_accessors.specs.Accessors.{accessor_view}
use Rattle.typst_accessors.specs.Characters.{character_of}
use Rattle.typst_accessors.specs.Flags.{IsFlag}
use Rattle.typst_accessors.specs.Lists.{nodes_answered}
use Rattle.typst_accessors.specs.Naturals.{IsNatural}
use Rattle.typst_accessors.specs.Nodes.{node_answered}
use Rattle.typst_accessors.specs.Texts.{IsText}
use Rattle.typst_accessors.specs.declared.accessor.Accessor.{Accessor}
use Rattle.typst_accessors.specs.declared.accessor.Accessor.TheVariants as by
use Rattle.typst_accessors.specs.declared.accessor.StringAccessor.TheVariants.{StrGet}
use Rattle.typst_accessors.specs.declared.answer.Answer.{Answer}
use Rattle.typst_accessors.specs.declared.answer.Answer.TheVariants.{Nothing, Flag, Natural, Integer, Character, Text, Owned, Node}
use Rattle.typst_atoms.specs.Ints.{IsIntReading}
use Rattle.typst_atoms.specs.Kinds.{is_kind}
use Rattle.typst_atoms.specs.Strings.{IsStringValue}
use Rattle.typst_atoms.specs.Texts.{text_in}
use Rattle.typst_node.specs.Tree.{Tree}
use Rattle.typst_node.specs.Views.{node_kind}

-- the answer is this node, or nothing if there is no node
abbrev pub IsNode : Option Tree → Answer → Type 0
IsNode tree (Node found) = tree ≡ Some found.now
IsNode tree Nothing = tree ≡ None
IsNode tree _ = ⊥

-- what an accessor answers of a node of its view by an index, which counts only where it answers several nodes
abbrev pub Says : Accessor → ℕ → Option Tree → Answer → Type 0
Says (by.Flag accessor) index node (Flag flag) = IsFlag accessor node flag
Says (by.Natural accessor) index node (Natural number) = IsNatural accessor node (Some number)
Says (by.Natural accessor) index node Nothing = IsNatural accessor node None
Says (by.Integer accessor) index node (Integer value) = IsIntReading (text_in node) value
Says (by.Character accessor) index node (Character c) = c ≡ character_of accessor node
Says (by.Text accessor) index node (Text said) = IsText accessor node said.now
Says (by.String accessor) index node (Owned value) = IsStringValue (text_in node) (string_bytes value)
Says (by.Node accessor) index node answer = IsNode (node_answered accessor node) answer
Says (by.Nodes accessor) index node answer = IsNode (slice_get (nodes_answered accessor node) index) answer
Says _ _ _ _ = ⊥

-- the accessor of the value of a string, the only one that takes memory
abbrev pub string_value : Accessor
string_value = by.String StrGet

-- whether an accessor may have an answer with an index: one that answers several nodes, or any other at the index 0
abbrev pub may_answer : Accessor → ℕ → Bool
may_answer (by.Nodes accessor) index = true
may_answer _ index = index == 0

-- what an accessor answers of a node by an index: it has answers of nodes of its view
abbrev pub Answers : Accessor → ℕ → Tree → Answer → Type 0
Answers accessor index t answer =
    MatchBool (is_kind (accessor_view accessor) (node_kind t) && may_answer accessor index)
    (Says accessor index (Some t) answer) (answer ≡ Nothing)
