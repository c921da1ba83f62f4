-- Hints of errors and warnings.
use Rattle.std.specs.Prelude.{ℕ, ◌||◌, List, [], ◌∷◌, ◌++◌, map, Option, None, IsTrue}
use Rattle.std.specs.declared.ops.Range.{Range}
use Rattle.typst_base.specs.Span.{detached}
use Rattle.typst_node.specs.Tree.{HintText, WarningText, Content, AsLeaf, AsError, AsInner, Label, none, Tree}
use Rattle.typst_node.specs.Diagnosis.{is_error, is_warned}

-- a detached error without hints and warnings
abbrev pub error_tree : List ℕ → List ℕ → Tree
error_tree message text = record {
  label = record { span = detached; warnings = []; content = AsError text message [] };
  children = none;
}

-- a hint with this text and this sub-range
abbrev pub hint_for : Option (Range ℕ) → List ℕ → HintText
hint_for sub_range text = record { text = text; sub_range = sub_range }

-- hints with these texts and without sub-ranges
abbrev pub plain_hints : List (List ℕ) → List HintText
plain_hints texts = map (hint_for None) texts

-- only an error or a node with a warning takes hints
abbrev pub CanHint : Label → Type 0
CanHint l = IsTrue (is_error l || is_warned l)

-- an error with these hints after its other hints
abbrev pub hinted_content : List HintText → Content → Content
hinted_content more (AsLeaf kind text) = AsLeaf kind text
hinted_content more (AsError text message hints) = AsError text message (hints ++ more)
hinted_content more (AsInner kind bound) = AsInner kind bound

-- a warning with these hints after its other hints
abbrev pub hint_one : List HintText → WarningText → WarningText
hint_one more w = record { sub_range = w.sub_range; message = w.message; hints = w.hints ++ more }

-- the warnings, with these hints after the other hints of the outermost one
abbrev pub hint_outermost : List HintText → List WarningText → List WarningText
hint_outermost more [] = []
hint_outermost more (w ∷ ws) = hint_one more w ∷ ws

-- the label with these hints after those of its outermost warning; without a warning, after those of the error
abbrev pub hinted_label : List WarningText → List HintText → Label → Label
hinted_label [] more l = record l { content = hinted_content more l.content }
hinted_label (w ∷ ws) more l = record l { warnings = hint_outermost more (w ∷ ws) }

-- the tree with these hints after those of its node's outermost warning; without a warning, after those of the error
abbrev pub hinted : List HintText → Tree → Tree
hinted more t = record t { label = hinted_label t.label.warnings more t.label }
