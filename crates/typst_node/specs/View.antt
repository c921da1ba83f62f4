-- The tree that a node represents, and what is kept in the node.
use Rattle.std.specs.Prelude.{◌≡◌, ◌≢◌, ◌≤◌, ℕ, suc, List, [], length, map, take, reverse, string_bytes, IsUtf8}
use Rattle.typst_base.specs.declared.kind.SyntaxKind.TheVariants as kinds
use Rattle.typst_node.specs.Tree.{HintText, WarningText, Content, AsLeaf, AsError, AsInner, Tree, forest}
use Rattle.typst_node.specs.Text.{text_of_all}
use Rattle.typst_node.specs.Count.{count_of_all}
use Rattle.typst_node.specs.ChildEnds.{AreEnds}
use Rattle.typst_node.specs.Diagnosis.{any_has_error, any_has_warning}
use Rattle.typst_node.specs.declared.node.Hint.{Hint}
use Rattle.typst_node.specs.declared.node.Warning.{Warning}
use Rattle.typst_node.specs.declared.node.InnerNode.{InnerNode}
use Rattle.typst_node.specs.declared.node.Node.{Node}
use Rattle.typst_node.specs.declared.node.Node.TheVariants.{Short, Long, Leaf, Inner, Error}
use Rattle.typst_node.specs.declared.node.SyntaxNode.TheInside.{Inside}

-- how contracts see a hint of a node
abbrev pub hint_text : Hint → HintText
hint_text h = record { text = string_bytes h.text; sub_range = h.sub_range }

-- how contracts see a warning of a node
abbrev pub warning_text : Warning → WarningText
warning_text w = record { sub_range = w.sub_range; message = string_bytes w.message; hints = map hint_text w.hints.items }

-- the warnings in the order of the tree, outermost first
abbrev pub shown_warnings : List Warning → List WarningText
shown_warnings ws = reverse (map warning_text ws)

-- the content that a node represents
abbrev pub content : Node → Content
content (Short kind len bytes) = AsLeaf kind (take len bytes)
content (Long kind b) = AsLeaf kind (string_bytes b.value)
content (Leaf kind b) = AsLeaf kind (string_bytes b.value.text)
content (Inner kind len b) = AsInner kind b.value.upper
content (Error b) = AsError (string_bytes b.value.text) (string_bytes b.value.message) (map hint_text b.value.hints.items)

-- the warnings in the order in which they are kept, innermost first
abbrev pub warnings_in : Node → List Warning
warnings_in (Short kind len bytes) = []
warnings_in (Long kind b) = []
warnings_in (Leaf kind b) = b.value.warnings.items
warnings_in (Inner kind len b) = b.value.extras.warnings
warnings_in (Error b) = b.value.warnings.items

-- the node's children
abbrev pub below : Node → List Tree
below (Short kind len bytes) = []
below (Long kind b) = []
below (Leaf kind b) = []
below (Inner kind len b) = b.value.children.items
below (Error b) = []

-- the tree that a node represents
abbrev pub tree_of : Inside → Tree
tree_of a = record {
  label = record { span = a.span; warnings = shown_warnings (warnings_in a.node); content = content a.node };
  children = forest (below a.node);
}

-- what the box of an inner node keeps is what its children measure
pub record IsMeasured (inner : InnerNode) : Type 0 where
  pub descendants : inner.descendants ≡ suc (count_of_all inner.children.items)
  pub errors : inner.extras.diagnosis.errors ≡ any_has_error inner.children.items
  pub warnings : inner.extras.diagnosis.warnings ≡ any_has_warning inner.children.items
  pub ends : AreEnds inner.extras.ends inner.children.items

-- the first `len` bytes are a text that a leaf itself can hold
pub record IsShort (len : ℕ) (bytes : List ℕ) : Type 0 where
  pub fits : len ≤ 21
  pub text : IsUtf8 (take len bytes)

-- What a node keeps is consistent: only an error has the kind of errors, a short leaf has a text, and what an inner
-- node keeps is what its children measure.
abbrev pub IsConsistent : Node → Type 0
IsConsistent (Short kind len bytes) = (kind ≢ kinds.Error) × IsShort len bytes
IsConsistent (Long kind b) = kind ≢ kinds.Error
IsConsistent (Leaf kind b) = kind ≢ kinds.Error
IsConsistent (Inner kind len b) = (kind ≢ kinds.Error) × ((len ≡ length (text_of_all b.value.children.items)) × IsMeasured b.value)
IsConsistent (Error b) = Unit {0}
