-- The syntax tree of a node: a plain tree whose nodes are labelled with spans and bounds.
use Rattle.std.specs.Prelude.{ℕ, ◌≢◌, List, [], ◌∷◌, Option}
use Rattle.std.specs.declared.ops.Range.{Range}
use Rattle.typst_base.specs.Span.{SpanParts, detached}
use Rattle.typst_base.specs.declared.kind.SyntaxKind.{SyntaxKind}
use Rattle.typst_base.specs.declared.kind.SyntaxKind.TheVariants as kinds

-- a hint: its text and its sub-range
pub record HintText : Type 0 where
  pub text : List ℕ
  pub sub_range : Option (Range ℕ)

-- a warning: its sub-range, message and hints
pub record WarningText : Type 0 where
  pub sub_range : Option (Range ℕ)
  pub message : List ℕ
  pub hints : List HintText

-- a node without its children: a leaf of a kind with a text, an error with its text, message and hints, or an inner
-- node of a kind with a bound
pub data Content : Type 0 where
  AsLeaf : SyntaxKind → List ℕ → Content
  AsError : List ℕ → List ℕ → List HintText → Content
  AsInner : SyntaxKind → ℕ → Content

-- a node without its children: its span, its warnings, outermost first, and its content
pub record Label : Type 0 where
  pub span : SpanParts
  pub warnings : List WarningText
  pub content : Content

-- adjacent trees: none, or the first tree's label and children, and the trees after it
pub data Forest : Type 0 where
  none : Forest
  tree : Label → Forest → Forest → Forest

-- a node and its children
pub record Tree : Type 0 where
  pub label : Label
  pub children : Forest

-- the trees as a list
abbrev pub trees : Forest → List Tree
trees none = []
trees (tree l c r) = record { label = l; children = c } ∷ trees r

-- the trees of the list as adjacent trees
abbrev pub forest : List Tree → Forest
forest [] = none
forest (t ∷ ts) = tree t.label t.children (forest ts)

-- a node's kind: an error's is `Error`
abbrev pub kind_of : Content → SyntaxKind
kind_of (AsLeaf kind text) = kind
kind_of (AsError text message hints) = kinds.Error
kind_of (AsInner kind bound) = kind

-- an inner node has a list of children, which may be empty
abbrev pub IsInner : Content → Type 0
IsInner (AsLeaf kind text) = ⊥
IsInner (AsError text message hints) = ⊥
IsInner (AsInner kind bound) = Unit {0}

-- a leaf, or an error whose text is not empty
abbrev pub IsLeaf : Content → Type 0
IsLeaf (AsLeaf kind text) = Unit {0}
IsLeaf (AsError text message hints) = text ≢ []
IsLeaf (AsInner kind bound) = ⊥

-- a detached leaf without warnings
abbrev pub leaf_tree : SyntaxKind → List ℕ → Tree
leaf_tree kind text = record {
  label = record { span = detached; warnings = []; content = AsLeaf kind text };
  children = none;
}

-- a detached inner node without warnings, with bound 0
abbrev pub inner_tree : SyntaxKind → List Tree → Tree
inner_tree kind ts = record {
  label = record { span = detached; warnings = []; content = AsInner kind 0 };
  children = forest ts;
}
