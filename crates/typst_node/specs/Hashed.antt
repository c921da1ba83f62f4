-- The input to the hash of a tree: everything that the tree holds, spans and bounds included.
use Rattle.std.specs.Prelude.{ℕ, ◌≡◌, ◌++◌, List, [], length, reverse, Option, Some, None, true}
use Rattle.std.proofs.Common.{ap}
use Rattle.std.specs.List.{flat_map}
use Rattle.std.specs.Hash as fed
use Rattle.std.specs.Hash.{HashWrites}
use Rattle.std.specs.declared.ops.Range.{Range as Interval}
use Rattle.typst_base.specs.Hashed.{span_input}
use Rattle.typst_base.specs.KindNumber.{number_of}
use Rattle.typst_node.specs.Equal.{tree_eq, tree_same}
use Rattle.typst_node.specs.Tree.{HintText, WarningText, Content, AsLeaf, AsError, AsInner, Label, Forest, none, tree, Tree, trees}

-- the input for a sub-range: whether there is one, and its ends
abbrev pub sub_range_input : Option (Interval ℕ) → HashWrites
sub_range_input None = fed.u8 0
sub_range_input (Some r) = fed.u8 1 ++ (fed.usize r.start ++ fed.usize r.end)

-- the input for a hint
abbrev pub hint_input : HintText → HashWrites
hint_input h = fed.str h.text ++ sub_range_input h.sub_range

-- the input for hints: their number, and each hint
abbrev pub hints_input : List HintText → HashWrites
hints_input hs = fed.usize (length hs) ++ flat_map hint_input hs

-- the input for a warning
abbrev pub warning_input : WarningText → HashWrites
warning_input w = sub_range_input w.sub_range ++ (fed.str w.message ++ hints_input w.hints)

-- the input for warnings: their number, and each warning
abbrev pub warnings_input : List WarningText → HashWrites
warnings_input ws = fed.usize (length ws) ++ flat_map warning_input ws

-- the input for a node's form and content
abbrev pub content_input : Content → HashWrites
content_input (AsLeaf kind text) = fed.u8 0 ++ (fed.u8 (number_of kind) ++ fed.str text)
content_input (AsError text message hints) = fed.u8 1 ++ (fed.str text ++ (fed.str message ++ hints_input hints))
content_input (AsInner kind bound) = fed.u8 2 ++ (fed.u8 (number_of kind) ++ fed.u64 bound)

-- the input for a node without its children, with its innermost warning first
abbrev pub label_input : Label → HashWrites
label_input l = span_input l.span ++ (warnings_input (reverse l.warnings) ++ content_input l.content)

-- the input for adjacent trees: each node, the number of its children, and these
abbrev pub forest_input : Forest → HashWrites
forest_input none = []
forest_input (tree l c r) = (label_input l ++ (fed.usize (length (trees c)) ++ forest_input c)) ++ forest_input r

-- the input for a tree
abbrev pub tree_input : Tree → HashWrites
tree_input t = label_input t.label ++ (fed.usize (length (trees t.children)) ++ forest_input t.children)

-- equal trees give the hash the same input
pub tree_alike : (t u : Tree) → tree_eq t u ≡ true → tree_input t ≡ tree_input u
tree_alike t u e = ap tree_input (tree_same t u e)
