-- The trees that events grow from a text.
use Rattle.std.specs.Prelude.{ℕ, List, [], ◌∷◌, ◌++◌, take, drop, if◌then◌else◌}
use Rattle.typst_base.specs.contracts.kind.SyntaxKind.{the_type}
use Rattle.typst_base.specs.declared.kind.SyntaxKind.{SyntaxKind}
use Rattle.typst_base.specs.declared.kind.SyntaxKind.TheVariants as kinds
use Rattle.typst_node.specs.Hints.{error_tree, hinted}
use Rattle.typst_node.specs.Tree.{Tree, inner_tree, leaf_tree}
use Rattle.typst_parser.specs.Events.{but_last, bytes_of, last_some}
use Rattle.typst_parser.specs.FaultHints.{fault_hints}
use Rattle.typst_parser.specs.Faults.{fault_text}
use Rattle.typst_parser.specs.Warnings.{warned_by, warning_for}
use Rattle.typst_parser.specs.declared.event.Event.{Event}
use Rattle.typst_parser.specs.declared.event.Event.TheVariants.{Leaf, Error, Node}
use Rattle.typst_parser.specs.declared.fault.Fault.{Fault}
use denote.Enum.Bare.{sameb}

-- the kind of a leaf or a node, which is never `Error`
abbrev pub proper : SyntaxKind → SyntaxKind
proper kind = if sameb the_type kind kinds.Error then kinds.Text else kind

-- the error of a fault with this text, with its hints
abbrev pub faulty_tree : Fault → List ℕ → Tree
faulty_tree fault text = hinted (fault_hints fault text) (error_tree (fault_text fault text) text)

-- the node of a kind over these children, with its warning
abbrev pub node_tree : SyntaxKind → List Tree → Tree
node_tree kind ts = warned_by (warning_for kind ts) (inner_tree kind ts)

-- The trees after an event with its piece of the text. A node is made of the last trees.
abbrev pub with_event : Event → List ℕ → List Tree → List Tree
with_event (Leaf kind len) piece ts = ts ++ leaf_tree (proper kind) piece ∷ []
with_event (Error fault len) piece ts = ts ++ faulty_tree fault piece ∷ []
with_event (Node kind children) piece ts = but_last children ts ++ node_tree (proper kind) (last_some children ts) ∷ []

-- the trees after some events, by the trees before them; the text begins with the first event's piece
abbrev pub grown_onto : List Tree → List ℕ → List Event → List Tree
grown_onto ts text [] = ts
grown_onto ts text (e ∷ es) = grown_onto (with_event e (take (bytes_of e) text) ts) (drop (bytes_of e) text) es

-- the trees of events, which take their pieces from the front of the text one after the other
abbrev pub grown : List ℕ → List Event → List Tree
grown text es = grown_onto [] text es
