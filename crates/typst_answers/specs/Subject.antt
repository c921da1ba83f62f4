-- What a subject is: a node, or the placeholder of a kind.
use Rattle.std.specs.Prelude.{Option, Some, None}
use Rattle.typst_base.specs.declared.kind.SyntaxKind.{SyntaxKind}
use Rattle.typst_answers.specs.declared.subject.Subject.{Subject}
use Rattle.typst_answers.specs.declared.subject.Subject.TheVariants.{Node, Blank}
use Rattle.typst_node.specs.Tree.{Tree}
use Rattle.typst_node.specs.Views.{node_kind}

-- the node, or none for a placeholder
abbrev pub node_of_subject : Subject → Option Tree
node_of_subject (Node node) = Some node.now
node_of_subject (Blank kind) = None

-- the node's kind, or the placeholder's
abbrev pub kind_of_subject : Subject → SyntaxKind
kind_of_subject (Node node) = node_kind node.now
kind_of_subject (Blank kind) = kind
