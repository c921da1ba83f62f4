use Rattle.std.proofs.Common.{◌≡◌, ◌++◌, drop}
use Rattle.std.specs.Prelude.{string_bytes}
use Rattle.typst_node.specs.Text.{text_of_all}
use Rattle.typst_node.proofs.node.SyntaxNode.+push_text.Given as goal

abbrev pub invariant-loop-child : goal.invariant-loop-child
invariant-loop-child l = string_bytes l.out ++ text_of_all (drop l.child-index l.child-items) ≡ string_bytes l.initial.out ++ text_of_all l.child-items
