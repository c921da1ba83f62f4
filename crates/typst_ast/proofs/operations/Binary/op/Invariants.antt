use Rattle.std.proofs.Common.{◌≡◌, drop}
use Rattle.typst_ast.specs.Operators.{binary_operator_in}
use Rattle.typst_ast.proofs.OperatorBehind.{binary_operator_behind}
use Rattle.typst_ast.proofs.operations.Binary.op.Given as goal

abbrev pub invariant-loop-child : goal.invariant-loop-child
invariant-loop-child l = binary_operator_behind l.negated (drop l.child-index l.child-items) ≡ binary_operator_in l.child-items
