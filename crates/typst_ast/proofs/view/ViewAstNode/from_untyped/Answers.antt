use Rattle.std.proofs.Common.{rules, refl, sym}
use Rattle.typst_base.specs.contracts.kind.SyntaxKind.{the_type}
use Rattle.typst_ast.proofs.view.ViewAstNode.from_untyped.Goals as goal
use denote.Enum.Bare.{same_true}

pub of_kind-requires : goal.of_kind-requires
of_kind-requires g c = same_true the_type tt _ _ (search rules)

pub returns-then-eq-clause-view : goal.returns-then-eq-clause-view
returns-then-eq-clause-view g c = record {
  node = c.of_kind.ensures;
  kind = sym (same_true the_type tt _ _ (search rules));
  is_proper = refl;
}
