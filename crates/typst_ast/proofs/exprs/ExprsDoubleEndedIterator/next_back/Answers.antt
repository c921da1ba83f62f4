use Rattle.std.proofs.Common.{rules, tests}
use Rattle.typst_ast.proofs.ExprLists.{back_found, back_goes, back_none, found_back}
use Rattle.typst_atoms.specs.KeptNodes.{kept_left}
use Rattle.typst_ast.proofs.exprs.ExprsDoubleEndedIterator.next_back.Goals as goal

pub returns-in_err-node-clause-steps : goal.returns-in_err-node-clause-steps
returns-in_err-node-clause-steps c =
    back_none (kept_left c.args.self.now.nodes) (kept_left c.rfind.new.self) c.rfind.result c.from_residual.result c.in_err-node.was c.from_residual.ensures
    (found_back _ _ (λ t b q k. search (rules, tests)) c.args.self.now.nodes c.rfind.new.self c.rfind.result c.rfind.ensures.ran)

pub returns-clause-steps : goal.returns-clause-steps
returns-clause-steps c =
    back_found (kept_left c.args.self.now.nodes) (kept_left c.rfind.new.self) c.rfind.result c.in_ok-node.node c.expr_or_space.result c.in_ok-node.was
    (found_back _ _ (λ t b q k. search (rules, tests)) c.args.self.now.nodes c.rfind.new.self c.rfind.result c.rfind.ensures.ran) (c.expr_or_space.ensures.in_class, c.expr_or_space.ensures.view)

pub returns-clause-goes : goal.returns-clause-goes
returns-clause-goes c =
    back_goes c.args.self.now (record { nodes = c.rfind.new.self }) c.expr_or_space.result
    (back_found (kept_left c.args.self.now.nodes) (kept_left c.rfind.new.self) c.rfind.result c.in_ok-node.node c.expr_or_space.result c.in_ok-node.was
    (found_back _ _ (λ t b q k. search (rules, tests)) c.args.self.now.nodes c.rfind.new.self c.rfind.result c.rfind.ensures.ran) (c.expr_or_space.ensures.in_class, c.expr_or_space.ensures.view))
