use Rattle.std.proofs.Common.{rules, tests, refl}
use Rattle.std.specs.Iterator.{YieldsFirstRef}
use Rattle.typst_ast.proofs.ExprLists.{IsViewAsExpr, StepsFromFront, front_found, front_goes, front_left, front_past}
use Rattle.typst_ast.proofs.Mapped.{mapped}
use Rattle.typst_atoms.specs.KeptNodes.{kept_left}
use Rattle.typst_ast.proofs.exprs.ExprsIterator.next.Goals as goal

pub returns-clause-steps : goal.returns-clause-steps
returns-clause-steps c =
    mapped (YieldsFirstRef kept_left) (λ t. t.now) kept_left (λ s t p. p) (λ s x t p. p) _ _ IsViewAsExpr (λ x r q k. search (rules, tests))
    StepsFromFront (refl, refl) front_past front_left front_found c.args.self.now.nodes c.find_map.new.self c.find_map.result c.find_map.ensures.ran c.find_map.ensures.runs

pub returns-clause-goes : goal.returns-clause-goes
returns-clause-goes c =
    front_goes c.args.self.now (record { nodes = c.find_map.new.self }) c.find_map.result
    (mapped (YieldsFirstRef kept_left) (λ t. t.now) kept_left (λ s t p. p) (λ s x t p. p) _ _ IsViewAsExpr (λ x r q k. search (rules, tests))
    StepsFromFront (refl, refl) front_past front_left front_found c.args.self.now.nodes c.find_map.new.self c.find_map.result c.find_map.ensures.ran c.find_map.ensures.runs)
