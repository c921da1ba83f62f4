use Rattle.std.proofs.Common.{rules, tests, refl}
use Rattle.std.specs.Iterator.{YieldsFirstRef}
use Rattle.typst_ast.proofs.ArgLists.{IsViewAsArg, StepsToArg, arg_found, arg_left, arg_past, step_goes, step_none, step_some}
use Rattle.typst_ast.proofs.Mapped.{mapped}
use Rattle.typst_atoms.specs.MathItems.{items_left}
use Rattle.typst_ast.proofs.math_args.MathArgListIterator.next.Goals as goal

pub returns-in_err-arg-clause-steps : goal.returns-in_err-arg-clause-steps
returns-in_err-arg-clause-steps c =
    step_none (items_left c.args.self.now.nodes) (items_left c.find_map.new.self) c.find_map.result c.from_residual.result c.in_err-arg.was c.from_residual.ensures
    (mapped (YieldsFirstRef items_left) (λ t. t.now) items_left (λ s t p. p) (λ s x t p. p) _ _ IsViewAsArg (λ x r q k. search (rules, tests))
    StepsToArg (refl, refl) arg_past arg_left arg_found c.args.self.now.nodes c.find_map.new.self c.find_map.result c.find_map.ensures.ran c.find_map.ensures.runs)

pub returns-clause-steps : goal.returns-clause-steps
returns-clause-steps c =
    step_some (items_left c.args.self.now.nodes) (items_left c.find_map.new.self) c.find_map.result c.in_ok-arg.arg c.ends_in_semicolon.result c.in_ok-arg.was c.ends_in_semicolon.ensures
    (mapped (YieldsFirstRef items_left) (λ t. t.now) items_left (λ s t p. p) (λ s x t p. p) _ _ IsViewAsArg (λ x r q k. search (rules, tests))
    StepsToArg (refl, refl) arg_past arg_left arg_found c.args.self.now.nodes c.find_map.new.self c.find_map.result c.find_map.ensures.ran c.find_map.ensures.runs)

pub returns-clause-goes : goal.returns-clause-goes
returns-clause-goes c =
    step_goes c.args.self.now (record { nodes = c.find_map.new.self }) _
    (step_some (items_left c.args.self.now.nodes) (items_left c.find_map.new.self) c.find_map.result c.in_ok-arg.arg c.ends_in_semicolon.result c.in_ok-arg.was c.ends_in_semicolon.ensures
    (mapped (YieldsFirstRef items_left) (λ t. t.now) items_left (λ s t p. p) (λ s x t p. p) _ _ IsViewAsArg (λ x r q k. search (rules, tests))
    StepsToArg (refl, refl) arg_past arg_left arg_found c.args.self.now.nodes c.find_map.new.self c.find_map.result c.find_map.ensures.ran c.find_map.ensures.runs))
