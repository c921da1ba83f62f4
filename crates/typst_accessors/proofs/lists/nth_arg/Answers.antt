use Rattle.std.proofs.Common.{refl, sym, ◌∙◌, None, Some}
use Rattle.typst_accessors.proofs.Nth.{nth_told}
use Rattle.typst_accessors.proofs.lists.nth_arg.Goals as goal
use Rattle.typst_ast.specs.MathArgItem.{told_arg}
use Rattle.typst_ast.specs.MathArgs.{args_left, told_arg_of}

pub returns-in-Some : goal.returns-in-Some
returns-in-Some c =
    c.to_untyped.ensures
    ∙ nth_told told_arg told_arg_of (λ p. p.0) (λ p. refl) args_left c.args.args c.nth.new.self c.args.index (Some c.in-Some.arg) c.in-Some.ensures.ran

pub returns-in-None : goal.returns-in-None
returns-in-None c =
    sym (nth_told told_arg told_arg_of (λ p. p.0) (λ p. refl) args_left c.args.args c.nth.new.self c.args.index None c.in-None.ensures.ran)
