use Rattle.std.specs.Prelude.{IfSome, IsSome}
use Rattle.std.specs.Io.Take.{take_remaining}
use Rattle.typst_script.proofs.script.obey_lines.Given as goal

-- if the bytes were known at first, the bytes that are left are known
abbrev pub invariant-loop-line : goal.invariant-loop-line
invariant-loop-line g l =
    IfSome (take_remaining g.R.Read.remaining l.initial.input) (λ _. IsSome (take_remaining g.R.Read.remaining l.input))
