use Rattle.std.proofs.Common.{◌≡◌, ◌++◌, ◌∷◌, ◌-◌, reverse, replicate}
use Rattle.typst_parser.proofs.unique.push_roles.Given as goal

abbrev pub invariant-loop : goal.invariant-loop
invariant-loop l = reverse l.roles.items ≡ replicate (l.counter - 1) l.others ++ (l.fn.first ∷ reverse l.fn.roles.items)
