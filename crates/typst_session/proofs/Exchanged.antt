-- A stack whose top nodes are exchanged.
use Rattle.std.proofs.Common.{◌≡◌, ℕ, ◌+◌, List, [], ◌∷◌, ◌++◌, length, take, ◌∙◌, arith, length-take, length-append, append-nil}
use Rattle.std.proofs.lemmas.List.{take_all}
use Rattle.typst_node.specs.Tree.{Tree}

-- where no node was exchanged, the stack is as it was
pub nothing_taken : (old places : List Tree) (start : ℕ) → start + length places ≡ length old → start ≡ length (take start old ++ places) → take start old ++ places ≡ old
nothing_taken old [] start all end = append-nil (take start old) ∙ take_all start old (omega (arith, all))
nothing_taken old (p ∷ ps) start all end = absurd (omega (arith, all, end, length-append (take start old) (p ∷ ps), length-take start old))
