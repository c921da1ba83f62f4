-- Equality of moves, as a test. The lemmas stand here since the laws of a trait cite them.
use Rattle.std.specs.Prelude.{Bool, nat_eq}
use Rattle.std.specs.Ordering.{on, eq_of_both}
use Rattle.std.specs.Option.{option_eq}
use Rattle.std.specs.Cmp.{IsEquivalence, IsPartialEquivalence, partial_equiv_from_equiv, on_equiv, and_equiv, nat_eq_equiv}
use Rattle.std.specs.Cmp.Lexicographic.{options_equiv}
use lib.Pointwise.{pointwise}
use Rattle.std.proofs.lemmas.Cmp.{nat_list_eq_equiv}
use Rattle.typst_node.specs.Moves.{NumberMoves}

-- whether moves have the same numbers
abbrev pub numbers_eq : NumberMoves → NumberMoves → Bool
numbers_eq =
    eq_of_both (on (λ m. m.olds) (pointwise nat_eq))
    (eq_of_both (on (λ m. m.news) (pointwise nat_eq)) (eq_of_both (on (λ m. m.gone.start) nat_eq) (on (λ m. m.gone.end) nat_eq)))

-- equality of the numbers of moves is an equivalence
pub numbers_equivalence : IsEquivalence numbers_eq
numbers_equivalence =
    and_equiv (on_equiv (λ m. m.olds) nat_list_eq_equiv)
    (and_equiv (on_equiv (λ m. m.news) nat_list_eq_equiv) (and_equiv (on_equiv (λ m. m.gone.start) nat_eq_equiv) (on_equiv (λ m. m.gone.end) nat_eq_equiv)))

-- whether moves have the same file and the same numbers
abbrev pub moves_eq : NumberMoves → NumberMoves → Bool
moves_eq = eq_of_both (on (λ m. m.file) (option_eq nat_eq)) numbers_eq

-- equality of moves is an equivalence, as `Eq` requires
pub moves_equivalence : IsEquivalence moves_eq
moves_equivalence = and_equiv (on_equiv (λ m. m.file) (options_equiv nat_eq_equiv)) numbers_equivalence

-- equality of moves is symmetric and transitive, as `PartialEq` requires
pub moves_laws : IsPartialEquivalence moves_eq
moves_laws = partial_equiv_from_equiv moves_equivalence
