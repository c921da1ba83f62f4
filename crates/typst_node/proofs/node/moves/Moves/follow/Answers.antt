use Rattle.std.proofs.Common.{arith, ◌≡◌, ◌<◌, ◌≤◌, ℕ, false, length, get_or, sym, ap, subst, ◌∙◌, List}
use Rattle.std.proofs.lemmas.Grind.{get_or_default_zero}
use Rattle.std.proofs.lemmas.List.Sorted.{searched}
use Rattle.typst_node.specs.Numbered.{Rise}
use Rattle.typst_node.specs.Moves.{NumberMoves, followed, is_within}
use Rattle.typst_node.proofs.Following.{test_is, rise_le, followed_listed, followed_other}
use Rattle.typst_node.proofs.node.moves.Moves.follow.Goals as goal

absurd_at : (xs : List ℕ) (n k i : ℕ) → ((j : ℕ) → j < k → get_or xs j 0 < n) → ((j : ℕ) → k ≤ j → j < length xs → n < get_or xs j 0) → i < length xs → get_or xs i 0 ≡ n → ⊥
absurd_at xs n k i low high h is =
    let never : i < k → ⊥ = λ below. let less = low i below in omega arith in
    let above : k ≤ i = omega (arith, never) in
    let more = high i above h in
    omega arith

pub returns-in-Ok : goal.returns-in-Ok
returns-in-Ok c =
    let m : NumberMoves = record { file = c.self.inside.id; olds = c.self.inside.olds.items; news = c.self.inside.news.items; gone = c.self.inside.gone } in
    let n = c.args.number in
    let i = c.in-Ok.index in
    let out : is_within m.gone n ≡ false = sym (test_is m.gone n) ∙ sym c.if-contains.ensures.value in
    let list : c.deref.result.now ≡ m.olds = c.deref.ensures.value in
    let rises : (i j : ℕ) → i ≤ j → j < length c.deref.result.now → get_or c.deref.result.now i 0 ≤ get_or c.deref.result.now j 0 = rise_le c.deref.result.now (subst Rise (sym list) c.self.invariant.0) in
    let search = rw c.in-Ok.is at (searched c.deref.result.now n c.binary_search.result c.binary_search.ensures.position rises) in
    let there : i < length m.olds = omega (arith, search.0, ap length list) in
    let here : get_or m.olds i 0 ≡ n = sym (ap (λ (xs : List ℕ). get_or xs i 0) list) ∙ search.1 in
    let new : get_or m.news i 0 ≡ c.index.result.now = sym (get_or_default_zero m.news i c.index.result.now (omega (arith, c.self.invariant.1))) ∙ sym c.index.ensures in
    sym (followed_listed m n i c.index.result.now out c.self.invariant.0 there here c.self.invariant.1 new) ∙ ap (λ m. followed m n) c.self.view_is

pub returns-in-Err : goal.returns-in-Err
returns-in-Err c =
    let m : NumberMoves = record { file = c.self.inside.id; olds = c.self.inside.olds.items; news = c.self.inside.news.items; gone = c.self.inside.gone } in
    let n = c.args.number in
    let out : is_within m.gone n ≡ false = sym (test_is m.gone n) ∙ sym c.if-contains.ensures.value in
    let list : c.deref.result.now ≡ m.olds = c.deref.ensures.value in
    let rises : (i j : ℕ) → i ≤ j → j < length c.deref.result.now → get_or c.deref.result.now i 0 ≤ get_or c.deref.result.now j 0 = rise_le c.deref.result.now (subst Rise (sym list) c.self.invariant.0) in
    let search = rw c.in-Err.is at (searched c.deref.result.now n c.binary_search.result c.binary_search.ensures.position rises) in
    let none : (i : ℕ) → i < length m.olds → ¬ (get_or m.olds i 0 ≡ n) = λ i h is. absurd_at c.deref.result.now n c.in-Err.field-0 i search.1 search.2 (omega (arith, ap length list)) (ap (λ (xs : List ℕ). get_or xs i 0) list ∙ is) in
    sym (followed_other m n out c.self.invariant.1 none) ∙ ap (λ m. followed m n) c.self.view_is
