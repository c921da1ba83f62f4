use Rattle.std.proofs.Common.{arith, ◌≡◌, ◌++◌, List, ◌∷◌, [], ℕ, OnOk, Result, Ok, Err}
use Rattle.std.proofs.lemmas.Grind.{common_steps}
use Rattle.typst_script.proofs.Indices.{single_index, first_index, joined_indices, shorter_rest}
use Rattle.typst_script.proofs.path.+push_indices.Goals as goal

pub push_number-requires : goal.push_number-requires
push_number-requires t c refute =
    c.requires.1.1 (λ (indices, h).
    let it = first_index indices _ _ _ c.in-Some.ensures.reads c.in-Some.ensures.every h in
    refute (it.0, it.3))

pub push_indices-requires : goal.push_indices-requires
push_indices-requires t c = (
  omega (arith, c.requires.1.0, shorter_rest _ _ _ c.in-Some.ensures.reads),
  λ refute. c.requires.1.1 (λ (indices, h).
      let it = first_index indices _ _ _ c.in-Some.ensures.reads c.in-Some.ensures.every h in
      refute (it.1, it.4)),
)

pub push_number-requires-in-None : goal.push_number-requires-in-None
push_number-requires-in-None t c refute =
    c.requires.1.1 (λ (indices, h).
    let it = single_index indices _ c.in-None.ensures.every h in
    refute (it.0, it.2))

-- a fact holds after a success if another fact holds then that it follows from
follows_ok : {T E : Type 0} (r : Result T E) (P Q : Type 0) → (P → Q) → OnOk r P → OnOk r Q
follows_ok (Ok x) P Q f h = f h
follows_ok (Err e) P Q f h = tt

pushed_both : (old first all more : List ℕ) (n : ℕ) → first ≡ old ++ n ∷ [] → all ≡ first ++ more → all ≡ old ++ n ∷ more
pushed_both old first all more n pushed is = grind (arith, common_steps, pushed, is)

pub returns-in_ok-push_number-in-Some : goal.returns-in_ok-push_number-in-Some
returns-in_ok-push_number-in-Some t c =
    let (n, number, pushed) = c.in_ok-push_number-in-Some.ensures in
    follows_ok c.push_indices.result _ _
    (λ (more, rest, is). (n ∷ more, joined_indices more _ _ _ n c.in-Some.ensures.reads number rest, pushed_both _ _ _ more n pushed is))
    c.push_indices.ensures
