use Rattle.std.proofs.Common.{arith, ◌≡◌, ◌+◌, ◌/◌, ◌%◌, ◌∷◌, ◌<◌, ◌≤◌, ◌^◌, List, ℕ, length, get_or, ap, sym, ◌∙◌}
use Rattle.std.proofs.lemmas.List.{with_items_is}
use Rattle.std.specs.Vec.{with_items}
use Rattle.typst_node.specs.Ends.{ends_seen, starts_in}
use Rattle.typst_node.specs.EndsLength.{length-ends_seen}
use Rattle.typst_node.proofs.Blocks.{lighter, stays, rises, weight}
use Rattle.typst_node.proofs.ends.+add.Goals as goal

pub Ends::add-overflow_mul-block : goal.Ends::add-overflow_mul-block
Ends::add-overflow_mul-block t c =
    omega (arith, length-ends_seen (0 ∷ starts_in c.self.inside.starts) 0 c.self.inside.within.items, ap length c.self.view_is, c.self.inside.within.ok, c.self.inside.within.small)

pub Ends::add-raise-requires-clause-window : goal.Ends::add-raise-requires-clause-window
Ends::add-raise-requires-clause-window t c =
    omega (arith, length-ends_seen (0 ∷ starts_in c.self.inside.starts) 0 c.self.inside.within.items, ap length c.self.view_is, c.self.inside.within.ok)

pub Ends::add-raise_starts-requires : goal.Ends::add-raise_starts-requires
Ends::add-raise_starts-requires t c =
    let many = length-ends_seen (0 ∷ starts_in c.self.inside.starts) 0 c.self.inside.within.items in (
      omega (arith, many, ap length c.self.view_is, lighter c.self.inside.starts (length c.self.inside.within.items) c.self.invariant.0 c.self.invariant.1),
      (c.self.invariant.0, omega (arith, many, ap length c.self.view_is, c.self.invariant.1)),
    )

pub Ends::add-returns : goal.Ends::add-returns
Ends::add-returns t c =
    let starts = starts_in c.self.inside.starts in
    let before = c.self.inside.within.items in
    let others = starts_in c.raise_starts.new.starts in
    let after = c.raise.new.numbers in
    let was : c.deref_mut.result.now ≡ before = c.deref_mut.ensures.value in
    let stop : ℕ = c.min-stop.result in
    let old_many : length before ≡ length c.args.self.now = sym (length-ends_seen (0 ∷ starts) 0 before) ∙ ap length c.self.view_is in
    let many : length after ≡ length before = omega (arith, c.raise.auto.numbers, ap length was) in
    let same_block : (k : ℕ) → c.args.from ≤ k → k < stop → k / 256 ≡ c.args.from / 256 = λ k a b. omega arith in
    let later_block : (k : ℕ) → stop ≤ k → k < length before → c.args.from / 256 < k / 256 = λ k a b. omega (arith, c.self.inside.within.ok) in
    let raised : (k : ℕ) → c.args.from ≤ k → k < stop → get_or after k 0 ≡ (get_or before k 0 + c.args.by) % 2 ^ 32 =
    λ k a b. c.raise.ensures.raised k a b ∙ ap (λ (xs : List ℕ). (get_or xs k 0 + c.args.by) % 2 ^ 32) was in
    let front : (k : ℕ) → k < c.args.from → get_or after k 0 ≡ get_or before k 0 = λ k a. c.raise.ensures.before k a ∙ ap (λ (xs : List ℕ). get_or xs k 0) was in
    let back : (k : ℕ) → stop ≤ k → get_or after k 0 ≡ get_or before k 0 = λ k a. c.raise.ensures.behind k a ∙ ap (λ (xs : List ℕ). get_or xs k 0) was in
    let held : List ℕ = (with_items c.self.inside.within after).items in
    let held_is : held ≡ after = with_items_is c.self.inside.within after (omega (arith, c.self.inside.within.ok)) in
    let low = stays starts others before after c.args.from stop c.args.by many c.self.invariant.1 same_block later_block raised front back c.raise_starts.ensures.before c.raise_starts.ensures.behind in
    let high = rises starts others before after c.args.from stop c.args.by many c.self.invariant.1 same_block later_block raised front back c.raise_starts.ensures.before c.raise_starts.ensures.behind in
    record {
      len = length-ends_seen (0 ∷ others) 0 held ∙ (ap length held_is ∙ (many ∙ old_many));
      before = λ k h. ap (λ (xs : List ℕ). get_or (ends_seen (0 ∷ others) 0 xs) k 0) held_is ∙ (low k (omega (arith, old_many, c.requires)) h ∙ ap (λ (es : List ℕ). get_or es k 0) c.self.view_is);
      behind = λ k a b. ap (λ (xs : List ℕ). get_or (ends_seen (0 ∷ others) 0 xs) k 0) held_is
          ∙ (high k (omega (arith, old_many)) a ∙ ap (λ (es : List ℕ). (get_or es k 0 + c.args.by) % 2 ^ 32) c.self.view_is);
    }

pub raise_starts-add-requires : goal.raise_starts-add-requires
raise_starts-add-requires t c = (
  omega (arith, ap weight c.in-Some.is, ap length c.deref_mut.ensures.value),
  omega (arith, c.requires.inside, ap (λ s. length (starts_in s)) c.in-Some.is, ap length c.deref_mut.ensures.value),
)
