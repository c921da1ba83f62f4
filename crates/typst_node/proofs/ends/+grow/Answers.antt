use Rattle.std.proofs.Common.{arith, ◌≡◌, ◌-◌, ◌/◌, ◌≤◌, ◌∷◌, ◌++◌, List, ℕ, length, take, replicate, ap, ◌∙◌}
use Rattle.std.proofs.lemmas.List.{length-append, length-replicate, take_all}
use Rattle.typst_node.specs.Ends.{ends_seen, starts_in}
use Rattle.typst_node.specs.EndsLength.{length-ends_seen}
use Rattle.typst_node.proofs.Blocks.{seen_before, where_ok, with_none}
use Rattle.typst_node.proofs.ends.+grow.Goals as goal

pub Ends::extend-returns-then-many-count-clause-ok : goal.Ends::extend-returns-then-many-count-clause-ok
Ends::extend-returns-then-many-count-clause-ok t c =
    let ends = length-ends_seen (0 ∷ starts_in c.self.inside.starts) 0 c.self.inside.within.items in
    with_none c.args.self.now (c.args.many - length c.args.self.now) (omega (arith, ends, ap length c.self.view_is, c.self.inside.within.ok))

pub Ends::extend-returns-in_err-reserve-clause-succeeds : goal.Ends::extend-returns-in_err-reserve-clause-succeeds
Ends::extend-returns-in_err-reserve-clause-succeeds t c few =
    absurd (omega (arith, length-ends_seen (0 ∷ starts_in c.self.inside.starts) 0 c.self.inside.within.items, ap length c.self.view_is, c.self.inside.within.ok))

pub Ends::extend-returns-in_err-grow-clause-succeeds : goal.Ends::extend-returns-in_err-grow-clause-succeeds
Ends::extend-returns-in_err-grow-clause-succeeds t c few =
    absurd (omega (arith, length-ends_seen (0 ∷ starts_in c.self.inside.starts) 0 c.self.inside.within.items, ap length c.self.view_is, c.self.inside.within.ok))

pub Ends::extend-clear-requires : goal.Ends::extend-clear-requires
Ends::extend-clear-requires t c =
    let left = c.reserve.new.self in
    let room : c.args.many ≤ left.cap = omega (arith, c.in_ok-reserve.ensures.len, c.in_ok-reserve.ensures.ok) in
    omega (arith, length-ends_seen (0 ∷ starts_in c.grow.new.starts) 0 c.resize.new.self.items, c.resize.ensures.len ∙ where_ok c.resize.result c.args.many left.len (c.resize.ensures.succeeds room), c.resize.new.self.ok, c.in_ok-reserve.ensures.len)

pub Ends::extend-returns-clause-ok : goal.Ends::extend-returns-clause-ok
Ends::extend-returns-clause-ok t c =
    let starts = starts_in c.self.inside.starts in
    let within = c.self.inside.within.items in
    let left = c.reserve.new.self in
    let more : List ℕ = replicate (c.args.many - left.len) 0 in
    let blocks : ℕ = c.args.many / 256 - length starts in
    let ends = length-ends_seen (0 ∷ starts) 0 within in
    let room : c.args.many ≤ left.cap = omega (arith, c.in_ok-reserve.ensures.len, c.in_ok-reserve.ensures.ok) in
    let few : length within ≤ c.args.many = omega (arith, c.self.inside.within.ok) in
    let made : c.resize.new.self.items ≡ within ++ more =
    c.resize.ensures.items ∙ (where_ok c.resize.result (take c.args.many left.items ++ more) left.items (c.resize.ensures.succeeds room)
    ∙ ap (λ (xs : List ℕ). xs ++ more) (ap (take c.args.many) c.in_ok-reserve.ensures.items ∙ take_all c.args.many within few)) in
    let seen : ends_seen (0 ∷ starts_in c.grow.new.starts) 0 c.resize.new.self.items ≡ ends_seen (0 ∷ (starts ++ replicate blocks 0)) 0 (within ++ more) =
    (λ i. ends_seen (0 ∷ c.in_ok-grow.ensures.ok i) 0 (made i)) in
    let count : c.len-count.result ≡ length within = omega (arith, c.self.inside.within.ok) in
    let kept : take c.len-count.result (ends_seen (0 ∷ starts_in c.grow.new.starts) 0 c.resize.new.self.items) ≡ c.args.self.now =
    (λ i. take (count i) (seen i)) ∙ (seen_before starts within more blocks ∙ c.self.view_is) in
    let gone : length (ends_seen (0 ∷ starts_in c.grow.new.starts) 0 c.resize.new.self.items) - c.len-count.result ≡ c.args.many - length c.args.self.now =
    omega (arith, length-ends_seen (0 ∷ starts_in c.grow.new.starts) 0 c.resize.new.self.items, ap length made, length-append within more, length-replicate {A = ℕ} (c.args.many - left.len) 0, ends, ap length c.self.view_is, c.in_ok-reserve.ensures.len, c.self.inside.within.ok) in
    c.clear.ensures ∙ (λ i. kept i ++ replicate (gone i) 0)
