use Rattle.std.proofs.Common.{arith, ◌≡◌, ◌+◌, ◌%◌, ◌^◌, ◌∷◌, ◌<◌, List, ℕ, length, get_or, ap, sym, ◌∙◌}
use Rattle.std.proofs.lemmas.Grind.{get_or_default_zero}
use Rattle.typst_node.specs.Ends.{starts_in}
use Rattle.typst_node.specs.EndsLength.{length-ends_seen}
use Rattle.typst_node.proofs.Blocks.{lighter, seen_at, weight}
use Rattle.typst_node.proofs.ends.+get.Goals as goal

pub Ends::get-start_of-requires : goal.Ends::get-start_of-requires
Ends::get-start_of-requires t c =
    let many = length-ends_seen (0 ∷ starts_in c.self.inside.starts) 0 c.self.inside.within.items in (
      omega (arith, many, ap length c.self.view_is, lighter c.self.inside.starts (length c.self.inside.within.items) c.self.invariant.0 c.self.invariant.1),
      omega (arith, many, ap length c.self.view_is, c.self.invariant.1),
    )

pub Ends::get-index-requires : goal.Ends::get-index-requires
Ends::get-index-requires t c =
    omega (arith, length-ends_seen (0 ∷ starts_in c.self.inside.starts) 0 c.self.inside.within.items, ap length c.self.view_is, c.self.inside.within.ok)

pub Ends::get-returns : goal.Ends::get-returns
Ends::get-returns t c =
    let starts : List ℕ = 0 ∷ starts_in c.self.inside.starts in
    let within = c.self.inside.within.items in
    let inside : c.args.index < length within = omega (arith, length-ends_seen starts 0 within, ap length c.self.view_is) in
    let item : c.index.result.now ≡ get_or within c.args.index 0 = c.index.ensures ∙ get_or_default_zero within c.args.index c.index.result.now inside in
    (λ i. (c.start_of.ensures i + item i) % 2 ^ 32) ∙ (sym (seen_at starts within c.args.index inside) ∙ ap (λ (es : List ℕ). get_or es c.args.index 0) c.self.view_is)

pub start_of-get-requires : goal.start_of-get-requires
start_of-get-requires t c = (
  omega (arith, ap weight c.in-Some.is, ap length c.deref.ensures),
  omega (arith, c.requires, c.if-block-gt0.true, ap (λ s. length (starts_in s)) c.in-Some.is, ap length c.deref.ensures),
)
