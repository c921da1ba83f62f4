use Rattle.std.proofs.Common.{◌≡◌, true, ℕ, Option, Some, None, length, refl, sym, ap, ◌∙◌, arith}
use Rattle.std.specs.Prelude.{SomeIff, is_some}
use Rattle.typst_node.specs.Tree.{Tree}
use Rattle.typst_node.specs.Text.{text}
use Rattle.typst_node.specs.Count.{count}
use Rattle.typst_node.proofs.Put.{text_put, count_put, text_below, count_below}
use Rattle.typst_node.proofs.node.SyntaxNode.can_put.Goals as goal

-- there is a sum where it fits
some_if : (o : Option ℕ) (P : Type 0) (v : ℕ) → SomeIff o P v → (is_some o ≡ true → P) × (P → is_some o ≡ true)
some_if (Some x) P v h = ((λ yes. h.0), (λ p. refl))
some_if None P v h = ((λ yes. cc), (λ p. absurd (h p)))

pub overflow_sub-len : goal.overflow_sub-len
overflow_sub-len c = omega (arith, ap (λ (t : Tree). length (text t)) c.node_at-gone.ensures, text_below c.args.path.now c.args.self.now c.requires)

pub overflow_sub-descendants : goal.overflow_sub-descendants
overflow_sub-descendants c = omega (arith, ap count c.node_at-gone.ensures, count_below c.args.path.now c.args.self.now c.requires)

pub returns-then-is_some : goal.returns-then-is_some
returns-then-is_some c =
    let gone_text = ap (λ (t : Tree). length (text t)) c.node_at-gone.ensures in
    let gone_count = ap count c.node_at-gone.ensures in
    let texts = text_put c.args.path.now c.args.other.now c.args.self.now c.requires in
    let counts = count_put c.args.path.now c.args.other.now c.args.self.now c.requires in
    let first = (some_if _ _ _ c.checked_add.ensures).0 (sym c.is_some.ensures ∙ c.if-is_some.true) in
    let second = some_if _ _ _ c.checked_add-then-is_some.ensures in (
      (λ yes. (omega (arith, first, gone_text, texts), omega (arith, second.0 (sym c.is_some-then-is_some.ensures ∙ yes), gone_count, counts))),
      (λ fits. c.is_some-then-is_some.ensures ∙ second.1 (omega (arith, fits.1, gone_count, counts))),
    )

pub returns-else-is_some : goal.returns-else-is_some
returns-else-is_some c =
    let gone_text = ap (λ (t : Tree). length (text t)) c.node_at-gone.ensures in
    let texts = text_put c.args.path.now c.args.other.now c.args.self.now c.requires in
    let first = some_if _ _ _ c.checked_add.ensures in (
      (λ yes. cc),
      (λ fits. c.is_some.ensures ∙ first.1 (omega (arith, fits.0, gone_text, texts))),
    )
