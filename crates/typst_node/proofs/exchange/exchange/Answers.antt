use Rattle.std.proofs.Common.{arith, ◌≡◌, ◌∙◌, ◌+◌, take, drop, ap}
use Rattle.std.proofs.lemmas.List.{with_items_is}
use Rattle.std.specs.List.{splice}
use Rattle.typst_node.proofs.Exchanged.{splice-shrunk, splice-grown}
use Rattle.typst_node.proofs.exchange.exchange.Goals as goal
use Rattle.typst_node.proofs.exchange.exchange.Goals.{then-len-to+in_ok-reserve, else-len-to, then-len-shared, else-len-shared}

pub returns-clause-ok : goal.returns-clause-ok
returns-clause-ok g c =
    let xs = c.args.items.now.items in
    let ys = c.args.others.items in
    let zs = c.overwrite.new.items in
    let a = c.args.from in
    let b = c.args.to in
    let k = c.min-shared.result in
    let same : c.if-len-to.items.items ≡ xs = elim c.if-len-to.branch [ then-len-to+in_ok-reserve w ↦ ap (λ v. v.items) w.items-is ∙ w.reserve.ensures.items | else-len-to w ↦ ap (λ v. v.items) w.items-is ] in
    let part : c.deref_mut.result.now ≡ xs = c.deref_mut.ensures.value ∙ same in
    let others : c.deref_mut-2.result.now ≡ ys = c.deref_mut-2.ensures.value in
    let written : zs ≡ splice xs a (a + k) (take k ys) = c.overwrite.ensures.written ∙ (λ i. splice (part i) a (a + k) (take k (others i))) in
    elim c.if-len-shared.branch [
      | then-len-shared w ↦
          let left = rw (with_items_is c.if-len-to.items zs (omega arith)) at w.shrink.ensures in
          ap (λ v. v.items) w.items-is ∙ left ∙ splice-shrunk xs ys zs a b k (omega arith) (omega arith) (omega arith) written (omega arith)
      | else-len-shared w ↦
          let rest : w.shrink-else-len-shared.new.items.items ≡ drop k ys =
          w.shrink-else-len-shared.ensures ∙ ap (drop k) (with_items_is c.args.others c.overwrite.new.others (omega arith)) ∙ c.overwrite.ensures.left ∙ ap (drop k) others in
          let grown = rw (with_items_is c.if-len-to.items zs (omega arith), rest) at w.grow.ensures in
          ap (λ v. v.items) w.items-is ∙ grown ∙ splice-grown xs ys zs a b k (omega arith) (omega arith) (omega arith) written (omega arith)
    ]
