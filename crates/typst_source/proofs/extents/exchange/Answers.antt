use Rattle.std.proofs.Common.{◌≡◌, ◌∙◌, ◌+◌, ◌++◌, length, take, drop, ap, sym, ◌-◌, arith, length-take-le}
use Rattle.std.proofs.lemmas.List.{with_items_is, take-take, take-append-le}
use Rattle.std.proofs.Math.Seq.{drop-append_seam}
use Rattle.typst_source.proofs.Blocks.{take_less}
use Rattle.typst_source.proofs.extents.exchange.Goals as goal
use Rattle.typst_source.proofs.extents.exchange.Goals.{then-end-to, else-end-to+then-end-to-2, else-end-to+else-end-to-2}

pub returns : goal.returns
returns c =
    let xs = c.args.extents.now.items in
    let a = c.args.from in
    let b = c.args.to in
    let e = c.args.from + length c.args.others.now in
    let vs = c.if-end-to.extents.items in
    let front : take a vs ≡ take a xs = elim c.if-end-to.branch [
      | then-end-to w ↦ ap (λ v. take a v.items) w.extents-is ∙ take_less a b w.widen.new.extents.items xs (omega arith) w.widen.ensures.before
      | else-end-to+then-end-to-2 w ↦
          ap (λ v. take a v.items) w.extents-is ∙ ap (take a) w.narrow.ensures
          ∙ take-append-le a (take e xs) (drop b xs) (omega (arith, length-take-le e xs (omega arith))) ∙ take-take a e xs (omega arith)
      | else-end-to+else-end-to-2 w ↦ ap (λ v. take a v.items) w.extents-is
    ] in
    let back : drop e vs ≡ drop b xs = elim c.if-end-to.branch [
      | then-end-to w ↦
          let at : e ≡ b + (e - b) = omega arith in
          ap (λ v. drop e v.items) w.extents-is ∙ ap (λ i. drop i w.widen.new.extents.items) at ∙ w.widen.ensures.behind
      | else-end-to+then-end-to-2 w ↦
          let len : length (take e xs) ≡ e = length-take-le e xs (omega arith) in
          ap (λ v. drop e v.items) w.extents-is ∙ ap (drop e) w.narrow.ensures
          ∙ ap (λ i. drop i (take e xs ++ drop b xs)) (sym len) ∙ drop-append_seam (take e xs) (drop b xs)
      | else-end-to+else-end-to-2 w ↦ let at : e ≡ b = omega arith in ap (λ v. drop e v.items) w.extents-is ∙ ap (λ i. drop i xs) at
    ] in
    let whole : c.deref_mut.result.now ≡ vs = c.deref_mut.ensures.value in
    with_items_is c.if-end-to.extents c.overwrite.new.extents (omega arith)
    ∙ c.overwrite.ensures ∙ (λ i. take a (whole i) ++ (c.args.others.now ++ drop e (whole i)))
    ∙ (λ i. front i ++ (c.args.others.now ++ back i))
