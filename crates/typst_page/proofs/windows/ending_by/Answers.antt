use Rattle.std.proofs.Common.{◌≡◌, ◌+◌, length, Some, refl, ap, arith, inl, inr}
use Rattle.std.specs.Prelude.{slice_get}
use Rattle.std.proofs.lemmas.Bool.{cases_lt}
use Rattle.std.proofs.lemmas.Option.{slice_get_read}
use Rattle.typst_node.specs.Tree.{trees}
use Rattle.typst_node.proofs.Offsets.{length-text, text_of_all-more, text_of_all-take}
use Rattle.typst_linked.proofs.Covers.{begin_at-le}
use Rattle.typst_page.proofs.windows.ending_by.Goals as goal

pub overflow_add-end : goal.overflow_add-end
overflow_add-end c =
    let ts = trees c.args.node.now.children in
    let i = c.loop-i.i in
    let child = c.index-children-i.result in
    let s : slice_get ts i ≡ Some child = rw (← c.child_slice-children.ensures.children) (slice_get_read c.child_slice-children.result.now (length c.child_slice-children.result.now) i child refl (omega arith) c.index-children-i.is) in
    omega (arith, text_of_all-more ts i child s, text_of_all-take ts (i + 1), length-text c.args.node.now)

pub returns-then-end-byte : goal.returns-then-end-byte
returns-then-end-byte c =
    let ts = trees c.args.node.now.children in
    let i = c.loop-i.i in
    let child = c.index-children-i.result in
    let s : slice_get ts i ≡ Some child = rw (← c.child_slice-children.ensures.children) (slice_get_read c.child_slice-children.result.now (length c.child_slice-children.result.now) i child refl (omega arith) c.index-children-i.is) in
    record {
      within = omega (arith, ap length c.child_slice-children.ensures.children);
      ends = omega arith;
      most = λ m h by.
          elim (cases_lt i m) [
            | inl late ↦ absurd (omega (arith, text_of_all-more ts i child s, begin_at-le ts (i + 1) m (omega arith)))
            | inr soon ↦ omega arith
          ];
    }

pub loop-i-preserved : goal.loop-i-preserved
loop-i-preserved c =
    let ts = trees c.args.node.now.children in
    let i = c.loop-i.i in
    let child = c.index-children-i.result in
    let s : slice_get ts i ≡ Some child = rw (← c.child_slice-children.ensures.children) (slice_get_read c.child_slice-children.result.now (length c.child_slice-children.result.now) i child refl (omega arith) c.index-children-i.is) in
    record { sum = omega (arith, text_of_all-more ts i child s); by = omega arith }
