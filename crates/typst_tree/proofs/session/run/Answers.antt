use Rattle.std.proofs.Common.{◌∙◌, arith}
use Rattle.std.proofs.lemmas.List.{take_all}
use Rattle.typst_node.specs.Paths.{tree_at}
use Rattle.typst_node.specs.Plain.{plain}
use Rattle.typst_tree.specs.Run.{edited_by}
use Rattle.typst_tree.proofs.Reading.{reads_as}
use Rattle.typst_tree.proofs.KeptPaths.{kept_same}
use Rattle.typst_linked.proofs.OneNumber.{found_by_label, still_numbered}
use Rattle.typst_tree.proofs.Runs.{run_more, rest_more, answer_numbered, plain_more}
use Rattle.typst_tree.proofs.session.run.Goals as goal

pub loop-slot-preserved : goal.loop-slot-preserved
loop-slot-preserved c =
    let i = c.loop-slot.slot-index in
    record {
      run = run_more c.args.root.now c.args.slots.now c.loop-slot.slots i c.loop-slot.root c.slot-item.result c.answer.new.slot c.answer.new.root c.loop-slot-test.true c.loop-slot.auto.slots c.loop-slot.invariant.rest c.loop-slot.invariant.run c.answer.ensures;
      rest = rest_more c.args.slots.now c.loop-slot.slots i c.slot-item.result c.answer.new.slot c.loop-slot-test.true c.loop-slot.auto.slots c.loop-slot.invariant.rest;
      numbered = answer_numbered c.args.root.now.label.span.file c.loop-slot.root _ c.answer.new.slot c.answer.new.root c.loop-slot.invariant.numbered c.answer.ensures;
      plain = plain_more c.args.root.now c.args.slots.now c.loop-slot.slots i c.loop-slot.root c.slot-item.result c.answer.new.slot c.answer.new.root c.loop-slot-test.true c.loop-slot.auto.slots c.loop-slot.invariant.rest c.loop-slot.invariant.plain c.answer.ensures;
    }

pub returns-clause-kept : goal.returns-clause-kept
returns-clause-kept c p q there kept = kept_same c.args.slots.now c.loop-slot.slots c.args.root.now c.loop-slot.root p q kept there

pub returns-clause-found_again : goal.returns-clause-found_again
returns-clause-found_again c p q there kept =
    let same = kept_same c.args.slots.now c.loop-slot.slots c.args.root.now c.loop-slot.root p q kept there in
    found_by_label c.loop-slot.root q (tree_at p c.args.root.now).label (still_numbered c.args.root.now c.loop-slot.root c.requires.numbered_ask_is_numbered c.loop-slot.invariant.numbered) same.0 same.1

pub returns-clause-reads : goal.returns-clause-reads
returns-clause-reads c =
    let i = c.loop-slot.slot-index in
    let olds = take_all i c.args.slots.now (omega (arith, c.loop-slot-test.false)) in
    let news = take_all i c.loop-slot.slots (omega (arith, c.loop-slot-test.false, c.loop-slot.auto.slots)) in
    reads_as c.loop-slot.root (edited_by c.args.slots.now c.loop-slot.slots c.args.root.now) (c.loop-slot.invariant.plain ∙ (λ k. plain (edited_by (olds k) (news k) c.args.root.now)))
