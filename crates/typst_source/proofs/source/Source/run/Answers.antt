use Rattle.std.proofs.Common.{◌≡◌, ◌∙◌, ◌++◌, ◌∷◌, [], sym, ap, subst, length, take, ◌+◌, List, arith, is_ok, true}
use Rattle.std.proofs.ResultArms.{chosen}
use Rattle.std.proofs.Math.Seq.{take-length}
use Rattle.std.proofs.lemmas.List.{take_more}
use Rattle.typst_linked.proofs.OneNumber.{own_number, still_numbered}
use Rattle.typst_linked.specs.Search.{with_number}
use Rattle.typst_node.specs.Numbered.{IsNumbered, IsNumberedFor}
use Rattle.typst_source.specs.Runs.{IsRun}
use Rattle.typst_source.specs.declared.runs.Outcome.{Outcome}
use Rattle.typst_source.specs.declared.runs.TextEdit.{TextEdit}
use Rattle.typst_source.proofs.Followed.{followed_found, all_found}
use Rattle.typst_source.proofs.Ran.{ok_of, own_file, run_more, run_text, run_fresh, run_numbered, kept_same, number_kept}
use Rattle.typst_source.proofs.source.Source.run.Given as given
use Rattle.typst_source.proofs.source.Source.run.Goals as goal
use Rattle.typst_source.proofs.source.Source.run.Goals.{After-loop-edit}

pub loop-edit-preserved : goal.loop-edit-preserved
loop-edit-preserved g c =
    let done : is_ok c.push.result ≡ true = ok_of c.push.result c.push.ensures.full (λ full. omega (arith, full, c.loop-edit.invariant.many, c.loop-edit.invariant.room, c.loop-edit-test.true)) in
    let pushed = chosen _ _ _ _ c.push.ensures.items done in
    let longer = chosen _ _ _ _ c.push.ensures.len done in
    record {
      many = longer ∙ ap (λ n. n + 1) c.loop-edit.invariant.many;
      room = omega (arith, c.push.ensures.capacity, c.loop-edit.invariant.room);
      run = subst (λ (outs : List Outcome). IsRun g.P.BlockParser.first c.args.self.now (take (c.loop-edit.edit-index + 1) c.args.edits.now) outs c.serve-outcome.new.self) (sym pushed)
          (subst (λ (edits : List TextEdit). IsRun g.P.BlockParser.first c.args.self.now edits (c.loop-edit.outcomes.items ++ c.serve-outcome.result ∷ []) c.serve-outcome.new.self)
          (sym (take_more c.args.edits.now c.loop-edit.edit-index _ c.loop-edit-test.true))
          (run_more g.P.BlockParser.first c.args.self.now _ _ c.loop-edit.self _ c.serve-outcome.result c.serve-outcome.new.self c.loop-edit.invariant.run c.serve-outcome.ensures));
    }

run_is : (g : given.Over) (c : After-loop-edit g) → IsRun g.P.BlockParser.first c.args.self.now c.args.edits.now c.loop-edit.outcomes.items c.loop-edit.self
run_is g c =
    let e : c.loop-edit.edit-index ≡ length c.args.edits.now = omega (arith, c.loop-edit-test.false, c.loop-edit.auto.edit-index-end) in
    subst (λ (edits : List TextEdit). IsRun g.P.BlockParser.first c.args.self.now edits c.loop-edit.outcomes.items c.loop-edit.self) (ap (λ n. take n c.args.edits.now) e ∙ take-length c.args.edits.now) c.loop-edit.invariant.run

pub returns-clause-run : goal.returns-clause-run
returns-clause-run g c = run_is g c

pub returns-clause-edited : goal.returns-clause-edited
returns-clause-edited g c = run_text g.P.BlockParser.first c.args.self.now c.args.edits.now c.loop-edit.outcomes.items c.loop-edit.self (run_is g c)

pub returns-clause-fresh : goal.returns-clause-fresh
returns-clause-fresh g c = run_fresh g.P.BlockParser.first c.args.self.now c.args.edits.now c.loop-edit.outcomes.items c.loop-edit.self c.root-root.ensures.fresh (run_is g c)

pub returns-clause-numbered : goal.returns-clause-numbered
returns-clause-numbered g c =
    run_numbered g.P.BlockParser.first c.args.self.now.label.span.file c.args.self.now c.args.edits.now c.loop-edit.outcomes.items c.loop-edit.self
    (own_file c.args.self.now c.root-root.ensures.numbered) (run_is g c)

pub returns-clause-kept : goal.returns-clause-kept
returns-clause-kept g c p q there kept = kept_same g.P.BlockParser.first c.args.edits.now c.loop-edit.outcomes.items c.args.self.now c.loop-edit.self p q kept there

pub returns-clause-found_again : goal.returns-clause-found_again
returns-clause-found_again g c p q there kept =
    let same = number_kept g.P.BlockParser.first c.args.edits.now c.loop-edit.outcomes.items c.args.self.now c.loop-edit.self p q kept there in
    let numbered : IsNumberedFor c.args.self.now.label.span.file c.loop-edit.self = run_numbered g.P.BlockParser.first c.args.self.now.label.span.file c.args.self.now c.args.edits.now c.loop-edit.outcomes.items c.loop-edit.self
    (own_file c.args.self.now c.root-root.ensures.numbered) (run_is g c) in
    ap (λ n. with_number n c.loop-edit.self) (sym same.1) ∙ own_number c.loop-edit.self q (still_numbered c.args.self.now c.loop-edit.self c.root-root.ensures.numbered numbered) same.0

end_numbered : (g : given.Over) (c : After-loop-edit g) → IsNumbered c.args.self.now → IsNumbered c.loop-edit.self
end_numbered g c numbered =
    still_numbered c.args.self.now c.loop-edit.self numbered
    (run_numbered g.P.BlockParser.first c.args.self.now.label.span.file c.args.self.now c.args.edits.now c.loop-edit.outcomes.items c.loop-edit.self (own_file c.args.self.now numbered) (run_is g c))

pub returns-clause-followed : goal.returns-clause-followed
returns-clause-followed g c p q there taken =
    followed_found g.P.BlockParser.first c.args.edits.now c.loop-edit.outcomes.items c.args.self.now c.loop-edit.self p q (end_numbered g c c.root-root.ensures.numbered) taken there

pub returns-clause-all : goal.returns-clause-all
returns-clause-all g c p there =
    all_found g.P.BlockParser.first c.args.edits.now c.loop-edit.outcomes.items c.args.self.now c.loop-edit.self p (end_numbered g c c.root-root.ensures.numbered) (run_is g c) there
