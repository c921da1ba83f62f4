use Rattle.std.proofs.Common.{ap, arith, rules, sym}
use Rattle.std.proofs.lemmas.Grind.{common_steps}
use Rattle.typst_base.specs.Mapping.{mapping_of}
use Rattle.typst_base.proofs.MapperLemmas.{first_invalid_next, kept_all, kept_ranges, kept_runs}
use Rattle.typst_base.specs.SubRange.{interval}
use Rattle.typst_base.proofs.SoundSegments.{by_unsound, valid_sound}
use Rattle.typst_base.proofs.mapper.RangeMapper.new.Goals as goal

pub invariant_of-result : goal.invariant_of-result
invariant_of-result c =
    let all = kept_all c.loop-segment.kept.items c.loop-segment.upto c.loop-segment.segment-index c.args.segments.now c.loop-segment-test.false c.loop-segment.invariant.kept in
    kept_runs c.loop-segment.kept.items c.args.segments.now all

pub returns-clause-mapping : goal.returns-clause-mapping
returns-clause-mapping c =
    let all = kept_all c.loop-segment.kept.items c.loop-segment.upto c.loop-segment.segment-index c.args.segments.now c.loop-segment-test.false c.loop-segment.invariant.kept in
    ap mapping_of (kept_ranges c.loop-segment.kept.items c.args.segments.now all)

pub loop-segment-preserved : goal.loop-segment-preserved
loop-segment-preserved c =
    record {
      kept = grind (arith, common_steps);
      valid = first_invalid_next c.loop-segment.upto c.loop-segment.segment-index c.args.segments.now _ (omega arith) c.loop-segment.invariant.valid;
    }

pub returns-in-Some-clause-invalid : goal.returns-in-Some-clause-invalid
returns-in-Some-clause-invalid c = λ start end. by_unsound c.args.segments.now (interval start end) (search rules)

pub returns-in_default-with_capacity-clause-invalid : goal.returns-in_default-with_capacity-clause-invalid
returns-in_default-with_capacity-clause-invalid c = λ start end. by_unsound c.args.segments.now (interval start end) (search rules)

pub returns-in_default-push-clause-invalid : goal.returns-in_default-push-clause-invalid
returns-in_default-push-clause-invalid c = λ start end. by_unsound c.args.segments.now (interval start end) (search rules)

pub returns-clause-invalid : goal.returns-clause-invalid
returns-clause-invalid c = λ start end. by_unsound c.args.segments.now (interval start end) (search rules)

pub returns-clause-valid : goal.returns-clause-valid
returns-clause-valid c = valid_sound c.args.segments.now (sym c.in_default.ensures)
