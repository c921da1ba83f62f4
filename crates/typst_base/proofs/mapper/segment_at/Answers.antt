use Rattle.std.proofs.Common.{leb, rules}
use Rattle.std.proofs.lemmas.List.Sorted.{IsPartitionPoint-from_clause, IsPartitionedBy-leb}
use Rattle.typst_base.specs.declared.mapper.Segment.{Segment}
use Rattle.typst_base.proofs.MapperLemmas.{IsNonDecreasingBy-upto, found_in}
use Rattle.typst_base.proofs.mapper.segment_at.Goals as goal

pub bounds-segments-found : goal.bounds-segments-found
bounds-segments-found c =
    let items = c.args.segments.now in
    let parted = IsPartitionedBy-leb (λ (s : Segment). s.upto) items c.args.index (IsNonDecreasingBy-upto items c.requires.running) in
    let point = IsPartitionPoint-from_clause (λ (s : Segment). leb s.upto c.args.index) _ _ c.partition_point-found.ensures.partitioned parted (λ a r q k. search rules) in
    (found_in items c.args.index c.partition_point-found.result (record { start = 0; end = 0; upto = 0 }) c.requires.running c.requires.inside c.partition_point-found.ensures.bound point).inside

pub returns : goal.returns
returns c =
    let items = c.args.segments.now in
    let parted = IsPartitionedBy-leb (λ (s : Segment). s.upto) items c.args.index (IsNonDecreasingBy-upto items c.requires.running) in
    let point = IsPartitionPoint-from_clause (λ (s : Segment). leb s.upto c.args.index) _ _ c.partition_point-found.ensures.partitioned parted (λ a r q k. search rules) in
    let found = found_in items c.args.index c.partition_point-found.result (record { start = 0; end = 0; upto = 0 }) c.requires.running c.requires.inside c.partition_point-found.ensures.bound point in
    record { past = found.past; within = found.within; position = found.position }
