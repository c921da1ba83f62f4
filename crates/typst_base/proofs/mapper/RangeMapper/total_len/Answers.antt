use Rattle.std.proofs.Common.{ap, length, ◌∙◌}
use Rattle.typst_base.specs.Mapping.{Mapping}
use Rattle.typst_base.proofs.MapperLemmas.{total_by_last}
use Rattle.typst_base.proofs.mapper.RangeMapper.total_len.Goals as goal

pub returns-in-Some : goal.returns-in-Some
returns-in-Some c =
    total_by_last c.self.inside.segments.items c.deref.result.now c.in-Some.segment.now c.deref.ensures.value c.self.invariant c.in-Some.ensures.value
    ∙ ap (λ (m : Mapping). length m.positions) c.self.view_is
