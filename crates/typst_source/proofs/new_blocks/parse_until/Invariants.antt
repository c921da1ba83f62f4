use Rattle.std.proofs.Common.{ℕ, ◌<◌, ◌≤◌, length, drop, IsUtf8}
use Rattle.typst_source.specs.Extents.{bytes_in, AreSums}
use Rattle.typst_source.specs.NewBlocks.{Meet}
use Rattle.typst_source.proofs.SoFar.{IsSoFar}
use Rattle.typst_source.proofs.new_blocks.parse_until.Given as goal

abbrev pub invariant-loop-rest : goal.invariant-loop-rest
invariant-loop-rest g l = record {
  utf8 : IsUtf8 l.rest;
  so_far : IsSoFar g.P.BlockParser.first l.text l.nodes.items l.extents.items l.rest;
  passed_are : AreSums l.olds.extents.now l.passed;
  skipped : (k : ℕ) → k < l.passed.blocks → length l.rest < bytes_in (drop k l.olds.extents.now);
  earliest : (many passed left : ℕ) → many < length l.extents.items → passed ≤ length l.olds.extents.now → (Meet g.P.BlockParser.first l.text l.olds.extents.now l.tail many passed left) → ⊥;
}

abbrev pub decreases-loop-rest : goal.decreases-loop-rest
decreases-loop-rest g l = length l.rest
