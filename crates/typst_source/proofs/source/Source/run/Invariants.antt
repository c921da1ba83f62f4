use Rattle.std.proofs.Common.{◌≡◌, ◌≤◌, length, take}
use Rattle.std.specs.Prelude.{vec_len, vec_capacity}
use Rattle.typst_source.specs.Runs.{IsRun}
use Rattle.typst_source.proofs.source.Source.run.Given as goal

abbrev pub invariant-loop-edit : goal.invariant-loop-edit
invariant-loop-edit g l = record {
  many : vec_len l.outcomes ≡ l.edit-index;
  room : length l.edits ≤ vec_capacity l.outcomes;
  run : IsRun g.P.BlockParser.first l.initial.self (take l.edit-index l.edits) l.outcomes.items l.self;
}
