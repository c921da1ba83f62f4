use Rattle.std.proofs.Common.{◌≡◌, map, drop}
use Rattle.std.specs.Prelude.{fold}
use Rattle.std.specs.List.{flat_map}
use Rattle.typst_node.specs.View.{warning_text}
use Rattle.typst_node.specs.Hashed.{warning_input}
use Rattle.typst_node.proofs.node.hash.feed_warnings.Given as goal

abbrev pub invariant-loop-warning : goal.invariant-loop-warning
invariant-loop-warning g l =
    fold g.H.Hasher.write l.state (flat_map warning_input (map warning_text (drop l.warning-index l.warnings)))
    ≡ fold g.H.Hasher.write l.initial.state (flat_map warning_input (map warning_text l.warnings))
