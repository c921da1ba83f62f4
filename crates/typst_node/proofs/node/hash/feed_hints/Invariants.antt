use Rattle.std.proofs.Common.{◌≡◌, map, drop}
use Rattle.std.specs.Prelude.{fold}
use Rattle.std.specs.List.{flat_map}
use Rattle.typst_node.specs.View.{hint_text}
use Rattle.typst_node.specs.Hashed.{hint_input}
use Rattle.typst_node.proofs.node.hash.feed_hints.Given as goal

abbrev pub invariant-loop-hint : goal.invariant-loop-hint
invariant-loop-hint g l =
    fold g.H.Hasher.write l.state (flat_map hint_input (map hint_text (drop l.hint-index l.hints)))
    ≡ fold g.H.Hasher.write l.initial.state (flat_map hint_input (map hint_text l.hints))
