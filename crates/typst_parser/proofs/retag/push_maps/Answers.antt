use Rattle.std.proofs.Common.{rules, ◌≡◌, ◌++◌, ◌∷◌, [], reverse, arith}
use Rattle.typst_parser.proofs.Spanning.{maps_next}
use Rattle.typst_parser.proofs.retag.push_maps.Goals as goal

pub loop-preserved : goal.loop-preserved
loop-preserved c =
    let more : c.push-in-loop.new.self.items ≡ c.loop.maps.items ++ c.args.others ∷ [] = search rules in
    maps_next c.loop.maps.items c.push-in-loop.new.self.items c.args.others c.loop.counter (c.args.first ∷ reverse c.args.maps.now.items) (omega arith) more c.loop.invariant
