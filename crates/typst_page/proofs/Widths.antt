-- How wide late windows are.
use Rattle.std.proofs.Common.{ℕ, suc, zero, ◌^◌, ◌≤◌, arith}
use Rattle.std.proofs.Math.Pow.{pow_mono}
use Rattle.typst_node.specs.Window.{width}

-- a late window takes in more children than there can be
pub width_far : (turn : ℕ) → 65 ≤ turn → 2 ^ 64 ≤ width turn
width_far zero h = absurd (omega arith)
width_far (suc doublings) h = pow_mono {i = 64} {j = doublings} (omega arith)
