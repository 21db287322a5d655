-- `counts::lowered` meets its contract: a difference that stops at -32,768 is at most the floor where it stops.
-- Assumes nothing.
use native.Mathlib.Omega.{arith}
use lib.IntN.{pos, ◌-ℤ◌}
use Rattle.std.proofs.lemmas.Int.{ints, clamps}
use Rattle.counts.proofs.Clamps.{saturated, larger_is}
use Rattle.counts.proofs.lowered.Goals as goal

pub returns : goal.returns
returns c =
    let s = c.args in
    omega (arith, ints, clamps, saturated, larger_is s.floor (s.count -ℤ pos s.points))
