-- `counts::raised` meets its contract: a sum that stops at 32,767 is at least the ceiling where it stops.
-- Assumes nothing.
use native.Mathlib.Omega.{arith}
use lib.IntN.{pos, ◌+ℤ◌}
use Rattle.counts.specs.Counts.{smaller}
use Rattle.std.proofs.lemmas.Int.{ints, clamps}
use Rattle.counts.proofs.Clamps.{saturated, larger_is, smaller_is}
use Rattle.counts.proofs.raised.Goals as goal

pub returns : goal.returns
returns c =
    let s = c.args in
    omega (arith, ints, clamps, saturated, larger_is s.count (smaller (s.count +ℤ pos s.points) s.ceiling), smaller_is (s.count +ℤ pos s.points) s.ceiling)
