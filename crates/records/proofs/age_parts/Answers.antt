-- `records::age_parts` meets its contract: part after part.
-- Assumes nothing.
use native.Mathlib.Omega.{arith}
use Rattle.laws.proofs.Sweep.{sweep_start, sweep_part, sweep_end}
use Rattle.records.proofs.age_parts.Goals as goal

pub loop-at-init : goal.loop-at-init
loop-at-init c = sweep_start _ _

pub loop-at-preserved : goal.loop-at-preserved
loop-at-preserved c =
    sweep_part _ c.loop-at.invariant (omega arith) (omega arith) c.age_part.ensures

pub returns : goal.returns
returns c = sweep_end c.loop-at.invariant c.loop-at-test.false
