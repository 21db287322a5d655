-- `records::age_each` meets its contract: one sweep.
-- Assumes nothing.
use native.Mathlib.Omega.{arith}
use Rattle.laws.proofs.Sweep.{sweep_start, sweep_turn, sweep_end}
use Rattle.records.proofs.age_each.Goals as goal

pub loop-record-init : goal.loop-record-init
loop-record-init c = sweep_start _ _

pub loop-record-preserved : goal.loop-record-preserved
loop-record-preserved c =
    sweep_turn _ _ c.loop-record.invariant (omega (arith, c.loop-record.invariant.long)) c.aged.ensures

pub returns : goal.returns
returns c = sweep_end c.loop-record.invariant (omega (arith, c.loop-record.invariant.long))
