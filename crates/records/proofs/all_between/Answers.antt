-- `records::all_between` meets its contract: one test of each.
-- Assumes nothing.
use native.Mathlib.Omega.{arith}
use Rattle.laws.proofs.Search.{test_start, test_turn, test_end}
use Rattle.records.proofs.all_between.Goals as goal

pub loop-byte-init : goal.loop-byte-init
loop-byte-init c = test_start _ _

pub loop-byte-preserved : goal.loop-byte-preserved
loop-byte-preserved c = test_turn c.loop-byte.invariant (omega arith)

pub returns : goal.returns
returns c = test_end c.loop-byte.invariant (omega arith)
