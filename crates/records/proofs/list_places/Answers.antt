-- `records::list_places` meets its contract: every place is written down, and kept where both differ.
-- Assumes nothing.
use native.Mathlib.Omega.{arith}
use Rattle.laws.proofs.Places.{list_start, list_turn, list_end}
use Rattle.records.proofs.list_places.Goals as goal

pub loop-place-init : goal.loop-place-init
loop-place-init c = list_start _ _ _ (omega arith)

pub loop-place-preserved : goal.loop-place-preserved
loop-place-preserved c = rw c.from-listed.ensures (list_turn c.loop-place.invariant (omega arith))

pub returns : goal.returns
returns c = (omega arith, list_end c.loop-place.invariant (omega arith))
