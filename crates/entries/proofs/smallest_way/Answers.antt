-- `entries::smallest_way` meets its contract: of four ways the first that no other falls below.
-- Assumes nothing.
use native.Mathlib.Omega.{arith}
use Rattle.laws.specs.Search.{foremost}
use Rattle.laws.proofs.Search.{lead_end}
use Rattle.laws.proofs.Signed.{by_smallness}
use Rattle.entries.specs.Entries.{smallest_way}
use Rattle.entries.proofs.smallest_way.Goals as goal

pub returns : goal.returns
unfolding smallest_way foremost
returns c = lead_end by_smallness _ 4 c.loop-way.invariant (omega arith)
