-- `counts::is_empty` meets its contract: a test of bits.
-- Assumes nothing.
use Rattle.counts.proofs.Counts.{empty_bits}
use Rattle.counts.proofs.is_empty.Goals as goal

pub returns : goal.returns
returns c = empty_bits _ c.ranges.count
