-- `sides::entry_in` meets its contract: each number is the definition's.
-- Assumes nothing.
use Rattle.sides.proofs.entry_in.Goals as goal

pub returns : goal.returns
returns c = rw (c.four_at.ensures, c.prefix_in.ensures)
