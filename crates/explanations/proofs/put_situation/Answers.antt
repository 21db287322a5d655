-- `explanations::put_situation` meets its contract: by whether the packet was dropped as blocked.
-- Assumes nothing.
use Rattle.lines.specs.Letters.{text}
use Rattle.lines.proofs.Rooms.{text_then}
use Rattle.explanations.proofs.put_situation.Goals as goal

pub returns-then-blocking-clause-put : goal.returns-then-blocking-clause-put
unfolding text
returns-then-blocking-clause-put c =
    rw c.if-blocking.true (text_then _ _ _ c.put_filled.ensures.put c.put_by_plant_mark.ensures.put)

pub returns-else-blocking-clause-put : goal.returns-else-blocking-clause-put
unfolding text
returns-else-blocking-clause-put c =
    rw c.if-blocking.false (text_then _ _ _ c.put_filled-else-blocking.ensures.put c.put_filled-else-blocking-2.ensures.put)
