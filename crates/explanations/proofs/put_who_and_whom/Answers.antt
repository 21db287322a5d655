-- `explanations::put_who_and_whom` meets its contract: one sentence, and the other.
-- Assumes nothing.
use Rattle.lines.specs.Letters.{text}
use Rattle.lines.proofs.Rooms.{text_then}
use Rattle.explanations.proofs.put_who_and_whom.Goals as goal

pub returns-clause-put : goal.returns-clause-put
unfolding text
returns-clause-put c = text_then _ _ _ c.put_filled.ensures.put c.put_filled-2.ensures.put
