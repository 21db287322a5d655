-- `explanations::put_ways_through` meets its contract: the sentence, and then the facts.
-- Assumes nothing.
use Rattle.lines.specs.Letters.{text}
use Rattle.lines.proofs.Rooms.{text_then}
use Rattle.explanations.proofs.put_ways_through.Goals as goal

pub returns-clause-put : goal.returns-clause-put
unfolding text
returns-clause-put c = text_then _ _ _ c.put_filled.ensures.put c.put_facts.ensures.put
