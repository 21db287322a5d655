-- `explanations::put_first_line` meets its contract, piece by piece.
-- Assumes nothing.
use Rattle.lines.specs.Letters.{text}
use Rattle.lines.proofs.Rooms.{text_then}
use Rattle.explanations.proofs.put_first_line.Goals as goal

pub returns-clause-put : goal.returns-clause-put
unfolding text
returns-clause-put c =
    text_then _ _ _ c.put_filled.ensures.put (text_then _ _ _ c.put_facts.ensures.put c.text.ensures.put)
