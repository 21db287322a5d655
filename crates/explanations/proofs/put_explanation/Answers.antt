-- `explanations::put_explanation` meets its contract: the number and one text of what is not ours.
-- Assumes nothing.
use Rattle.lines.specs.Letters.{text}
use Rattle.lines.proofs.Rooms.{text_then}
use Rattle.explanations.proofs.put_explanation.Goals as goal

pub returns-in-NotOurs-clause-put : goal.returns-in-NotOurs-clause-put
unfolding text
returns-in-NotOurs-clause-put c =
    rw c.in-NotOurs.is (text_then _ _ _ c.decimal.ensures.put c.text.ensures.put)
