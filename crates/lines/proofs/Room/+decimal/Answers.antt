-- The proof of the cycle of calls {Room::decimal}: a number has its tenth's digits and one more. The measure is the number.
-- Assumes nothing.
use mathlib.Core.Path.{sym, ap, ◌∙◌}
use Rattle.lines.specs.Room.{put_byte}
use Rattle.lines.proofs.Digits.{put_small, put_large}
use Rattle.lines.proofs.Room.+decimal.Goals as goal

pub returns-then-number-lt10-clause-put : goal.returns-then-number-lt10-clause-put
returns-then-number-lt10-clause-put t c = c.byte.ensures.put ∙ sym (put_small _ _ c.if-number-lt10.true)

pub returns-else-number-lt10-clause-put : goal.returns-else-number-lt10-clause-put
returns-else-number-lt10-clause-put t c =
    c.byte-else-number-lt10.ensures.put ∙ ap (put_byte _) c.decimal.ensures.put ∙ sym (put_large _ _ c.if-number-lt10.false)
