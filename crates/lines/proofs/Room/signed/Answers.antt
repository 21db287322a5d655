-- `lines::Room::signed` meets its contract: a minus where the count is below 0, and how far it is from 0.
-- Assumes nothing.
use mathlib.Core.Path.{ap, ◌∙◌}
use Rattle.lines.specs.Rooms.{room_in}
use Rattle.lines.proofs.Signs.{put_below, put_above}
use Rattle.lines.proofs.Room.signed.Goals.{then-count-lt0, else-count-lt0}
use Rattle.lines.proofs.Room.signed.Goals as goal

pub returns-clause-put : goal.returns-clause-put
returns-clause-put c =
    elim c.if-count-lt0.branch [
      | then-count-lt0 w ↦ put_below _ _ _ _ _ c.ranges.count w.if-count-lt0.true (ap room_in w.self-is ∙ w.byte.ensures.put) c.unsigned_abs.ensures.value c.decimal.ensures.put
      | else-count-lt0 w ↦ put_above _ _ _ _ c.ranges.count w.if-count-lt0.false c.unsigned_abs.ensures.value (rw w.self-is at c.decimal.ensures.put)
    ]
