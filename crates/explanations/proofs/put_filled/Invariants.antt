-- `explanations::put_filled` meets its contract: what is left of the text is put after what was.
use lib.ListN.{drop}
use mathlib.Core.Bool.{false}
use mathlib.Core.Path.{◌≡◌}
use Rattle.lines.specs.Room.{put}
use Rattle.lines.specs.Rooms.{room_in}
use Rattle.explanations.specs.Values.{filled}
use Rattle.explanations.proofs.put_filled.Given as goal

abbrev pub invariant-loop-byte : goal.invariant-loop-byte
invariant-loop-byte l =
    (l.room.bytes.ghost_name ≡ l.initial.room.bytes.ghost_name)
    × (put (filled l.report l.marked (drop l.byte-index l.text)) (room_in l.room)
    ≡ put (filled l.report false l.text) (room_in l.initial.room))
