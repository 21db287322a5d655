-- `lines::Room::text` meets its contract: so many bytes were put.
use lib.ListN.{take}
use mathlib.Core.Path.{◌≡◌}
use Rattle.lines.specs.Room.{put}
use Rattle.lines.specs.Rooms.{room_in}
use Rattle.lines.proofs.Room.text.Given as goal

abbrev pub invariant-loop-byte : goal.invariant-loop-byte
invariant-loop-byte l =
    (l.self.bytes.ghost_name ≡ l.initial.self.bytes.ghost_name)
    × (room_in l.self ≡ put (take l.byte-index l.text) (room_in l.initial.self))
