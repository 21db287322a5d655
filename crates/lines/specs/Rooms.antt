-- The room of a `Room` of the program: its bytes, and the place after the last byte that was put.
-- Assumes nothing.
use Rattle.lines.specs.declared.Room.{Room as Lent}
use Rattle.lines.specs.Room.{Room, room_of}

abbrev pub room_in : Lent → Room
room_in room = room_of room.at room.bytes.now
