-- Bytes put into lent room from a place on, while there is room.
-- Assumes nothing.
use Rattle.std.specs.Prelude.{cond, List, [], ◌∷◌, ℕ, ◌+◌, ltb, length, set}
use Rattle.std.specs.Borrow.{MutBor}
use denote.Triple.Both.{Both}

-- the room, and the place after the last byte that was put
pub record Room : Type 0 where
  pub end : ℕ
  pub bytes : List ℕ

abbrev pub room_of : ℕ → List ℕ → Room
room_of end bytes = record { end = end; bytes = bytes }

-- a room that is lent, at its entry and at its exit: to be written from a place on, and as it is left, with the place after what was put
module _ (room : Both (MutBor (List ℕ)) (MutBor (List ℕ))) where
  abbrev pub lent_room : ℕ → Room
  lent_room at = room_of at room.entry.now

  abbrev pub left_room : ℕ → Room
  left_room next = room_of next room.exit.now

-- one byte more
unfoldable pub put_byte : ℕ → Room → Room
put_byte byte room =
    cond (ltb room.end (length room.bytes))
    (room_of (room.end + 1) (set room.bytes room.end byte))
    room

-- so many bytes more, in turn
unfoldable pub put : List ℕ → Room → Room
put [] room = room
put (byte ∷ bytes) room = put bytes (put_byte byte room)
