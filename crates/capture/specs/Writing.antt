-- Document 02, K1: "a capture writer: pcap 2.4, little-endian, link type 1, into lent room", and its refusals 8 and 9.
-- Assumes nothing.
use Rattle.std.specs.Prelude.{false, cond, List, [], ◌∷◌, ℕ, ◌+◌, ltb, leb, length, Result, Ok, Err, Option, None, Some}
use Rattle.refused.specs.declared.Refusal.{Refusal}
use Rattle.refused.specs.declared.Refusal.TheVariants as refusal
use Rattle.words.specs.Words.{stored}
use Rattle.capture.specs.Format.{most_captured, header_bytes, Content, record_bytes}

-- what a call answers, and the room after it
pub record Put : Type 0 where
  pub answer : Result ℕ Refusal
  pub room : List ℕ

abbrev pub put_of : Result ℕ Refusal → List ℕ → Put
put_of answer room = record { answer = answer; room = room }

-- bytes at a place: "9 when the capture header or the next record needs more room than is left, with nothing written of it", and else the
-- answer is the place after them
unfoldable pub bytes_put : List ℕ → ℕ → List ℕ → Put
bytes_put bytes at room =
    cond (leb (at + length bytes) (length room)) (put_of (Ok (at + length bytes)) (stored bytes at room)) (put_of (Err refusal.Room) room)

unfoldable pub header_put : ℕ → List ℕ → Put
header_put at room = bytes_put (header_bytes false) at room

-- "it comes after 8, which the writer gives above 2,048 bytes"
unfoldable pub record_put : Content → ℕ → List ℕ → Put
record_put r at room = cond (ltb most_captured (length r.bytes)) (put_of (Err refusal.Record) room) (bytes_put (record_bytes false r) at room)

-- ---- a whole capture, call by call: the header, and then each record where the call before it answered; nothing after a refusal
abbrev pub next_put : Content → Result ℕ Refusal → List ℕ → Put
next_put r (Err refused) room = put_of (Err refused) room
next_put r (Ok at) room = record_put r at room

abbrev pub records_put : List Content → Put → Put
records_put [] before = before
records_put (r ∷ records) before = records_put records (next_put r before.answer before.room)

abbrev pub capture_put : List Content → ℕ → List ℕ → Put
capture_put records at room = records_put records (header_put at room)

-- the place after what was written, if it was
abbrev pub place_told : Result ℕ Refusal → Option ℕ
place_told (Err refused) = None
place_told (Ok at) = Some at
