-- Which number opening a capture and writing one tell, and when, in the paper's numbers: 7 of a bad header; 8 above 2,048 bytes, then 9 for
-- lack of room; and a refused call writes nothing. (8 of a record that is read: `refused_exactly`, proofs/Readings.)
-- Assumes nothing.
use mathlib.Core.Bool.{Bool, true, false, cond}
use mathlib.Core.List.{List}
use mathlib.Core.Path.{◌≡◌, refl}
use Prim.Native.Nat.{ℕ, ◌+◌}
use lib.Dec.{ltb, leb}
use lib.ListN.{length}
use Rattle.std.specs.Prelude.{Ok, Err, None, Some}
use Rattle.refused.specs.declared.Refusal.TheVariants as refusal
use Rattle.refused.specs.Refused.{refusal_in}
use Rattle.words.specs.Words.{stored}
use Rattle.capture.specs.declared.Cursor.{Cursor}
use Rattle.capture.specs.Capture.{big_endian, bad_header, opened_of}
use Rattle.capture.specs.Format.{header_size, most_captured, header_bytes, Content, record_bytes}
use Rattle.capture.specs.Writing.{Put, put_of, bytes_put, header_put, record_put, place_told}

-- 7 exactly where the header is bad
pub seven_told : (l : List ℕ) → refusal_in (opened_of l) ≡ cond (bad_header l) 7 0
unfolding opened_of
seven_told l = go (bad_header l)
  where
    go : (bad : Bool) → refusal_in {A = Cursor} (cond bad (Err refusal.Capture) (Ok (record { at = header_size; big_endian = big_endian l }))) ≡ cond bad 7 0
    go true = refl
    go false = refl

-- what a call that writes tells and leaves, where so many bytes are to be written at a place: 9 exactly where they have no room, the place
-- after them where they have, and then just these bytes are stored
abbrev pub fits : List ℕ → ℕ → List ℕ → Bool
fits bytes at room = leb (at + length bytes) (length room)

pub record Tells (refusal : ℕ) (bytes : List ℕ) (at : ℕ) (room : List ℕ) (after : Put) : Type 0 where
  pub number : refusal_in after.answer ≡ refusal
  pub place : place_told after.answer ≡ cond (ltb 0 refusal) None (Some (at + length bytes))
  pub left : after.room ≡ cond (ltb 0 refusal) room (stored bytes at room)

bytes_tell : (bytes : List ℕ) (at : ℕ) (room : List ℕ) → Tells (cond (fits bytes at room) 0 9) bytes at room (bytes_put bytes at room)
unfolding bytes_put
bytes_tell bytes at room = go (fits bytes at room)
  where
    go : (t : Bool) → Tells (cond t 0 9) bytes at room (cond t (put_of (Ok (at + length bytes)) (stored bytes at room)) (put_of (Err refusal.Room) room))
    go true = record { number = refl; place = refl; left = refl }
    go false = record { number = refl; place = refl; left = refl }

pub header_tells : (at : ℕ) (room : List ℕ) → Tells (cond (fits (header_bytes false) at room) 0 9) (header_bytes false) at room (header_put at room)
unfolding header_put
header_tells at room = bytes_tell (header_bytes false) at room

-- "it comes after 8, which the writer gives above 2,048 bytes"
pub record_tells : (r : Content) (at : ℕ) (room : List ℕ)
    → Tells (cond (ltb most_captured (length r.bytes)) 8 (cond (fits (record_bytes false r) at room) 0 9)) (record_bytes false r) at room (record_put r at room)
unfolding record_put
record_tells r at room = go (ltb most_captured (length r.bytes))
  where
    go : (t : Bool) → Tells (cond t 8 (cond (fits (record_bytes false r) at room) 0 9)) (record_bytes false r) at room (cond t (put_of (Err refusal.Record) room) (bytes_put (record_bytes false r) at room))
    go true = record { number = refl; place = refl; left = refl }
    go false = bytes_tell (record_bytes false r) at room
