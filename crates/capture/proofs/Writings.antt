-- What the writer answers and does to the room, case by case.
-- Assumes nothing.
use mathlib.Core.Path.{◌≡◌, refl, sym}
use mathlib.Core.List.{List}
use mathlib.Core.Bool.{false}
use Prim.Native.Nat.{ℕ, ◌+◌, ◌-◌, ◌≤◌, ◌<◌}
use lib.ListN.{length}
use borrow.Rule.Slice.PartMut.{mid_of, put_mid}
use borrow.Author.Tests.{le-leb, lt-leb, lt-ltb, le-ltb}
use Rattle.std.specs.Prelude.{Ok, Err}
use Rattle.refused.specs.declared.Refusal.TheVariants as refusal
use Rattle.words.specs.Words.{stored}
use Rattle.words.proofs.Words.{stored_by_part}
use Rattle.capture.specs.Format.{header_bytes, Content, record_bytes}
use Rattle.capture.specs.Writing.{put_of, bytes_put, header_put, record_put}

module _ (bytes : List ℕ) (at : ℕ) (room : List ℕ) where
  pub have_room : at + length bytes ≤ length room → bytes_put bytes at room ≡ put_of (Ok (at + length bytes)) (stored bytes at room)
  unfolding bytes_put
  have_room h = rw (le-leb _ _ h)

  pub no_room : length room < at + length bytes → bytes_put bytes at room ≡ put_of (Err refusal.Room) room
  unfolding bytes_put
  no_room h = rw (lt-leb _ _ h)

  -- as the code has it: a part of the room, as long as the bytes, is lent on and written
  pub put_in_part : (end : ℕ) (part : List ℕ) → at + length bytes ≤ length room → end ≡ at + length bytes
      → part ≡ stored bytes 0 (mid_of at (end - at) room)
      → put_of (Ok end) (put_mid at (end - at) room part) ≡ bytes_put bytes at room
  put_in_part end part h e f =
      rw (f, stored_by_part bytes at room end h e, e) (sym (have_room h))

module _ (r : Content) (at : ℕ) (room : List ℕ) where
  pub too_many : 2048 < length r.bytes → record_put r at room ≡ put_of (Err refusal.Record) room
  unfolding record_put
  too_many h = rw (lt-ltb _ _ h)

  pub few_enough : length r.bytes ≤ 2048 → record_put r at room ≡ bytes_put (record_bytes false r) at room
  unfolding record_put
  few_enough h = rw (le-ltb _ _ h)

pub the_header : (at : ℕ) (room : List ℕ) → header_put at room ≡ bytes_put (header_bytes false) at room
unfolding header_put
the_header at room = refl
