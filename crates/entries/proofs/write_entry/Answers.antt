-- `entries::write_entry` meets its contract: both lists are written at the way that has room.
-- Assumes nothing.
use mathlib.Core.Path.{refl, ap}
use Prim.Native.Nat.{◌<◌}
use native.Mathlib.Omega.{arith}
use lib.ListN.{set}
use mir.Syntax.{w16}
use mir.ValLaws.{to_z-of_z}
use Rattle.entries.proofs.Lines.{room_lt}
use Rattle.entries.proofs.write_entry.Goals as goal

pub offset_bounds-tags-way : goal.offset_bounds-tags-way
offset_bounds-tags-way c = let low : c.room_for-room.result.way < 4 = rw c.room_for-room.ensures (room_lt _ _ _) in omega arith

pub bounds-tags-way : goal.bounds-tags-way
bounds-tags-way c = let low : c.room_for-room.result.way < 4 = rw c.room_for-room.ensures (room_lt _ _ _) in omega arith

pub offset_bounds-counts-way : goal.offset_bounds-counts-way
offset_bounds-counts-way c = let low : c.room_for-room.result.way < 4 = rw c.room_for-room.ensures (room_lt _ _ _) in omega arith

pub bounds-counts-way : goal.bounds-counts-way
bounds-counts-way c = let low : c.room_for-room.result.way < 4 = rw c.room_for-room.ensures (room_lt _ _ _) in omega arith

pub returns : goal.returns
returns c =
    rw (← c.room_for-room.ensures) (refl, refl, ap (set c.args.counts.now c.room_for-room.result.way) (to_z-of_z w16 _ c.ranges.count))
