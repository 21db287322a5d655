-- `entries::room_for` meets its contract: its own way, an empty one, or the smallest.
-- Assumes nothing.
use mathlib.Core.Path.{◌≡◌}
use mathlib.Core.List.{List}
use lib.IntN.{ℤ}
use Prim.Native.Nat.{ℕ, ◌<◌}
use Rattle.entries.specs.Entries.{smallest_way}
use Rattle.entries.proofs.Lines.{smallest_lt, room_own, room_empty, room_smallest}
use native.Mathlib.Omega.{arith}
use Rattle.entries.proofs.room_for.Goals as goal

within : {way : ℕ} (counts : List ℤ) → way ≡ smallest_way counts → way < 4
within counts is = rw is (smallest_lt _)

pub returns-then-own-lt4 : goal.returns-then-own-lt4
returns-then-own-lt4 c = room_own _ _ _ _ c.own_way-own.ensures c.if-own-lt4.true

pub returns-then-empty-lt4 : goal.returns-then-empty-lt4
returns-then-empty-lt4 c =
    room_empty _ _ _ _ _ c.own_way-own.ensures c.if-own-lt4.false c.empty_way-empty.ensures c.if-empty-lt4.true

pub offset_bounds-tags-smallest : goal.offset_bounds-tags-smallest
offset_bounds-tags-smallest c = omega (arith, within _ c.smallest_way-smallest.ensures)

pub bounds-tags-smallest : goal.bounds-tags-smallest
bounds-tags-smallest c = omega (arith, within _ c.smallest_way-smallest.ensures)

pub returns : goal.returns
returns c =
    room_smallest _ _ _ _ _ _ c.own_way-own.ensures c.if-own-lt4.false c.empty_way-empty.ensures c.if-empty-lt4.false c.smallest_way-smallest.ensures
