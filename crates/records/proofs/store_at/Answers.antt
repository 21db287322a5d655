-- `records::store_at` meets its contract: one listed place after the other, and between them nothing differs.
-- Assumes nothing.
use mathlib.Core.Path.{refl}
use native.Mathlib.Omega.{arith}
use lib.Dec.{eqb}
use borrow.Author.Tests.{not-false, eqb-true}
use Rattle.laws.proofs.Places.{store_start, store_within, store_turn, store_end}
use Rattle.records.proofs.store_at.Goals as goal

pub loop-place-init : goal.loop-place-init
loop-place-init c = store_start (λ x y e. eqb-true x y (not-false (eqb x y) e)) c.requires.1 c.requires.0

pub bounds-older-at : goal.bounds-older-at
bounds-older-at c =
    let s = c.loop-place.invariant in
    omega (arith, store_within s (omega arith), s.room, s.long)

pub bounds-records-at : goal.bounds-records-at
bounds-records-at c = rw c.from-at.ensures (store_within c.loop-place.invariant (omega arith))

pub loop-place-preserved : goal.loop-place-preserved
loop-place-preserved c = rw c.from-at.ensures (store_turn _ c.loop-place.invariant (omega arith) refl)

pub returns : goal.returns
returns c = store_end c.loop-place.invariant (omega arith)
