-- `tables::clock::pass` meets its contract: nothing, or a sweep of each table by the boundaries passed.
-- Assumes nothing.
use mathlib.Core.Path.{sym}
use native.Mathlib.Nat.{mul-le-mul_right, le_of_lt}
use native.Mathlib.Omega.{arith}
use Rattle.tables.proofs.Jumps.{stands, moves}
use Rattle.tables.specs.Clock.{timed_of}
use Rattle.tables.proofs.clock.pass.Goals as goal

pub returns-then-time-old : goal.returns-then-time-old
returns-then-time-old c =
    sym (stands _ _ _ c.args.time (timed_of c.args.records.now c.args.counts.now c.args.clock.now) c.if-time-old.true)

pub overflow_mul-multiples : goal.overflow_mul-multiples
overflow_mul-multiples c =
    omega (arith, mul-le-mul_right c.args.point (le_of_lt c.multiples_passed-multiples.type_inv))

pub returns : goal.returns
returns c =
    moves _ _ _ (timed_of c.args.records.now c.args.counts.now c.args.clock.now) (omega arith)
    c.multiples_passed.ensures c.multiples_passed-multiples.ensures c.age_all.ensures c.decay_all.ensures
