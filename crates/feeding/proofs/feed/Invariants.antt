-- `feeding::feed` meets its contract. What is left to be fed from here on is what was to be fed at the start.
-- Assumes nothing.
use mathlib.Core.Path.{◌≡◌}
use Prim.Native.Nat.{◌-◌}
use lib.ListN.{length}
use Rattle.gateway.specs.Calls.{SameMemory, state_in}
use Rattle.feeding.specs.Feeding.{replayed_of, fed}
use Rattle.feeding.proofs.feed.Given as goal

abbrev pub invariant-loop : goal.invariant-loop
invariant-loop l =
    SameMemory l.initial.gateway l.gateway
    × (fed l.output (length l.bytes - l.counter) l.bytes l.big_endian (replayed_of l.reached l.room (state_in l.gateway))
    ≡ fed l.output (length l.bytes) l.bytes l.big_endian (replayed_of l.initial.reached l.initial.room (state_in l.initial.gateway)))
