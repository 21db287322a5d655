-- `records::age_parts` meets its contract: part after part.
use Prim.Native.Nat.{◌-◌}
use lib.ListN.{length}
use Rattle.laws.proofs.Sweep.{Sweeping}
use Rattle.records.specs.Records.{aged_by}
use Rattle.records.proofs.age_parts.Given as goal

abbrev pub invariant-loop-at : goal.invariant-loop-at
invariant-loop-at l = Sweeping (aged_by l.dconn l.minutes) l.initial.records l.records l.at

abbrev pub decreases-loop-at : goal.decreases-loop-at
decreases-loop-at l = length l.initial.records - l.at
