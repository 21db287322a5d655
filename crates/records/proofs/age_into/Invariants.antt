-- `records::age_into` meets its contract: one image after the other.
use Rattle.laws.proofs.Places.{Imaging}
use Rattle.records.specs.Records.{aged_by}
use Rattle.records.proofs.age_into.Given as goal

abbrev pub invariant-loop-i : goal.invariant-loop-i
invariant-loop-i l = Imaging (aged_by l.dconn l.minutes) l.records l.initial.older l.older l.i
