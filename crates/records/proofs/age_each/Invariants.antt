-- `records::age_each` meets its contract: one sweep.
use Rattle.laws.proofs.Sweep.{Sweeping}
use Rattle.records.specs.Records.{aged_by}
use Rattle.records.proofs.age_each.Given as goal

abbrev pub invariant-loop-record : goal.invariant-loop-record
invariant-loop-record l = Sweeping (aged_by l.dconn l.minutes) l.initial.records l.records l.record-index
