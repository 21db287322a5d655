-- `counts::decay_all` meets its contract: one sweep, and none where there is nothing to take.
use Rattle.laws.proofs.Sweep.{Sweeping}
use Rattle.counts.specs.Counts.{decayed_by}
use Rattle.counts.proofs.decay_all.Given as goal

abbrev pub invariant-loop-count : goal.invariant-loop-count
invariant-loop-count l = Sweeping (decayed_by l.points) l.initial.counts l.counts l.count-index
