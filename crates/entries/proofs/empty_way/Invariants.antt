-- `entries::empty_way` meets its contract: a search of four ways.
use lib.IntN.{pos}
use lib.ListN.{get_or}
use Rattle.laws.proofs.Search.{Searching}
use Rattle.counts.specs.Counts.{is_empty}
use Rattle.entries.proofs.empty_way.Given as goal

abbrev pub invariant-loop-way : goal.invariant-loop-way
invariant-loop-way l = Searching 4 (λ k. is_empty (get_or l.counts k (pos 0))) l.way
