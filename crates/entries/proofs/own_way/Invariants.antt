-- `entries::own_way` meets its contract: a search of four ways.
use Rattle.laws.proofs.Search.{Searching}
use Rattle.entries.specs.Entries.{is_own}
use Rattle.entries.proofs.own_way.Given as goal

abbrev pub invariant-loop-way : goal.invariant-loop-way
invariant-loop-way l = Searching 4 (is_own l.tag l.tags l.counts) l.way
