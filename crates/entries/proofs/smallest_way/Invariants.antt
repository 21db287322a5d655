-- `entries::smallest_way` meets its contract: of four ways the first that no other falls below.
use Rattle.laws.proofs.Search.{Leading}
use lib.IntN.{pos}
use lib.ListN.{get_or}
use lib.Signed.{le_z}
use Rattle.entries.proofs.smallest_way.Given as goal

abbrev pub invariant-loop-way : goal.invariant-loop-way
invariant-loop-way l = Leading (λ a b. le_z b a) (λ k. get_or l.counts k (pos 0)) l.best l.way
