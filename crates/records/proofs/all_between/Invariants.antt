-- `records::all_between` meets its contract: one test of each.
use mathlib.Core.Bool.{◌&&◌}
use lib.Dec.{leb}
use lib.ListN.{length, get_or}
use Rattle.laws.proofs.Search.{Testing}
use Rattle.records.proofs.all_between.Given as goal

abbrev pub invariant-loop-byte : goal.invariant-loop-byte
invariant-loop-byte l = Testing (length l.records) (λ slot. leb l.least (get_or l.records slot 0) && leb (get_or l.records slot 0) l.most) l.all l.byte-index
