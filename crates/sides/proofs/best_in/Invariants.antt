-- `sides::best_in` meets its contract. The loop's invariant: what is kept of each address is the best of the entries passed.
use Rattle.std.proofs.Common.{ℕ, ◌<◌, length, slice_index, slice_index_or}
use Rattle.sides.specs.declared.Best.{Best}
use Rattle.sides.proofs.Steps.{Besting}
use Rattle.sides.proofs.best_in.Given as goal

abbrev pub invariant-loop-k : goal.invariant-loop-k
invariant-loop-k g l =
    (p : ℕ) (d : Best) → p < length l.addresses
    → Besting l.list (slice_index l.addresses p) (slice_index_or l.best p d).number (slice_index_or l.best p d).rank l.k
