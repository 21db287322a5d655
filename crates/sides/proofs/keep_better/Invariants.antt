-- `sides::keep_better` meets its contract. The loop's invariant: below its index each is the better of the two, and from there on as it was.
use Rattle.std.proofs.Common.{◌≡◌, ℕ, ◌<◌, ◌≤◌, length, slice_index, slice_index_or}
use Rattle.sides.specs.declared.Best.{Best}
use Rattle.sides.specs.Lists.{rank_at, better}
use Rattle.sides.proofs.keep_better.Given as goal

abbrev pub invariant-loop-i : goal.invariant-loop-i
invariant-loop-i g l =
    (length l.best ≡ length l.initial.best)
    × ((p : ℕ) (d : Best) → p < l.i → slice_index_or l.best p d ≡ better (slice_index_or l.initial.best p d) l.number (rank_at l.entry (slice_index l.addresses p) 0))
    × ((p : ℕ) (d : Best) → l.i ≤ p → slice_index_or l.best p d ≡ slice_index_or l.initial.best p d)
