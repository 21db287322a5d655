-- `sides::best_in` meets its contract. The loop's invariant: what is kept of each address is the best of the entries passed.
-- Assumes nothing.
use Rattle.std.proofs.Common.{◌<◌, ◌≤◌, get_or, length, slice_index, rules}
use Rattle.std.proofs.lemmas.List.{get_or-replicate}
use Rattle.sides.specs.Lists.{entries}
use Rattle.sides.proofs.Chunks.{same_rank}
use Rattle.sides.proofs.Steps.{best_start, best_or, best_end}
use Rattle.sides.proofs.best_in.Goals as goal

pub loop-k-init : goal.loop-k-init
loop-k-init g c = λ p d h.
    let few : p < g.row.N = search rules in
    rw (get_or-replicate g.row.N p (record { number = 0; rank = 0 }) d few) (best_start _ _)

pub loop-k-preserved : goal.loop-k-preserved
loop-k-preserved g c = λ p d h.
    let few : p < g.row.N = search rules in
    let more : c.loop-k.k < entries c.args.list.now = search rules in
    let address = slice_index c.args.addresses.now p in
    rw (c.keep_better.ensures p d few)
    (best_or c.args.list.now address (get_or c.loop-k.best p d) (c.loop-k.invariant p d h) more _
    (rw c.as_chunks.ensures.front (same_rank c.args.list.now c.loop-k.k more address)))

pub returns : goal.returns
returns g c = λ i d h.
    let few : i < length c.args.addresses.now = search rules in
    let all : entries c.args.list.now ≤ c.loop-k.k = search rules in
    best_end c.args.list.now (slice_index c.args.addresses.now i) (c.loop-k.invariant i d few) all
