-- `permute::encrypt` meets its contract. The loop's invariant: y is the word after the first r rounds.
-- Assumes nothing.
use Rattle.std.proofs.Common.{◌≡◌, refl, add-one, arith}
use Rattle.permute.specs.Permutation.{boxes, rounds, E}
use Rattle.permute.proofs.Tables.{boxes_small}
use Rattle.permute.proofs.encrypt.Goals as goal

pub loop-r-init : goal.loop-r-init
unfolding rounds
loop-r-init c = refl

pub invariant_of-one_round : goal.invariant_of-one_round
unfolding boxes
invariant_of-one_round c = record { small = boxes_small c.loop-r.r (omega arith) }

pub loop-r-preserved : goal.loop-r-preserved
unfolding rounds boxes
loop-r-preserved c = rw (add-one, ← c.loop-r.invariant) c.one_round-y.ensures

pub returns : goal.returns
unfolding E
returns c =
    let e : c.loop-r.r ≡ 8 = omega arith in
    rw e at c.loop-r.invariant
