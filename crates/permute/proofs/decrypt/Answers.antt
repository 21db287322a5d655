-- `permute::decrypt` meets its contract. The loop's invariant: y with r rounds still to undo gives the word with all eight undone.
-- Assumes nothing.
use Rattle.std.proofs.Common.{◌≡◌, suc, ◌-◌, refl, arith}
use Rattle.permute.specs.Permutation.{inverses, unrounds, D}
use Rattle.permute.proofs.Tables.{inverses_small}
use Rattle.permute.proofs.decrypt.Goals as goal

pub loop-r-init : goal.loop-r-init
unfolding D
loop-r-init c = refl

pub invariant_of-one_round_back : goal.invariant_of-one_round_back
unfolding inverses
invariant_of-one_round_back c = record { small = inverses_small (c.loop-r.r - 1) (omega arith) }

pub loop-r-preserved : goal.loop-r-preserved
unfolding unrounds inverses
loop-r-preserved c =
    let r = c.loop-r.r in
    let e : r ≡ suc (r - 1) = omega arith in
    let done = rw e at c.loop-r.invariant in
    rw c.one_round_back-y.ensures done

pub returns : goal.returns
unfolding unrounds
returns c =
    let e : c.loop-r.r ≡ 0 = omega arith in
    rw e at c.loop-r.invariant
