-- `permute::encrypt` meets its contract. The loop's invariant: y is the word after the first r rounds.
use Rattle.std.proofs.Common.{◌≡◌}
use Rattle.permute.specs.Permutation.{rounds}
use Rattle.permute.proofs.encrypt.Given as goal

abbrev pub invariant-loop-r : goal.invariant-loop-r
invariant-loop-r l = l.y ≡ rounds l.r l.keys l.word
