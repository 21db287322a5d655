-- `permute::decrypt` meets its contract. The loop's invariant: y with r rounds still to undo gives the word with all eight undone.
use Rattle.std.proofs.Common.{◌≡◌}
use Rattle.permute.specs.Permutation.{unrounds, D}
use Rattle.permute.proofs.decrypt.Given as goal

abbrev pub invariant-loop-r : goal.invariant-loop-r
invariant-loop-r l = unrounds l.r l.keys l.y ≡ D l.keys l.word
