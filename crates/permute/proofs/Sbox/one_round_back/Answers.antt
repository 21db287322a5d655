-- `permute::Sbox::one_round_back` meets its contract: the round undone, step by step.
-- Assumes nothing.
use Rattle.std.proofs.Common.{refl}
use Rattle.permute.specs.Permutation.{unround}
use Rattle.permute.proofs.Rotations.{rotated_right}
use Rattle.permute.proofs.Sbox.one_round_back.Goals as goal

pub returns : goal.returns
unfolding unround
returns c = rw (c.substituted.ensures, c.rotate_right.ensures, rotated_right _ c.ranges.word.fits) refl
