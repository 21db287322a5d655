-- `permute::Sbox::one_round` meets its contract: the round, step by step.
-- Assumes nothing.
use Rattle.std.proofs.Common.{◌∙◌}
use Rattle.permute.specs.Permutation.{round}
use Rattle.permute.proofs.Rotations.{rotated_left}
use Rattle.permute.proofs.Sbox.one_round.Goals as goal

pub returns : goal.returns
unfolding round
returns c = rw (← c.substituted.ensures) (c.rotate_left.ensures ∙ rotated_left _ c.substituted.type_inv)
