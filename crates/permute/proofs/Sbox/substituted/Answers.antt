-- `permute::Sbox::substituted` meets its contract: a word is its two halves.
-- Assumes nothing.
use Rattle.permute.specs.Permutation.{at}
use Rattle.permute.proofs.Nibbles.{halves}
use Rattle.permute.proofs.Sbox.substituted.Goals as goal

pub returns : goal.returns
returns c = rw (c.half.ensures.0, c.half-2.ensures.0) (halves (at c.args.self.images.now) c.args.word)
