-- `permute::Sbox::half` meets its contract: the four terms are the nibbles, each replaced, and they fill half a word.
-- Assumes nothing.
use Rattle.std.proofs.Common.{rules}
use Rattle.permute.specs.Permutation.{at}
use Rattle.permute.proofs.Nibbles.{four}
use Rattle.permute.proofs.Sbox.half.Goals as goal

pub returns : goal.returns
returns c = (
  rw (c.image.ensures.0, c.image-2.ensures.0, c.image-3.ensures.0, c.image-4.ensures.0)
      (four (at c.args.self.images.now) c.args.word),
  search rules,
)
