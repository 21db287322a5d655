-- `sides::rank` meets its contract: the tests are those of the definition.
-- Assumes nothing.
use Rattle.sides.proofs.Steps.{too_long, held, not_held}
use Rattle.sides.proofs.rank.Goals as goal

pub returns-then-prefix-gt32 : goal.returns-then-prefix-gt32
returns-then-prefix-gt32 c = too_long _ _ 0 c.if-prefix-gt32.true

pub returns-then-from-beyond : goal.returns-then-from-beyond
returns-then-from-beyond c =
    held _ _ 0 _ c.of_four-net.ensures c.if-prefix-gt32.false (rw (c.from.ensures, c.from-2.ensures) at c.if-from-beyond.true)

pub returns-else-from-beyond : goal.returns-else-from-beyond
returns-else-from-beyond c =
    not_held _ _ 0 _ c.of_four-net.ensures c.if-prefix-gt32.false (λ e. c.if-from-beyond.false (rw (c.from.ensures, c.from-2.ensures) e))
