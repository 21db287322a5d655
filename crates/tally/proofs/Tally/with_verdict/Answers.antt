-- `Tally::with_verdict` meets its contract: a number over 6 leaves all totals, and for any other one more is stored at its own.
-- Assumes nothing.
use mathlib.Core.Path.{sym, ◌∙◌}
use Rattle.tally.specs.Tally.{tallied}
use Rattle.tally.proofs.Totals.{one_of_seven, beyond_seven}
use Rattle.tally.proofs.Tally.with_verdict.Goals as goal

pub returns-then-number-gt6 : goal.returns-then-number-gt6
returns-then-number-gt6 c = sym (beyond_seven _ _ c.if-number-gt6.true)

pub returns : goal.returns
unfolding tallied
returns c = (rw (c.saturating_add.ensures, c.from-at.ensures)) ∙ sym (one_of_seven c.args.self _ c.if-number-gt6.false)
