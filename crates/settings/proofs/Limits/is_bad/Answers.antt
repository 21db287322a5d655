-- `Limits::is_bad` meets its contract: the tests are those of the definition, in its order.
-- Assumes nothing.
use borrow.Author.Rules.{rules}
use Rattle.settings.specs.Settings.{bad_limits}
use Rattle.settings.proofs.Limits.is_bad.Goals as goal

pub returns : goal.returns
unfolding bad_limits
returns c = search rules
