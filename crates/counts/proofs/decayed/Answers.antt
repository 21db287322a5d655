-- `counts::decayed` meets its contract: as many steps as a count can tell apart.
-- Assumes nothing.
use mathlib.Core.Path.{◌∙◌}
use mir.Syntax.{w16}
use mir.ValLaws.{to_z-of_z}
use Rattle.counts.proofs.Counts.{in_steps}
use Rattle.counts.proofs.decayed.Goals as goal

pub returns : goal.returns
returns c =
    to_z-of_z w16 _ (record { sfits = c.fallen.type_inv }) ∙ c.fallen.ensures ∙ in_steps c.args.points c.ranges.count c.min.ensures
