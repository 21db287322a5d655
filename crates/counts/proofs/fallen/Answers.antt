-- `counts::fallen` meets its contract: not positive, or so many steps lower and never below 0.
-- Assumes nothing.
use mir.Syntax.{w16}
use mir.Val.{to_z, of_z}
use mir.ValLaws.{to_z_pos}
use Rattle.laws.proofs.Signed.{signed, known, size, eq_in}
use Rattle.counts.proofs.Counts.{fell}
use Rattle.counts.proofs.fallen.Goals as goal

pub returns-then-count-le0 : goal.returns-then-count-le0
returns-then-count-le0 c = omega (signed, fell c.args.steps c.args.count, known c.ranges.count)

pub returns : goal.returns
returns c =
    let high = size (to_z w16 (of_z w16 c.args.count)) in
    omega (signed, fell c.args.steps c.args.count, known c.ranges.count, high, eq_in (to_z_pos w16 c.saturating_sub.result (omega (signed, high, known c.ranges.count))))
