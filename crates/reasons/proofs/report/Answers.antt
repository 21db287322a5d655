-- `reasons::report` meets its contract: each fact is tried at its values, the count at one below T.
-- Assumes nothing.
use mir.Syntax.{w16}
use mir.ValLaws.{to_z-of_z}
use Rattle.reasons.specs.Reasons.{facts_of}
use Rattle.reasons.proofs.Reasons.{reported_as}
use Rattle.reasons.proofs.report.Goals as goal

pub returns : goal.returns
returns c =
    reported_as c.args.threshold (facts_of c.args.count c.args.marks.plant c.args.marks.cell c.args.kind)
    (rw (to_z-of_z w16 _ c.ranges.count) at c.is_blocked-blocked.ensures) c.passes.ensures
    c.passes-2.ensures c.passes-3.ensures
    c.passes-4.ensures c.passes-5.ensures c.passes_as_some_kind.ensures
