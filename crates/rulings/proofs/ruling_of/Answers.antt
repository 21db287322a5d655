-- `rulings::ruling_of` meets its contract: the steps of the definition, each by its function.
-- Assumes nothing.
use mir.Syntax.{w16}
use mir.ValLaws.{to_z-of_z}
use Rattle.rulings.proofs.Steps.{ruled}
use Rattle.rulings.proofs.ruling_of.Goals as goal

pub returns : goal.returns
returns c =
    let count = to_z-of_z w16 _ c.ranges.count in
    rw (to_z-of_z w16 _ (record { sfits = c.unwrap_or.type_inv }))
    (ruled c.args.limits c.args.header c.args.from_plant c.args.byte c.args.count
    (rw count at c.is_blocked-blocked.ensures) c.marks_of.ensures c.verdict_of-verdict.ensures c.record_after-renewed.ensures
    (rw (count, to_z-of_z w16 _ (record { sfits = c.struct_told-1.given.1.0.1 })) at c.count_after-after.ensures)
    c.is_some.ensures (rw count at c.unwrap_or.ensures))
