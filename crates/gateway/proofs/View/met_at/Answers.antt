-- `View::met_at` meets its contract: the record aged, the count decayed.
-- Assumes nothing.
use mir.Syntax.{w16}
use mir.ValLaws.{to_z-of_z}
use Rattle.gateway.proofs.Explained.{met_as}
use Rattle.gateway.proofs.View.met_at.Goals as goal

pub returns : goal.returns
returns c =
    rw (to_z-of_z w16 _ (record { sfits = c.decayed.type_inv }))
    (met_as c.args.limits c.args.time c.args.self.records.now c.args.self.tags.now c.args.self.counts.now c.args.self.clock c.args.spot
    c.multiples_passed-minutes.ensures (rw c.from.ensures at c.multiples_passed-multiples.ensures) c.aged.ensures
    c.count_of-count.ensures (rw (to_z-of_z w16 _ (record { sfits = c.count_of-count.type_inv }), c.from-2.ensures, c.from-3.ensures) at c.decayed.ensures))
