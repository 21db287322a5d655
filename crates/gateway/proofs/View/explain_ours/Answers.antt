-- `View::explain_ours` meets its contract: where it is looked up, what it would meet, and what follows.
-- Assumes nothing.
use Rattle.gateway.proofs.Steps.{sizes_within, slot_within}
use Rattle.gateway.proofs.Explained.{why_ours_lem}
use Rattle.gateway.proofs.View.explain_ours.Goals as goal

pub spot_of-spot-requires : goal.spot_of-spot-requires
spot_of-spot-requires c =
    let w = sizes_within _ _ _ c.requires in
    rw c.sizes.ensures (w.1, w.2)

pub met_at-requires : goal.met_at-requires
met_at-requires c =
    slot_within c.args.self.placing c.args.header c.args.from_plant _ _ (rw c.sizes.ensures at c.spot_of-spot.ensures) (sizes_within _ _ _ c.requires).0

pub returns : goal.returns
returns c =
    why_ours_lem c.args.site.limits c.args.time c.args.self.records.now c.args.self.tags.now c.args.self.counts.now c.args.self.clock
    c.args.self.placing c.args.site.cell.now c.args.site.plant.now c.args.header c.args.from_plant
    (rw c.sizes.ensures at c.spot_of-spot.ensures) c.met_at.ensures c.explain_met.ensures
