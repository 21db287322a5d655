-- `Gateway::judge_ours` meets its contract: the packet is looked up within the tables.
-- Assumes nothing.
use Rattle.gateway.proofs.Steps.{sizes_within, slot_within}
use Rattle.gateway.proofs.Gateway.judge_ours.Goals as goal

pub spot_of-spot-requires : goal.spot_of-spot-requires
spot_of-spot-requires c =
    let w = sizes_within _ _ _ c.requires in
    rw c.sizes.ensures (w.1, w.2)

pub ruling_at-ruling-requires : goal.ruling_at-ruling-requires
ruling_at-ruling-requires c =
    slot_within c.args.self.now.placing c.args.header c.args.from_plant _ _ (rw c.sizes.ensures at c.spot_of-spot.ensures) (sizes_within _ _ _ c.requires).0

pub settle-requires : goal.settle-requires
settle-requires c =
    slot_within c.args.self.now.placing c.args.header c.args.from_plant _ _ (rw c.sizes.ensures at c.spot_of-spot.ensures) (sizes_within _ _ _ c.requires).0
