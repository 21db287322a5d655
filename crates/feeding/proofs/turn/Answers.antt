-- `feeding::turn` meets its contract: a record that was judged lies within the bytes.
-- Assumes nothing.
use lib.Dec.{eqb}
use native.Mathlib.Omega.{arith}
use Rattle.capture.proofs.Readings.{whole_record}
use Rattle.gateway.specs.Calls.{state_in}
use Rattle.replay.proofs.Cases.{judged_is_whole}
use Rattle.feeding.proofs.turn.Goals as goal

pub tell-requires : goal.tell-requires
tell-requires c =
    let whole = judged_is_whole _ (eqb c.args.progress.records 0) c.args.bytes.now
    (record { at = c.args.progress.at; big_endian = c.args.big_endian })
    (state_in c.args.gateway.now) _ _ _ _
    c.next.ensures.state c.in-Judged.is in
    let told = whole_record _ _ _ whole in
    (omega (arith, told.1), told.3)
