-- `View::why` meets its contract: what is not refused has good sizes.
-- Assumes nothing.
use Rattle.refused.proofs.Told.{passed_tests}
use Rattle.refusals.proofs.Tests.{good_sizes}
use Rattle.gateway.proofs.View.why.Goals as goal

pub explain_ours-requires : goal.explain_ours-requires
explain_ours-requires c =
    good_sizes _ _ _ _ _ _ _ _ (rw c.sizes.ensures at (passed_tests _ _ _ _ c.of_packet.ensures c.in_ok-of_packet.was))
