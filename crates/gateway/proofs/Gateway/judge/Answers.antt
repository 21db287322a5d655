-- `Gateway::judge` meets its contract: what is not refused has good sizes, and the clock changes none.
-- Assumes nothing.
use mathlib.Core.Path.{ap, ◌∙◌}
use Rattle.refused.proofs.Told.{passed_tests}
use Rattle.refusals.proofs.Tests.{good_sizes}
use Rattle.tables.specs.Sizes.{bad_sizes}
use Rattle.rulings.specs.Rules.{rules_of}
use Rattle.gateway.specs.Calls.{State, by_sizes, state_in}
use Rattle.gateway.proofs.Jumps.{sizes_stay}
use Rattle.gateway.proofs.Gateway.judge.Goals as goal

pub judge_ours-requires : goal.judge_ours-requires
judge_ours-requires c =
    ap (λ (s : State). by_sizes bad_sizes s.tables) c.go_on.ensures.state
    ∙ sizes_stay (rules_of c.args.site.limits) c.args.site.limits bad_sizes c.args.time (state_in c.args.self.now)
    ∙ good_sizes _ _ _ _ _ _ _ _ (rw c.sizes.ensures at (passed_tests _ _ _ _ c.of_packet.ensures c.in_ok-of_packet.was))
