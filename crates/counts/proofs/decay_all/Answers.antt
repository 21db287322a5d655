-- `counts::decay_all` meets its contract: one sweep, and none where there is nothing to take.
-- Assumes nothing.
use mathlib.Core.Path.{sym, ap, ◌∙◌}
use native.Mathlib.Omega.{arith}
use borrow.Author.Rules.{rules}
use lib.IntN.{pos}
use mir.Syntax.{w16}
use mir.ValLaws.{to_z-of_z}
use Rattle.laws.proofs.Sweep.{sweep_start, sweep_turn, sweep_end, map_none}
use Rattle.counts.proofs.Counts.{decayed_none}
use Rattle.counts.specs.Counts.{decayed_by}
use Rattle.counts.proofs.decay_all.Goals as goal

pub returns-then-points-eq0 : goal.returns-then-points-eq0
returns-then-points-eq0 c =
    sym (map_none decayed_by decayed_none c.args.points c.if-points-eq0.true c.args.counts.now)

pub loop-count-init : goal.loop-count-init
loop-count-init c = sweep_start _ _

pub loop-count-preserved : goal.loop-count-preserved
loop-count-preserved c =
    sweep_turn (pos 0) _ c.loop-count.invariant (omega (arith, c.loop-count.invariant.long))
    (to_z-of_z w16 _ (record { sfits = c.decayed.type_inv })
    ∙ c.decayed.ensures
    ∙ ap (decayed_by c.args.points) (to_z-of_z w16 _ (search rules)))

pub returns : goal.returns
returns c = sweep_end c.loop-count.invariant (omega (arith, c.loop-count.invariant.long))
