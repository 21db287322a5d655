-- `feeding::feed` meets its contract. What is left to be fed from here on is what was to be fed at the start.
-- Assumes nothing.
use borrow.Author.Rules.{rules}
use mathlib.Core.Path.{sym, ◌∙◌}
use native.Mathlib.Omega.{arith}
use lib.ListN.{length}
use Prim.Native.Nat.{◌+◌, ◌-◌}
use Rattle.gateway.specs.Calls.{state_in}
use Rattle.feeding.proofs.Cases.{goes_on, goes_no_further, no_turns}
use Rattle.feeding.specs.Feeding.{replayed_of}
use Rattle.feeding.proofs.feed.Goals as goal

pub loop-preserved : goal.loop-preserved
loop-preserved c =
    let l = c.loop in
    let bytes = c.args.bytes.now in
    let here = replayed_of l.reached l.room (state_in l.gateway) in (
      search rules,
      rw c.turn-reached.ensures.state
          (sym (goes_on _ _ _ here (length bytes - l.counter) (length bytes - (l.counter + 1)) (omega (arith, c.loop-test.true))
          (sym c.can_go_on.ensures ∙ c.if-not-can_go_on.false)) ∙ l.invariant.1),
    )

pub returns-after-loop-clause-state : goal.returns-after-loop-clause-state
returns-after-loop-clause-state c =
    let l = c.loop in
    let here = replayed_of l.reached l.room (state_in l.gateway) in
    sym (no_turns _ _ _ here (length c.args.bytes.now - l.counter) (omega (arith, c.loop-test.false))) ∙ l.invariant.1

pub returns-then-not-can_go_on-clause-state : goal.returns-then-not-can_go_on-clause-state
returns-then-not-can_go_on-clause-state c =
    let l = c.loop in
    let here = replayed_of l.reached l.room (state_in l.gateway) in
    sym (goes_no_further _ _ _ here (length c.args.bytes.now - l.counter) (sym c.can_go_on.ensures ∙ c.if-not-can_go_on.true)) ∙ l.invariant.1
