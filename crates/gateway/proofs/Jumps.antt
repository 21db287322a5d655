-- Demand 2, of the calls: passing a gap by one call leaves the state that a call for each of its seconds leaves.
-- Assumes nothing.
use mathlib.Core.Bool.{Bool, false}
use mathlib.Core.Path.{◌≡◌, sym, ap, ◌∙◌}
use Prim.Native.Nat.{ℕ, zero, suc, ◌+◌, ◌≤◌}
use native.Mathlib.Omega.{arith}
use lib.ListN.{length}
use borrow.Author.Tests.{le-ltb}
use Rattle.laws.specs.Times.{times}
use Rattle.laws.proofs.Times.{times_none, times_more}
use Rattle.settings.specs.declared.Limits.{Limits}
use Rattle.settings.specs.Settings.{bad_limits}
use Rattle.tables.specs.Sizes.{bad_sizes}
use Rattle.tables.specs.Clock.{Timed, timed_of}
use Rattle.tables.proofs.Jumps.{clock_is, records_stay, counts_stay, stands, by_way_of}
use Rattle.rulings.specs.Rules.{Rules}
use Rattle.refusals.specs.Refusals.{time_refusal}
use Rattle.gateway.specs.Calls.{State, state_of, by_sizes, onward, passed}

-- what time changes of a state, and a state with that changed
abbrev timed_in : State → Timed
timed_in s = timed_of s.tables.records s.tables.counts s.clock

abbrev changed_to : State → Timed → State
changed_to s m = state_of s.placing m.records s.tables.tags m.counts m.clock

abbrev pub bad_tables : State → Bool
bad_tables s = by_sizes bad_sizes s.tables

module _ (rules : Rules) (limits : Limits) where
  -- the state at a time
  abbrev pub at : ℕ → State → State
  at time s = onward rules.point limits time s

  -- the sizes stay, so that a test of them has the same outcome
  pub sizes_stay : {A : Type 0} (test : ℕ → ℕ → ℕ → A) (time : ℕ) (s : State) → by_sizes test (at time s).tables ≡ by_sizes test s.tables
  sizes_stay test time s = λ i. test
      (records_stay rules.point limits.dmiss limits.dconn time (timed_in s) i)
      (length s.tables.tags)
      (counts_stay rules.point limits.dmiss limits.dconn time (timed_in s) i)

  -- the clock is then the time
  pub clock_at : (time : ℕ) (s : State) → s.clock ≤ time → (at time s).clock ≡ time
  clock_at time s h = omega (arith, clock_is rules.point limits.dmiss limits.dconn time (timed_in s))

  -- by way of a moment between
  pub at_at : (between time : ℕ) (s : State) → s.clock ≤ between → between ≤ time → at time (at between s) ≡ at time s
  at_at between time s h l =
      ap (changed_to s) (sym (by_way_of rules.point limits.dmiss limits.dconn between time (timed_in s) h l))

  -- a call that passes to the next second
  abbrev pub next_second : State → State
  next_second s = (passed rules limits (suc s.clock) s).state

  module _ (good : bad_limits limits ≡ false) where
    -- a call that is not refused
    pub passes : (time : ℕ) (s : State) → bad_tables s ≡ false → s.clock ≤ time → (passed rules limits time s).state ≡ at time s
    unfolding passed time_refusal
    passes time s sized h = rw (good, sized, le-ltb _ _ h)

    seconds : (gap : ℕ) (s : State) → bad_tables s ≡ false → times gap next_second s ≡ at (s.clock + gap) s
    seconds zero s sized =
        times_none next_second s
        ∙ sym (ap (changed_to s) (stands rules.point limits.dmiss limits.dconn (s.clock + 0) (timed_in s) (omega arith)))
    seconds (suc gap) s sized =
        let there = clock_at (s.clock + gap) s (omega arith) in
        let next : suc (at (s.clock + gap) s).clock ≡ s.clock + suc gap = omega arith in
        times_more next_second gap s
        ∙ ap next_second (seconds gap s sized)
        ∙ passes _ (at (s.clock + gap) s) (sizes_stay bad_sizes (s.clock + gap) s ∙ sized) (omega arith)
        ∙ ap (λ (t : ℕ). at t (at (s.clock + gap) s)) next
        ∙ at_at (s.clock + gap) (s.clock + suc gap) s (omega arith) (omega arith)

    pub second_by_second : (gap : ℕ) (s : State) → bad_tables s ≡ false
        → times gap next_second s ≡ (passed rules limits (s.clock + gap) s).state
    second_by_second gap s sized = seconds gap s sized ∙ sym (passes (s.clock + gap) s sized (omega arith))
