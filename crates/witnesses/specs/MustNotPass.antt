-- Document 01, "How tight the contracts are": "These must not pass: a gateway that refuses always, one that says 1 to all, one that touches
-- no table, one that judges the first packet and repeats itself (demand 2 excludes all four)". Each is said of any gateway whatever, by its
-- answers and by what it leaves, and of one that meets the contracts it is not so (`must_not_pass`, proofs/MustNotPass).
-- Assumes nothing.
use Rattle.std.specs.Prelude.{List, ◌≡◌, ℕ, ◌<◌, Some, Result}
use Rattle.refused.specs.declared.Refusal.{Refusal}
use Rattle.refused.specs.Refused.{refusal_in}
use Rattle.settings.specs.declared.Limits.{Limits}
use Rattle.settings.specs.declared.Settings.{Settings}
use Rattle.tables.specs.Tables.{Tables}
use Rattle.rulings.specs.declared.answers.Answer.{Answer}
use Rattle.rulings.specs.Answers.{verdict_told}
use Rattle.rulings.specs.Rules.{rules_of}
use Rattle.gateway.specs.Calls.{State, After, unstarted, started, passed, judged}

-- any gateway, by what its three calls answer and leave: a cold start, which is lent tables and a clock, a time alone, a packet
pub record AnyGateway : Type 0 where
  pub start : Settings → ℕ → Tables → ℕ → After (Result (Unit {0}) Refusal)
  pub pass : Limits → ℕ → State → After (Result (Unit {0}) Refusal)
  pub judge : Limits → List ℕ → List ℕ → ℕ → List ℕ → State → After (Result Answer Refusal)

module _ (g : AnyGateway) where
  -- the contracts of `start`, `pass` and `judge`
  pub record MeetsContracts : Type 0 where
    pub of_start : (settings : Settings) (time : ℕ) (tables : Tables) (clock : ℕ)
        → g.start settings time tables clock ≡ started settings time (unstarted tables clock)
    pub of_pass : (limits : Limits) (time : ℕ) (before : State) → g.pass limits time before ≡ passed (rules_of limits) limits time before
    pub of_judge : (limits : Limits) (cell plant : List ℕ) (time : ℕ) (bytes : List ℕ) (before : State)
        → g.judge limits cell plant time bytes before ≡ judged (rules_of limits) limits cell plant time bytes before

  -- "a gateway that refuses always"
  abbrev pub RefusesAlways : Type 0
  RefusesAlways =
      (limits : Limits) (cell plant : List ℕ) (time : ℕ) (bytes : List ℕ) (before : State)
      → 0 < refusal_in (g.judge limits cell plant time bytes before).answer

  -- "one that says 1 to all"
  abbrev pub SaysOneToAll : Type 0
  SaysOneToAll =
      (limits : Limits) (cell plant : List ℕ) (time : ℕ) (bytes : List ℕ) (before : State)
      → verdict_told (g.judge limits cell plant time bytes before).answer ≡ Some 1

  -- "one that touches no table": by a packet, by a time alone, by a cold start
  abbrev pub TouchesNoTableByPackets : Type 0
  TouchesNoTableByPackets =
      (limits : Limits) (cell plant : List ℕ) (time : ℕ) (bytes : List ℕ) (before : State)
      → (g.judge limits cell plant time bytes before).state.tables ≡ before.tables

  abbrev pub TouchesNoTableByTime : Type 0
  TouchesNoTableByTime = (limits : Limits) (time : ℕ) (before : State) → (g.pass limits time before).state.tables ≡ before.tables

  abbrev pub TouchesNoTableByStarts : Type 0
  TouchesNoTableByStarts =
      (settings : Settings) (time : ℕ) (tables : Tables) (clock : ℕ) → (g.start settings time tables clock).state.tables ≡ tables

  -- "one that judges the first packet and repeats itself": what it answered to the first packet after a cold start it answers to the next
  abbrev pub RepeatsItself : Type 0
  RepeatsItself =
      (settings : Settings) (cell plant : List ℕ) (tables : Tables) (clock began time next : ℕ) (bytes others : List ℕ)
      → let first = g.judge settings.limits cell plant time bytes (g.start settings began tables clock).state in
      (g.judge settings.limits cell plant next others first.state).answer ≡ first.answer

  -- none of them
  pub record MustNotPass : Type 0 where
    pub not_always_refused : RefusesAlways → ⊥
    pub not_one_to_all : SaysOneToAll → ⊥
    pub tables_by_packets : TouchesNoTableByPackets → ⊥
    pub tables_by_time : TouchesNoTableByTime → ⊥
    pub tables_by_starts : TouchesNoTableByStarts → ⊥
    pub not_repeated : RepeatsItself → ⊥
