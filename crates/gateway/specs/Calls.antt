-- Document 01, "Refusal numbers" as the calls give them, and the three calls that change anything: a cold start, a time alone, a packet.
-- Assumes nothing.
use Rattle.std.specs.Prelude.{List, ℕ, ℤ, length, replicate, ◌≡◌, Option, Some, None, Result, Ok, Err}
use Rattle.std.specs.Borrow.{MutBor}
use denote.Triple.Both.{Both}
use Rattle.refused.specs.declared.Refusal.{Refusal}
use Rattle.refused.specs.Refused.{refusal_or}
use Rattle.settings.specs.declared.Limits.{Limits}
use Rattle.settings.specs.declared.Settings.{Settings}
use Rattle.sides.specs.declared.Direction.{Direction}
use Rattle.packet.specs.declared.Header.{Header}
use Rattle.packet.specs.Header.{header_refusal, header_of}
use Rattle.places.specs.declared.Placing.{Placing}
use Rattle.tables.specs.declared.sizes.Sizes.{Sizes}
use Rattle.tables.specs.Tables.{Tables, tables_of}
use Rattle.tables.specs.Clock.{Timed, timed_of, time_passed}
use Rattle.rulings.specs.declared.answers.Answer.{Answer}
use Rattle.rulings.specs.Rules.{Rules}
use Rattle.refusals.specs.Refusals.{start_refusal, time_refusal, early_refusal}
use Rattle.cold.specs.Cold.{cold_tables}
use Rattle.gateway.specs.declared.Gateway.{Gateway}
use Rattle.gateway.specs.declared.View.{View}
use Rattle.gateway.specs.Packets.{Outcome, direction_in, by_direction}

-- A gateway's state: what places packets in its tables, the tables, and the clock. It runs on the keys that stand here, and not on those of
-- its settings.
pub record State : Type 0 where
  pub placing : Placing
  pub tables : Tables
  pub clock : ℕ

abbrev pub state_of : Placing → List ℕ → List ℕ → List ℤ → ℕ → State
state_of placing records tags counts clock = record { placing = placing; tables = tables_of records tags counts; clock = clock }

-- the state of a gateway in its caller's memory, and of one that is only looked at
abbrev pub state_in : Gateway → State
state_in g = state_of g.placing g.records.now g.tags.now g.counts.now g.clock.now

abbrev pub seen_in : View → State
seen_in v = state_of v.placing v.records.now v.tags.now v.counts.now v.clock

-- two of them are lent the same memory
abbrev pub SameMemory : Gateway → Gateway → Type 0
SameMemory a b =
    (b.records.ghost_name ≡ a.records.ghost_name)
    × (b.tags.ghost_name ≡ a.tags.ghost_name)
    × (b.counts.ghost_name ≡ a.counts.ghost_name)
    × (b.clock.ghost_name ≡ a.clock.ghost_name)

-- what a call leaves: its answer, and the state
pub record After (A : Type 0) : Type 0 where
  pub answer : A
  pub state : State

abbrev pub after_call : {A : Type 0} → A → State → After A
after_call answer state = record { answer = answer; state = state }

-- what a packet leaves of a state, by what it leaves of the tables
abbrev pub with_outcome : State → Outcome → After Answer
with_outcome before outcome =
    after_call outcome.answer (record { placing = before.placing; tables = outcome.tables; clock = before.clock })

-- what a call is lent, at its entry and at its exit, beside what places packets: the state before it, the state after it, and
-- with the answer what it leaves
module _ (placing : Placing) (records tags : Both (MutBor (List ℕ)) (MutBor (List ℕ))) (counts : Both (MutBor (List ℤ)) (MutBor (List ℤ)))
    (clock : Both (MutBor ℕ) (MutBor ℕ)) where
  abbrev pub lent : State
  lent = state_of placing records.entry.now tags.entry.now counts.entry.now clock.entry.now

  abbrev pub left_state : State
  left_state = state_of placing records.exit.now tags.exit.now counts.exit.now clock.exit.now

  abbrev pub left : {A : Type 0} → A → After A
  left answer = record { answer = answer; state = left_state }

-- ---- refusals
-- "All caller memory keeps its contents."
abbrev pub unless_refused : {A : Type 0} → Option Refusal → State → After A → After (Result A Refusal)
unless_refused None before after = after_call (Ok after.answer) after.state
unless_refused (Some refusal) before after = after_call (Err refusal) before

-- how many records, tags and counts there are
abbrev pub sizes_of : Tables → Sizes
sizes_of tables = record { records = length tables.records; tags = length tables.tags; counts = length tables.counts }

-- a test of how many records, tags and counts there are
abbrev pub by_sizes : {A : Type 0} → (ℕ → ℕ → ℕ → A) → Tables → A
by_sizes test tables = test (length tables.records) (length tables.tags) (length tables.counts)

-- ---- a cold start
-- A gateway that has not started is lent tables and a clock, and has nothing yet to place packets with: every key 0 stands for that.
abbrev pub no_placing : Placing
no_placing = record { keys = replicate 8 0 }

abbrev pub unstarted : Tables → ℕ → State
unstarted tables clock = record { placing = no_placing; tables = tables; clock = clock }

abbrev pub start_refusal_at : Limits → State → Option Refusal
start_refusal_at limits before = by_sizes (start_refusal limits) before.tables

-- the settings' keys, which no other call looks at
abbrev pub cold_placing : Settings → Placing
cold_placing settings = record { keys = settings.keys }

-- it "sets the clock"
abbrev pub cold_state : Settings → ℕ → State → State
cold_state settings time before = record { placing = cold_placing settings; tables = cold_tables before.tables; clock = time }

unfoldable pub started : Settings → ℕ → State → After (Result (Unit {0}) Refusal)
started settings time before =
    unless_refused (start_refusal_at settings.limits before) before (after_call tt (cold_state settings time before))

-- ---- a time alone
abbrev pub time_refusal_at : Limits → ℕ → State → Option Refusal
time_refusal_at limits time before = by_sizes (time_refusal limits) before.tables before.clock time

-- what the clock does to records and counts where it goes on to a time, by the size of a point
abbrev pub timed_at : ℕ → Limits → ℕ → ℕ → Tables → Timed
timed_at point limits clock time tables = time_passed point limits.dmiss limits.dconn time (timed_of tables.records tables.counts clock)

-- the tables at that time: it leaves the tags
abbrev pub tables_at : ℕ → Limits → ℕ → ℕ → Tables → Tables
tables_at point limits clock time tables =
    tables_of (timed_at point limits clock time tables).records tables.tags (timed_at point limits clock time tables).counts

-- the state at that time
abbrev pub onward : ℕ → Limits → ℕ → State → State
onward point limits time before =
    record {
      placing = before.placing;
      tables = tables_at point limits before.clock time before.tables;
      clock = (timed_at point limits before.clock time before.tables).clock;
    }

unfoldable pub passed : Rules → Limits → ℕ → State → After (Result (Unit {0}) Refusal)
passed rules limits time before =
    unless_refused (time_refusal_at limits time before) before (after_call tt (onward rules.point limits time before))

-- ---- a packet
-- the numbers 1 to 4 first, "but header tests have their own order"
abbrev pub packet_refusal : Limits → List ℕ → List ℕ → ℕ → List ℕ → State → Option Refusal
packet_refusal limits cell plant time bytes before =
    refusal_or
    (by_sizes (early_refusal limits) before.tables cell plant before.clock time)
    (header_refusal bytes)

-- "Clock, before every packet that isn't refused, ours or not": then what the packet, by its headers and direction, makes of the tables
abbrev pub accepted : Rules → Limits → Header → Direction → ℕ → State → After Answer
accepted rules limits h direction time before = with_outcome timed (by_direction rules before.placing h direction timed.tables)
  where
    timed : State
    timed = onward rules.point limits time before

unfoldable pub judged : Rules → Limits → List ℕ → List ℕ → ℕ → List ℕ → State → After (Result Answer Refusal)
judged rules limits cell plant time bytes before =
    unless_refused (packet_refusal limits cell plant time bytes before) before
    (accepted rules limits (header_of bytes) (direction_in cell plant (header_of bytes)) time before)
