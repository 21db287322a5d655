-- The two runs of specs/Tight give what is said there: one machine gets exactly T + D + H + T × R, and then no more; and a machine is blocked
-- after exactly T. Each call is computed from the state that the one before it left.
-- Assumes nothing.
use mathlib.Core.Bool.{Bool, true, ◌&&◌}
use mathlib.Core.List.{List, [], ◌∷◌, map}
use mathlib.Core.Path.{◌≡◌, refl, ap, ◌∙◌}
use Prim.Native.Nat.{ℕ, ◌^◌, ◌<◌}
use native.Mathlib.Nat.{add-zero}
use native.Mathlib.Omega.{arith}
use lib.Dec.{ltb}
use lib.IntN.{ℤ, pos}
use lib.ListN.{replicate}
use borrow.Author.Tests.{ltb-true}
use Rattle.std.specs.Prelude.{Option, Some, None, Result, Ok}
use Rattle.refused.specs.declared.Refusal.{Refusal}
use Rattle.laws.specs.Signed.{minus}
use Rattle.laws.specs.Search.{every, first_below, foremost}
use Rattle.laws.specs.Times.{times, how_many, times_in}
use Rattle.laws.proofs.Tests.{and_left, and_right}
use Rattle.settings.specs.Settings.{bad_limits}
use Rattle.permute.specs.Permutation.{inverses, nibbles, unround, unrounds}
use Rattle.permute.specs.Permutation as permutation
use Rattle.places.specs.Places.{slot_of, place_of, address_of}
use Rattle.sides.specs.Lists.{bad_list, holds, rank_at, rank_of, best_number, best_in, decided}
use Rattle.packet.specs.Kinds.{tcp_kind, kind_of}
use Rattle.packet.specs.Header.{needed, header_refusal, transport_of, header_of}
use Rattle.records.specs.Records.{minute_passed, aged_by}
use Rattle.counts.specs.Counts.{is_empty, larger, smaller, point_less, decayed_by}
use Rattle.entries.specs.Entries.{own_way, count_in, empty_way, smallest_way, room_for, count_of, written}
use Rattle.tables.specs.Sizes.{bad_sizes}
use Rattle.tables.specs.Clock.{multiples_passed, time_passed}
use Rattle.verdicts.specs.declared.Verdict.{Verdict}
use Rattle.verdicts.specs.declared.Verdict.TheVariants.{CreditOfTwo, FreshContact, Blocked}
use Rattle.verdicts.specs.Verdicts.{from_the_plant, from_the_cell, from_blocked_cell, verdict_of, record_after}
use Rattle.rulings.specs.declared.answers.Answer.{Answer}
use Rattle.rulings.specs.declared.answers.Answer.TheVariants.{Judged}
use Rattle.rulings.specs.Rules.{rules_of}
use Rattle.rulings.specs.Rulings.{count_written, ruling_of}
use Rattle.cold.specs.Cold.{cold_tables}
use Rattle.refusals.specs.Refusals.{start_refusal, early_refusal}
use Rattle.gateway.specs.Packets.{ours, by_direction}
use Rattle.gateway.specs.Calls.{State, state_of, After, cold_placing, started, judged}
use Rattle.history.specs.Runs.{started_cold, Call, packet_at, why_at, Event, judged_at, state_after, event_of, left_by, history}
use Rattle.books.proofs.Apart.{same_head, same_tail}
use Rattle.books.proofs.Runs.{fours}
use Rattle.promises.specs.Demand3.{EachBelow, StartsCold, OfBytes, site, first, happened, F, D, H, R, most, least}
use Rattle.promises.proofs.Memory.{answered_as_fresh}
use Rattle.witnesses.proofs.Permuted.{zeros, permuted}
use Rattle.witnesses.specs.Tight.{gateway, syn, syn_ack_back, machine, allowed, exactly}

-- ---- the permutation back, for the two addresses that are replaced
back : (permutation.D zeros 0xFCE676E6 ≡ 0x0A000001) × (permutation.D zeros 0xC0FE76E7 ≡ 0x0A000005)
unfolding inverses nibbles unround unrounds permutation.D
back = (refl, refl)

-- ---- a call, what it is answered, and the state that it leaves
pub record Row : Type 0 where
  pub time : ℕ
  pub bytes : List ℕ
  pub verdict : Verdict
  pub count : ℤ
  pub replaced : Option ℕ
  pub state : State

abbrev row : ℕ → List ℕ → Verdict → ℤ → Option ℕ → State → Row
row time bytes verdict count replaced state =
    record { time = time; bytes = bytes; verdict = verdict; count = count; replaced = replaced; state = state }

abbrev state_at : List ℕ → List ℕ → List ℤ → ℕ → State
state_at = state_of (cold_placing gateway.settings)

-- the state before a row is the one that the row before it left
abbrev pub state_before : List Row → State
state_before [] = state_at (replicate 16 0) (replicate 4 0) (replicate 4 (minus 32768)) 100
state_before (row ∷ rows) = row.state

-- what the gateway makes of each, and what is said of it
abbrev pub judged_here : ℕ → List ℕ → State → After (Result Answer Refusal)
judged_here = judged (rules_of gateway.settings.limits) gateway.settings.limits gateway.cell gateway.plant

abbrev pub made : List Row → List (After (Result Answer Refusal))
made [] = []
made (row ∷ rows) =
    judged_here row.time row.bytes (state_before rows) ∷ made rows

abbrev pub said : List Row → List (After (Result Answer Refusal))
said [] = []
said (row ∷ rows) = record { answer = Ok (Judged row.verdict row.count row.replaced); state = row.state } ∷ said rows

abbrev calls_of : List Row → List Call
calls_of rows = map (λ row. packet_at row.time row.bytes) rows

abbrev events_of : List Row → List Event
events_of rows = map (λ row. judged_at row.time row.bytes (Ok (Judged row.verdict row.count row.replaced))) rows

-- ---- the runs, newest first
-- the first two packets: a contact, and its answer
abbrev pub opening_rows : List Row
opening_rows =
    row 100 (syn_ack_back 1 6379) CreditOfTwo (minus 1) None (state_at (0 ∷ 0 ∷ 0 ∷ 0 ∷ 0 ∷ 0 ∷ 0 ∷ 0 ∷ 192 ∷ 0 ∷ 0 ∷ 0 ∷ 0 ∷ 0 ∷ 0 ∷ 0 ∷ []) (0xFCE676E6 ∷ 0 ∷ 0 ∷ 0 ∷ []) (minus 1 ∷ minus 32768 ∷ minus 32768 ∷ minus 32768 ∷ []) 100) ∷
    row 100 (syn 1 6379) FreshContact (pos 1) None (state_at (0 ∷ 0 ∷ 0 ∷ 0 ∷ 0 ∷ 0 ∷ 0 ∷ 0 ∷ 64 ∷ 0 ∷ 0 ∷ 0 ∷ 0 ∷ 0 ∷ 0 ∷ 0 ∷ []) (0xFCE676E6 ∷ 0 ∷ 0 ∷ 0 ∷ []) (pos 1 ∷ minus 32768 ∷ minus 32768 ∷ minus 32768 ∷ []) 100) ∷ []

-- all that is allowed, up to where others come in, and from there on
abbrev first_rows : List Row
first_rows =
    row 120 (syn 1 5432) FreshContact (pos 2) None (state_at (65 ∷ 0 ∷ 65 ∷ 0 ∷ 65 ∷ 0 ∷ 0 ∷ 0 ∷ 193 ∷ 64 ∷ 0 ∷ 0 ∷ 0 ∷ 0 ∷ 0 ∷ 0 ∷ []) (0xFCE676E6 ∷ 0 ∷ 0 ∷ 0 ∷ []) (pos 2 ∷ minus 32768 ∷ minus 32768 ∷ minus 32768 ∷ []) 120) ∷
    row 100 (syn 1 80) FreshContact (pos 2) None (state_at (64 ∷ 0 ∷ 64 ∷ 0 ∷ 64 ∷ 0 ∷ 0 ∷ 0 ∷ 192 ∷ 0 ∷ 0 ∷ 0 ∷ 0 ∷ 0 ∷ 0 ∷ 0 ∷ []) (0xFCE676E6 ∷ 0 ∷ 0 ∷ 0 ∷ []) (pos 2 ∷ minus 32768 ∷ minus 32768 ∷ minus 32768 ∷ []) 100) ∷
    row 100 (syn 1 11211) FreshContact (pos 1) None (state_at (0 ∷ 0 ∷ 64 ∷ 0 ∷ 64 ∷ 0 ∷ 0 ∷ 0 ∷ 192 ∷ 0 ∷ 0 ∷ 0 ∷ 0 ∷ 0 ∷ 0 ∷ 0 ∷ []) (0xFCE676E6 ∷ 0 ∷ 0 ∷ 0 ∷ []) (pos 1 ∷ minus 32768 ∷ minus 32768 ∷ minus 32768 ∷ []) 100) ∷
    row 100 (syn 1 4840) FreshContact (pos 0) None (state_at (0 ∷ 0 ∷ 64 ∷ 0 ∷ 0 ∷ 0 ∷ 0 ∷ 0 ∷ 192 ∷ 0 ∷ 0 ∷ 0 ∷ 0 ∷ 0 ∷ 0 ∷ 0 ∷ []) (0xFCE676E6 ∷ 0 ∷ 0 ∷ 0 ∷ []) (pos 0 ∷ minus 32768 ∷ minus 32768 ∷ minus 32768 ∷ []) 100) ∷ opening_rows

abbrev all_rows : List Row
all_rows =
    row 120 (syn 1 2049) Blocked (pos 2) None (state_at (65 ∷ 64 ∷ 65 ∷ 64 ∷ 65 ∷ 64 ∷ 64 ∷ 64 ∷ 193 ∷ 64 ∷ 0 ∷ 64 ∷ 0 ∷ 64 ∷ 64 ∷ 64 ∷ []) (0xFCE676E6 ∷ 0x732FCEE7 ∷ 0xF90E4EE6 ∷ 0x83294EE6 ∷ []) (pos 2 ∷ pos 2 ∷ pos 2 ∷ pos 2 ∷ []) 120) ∷
    row 120 (syn 1 2049) FreshContact (pos 2) None (state_at (65 ∷ 64 ∷ 65 ∷ 64 ∷ 65 ∷ 64 ∷ 64 ∷ 64 ∷ 193 ∷ 64 ∷ 0 ∷ 64 ∷ 0 ∷ 64 ∷ 64 ∷ 64 ∷ []) (0xFCE676E6 ∷ 0x732FCEE7 ∷ 0xF90E4EE6 ∷ 0x83294EE6 ∷ []) (pos 2 ∷ pos 2 ∷ pos 2 ∷ pos 2 ∷ []) 120) ∷
    row 120 (syn 1 27017) FreshContact (pos 1) (Some 0x0A000005) (state_at (65 ∷ 0 ∷ 65 ∷ 64 ∷ 65 ∷ 64 ∷ 64 ∷ 64 ∷ 193 ∷ 64 ∷ 0 ∷ 64 ∷ 0 ∷ 64 ∷ 64 ∷ 64 ∷ []) (0xFCE676E6 ∷ 0x732FCEE7 ∷ 0xF90E4EE6 ∷ 0x83294EE6 ∷ []) (pos 1 ∷ pos 2 ∷ pos 2 ∷ pos 2 ∷ []) 120) ∷
    row 120 (syn 5 6379) FreshContact (pos 1) (Some 0x0A000001) (state_at (65 ∷ 0 ∷ 65 ∷ 64 ∷ 65 ∷ 0 ∷ 64 ∷ 64 ∷ 193 ∷ 64 ∷ 0 ∷ 64 ∷ 0 ∷ 64 ∷ 64 ∷ 64 ∷ []) (0xC0FE76E7 ∷ 0x732FCEE7 ∷ 0xF90E4EE6 ∷ 0x83294EE6 ∷ []) (pos 1 ∷ pos 2 ∷ pos 2 ∷ pos 2 ∷ []) 120) ∷
    row 120 (syn 4 4840) FreshContact (pos 2) None (state_at (65 ∷ 0 ∷ 65 ∷ 64 ∷ 65 ∷ 0 ∷ 64 ∷ 64 ∷ 193 ∷ 64 ∷ 0 ∷ 64 ∷ 0 ∷ 64 ∷ 64 ∷ 0 ∷ []) (0xFCE676E6 ∷ 0x732FCEE7 ∷ 0xF90E4EE6 ∷ 0x83294EE6 ∷ []) (pos 2 ∷ pos 2 ∷ pos 2 ∷ pos 2 ∷ []) 120) ∷
    row 120 (syn 4 6379) FreshContact (pos 1) None (state_at (65 ∷ 0 ∷ 65 ∷ 0 ∷ 65 ∷ 0 ∷ 64 ∷ 64 ∷ 193 ∷ 64 ∷ 0 ∷ 64 ∷ 0 ∷ 64 ∷ 64 ∷ 0 ∷ []) (0xFCE676E6 ∷ 0x732FCEE7 ∷ 0xF90E4EE6 ∷ 0x83294EE6 ∷ []) (pos 2 ∷ pos 2 ∷ pos 2 ∷ pos 1 ∷ []) 120) ∷
    row 120 (syn 3 4840) FreshContact (pos 2) None (state_at (65 ∷ 0 ∷ 65 ∷ 0 ∷ 65 ∷ 0 ∷ 64 ∷ 64 ∷ 193 ∷ 64 ∷ 0 ∷ 64 ∷ 0 ∷ 0 ∷ 64 ∷ 0 ∷ []) (0xFCE676E6 ∷ 0x732FCEE7 ∷ 0xF90E4EE6 ∷ 0 ∷ []) (pos 2 ∷ pos 2 ∷ pos 2 ∷ minus 32768 ∷ []) 120) ∷
    row 120 (syn 3 6379) FreshContact (pos 1) None (state_at (65 ∷ 0 ∷ 65 ∷ 0 ∷ 65 ∷ 0 ∷ 64 ∷ 64 ∷ 193 ∷ 64 ∷ 0 ∷ 0 ∷ 0 ∷ 0 ∷ 64 ∷ 0 ∷ []) (0xFCE676E6 ∷ 0x732FCEE7 ∷ 0xF90E4EE6 ∷ 0 ∷ []) (pos 2 ∷ pos 2 ∷ pos 1 ∷ minus 32768 ∷ []) 120) ∷
    row 120 (syn 2 4840) FreshContact (pos 2) None (state_at (65 ∷ 0 ∷ 65 ∷ 0 ∷ 65 ∷ 0 ∷ 0 ∷ 64 ∷ 193 ∷ 64 ∷ 0 ∷ 0 ∷ 0 ∷ 0 ∷ 64 ∷ 0 ∷ []) (0xFCE676E6 ∷ 0x732FCEE7 ∷ 0 ∷ 0 ∷ []) (pos 2 ∷ pos 2 ∷ minus 32768 ∷ minus 32768 ∷ []) 120) ∷
    row 120 (syn 2 6379) FreshContact (pos 1) None (state_at (65 ∷ 0 ∷ 65 ∷ 0 ∷ 65 ∷ 0 ∷ 0 ∷ 0 ∷ 193 ∷ 64 ∷ 0 ∷ 0 ∷ 0 ∷ 0 ∷ 64 ∷ 0 ∷ []) (0xFCE676E6 ∷ 0x732FCEE7 ∷ 0 ∷ 0 ∷ []) (pos 2 ∷ pos 1 ∷ minus 32768 ∷ minus 32768 ∷ []) 120) ∷ first_rows

-- the second run: two contacts, and then it is blocked
abbrev two_rows : List Row
two_rows =
    row 100 (syn 1 4840) FreshContact (pos 2) None (state_at (0 ∷ 0 ∷ 64 ∷ 0 ∷ 0 ∷ 0 ∷ 0 ∷ 0 ∷ 64 ∷ 0 ∷ 0 ∷ 0 ∷ 0 ∷ 0 ∷ 0 ∷ 0 ∷ []) (0xFCE676E6 ∷ 0 ∷ 0 ∷ 0 ∷ []) (pos 2 ∷ minus 32768 ∷ minus 32768 ∷ minus 32768 ∷ []) 100) ∷
    row 100 (syn 1 6379) FreshContact (pos 1) None (state_at (0 ∷ 0 ∷ 0 ∷ 0 ∷ 0 ∷ 0 ∷ 0 ∷ 0 ∷ 64 ∷ 0 ∷ 0 ∷ 0 ∷ 0 ∷ 0 ∷ 0 ∷ 0 ∷ []) (0xFCE676E6 ∷ 0 ∷ 0 ∷ 0 ∷ []) (pos 1 ∷ minus 32768 ∷ minus 32768 ∷ minus 32768 ∷ []) 100) ∷ []

abbrev exactly_rows : List Row
exactly_rows =
    row 100 (syn 1 11211) Blocked (pos 2) None (state_at (0 ∷ 0 ∷ 64 ∷ 0 ∷ 0 ∷ 0 ∷ 0 ∷ 0 ∷ 64 ∷ 0 ∷ 0 ∷ 0 ∷ 0 ∷ 0 ∷ 0 ∷ 0 ∷ []) (0xFCE676E6 ∷ 0 ∷ 0 ∷ 0 ∷ []) (pos 2 ∷ minus 32768 ∷ minus 32768 ∷ minus 32768 ∷ []) 100) ∷ two_rows

and_then : {x y : After (Result Answer Refusal)} {xs ys : List (After (Result Answer Refusal))} → x ≡ y → xs ≡ ys → x ∷ xs ≡ y ∷ ys
and_then p q = λ i. p i ∷ q i

-- what the gateway makes of each run's rows is what is said of them
pub record Computed : Type 0 where
  pub opening_made : made opening_rows ≡ said opening_rows
  pub all_made : made all_rows ≡ said all_rows
  pub exactly_made : made exactly_rows ≡ said exactly_rows

pub computed : Computed
unfolding times how_many every first_below foremost bad_limits slot_of place_of address_of bad_list holds rank_at rank_of best_number best_in decided tcp_kind kind_of needed header_refusal transport_of header_of minute_passed aged_by is_empty larger smaller point_less decayed_by own_way count_in empty_way smallest_way room_for count_of written bad_sizes multiples_passed time_passed from_the_plant from_the_cell from_blocked_cell verdict_of record_after count_written ruling_of early_refusal ours by_direction judged
computed = record { opening_made = opening; all_made = all; exactly_made = cut }
  where
    opening : made opening_rows ≡ said opening_rows
    opening =
        and_then (rw (permuted.plant, permuted.plant_and_1, permuted.slot_1_6379, permuted.machine_1) refl)
        (and_then (rw (permuted.plant, permuted.plant_and_1, permuted.slot_1_6379, permuted.machine_1) refl) refl)

    first_half : made first_rows ≡ said first_rows
    first_half =
        and_then (rw (permuted.plant, permuted.plant_and_1, permuted.slot_1_5432, permuted.machine_1) refl)
        (and_then (rw (permuted.plant, permuted.plant_and_1, permuted.slot_1_80, permuted.machine_1) refl)
        (and_then (rw (permuted.plant, permuted.plant_and_1, permuted.slot_1_11211, permuted.machine_1) refl)
        (and_then (rw (permuted.plant, permuted.plant_and_1, permuted.slot_1_4840, permuted.machine_1) refl) opening)))

    all : made all_rows ≡ said all_rows
    all =
        and_then (rw (permuted.plant, permuted.plant_and_1, permuted.slot_1_2049, permuted.machine_1) refl)
        (and_then (rw (permuted.plant, permuted.plant_and_1, permuted.slot_1_2049, permuted.machine_1) refl)
        (and_then (simp (permuted.plant, permuted.plant_and_1, permuted.slot_1_27017, permuted.machine_1, back.1))
        (and_then (simp (permuted.plant, permuted.plant_and_5, permuted.slot_5_6379, permuted.machine_5, back.0))
        (and_then (rw (permuted.plant, permuted.plant_and_4, permuted.slot_4_4840, permuted.machine_4) refl)
        (and_then (rw (permuted.plant, permuted.plant_and_4, permuted.slot_4_6379, permuted.machine_4) refl)
        (and_then (rw (permuted.plant, permuted.plant_and_3, permuted.slot_3_4840, permuted.machine_3) refl)
        (and_then (rw (permuted.plant, permuted.plant_and_3, permuted.slot_3_6379, permuted.machine_3) refl)
        (and_then (rw (permuted.plant, permuted.plant_and_2, permuted.slot_2_4840, permuted.machine_2) refl)
        (and_then (rw (permuted.plant, permuted.plant_and_2, permuted.slot_2_6379, permuted.machine_2) refl)
        (first_half))))))))))

    cut : made exactly_rows ≡ said exactly_rows
    cut =
        and_then (rw (permuted.plant, permuted.plant_and_1, permuted.slot_1_11211, permuted.machine_1) refl)
        (and_then (rw (permuted.plant, permuted.plant_and_1, permuted.slot_1_4840, permuted.machine_1) refl)
        (and_then (rw (permuted.plant, permuted.plant_and_1, permuted.slot_1_6379, permuted.machine_1) refl) refl))

-- ---- so the runs are these
abbrev pub cold : State
cold = state_before []

left_is : (rows : List Row) → made rows ≡ said rows → left_by (site gateway) (started_cold cold) (calls_of rows) ≡ state_before rows
unfolding left_by state_after
left_is [] e = refl
left_is (row ∷ rows) e =
    ap (λ (s : State). (judged_here row.time row.bytes s).state) (left_is rows (same_tail e))
    ∙ ap (λ (after : After (Result Answer Refusal)). after.state) (same_head e)

history_is : (rows : List Row) → made rows ≡ said rows → history (site gateway) (started_cold cold) (calls_of rows) ≡ events_of rows
unfolding left_by history event_of
history_is [] e = refl
history_is (row ∷ rows) e =
    λ i. judged_at row.time row.bytes (answer i) ∷ history_is rows (same_tail e) i
  where
    answer : (judged_here row.time row.bytes (left_by (site gateway) (started_cold cold) (calls_of rows))).answer
        ≡ Ok (Judged row.verdict row.count row.replaced)
    answer =
        ap (λ (s : State). (judged_here row.time row.bytes s).answer) (left_is rows (same_tail e))
        ∙ ap (λ (after : After (Result Answer Refusal)). after.answer) (same_head e)

pub cold_is : (first gateway).state ≡ cold
unfolding started start_refusal bad_limits bad_sizes cold_tables
cold_is = refl

happened_is : (rows : List Row) → made rows ≡ said rows → happened gateway (calls_of rows) ≡ events_of rows
happened_is rows e = ap (λ (s : State). history (site gateway) (started_cold s) (calls_of rows)) cold_is ∙ history_is rows e

-- ---- the premises of demand 3 are met
abbrev all_below : ℕ → List ℕ → Bool
all_below limit [] = true
all_below limit (x ∷ xs) = ltb x limit && all_below limit xs

each_below : (limit : ℕ) (xs : List ℕ) → all_below limit xs ≡ true → EachBelow limit xs
each_below limit [] e = tt
each_below limit (x ∷ xs) e = (ltb-true x limit (and_left (ltb x limit) (all_below limit xs) e), each_below limit xs (and_right (ltb x limit) (all_below limit xs) e))

abbrev bytes_of : List Row → Bool
bytes_of [] = true
bytes_of (row ∷ rows) = all_below 256 row.bytes && bytes_of rows

of_bytes : (rows : List Row) → bytes_of rows ≡ true → OfBytes (calls_of rows)
of_bytes [] e = tt
of_bytes (row ∷ rows) e =
    (each_below 256 row.bytes (and_left (all_below 256 row.bytes) (bytes_of rows) e), of_bytes rows (and_right (all_below 256 row.bytes) (bytes_of rows) e))

pub starts : StartsCold gateway
unfolding start_refusal bad_limits bad_sizes
starts = record { not_refused = refl; keys_are_words = each_below (2 ^ 32) gateway.settings.keys refl }

-- fresh contacts, from the history, by what was answered
fresh_is : (rows : List Row) → made rows ≡ said rows → bytes_of rows ≡ true → F gateway machine (happened gateway (calls_of rows)) ≡ fours (site gateway) machine (events_of rows)
fresh_is rows e b =
    answered_as_fresh gateway starts (calls_of rows) (of_bytes rows b) machine ∙ ap (fours (site gateway) machine) (happened_is rows e)

-- ---- all that is allowed: seven, by T 2, D 1, H 2 and R 1
seven : F gateway machine (happened gateway allowed) ≡ 7
unfolding every first_below foremost holds rank_at rank_of best_number best_in decided header_of
seven = fresh_is all_rows computed.all_made refl

each_counts : (D gateway (happened gateway allowed) ≡ 1) × (H gateway machine (happened gateway allowed) ≡ 2) × (R gateway machine (happened gateway allowed) ≡ 1)
unfolding how_many times_in multiples_passed every first_below foremost bad_limits holds rank_at rank_of best_number best_in decided header_of bad_sizes start_refusal started
each_counts =
    let h = happened_is all_rows computed.all_made in
    (ap (D gateway) h, ap (H gateway machine) h, ap (R gateway machine) h)

-- the bound is reached, with every term of it above 0 and T above 1: none of them could go, nor the factor T
pub reached : F gateway machine (happened gateway allowed) ≡ most gateway machine (happened gateway allowed)
reached = omega (arith, seven, each_counts)

pub every_term : (0 < D gateway (happened gateway allowed)) × (0 < H gateway machine (happened gateway allowed)) × (0 < R gateway machine (happened gateway allowed))
every_term = (omega (arith, each_counts), omega (arith, each_counts), omega (arith, each_counts))

-- and then it gets not one more
pub no_more : (before : List Event) × (happened gateway allowed ≡ judged_at 120 (syn 1 2049) (Ok (Judged Blocked (pos 2) None)) ∷ before)
no_more = (_, happened_is all_rows computed.all_made)

-- ---- blocked after exactly T
pub blocked_after_T : (before : List Event)
    × (happened gateway exactly ≡ judged_at 100 (syn 1 11211) (Ok (Judged Blocked (pos 2) None)) ∷ before)
    × (F gateway machine before ≡ least gateway)
unfolding left_by state_after event_of history every first_below foremost holds rank_at rank_of best_number best_in decided header_of
blocked_after_T = (
  happened gateway asked,
  happened_exactly,
  add-zero (F gateway machine (happened gateway (calls_of two_rows))) ∙ fresh_is two_rows (same_tail computed.exactly_made) refl,
)
  where
    asked : List Call
    asked = why_at 100 (syn 1 11211) ∷ calls_of two_rows

    happened_exactly : happened gateway exactly ≡ judged_at 100 (syn 1 11211) (Ok (Judged Blocked (pos 2) None)) ∷ happened gateway asked
    happened_exactly = λ i. same_head (happened_is exactly_rows computed.exactly_made) i ∷ happened gateway asked
