-- A packet keeps the invariant, and is answered rightly.
-- Assumes nothing.
use mathlib.Core.Bool.{Bool, true, false, not, ◌&&◌, cond, and-false, and-true, not-not}
use mathlib.Core.List.{List, ◌∷◌}
use mathlib.Core.Logic.{◌≢◌, inl}
use mathlib.Core.Path.{◌≡◌, refl, sym, ap, subst, ◌∙◌}
use Prim.Native.Nat.{ℕ, ◌+◌, ◌*◌, ◌/◌, ◌^◌, ◌≤◌, ◌<◌}
use native.Mathlib.Decide.{ℕ_discrete}
use native.Mathlib.Nat.{add-zero}
use native.Mathlib.Omega.{arith}
use lib.Dec.{eqb}
use lib.IntN.{ℤ}
use lib.ListN.{length, get_or, set, length-set}
use lib.Seq.{get_or-set_same, get_or-set_other}
use borrow.Author.Tests.{eq-eqb, ne_eqb}
use Rattle.laws.specs.Times.{times_in}
use Rattle.laws.proofs.Signed.{dn}
use Rattle.packet.specs.Header.{header_of, header_refusal}
use Rattle.sides.specs.declared.Direction.{Direction}
use Rattle.sides.specs.declared.Direction.TheVariants.{FromCell, FromPlant, NotOurs}
use Rattle.places.specs.declared.Place.{Place}
use Rattle.places.specs.declared.Placing.{Placing}
use Rattle.places.specs.Places.{place_of}
use Rattle.records.specs.Records.{marks_of, is_unmarked, is_cold}
use Rattle.counts.specs.Counts.{is_blocked}
use Rattle.std.specs.Prelude.{None, Option, Some, option_to_list, Ok, Err}
use Rattle.std.proofs.lemmas.Option.{none-some}
use Rattle.refused.specs.declared.Refusal.{Refusal}
use Rattle.entries.specs.Entries.{Written, written_of, written}
use Rattle.entries.proofs.Readback.{same_lengths}
use Rattle.entries.proofs.Once.{Once, once_after}
use Rattle.tables.specs.Tables.{Tables}
use Rattle.verdicts.specs.declared.Verdict.{Verdict}
use Rattle.verdicts.specs.declared.Verdict.TheVariants.{Uncounted, CreditOfOne, CreditOfTwo, FreshContact, Hygiene, Blocked}
use Rattle.verdicts.specs.Verdicts.{number_of, record_after}
use Rattle.rulings.specs.declared.answers.Answer.{Answer}
use Rattle.rulings.specs.declared.answers.Answer.TheVariants as answer
use Rattle.rulings.specs.Rules.{Rules}
use Rattle.rulings.specs.Rulings.{counted_by, verdict_by, new_count, ruling_of}
use Rattle.gateway.specs.Packets.{Outcome, spot_of, ruling_at, replacement_of, settled, ours, direction_in, by_direction}
use Rattle.refusals.proofs.Tests.{packet_in_order}
use Rattle.gateway.specs.Calls.{State, After, unless_refused, packet_refusal, accepted, judged}
use Rattle.gateway.proofs.Steps.{first_none}
use Rattle.history.specs.Runs.{Site, Start, Event, judged_at}
use Rattle.history.specs.Told.{judgement_by}
use Rattle.history.specs.Fresh.{Ours, is_from_plant, ours_of, cell_address, forwards, credit_of, replacements, slot_for, forwarded_on, credits, is_fresh, fresh_contacts}
use Rattle.books.proofs.Account.{StaysOrNamed, reaches, under, recast, on_named, holds_blocked}
use Rattle.books.proofs.Slots.{told_of, is_four, Ruled, ruled, forwarded_record, dropped_record, Kept, kept_forwarded}
use Rattle.books.proofs.Writes.{count_at, own_count, other_count}
use Rattle.books.proofs.Own.{NoLower, own_account}
use Rattle.books.proofs.Invariant.{Setup, lines_in, timed, clock_at, count_in, Fit, SlotWith, BooksWith, Run, run_onward, run_told, Rightly, Stepped, stepped_quiet}

-- a verdict of ours is told as the judgement of a packet
judgement_is : (time : ℕ) (bytes : List ℕ) (verdict : Verdict)
    → judgement_by time bytes (told_of verdict) ≡ Some (record { time = time; bytes = bytes; verdict = number_of verdict })
judgement_is time bytes Uncounted = refl
judgement_is time bytes CreditOfOne = refl
judgement_is time bytes CreditOfTwo = refl
judgement_is time bytes FreshContact = refl
judgement_is time bytes Hygiene = refl
judgement_is time bytes Blocked = refl

module _ (x : Setup) (start : Start) where
  abbrev site : Site
  site = x.site

  abbrev keys : List ℕ
  keys = site.placing.keys

  abbrev r : Rules
  r = site.rules

  abbrev dconn : ℕ
  dconn = site.limits.dconn

  abbrev began : ℕ
  began = start.state.clock

  -- of an address, by a history
  abbrev F : ℕ → List Event → ℕ
  F = fresh_contacts site start

  abbrev H : ℕ → List Event → ℕ
  H = credits site

  abbrev R : ℕ → List Event → ℕ
  R = replacements

  -- ---- a packet of ours is judged, at the state's own time
  module _ (s : State) (h : List Event) (i : Run x start s h) (bytes : List ℕ) (small : Fit x bytes) where
    abbrev packet : Ours
    packet = ours_of site bytes

    abbrev cell : ℕ
    cell = cell_address packet

    abbrev slot : ℕ
    slot = slot_for site packet

    abbrev byte : ℕ
    byte = get_or s.tables.records slot 0

    abbrev place : Place
    place = place_of keys cell (lines_in s)

    abbrev count : ℤ
    count = count_in x s cell

    abbrev verdict : Verdict
    verdict = verdict_by r packet.header packet.from_plant byte count

    abbrev told : Option ℕ
    told = told_of verdict

    abbrev new : Option ℤ
    new = new_count r packet.header packet.from_plant byte count

    -- the lists after a count is written, if one is, and the address that is then named as replaced, if any
    abbrev wrote : Option ℤ → Written
    wrote n =
        cond (counted_by count n).writes
        (written place.line place.tag (counted_by count n).count s.tables.tags s.tables.counts)
        (written_of None s.tables.tags s.tables.counts)

    abbrev gone_by : Option ℤ → Option ℕ
    gone_by n = replacement_of keys (lines_in s) place.line (wrote n).replaced

    abbrev named : ℕ → Option ℤ → ℕ
    named address n = times_in address (option_to_list (gone_by n))

    abbrev byte_after : ℕ
    byte_after = record_after packet.from_plant packet.header.transport.kind verdict byte

    -- the state and the event
    abbrev judged_state : State
    judged_state =
        record {
          placing = s.placing;
          tables = record { records = set s.tables.records slot byte_after; tags = (wrote new).tags; counts = (wrote new).counts };
          clock = s.clock;
        }

    abbrev judged_event : Event
    judged_event = judged_at s.clock bytes (Ok (answer.Judged verdict (counted_by count new).count (gone_by new)))

    slot_lt : slot < site.records
    slot_lt = x.ok.slot_lt site.placing packet.header packet.from_plant site.records x.some_records

    here : SlotWith x start s slot (forwarded_on site slot h)
    here = i.slots slot slot_lt

    -- ---- its slot, and the others
    abbrev SlotAt : ℕ → ℕ → Bool → Type 0
    SlotAt j b forwarded =
        Kept dconn began (get_or start.state.tables.records j 0) (start.held j) b s.clock
        (cond forwarded (record { time = s.clock; packet = packet } ∷ forwarded_on site j h) (forwarded_on site j h))

    own_slot : (forwarded : Bool) → forwards told ≡ forwarded → SlotAt slot byte_after forwarded
    own_slot true e =
        kept_forwarded dconn began (get_or start.state.tables.records slot 0) (start.held slot) packet here
        (forwarded_record packet.from_plant (is_blocked r.threshold count) packet.header.transport.kind byte e)
    own_slot false e =
        subst (λ (b : ℕ). SlotAt slot b false)
        (sym (dropped_record packet.from_plant (is_blocked r.threshold count) packet.header.transport.kind byte e)) here

    each_slot : (j : ℕ) → j < site.records → SlotAt j (get_or (set s.tables.records slot byte_after) j 0) (forwards told && eqb slot j)
    each_slot j l = go (ℕ_discrete slot j)
      where
        alone : (t : Bool) → t ≡ (t && eqb slot slot)
        alone t = sym (ap (λ (b : Bool). t && b) (eq-eqb slot slot refl) ∙ and-true t)

        go : Dec (slot ≡ j) → SlotAt j (get_or (set s.tables.records slot byte_after) j 0) (forwards told && eqb slot j)
        go (yes e) =
            subst (λ (x : ℕ). SlotAt x (get_or (set s.tables.records slot byte_after) x 0) (forwards told && eqb slot x)) e
            (subst (λ (b : ℕ). SlotAt slot b (forwards told && eqb slot slot))
            (sym (get_or-set_same s.tables.records slot byte_after 0 (omega (arith, slot_lt, i.sound.records_long))))
            (subst (λ (t : Bool). SlotAt slot byte_after t) (alone (forwards told)) (own_slot (forwards told) refl)))
        go (no ne) =
            subst (λ (b : ℕ). SlotAt j b (forwards told && eqb slot j))
            (sym (get_or-set_other s.tables.records slot j byte_after 0 (λ e. ne (sym e))))
            (subst (λ (t : Bool). SlotAt j (get_or s.tables.records j 0) t)
            (sym (ap (λ (t : Bool). forwards told && t) (ne_eqb slot j ne) ∙ and-false (forwards told)))
            (i.slots j l))

    -- ---- fresh by the history is verdict 4
    rule : Ruled packet.from_plant (is_blocked r.threshold count) (is_unmarked (marks_of byte)) verdict
    rule = ruled packet.from_plant (is_blocked r.threshold count) (marks_of byte) packet.header.transport.kind

    abbrev fresh : Bool
    fresh = is_fresh site start s.clock packet told h

    fresh_is : fresh ≡ is_four verdict
    fresh_is =
        ap (λ (t : Bool). forwards told && (not packet.from_plant && not t)) (sym here.mark)
        ∙ ap (λ (t : Bool). forwards told && (not packet.from_plant && t)) (not-not (is_cold byte))
        ∙ rule.four

    -- ---- its cell address's books, and the others'
    -- with the count that stands in the written lists
    abbrev count_after : Option ℤ → ℕ → ℤ
    count_after n address = count_at keys (lines_in s) (wrote n).tags (wrote n).counts address

    abbrev BooksAfter : ℕ → Type 0
    BooksAfter address =
        BooksWith x start address s.clock (count_after new address) (F address h + cond (eqb cell address && fresh) (r.weight packet.header) 0)
        (H address h + cond (eqb cell address) (credit_of told) 0) (R address h + named address new)

    abbrev attempted : Option ℤ
    attempted = cond (is_unmarked (marks_of byte)) (r.attempt packet.header count) None

    no_lower : NoLower count attempted
    no_lower = go (is_unmarked (marks_of byte))
      where
        go : (t : Bool) → NoLower count (cond t (r.attempt packet.header count) None)
        go true d e = x.ok.attempt_up packet.header count d e
        go false d e = absurd (none-some _ e)

    own_books : BooksWith x start cell s.clock (counted_by count new).count (F cell h + cond (is_four verdict) (r.weight packet.header) 0)
        (H cell h + credit_of told) (R cell h)
    own_books =
        own_account r.floor r.point (r.weight packet.header) x.ok.room x.ok.wide x.ok.in_sixteen_bits (x.ok.weight_le packet.header)
        x.ok.floor_low x.ok.floor_near (H cell h) (i.books cell small) attempted verdict
        (λ e. under r.threshold count x.ok.block_pos (rule.four_open e))
        (λ e. reaches r.threshold count (rule.six_blocked e))
        no_lower

    -- there are 2 ^ a lines now
    abbrev a : ℕ
    a = i.sound.a

    lines_are : lines_in s ≡ 2 ^ a
    lines_are = omega (arith, i.sound.tags_long)

    own_written : (n : Option ℤ) → dn (counted_by count n).count < 32768 → count_after n cell ≡ (counted_by count n).count
    own_written None full = refl
    own_written (Some d) full =
        own_count x.k (lines_in s) a lines_are i.sound.few s.tables.tags s.tables.counts i.sound.tags_long i.sound.counts_long cell d full

    own_after : BooksAfter cell
    own_after =
        recast (on_named own_books (named cell new) (inl (own_written new own_books.full)))
        refl
        (ap (λ (t : Bool). F cell h + cond t (r.weight packet.header) 0)
        (sym (ap (λ (t : Bool). t && fresh) (eq-eqb cell cell refl) ∙ fresh_is)))
        refl
        (ap (λ (t : Bool). (H cell h + cond t (credit_of told) 0) * r.point) (sym (eq-eqb cell cell refl)))
        refl

    -- another address: nothing of its own is counted, and its count stays unless it is named
    module _ (other : ℕ) (other-small : other < 2 ^ 32) (apart : other ≢ cell) where
      other_written : (n : Option ℤ) → StaysOrNamed (named other n) (count_in x s other) (count_after n other)
      other_written None = inl refl
      other_written (Some d) =
          other_count x.k (lines_in s) a lines_are i.sound.few s.tables.tags s.tables.counts i.sound.tags_long i.sound.counts_long cell d
          i.sound.once other other-small small apart

      other_after : BooksAfter other
      other_after =
          let ne : eqb cell other ≡ false = ne_eqb cell other (λ e. apart (sym e)) in
          recast (on_named (i.books other other-small) (named other new) (other_written new)) refl
          (sym (ap (λ (t : Bool). F other h + cond (t && fresh) (r.weight packet.header) 0) ne ∙ add-zero (F other h)))
          refl
          (sym (ap (λ (t : Bool). (H other h + cond t (credit_of told) 0) * r.point) ne ∙ ap (λ (n : ℕ). n * r.point) (add-zero (H other h))))
          refl

    -- ---- the lists stay sound
    wrote_lengths : (n : Option ℤ) → (length (wrote n).tags ≡ length s.tables.tags) × (length (wrote n).counts ≡ length s.tables.counts)
    wrote_lengths None = (refl, refl)
    wrote_lengths (Some d) = same_lengths place.line place.tag d s.tables.tags s.tables.counts

    wrote_once : (n : Option ℤ) → Once (wrote n).tags (wrote n).counts
    wrote_once None = i.sound.once
    wrote_once (Some d) = once_after s.tables.tags s.tables.counts i.sound.once place.line place.tag d

    run_judged : Run x start judged_state (judged_event ∷ h)
    run_judged =
        run_told x start judged_event (judgement_is s.clock bytes verdict) i.late i.placing_same
        (record {
          records_long = length-set s.tables.records slot byte_after ∙ i.sound.records_long;
          a = a;
          few = i.sound.few;
          tags_long = (wrote_lengths new).0 ∙ i.sound.tags_long;
          counts_long = (wrote_lengths new).1 ∙ i.sound.counts_long;
          once = wrote_once new;
        })
        each_slot
        (λ address l. recast (go address l (ℕ_discrete address cell)) (by_lines address) refl refl refl refl)
      where
        go : (address : ℕ) → address < 2 ^ 32 → Dec (address ≡ cell) → BooksAfter address
        go address l (yes e) = subst BooksAfter (sym e) own_after
        go address l (no ne) = other_after address l ne

        -- the lines are as many as before
        by_lines : (address : ℕ) → count_in x judged_state address ≡ count_after new address
        by_lines address = ap (λ (n : ℕ). count_at keys (n / 4) (wrote new).tags (wrote new).counts address) (wrote_lengths new).0

    stepped_judged : (clock : ℕ) → Stepped x start clock h judged_state judged_event
    stepped_judged clock =
        record {
          run = run_judged;
          time = refl;
          rightly = subst (Rightly x start h) (sym (judgement_is s.clock bytes verdict))
              (fresh_is, λ six. holds_blocked (i.books cell small) (reaches r.threshold count (rule.six_blocked six)));
        }

  -- ---- a packet of ours, as the gateway judges it
  -- its outcome by what places it, the number of records and whether it comes from the plant
  abbrev outcome_by : List ℕ → Tables → Placing → ℕ → Bool → Outcome
  outcome_by bytes tables placing records from_plant =
      let spot = spot_of r.slot placing (header_of bytes) from_plant records (length tables.tags) in
      settled placing.keys spot (ruling_at r (header_of bytes) from_plant spot tables) tables

  -- the state that it leaves
  abbrev state_by : State → Outcome → State
  state_by s outcome = record { placing = s.placing; tables = outcome.tables; clock = s.clock }

  module _ (s : State) (h : List Event) (i : Run x start s h) (bytes : List ℕ) (small : Fit x bytes) where
    ours_is : (from_plant : Bool) → (ours_of site bytes).from_plant ≡ from_plant
        → outcome_by bytes s.tables site.placing site.records (ours_of site bytes).from_plant ≡ ours r s.placing (header_of bytes) from_plant s.tables
    unfolding ours
    ours_is from_plant e = λ j. outcome_by bytes s.tables (sym i.placing_same j) (sym i.sound.records_long j) (e j)

    stepped_ours : (clock : ℕ) (from_plant : Bool) → (ours_of site bytes).from_plant ≡ from_plant
        → Stepped x start clock h (state_by s (ours r s.placing (header_of bytes) from_plant s.tables))
        (judged_at s.clock bytes (Ok (ours r s.placing (header_of bytes) from_plant s.tables).answer))
    unfolding ruling_of
    stepped_ours clock from_plant e =
        subst (λ (outcome : Outcome). Stepped x start clock h (state_by s outcome) (judged_at s.clock bytes (Ok outcome.answer)))
        (ours_is from_plant e)
        (stepped_judged s h i bytes small clock)

  -- ---- any packet
  module _ (s : State) (h : List Event) (i : Run x start s h) (time : ℕ) (bytes : List ℕ) (small : Fit x bytes) where
    abbrev by : Direction → After Answer
    by direction = accepted site.rules site.limits (header_of bytes) direction time s

    by_direction_lem : s.clock ≤ time → (direction : Direction) → direction_in site.cell site.plant (header_of bytes) ≡ direction
        → Stepped x start s.clock h (by direction).state (judged_at time bytes (Ok (by direction).answer))
    unfolding by_direction
    by_direction_lem l FromCell e =
        subst (λ (t : ℕ). Stepped x start s.clock h (by FromCell).state (judged_at t bytes (Ok (by FromCell).answer)))
        (clock_at x s time l) (stepped_ours (timed x time s) h (run_onward x start time l i) bytes small s.clock false (ap is_from_plant e))
    by_direction_lem l FromPlant e =
        subst (λ (t : ℕ). Stepped x start s.clock h (by FromPlant).state (judged_at t bytes (Ok (by FromPlant).answer)))
        (clock_at x s time l) (stepped_ours (timed x time s) h (run_onward x start time l i) bytes small s.clock true (ap is_from_plant e))
    by_direction_lem l NotOurs e =
        stepped_quiet x start (run_onward x start time l i) (judged_at time bytes (Ok answer.NotOurs)) refl (clock_at x s time l)

    early : packet_refusal site.limits site.cell site.plant time bytes s ≡ None → s.clock ≤ time
    early e =
        packet_in_order site.limits (length s.tables.records) (length s.tables.tags) (length s.tables.counts) site.cell site.plant s.clock time
        (first_none _ (header_refusal bytes) e)

    pub stepped_packet : Stepped x start s.clock h (judged site.rules site.limits site.cell site.plant time bytes s).state
        (judged_at time bytes (judged site.rules site.limits site.cell site.plant time bytes s).answer)
    unfolding judged
    stepped_packet = go (packet_refusal site.limits site.cell site.plant time bytes s) refl
      where
        after : After Answer
        after = by (direction_in site.cell site.plant (header_of bytes))

        go : (refusal : Option Refusal) → packet_refusal site.limits site.cell site.plant time bytes s ≡ refusal
            → Stepped x start s.clock h (unless_refused refusal s after).state
            (judged_at time bytes (unless_refused refusal s after).answer)
        go None e = by_direction_lem (early e) (direction_in site.cell site.plant (header_of bytes)) refl
        go (Some refusal) e = stepped_quiet x start i (judged_at time bytes (Err refusal)) refl refl
