-- Any run over lawful rules, from any good start: what is true of a state and of the history that led to it, and what is asked of a call. The
-- number of lines is the state's own.
-- Assumes nothing.
use mathlib.Core.Bool.{true, false}
use mathlib.Core.List.{List, [], ◌∷◌, map}
use mathlib.Core.Logic.{inl}
use mathlib.Core.Path.{◌≡◌, refl, sym, ap, subst, ◌∙◌}
use Prim.Native.Nat.{ℕ, ◌+◌, ◌*◌, ◌/◌, ◌^◌, ◌≤◌, ◌<◌, max}
use native.Mathlib.Nat.{le_trans, add-mul, zero-mul, add-zero}
use native.Mathlib.Omega.{arith}
use lib.IntN.{ℤ}
use lib.ListN.{length, get_or, length-map, get_or-map}
use Rattle.std.specs.Prelude.{Option, None, Some, unwrap_or}
use Rattle.laws.specs.Times.{times_in}
use Rattle.laws.proofs.Signed.{up, dn}
use Rattle.permute.proofs.Inverse.{Keys}
use Rattle.places.specs.declared.Place.{Place}
use Rattle.places.specs.Places.{place_of}
use Rattle.records.specs.Records.{is_cold, age_of, aged_by}
use Rattle.records.proofs.Ages.{zero_same}
use Rattle.entries.proofs.Decay.{count_decays}
use Rattle.entries.proofs.Once.{Once, once_decayed}
use Rattle.tables.specs.Clock.{multiples_passed, time_passed}
use Rattle.tables.proofs.Jumps.{passed_none, passed_add}
use Rattle.rulings.specs.Rules.{Rules}
use Rattle.gateway.specs.Calls.{State, onward}
use Rattle.history.specs.Runs.{Site, Start, Event}
use Rattle.history.specs.Told.{JudgedPacket, told}
use Rattle.history.specs.Fresh.{ours_of, cell_address, tells, Forwarded, replacements, packet_in, forwarded_by, forwarded_on, credit_by, credits, is_fresh, fresh_by, fresh_contacts}
use Rattle.books.proofs.Account.{Holds, at_start, recast, on_named, on_decay}
use Rattle.books.proofs.Slots.{held_by, Kept, kept_start, kept_onward}
use Rattle.books.proofs.Lawful.{Lawful}
use Rattle.books.proofs.Writes.{count_at}

-- what stays in a run, with what is asked of it. W is the heaviest contact and U the highest count that a forwarded contact makes.
pub record Setup : Type 0 where
  pub site : Site
  pub W : ℕ
  pub U : ℕ
  pub ok : Lawful site.rules W U
  pub k : Keys site.placing.keys
  pub narrow : site.limits.dconn ≤ 62
  pub some_records : 0 < site.records

-- ---- a state, in whatever run
-- how many lines it has
abbrev pub lines_in : State → ℕ
lines_in s = length s.tables.tags / 4

module _ (x : Setup) where
  -- the state at a later time
  abbrev pub timed : ℕ → State → State
  timed time s = onward x.site.rules.point x.site.limits time s

  -- the clock is then that time
  pub clock_at : (s : State) (time : ℕ) → s.clock ≤ time → (timed time s).clock ≡ time
  unfolding time_passed
  clock_at s time l = omega arith

  -- an address's count
  abbrev pub count_in : State → ℕ → ℤ
  count_in s address = count_at x.site.placing.keys (lines_in s) s.tables.tags s.tables.counts address

  -- how the tables lie: there are 2 ^ a lines now
  pub record Sound (s : State) : Type 0 where
    pub records_long : length s.tables.records ≡ x.site.records
    pub a : ℕ
    pub few : a ≤ 32
    pub tags_long : length s.tables.tags ≡ 4 * 2 ^ a
    pub counts_long : length s.tables.counts ≡ 4 * 2 ^ a
    pub once : Once s.tables.tags s.tables.counts

  -- a packet of bytes has a cell address of 32 bits
  abbrev pub Fit : List ℕ → Type 0
  Fit bytes = cell_address (ours_of x.site bytes) < 2 ^ 32

  -- a start that a run may begin at: what is held there is so of its state
  pub record Good (start : Start) : Type 0 where
    pub placing_same : start.state.placing ≡ x.site.placing
    pub sound : Sound start.state
    pub young : (slot : ℕ) → is_cold (get_or start.state.tables.records slot 0) ≡ false
        → age_of (get_or start.state.tables.records slot 0) ≤ x.site.limits.dconn
    pub held_so : (slot now : ℕ)
        → start.held slot now ≡ held_by x.site.limits.dconn start.state.clock (get_or start.state.tables.records slot 0) now
    pub count_so : (address : ℕ) → address < 2 ^ 32 → count_in start.state address ≡ start.count address
    pub full : (address : ℕ) → address < 2 ^ 32 → dn (start.count address) < 32768

-- ---- a run from a start
module _ (x : Setup) (start : Start) where
  abbrev site : Site
  site = x.site

  abbrev r : Rules
  r = site.rules

  abbrev dconn : ℕ
  dconn = site.limits.dconn

  abbrev dmiss : ℕ
  dmiss = site.limits.dmiss

  abbrev began : ℕ
  began = start.state.clock

  -- a slot's record, by the packets forwarded on it
  abbrev pub SlotWith : State → ℕ → List Forwarded → Type 0
  SlotWith s slot forwarded =
      Kept dconn began (get_or start.state.tables.records slot 0) (start.held slot) (get_or s.tables.records slot 0) s.clock forwarded

  -- an address's account at a clock, by its count, F, H and R
  abbrev pub BooksWith : ℕ → ℕ → ℤ → ℕ → ℕ → ℕ → Type 0
  BooksWith address clock count F H R =
      Holds r.threshold x.U (start.count address) count F (multiples_passed dmiss began clock * r.point) (H * r.point) R

  -- the invariant
  pub record Run (s : State) (h : List Event) : Type 0 where
    pub late : began ≤ s.clock
    pub placing_same : s.placing ≡ site.placing
    pub sound : Sound x s
    pub slots : (slot : ℕ) → slot < site.records → SlotWith s slot (forwarded_on site slot h)
    pub books : (address : ℕ) → address < 2 ^ 32
        → BooksWith address s.clock (count_in x s address) (fresh_contacts site start address h) (credits site address h) (replacements address h)

  -- ---- the start
  pub run_start : Good x start → Run start.state []
  run_start g =
      record {
        late = omega arith;
        placing_same = g.placing_same;
        sound = g.sound;
        slots = λ slot l. kept_start dconn began (get_or start.state.tables.records slot 0) (start.held slot) (g.held_so slot) (g.young slot);
        books = λ address l. recast (at_start r.threshold x.U (start.count address) (g.full address l)) (g.count_so address l) refl
            (sym (ap (λ (n : ℕ). n * r.point) (passed_none dmiss began began (omega arith)) ∙ zero-mul r.point))
            (sym (zero-mul r.point)) refl;
      }

  -- ---- the clock goes on
  module _ (time : ℕ) {s : State} {h : List Event} (l : s.clock ≤ time) (i : Run s h) where
    abbrev minutes : ℕ
    minutes = multiples_passed 60 s.clock time

    abbrev multiples : ℕ
    multiples = multiples_passed dmiss s.clock time

    abbrev place : ℕ → Place
    place address = place_of site.placing.keys address (lines_in s)

    at_time : max s.clock time ≡ time
    at_time = omega arith

    pub run_onward : Run (timed x time s) h
    unfolding time_passed
    run_onward =
        rw at_time
        (record {
          late = le_trans i.late l;
          placing_same = i.placing_same;
          sound = record {
            records_long = length-map s.tables.records _ ∙ i.sound.records_long;
            a = i.sound.a;
            few = i.sound.few;
            tags_long = i.sound.tags_long;
            counts_long = length-map s.tables.counts _ ∙ i.sound.counts_long;
            once = once_decayed s.tables.tags s.tables.counts i.sound.once _;
          };
          slots = λ slot q. subst
              (λ (b : ℕ). Kept dconn began (get_or start.state.tables.records slot 0) (start.held slot) b time (forwarded_on site slot h))
              (sym (aged_at slot))
              (kept_onward dconn began (get_or start.state.tables.records slot 0) (start.held slot) x.narrow (i.slots slot q) time l);
          books = λ address q. recast (on_decay (i.books address q) (multiples * r.point))
              (count_decays (multiples * r.point) (place address).line (place address).tag s.tables.tags s.tables.counts)
              refl more refl refl;
        })
      where
        aged_at : (slot : ℕ) → get_or (map (aged_by dconn minutes) s.tables.records) slot 0 ≡ aged_by dconn minutes (get_or s.tables.records slot 0)
        aged_at slot =
            ap (λ (z : ℕ). get_or (map (aged_by dconn minutes) s.tables.records) slot z) (sym (zero_same dconn minutes 0 refl))
            ∙ get_or-map (aged_by dconn minutes) s.tables.records slot 0

        more : multiples_passed dmiss began s.clock * r.point + multiples * r.point ≡ multiples_passed dmiss began time * r.point
        more =
            sym (ap (λ (n : ℕ). n * r.point) (passed_add dmiss began s.clock time i.late l)
            ∙ add-mul (multiples_passed dmiss began s.clock) multiples r.point)

  -- ---- one more event, by what it tells: the packet that was judged, if any, and the addresses that lost their entries
  abbrev SlotAfter : State → List Event → ℕ → Option JudgedPacket → Type 0
  SlotAfter s h slot judged = SlotWith s slot (forwarded_by site slot judged (forwarded_on site slot h))

  abbrev BooksAfter : State → List Event → ℕ → List ℕ → Option JudgedPacket → Type 0
  BooksAfter s h address lost judged =
      BooksWith address s.clock (count_in x s address) (fresh_contacts site start address h + fresh_by site start address judged h)
      (credits site address h + credit_by site address judged) (replacements address h + times_in address lost)

  module _ {s : State} {h : List Event} (event : Event) {judged : Option JudgedPacket} (so : (told event).judged ≡ judged) where
    pub run_told : began ≤ s.clock → s.placing ≡ site.placing → Sound x s → ((slot : ℕ) → slot < site.records → SlotAfter s h slot judged)
        → ((address : ℕ) → address < 2 ^ 32 → BooksAfter s h address (told event).lost judged) → Run s (event ∷ h)
    run_told late same sound slots books =
        record {
          late = late;
          placing_same = same;
          sound = sound;
          slots = λ slot q. subst (SlotAfter s h slot) (sym so) (slots slot q);
          books = λ address q. subst (BooksAfter s h address (told event).lost) (sym so) (books address q);
        }

  -- ---- what is asked of a call
  -- a packet of ours is answered 4 exactly if it is fresh by what came before it, and 6 only after enough fresh contacts of its address
  abbrev pub Enough : List ℕ → List Event → Type 0
  Enough bytes h =
      r.threshold ≤ fresh_contacts site start (cell_address (ours_of site bytes)) h + up (start.count (cell_address (ours_of site bytes)))

  abbrev pub Rightly : List Event → Option JudgedPacket → Type 0
  Rightly h None = Unit {0}
  Rightly h (Some it) =
      (is_fresh site start it.time (packet_in site it) (Some it.verdict) h ≡ tells 4 (Some it.verdict))
      × (tells 6 (Some it.verdict) ≡ true → Enough it.bytes h)

  -- all of it: the invariant, the clock that the call leaves, and its answer
  pub record Stepped (clock : ℕ) (h : List Event) (s : State) (event : Event) : Type 0 where
    pub run : Run s (event ∷ h)
    pub time : s.clock ≡ unwrap_or (told event).clock clock
    pub rightly : Rightly h (told event).judged

  -- A quiet event judges no packet of ours. What was true of the state before it, or at its time, stays true after it: it adds nothing to
  -- any slot or account. This is one fact for every sort of call.
  pub stepped_quiet : {clock : ℕ} {s : State} {h : List Event} → Run s h → (event : Event) → (told event).judged ≡ None
      → s.clock ≡ unwrap_or (told event).clock clock → Stepped clock h s event
  stepped_quiet {s = s} {h = h} i event quiet time =
      record {
        run = run_told event quiet i.late i.placing_same i.sound i.slots (λ address q.
            recast (on_named (i.books address q) (times_in address (told event).lost) (inl refl)) refl
            (sym (add-zero (fresh_contacts site start address h))) refl
            (ap (λ (n : ℕ). n * r.point) (sym (add-zero (credits site address h)))) refl);
        time = time;
        rightly = subst (Rightly h) (sym quiet) tt;
      }
