-- Demand 2, of packets: judging a packet after a gap is passing the gap by calls with a time alone, second by second or by way of any moment
-- between, and then judging it. The answer is the same for every packet. So is the state, unless the packet is refused: a refused packet
-- passes no time, and what the calls before it passed stays.
-- Assumes nothing.
use mathlib.Core.List.{List}
use mathlib.Core.Path.{◌≡◌, refl, sym, ap, subst, ◌∙◌}
use Prim.Native.Nat.{ℕ, zero, suc, ◌+◌, ◌≤◌}
use native.Mathlib.Omega.{arith}
use lib.ListN.{length}
use borrow.Author.Tests.{le-ltb}
use Rattle.laws.specs.Times.{times}
use Rattle.laws.proofs.Times.{times_none, times_more}
use Rattle.std.specs.Prelude.{Option, None, Some, Result, Ok}
use Rattle.refused.specs.declared.Refusal.{Refusal}
use Rattle.refused.specs.Refused.{refusal_or}
use Rattle.settings.specs.declared.Limits.{Limits}
use Rattle.packet.specs.Header.{header_refusal, header_of}
use Rattle.rulings.specs.declared.answers.Answer.{Answer}
use Rattle.rulings.specs.Rules.{Rules}
use Rattle.refusals.specs.Refusals.{early_refusal}
use Rattle.refusals.proofs.Tests.{time_in_order}
use Rattle.gateway.specs.Packets.{direction_in, by_direction}
use Rattle.gateway.specs.Calls.{State, After, after_call, with_outcome, unless_refused, time_refusal_at, passed, packet_refusal, accepted, judged}
use Rattle.gateway.proofs.Refusals.{packet_kept}
use Rattle.gateway.proofs.Jumps.{at, sizes_stay, clock_at, at_at, next_second}

module _ (rules : Rules) (limits : Limits) (cell plant : List ℕ) (time : ℕ) (bytes : List ℕ) where
  -- the packet at its time, from a state: its refusal, what it makes of the state if it has none, and what its call leaves
  abbrev pub refusal_from : State → Option Refusal
  refusal_from s = packet_refusal limits cell plant time bytes s

  abbrev accepted_from : State → After Answer
  accepted_from s = accepted rules limits (header_of bytes) (direction_in cell plant (header_of bytes)) time s

  abbrev pub judged_from : State → After (Result Answer Refusal)
  judged_from s = judged rules limits cell plant time bytes s

  -- two states between which the packet sees no difference
  record Alike (s later : State) : Type 0 where
    refusal : refusal_from later ≡ refusal_from s
    outcome : refusal_from s ≡ None → accepted_from later ≡ accepted_from s

  alike_self : (s : State) → Alike s s
  alike_self s = record { refusal = refl; outcome = λ z. refl }

  and_then : {s later last : State} → Alike s later → Alike later last → Alike s last
  and_then a b = record { refusal = b.refusal ∙ a.refusal; outcome = λ z. b.outcome (a.refusal ∙ z) ∙ a.outcome z }

  -- neither clock is after the packet's time
  same_early : (records tags counts clock later : ℕ) → clock ≤ time → later ≤ time
      → early_refusal limits records tags counts cell plant later time ≡ early_refusal limits records tags counts cell plant clock time
  unfolding early_refusal
  same_early records tags counts clock later h l = rw (le-ltb time later l, le-ltb time clock h)

  -- what the packet makes of the state at its time
  abbrev then : State → After Answer
  then timed = with_outcome timed (by_direction rules timed.placing (header_of bytes) (direction_in cell plant (header_of bytes)) timed.tables)

  -- a state, and the one at a moment up to the packet's time
  onward_alike : (between : ℕ) (s : State) → s.clock ≤ between → between ≤ time → Alike s (at rules limits between s)
  onward_alike between s h l =
      record {
        refusal = ap (λ (r : Option Refusal). refusal_or r (header_refusal bytes))
            (sizes_stay rules limits (λ records tags counts. early_refusal limits records tags counts cell plant (at rules limits between s).clock time) between s
            ∙ same_early (length s.tables.records) (length s.tables.tags) (length s.tables.counts) s.clock (at rules limits between s).clock
            (omega arith) (omega (arith, clock_at rules limits between s h)));
        outcome = λ z. ap then (at_at rules limits between time s h l);
      }

  -- a call with a time alone, refused or not
  passed_alike : (between : ℕ) (s : State) → between ≤ time → Alike s (passed rules limits between s).state
  unfolding passed
  passed_alike between s l = go (time_refusal_at limits between s) refl
    where
      after : After (Unit {0})
      after = after_call tt (at rules limits between s)

      go : (r : Option Refusal) → time_refusal_at limits between s ≡ r → Alike s (unless_refused r s after).state
      go None e =
          onward_alike between s
          (time_in_order limits (length s.tables.records) (length s.tables.tags) (length s.tables.counts) s.clock between e) l
      go (Some refusal) e = alike_self s

  -- ---- a call for each second
  -- the clock is then at most so many seconds on
  one_second : (s : State) → (next_second rules limits s).clock ≤ suc s.clock
  unfolding passed
  one_second s = go (time_refusal_at limits (suc s.clock) s)
    where
      after : After (Unit {0})
      after = after_call tt (at rules limits (suc s.clock) s)

      go : (r : Option Refusal) → (unless_refused r s after).state.clock ≤ suc s.clock
      go None = omega (arith, clock_at rules limits (suc s.clock) s (omega arith))
      go (Some refusal) = omega arith

  abbrev pub after_seconds : ℕ → State → State
  after_seconds gap s = times gap (next_second rules limits) s

  seconds : (gap : ℕ) (s : State) → (after_seconds gap s).clock ≤ s.clock + gap
  seconds zero s = omega (arith, ap (λ (x : State). x.clock) (times_none (next_second rules limits) s))
  seconds (suc gap) s =
      omega (arith, ap (λ (x : State). x.clock) (times_more (next_second rules limits) gap s), one_second (after_seconds gap s), seconds gap s)

  seconds_alike : (gap : ℕ) (s : State) → s.clock + gap ≤ time → Alike s (after_seconds gap s)
  seconds_alike zero s l = subst (Alike s) (sym (times_none (next_second rules limits) s)) (alike_self s)
  seconds_alike (suc gap) s l =
      subst (Alike s) (sym (times_more (next_second rules limits) gap s))
      (and_then (seconds_alike gap s (omega arith)) (passed_alike (suc (after_seconds gap s).clock) (after_seconds gap s) (omega (arith, seconds gap s))))

  -- ---- so the packet gets the same
  module _ {s later : State} (a : Alike s later) where
    same_call : refusal_from s ≡ None → judged_from later ≡ judged_from s
    unfolding judged
    same_call z = rw (a.refusal, z) (ap (λ (x : After Answer). after_call (Ok x.answer) x.state) (a.outcome z))

    same_told : (judged_from later).answer ≡ (judged_from s).answer
    unfolding judged
    same_told = go (refusal_from s) refl
      where
        go : (r : Option Refusal) → refusal_from s ≡ r
            → (unless_refused (refusal_from later) later (accepted_from later)).answer ≡ (unless_refused (refusal_from s) s (accepted_from s)).answer
        go None z = rw (a.refusal, z) (ap (λ (x : After Answer). Ok x.answer) (a.outcome z))
        go (Some refusal) e = rw (a.refusal, e)

    kept_there : (refusal_from s ≡ None → ⊥) → (judged_from later).state ≡ later
    kept_there ne = packet_kept limits time later rules cell plant bytes (λ z. ne (sym a.refusal ∙ z))

  -- by way of any moment up to the packet's time
  pub by_way_of : (between : ℕ) (s : State) → between ≤ time → refusal_from s ≡ None → judged_from (passed rules limits between s).state ≡ judged_from s
  by_way_of between s l = same_call (passed_alike between s l)

  -- demand 2: "Passing a gap in one jump leaves the same state as passing it second by second": the gap before a packet, up to its time or less
  pub second_by_second : (gap : ℕ) (s : State) → s.clock + gap ≤ time → refusal_from s ≡ None → judged_from (after_seconds gap s) ≡ judged_from s
  second_by_second gap s l = same_call (seconds_alike gap s l)

  -- every packet, also one that is refused, is answered alike
  pub same_answer : (gap : ℕ) (s : State) → s.clock + gap ≤ time → (judged_from (after_seconds gap s)).answer ≡ (judged_from s).answer
  same_answer gap s l = same_told (seconds_alike gap s l)

  -- one that is refused leaves the state that it came to, so that the two differ by what the calls with a time alone passed, and by that alone
  pub refused_leaves : (gap : ℕ) (s : State) → s.clock + gap ≤ time → (refusal_from s ≡ None → ⊥)
      → ((judged_from s).state ≡ s) × ((judged_from (after_seconds gap s)).state ≡ after_seconds gap s)
  refused_leaves gap s l ne = (packet_kept limits time s rules cell plant bytes ne, kept_there (seconds_alike gap s l) ne)
