-- A run of any calls over lawful rules, from any good start: one clause for each sort of call, and one induction. From it the bound on fresh
-- contacts and the least before a block, and that 4 is answered exactly to fresh contacts.
-- Assumes nothing.
use mathlib.Core.Bool.{◌&&◌, cond}
use mathlib.Core.List.{List, [], ◌∷◌, ◌++◌}
use mathlib.Core.Path.{◌≡◌, refl, ap, subst, ◌∙◌}
use Prim.Native.Nat.{ℕ, zero, suc, ◌+◌, ◌*◌, ◌^◌, ◌≤◌, ◌<◌, min}
use lib.Dec.{eqb}
use lib.ListN.{length}
use Rattle.std.specs.Prelude.{Option, None, Some, unwrap_or, Result, Ok, Err}
use Rattle.refused.specs.declared.Refusal.{Refusal}
use Rattle.laws.proofs.Signed.{up, dn}
use Rattle.tables.specs.Clock.{multiples_passed}
use Rattle.rulings.specs.declared.answers.Answer.{Answer}
use Rattle.rulings.specs.Answers.{verdict_told}
use Rattle.rulings.specs.Rules.{Rules}
use Rattle.refusals.proofs.Tests.{time_in_order}
use Rattle.gateway.specs.Calls.{State, After, after_call, unless_refused, time_refusal_at, passed}
use Rattle.history.specs.Runs.{Site, Start, Call, packet_at, time_alone, why_at, bytes_to_judge, Event, judged_at, passed_at, explained_at, state_after, event_of, left_by, history}
use Rattle.history.specs.Told.{JudgedPacket, judgement_by, told}
use Rattle.history.specs.Fresh.{ours_of, cell_address, tells, replacements, clock_after, packet_in, decays, credits, is_fresh, fresh_by, fresh_contacts}
use Rattle.books.proofs.Apart.{same_head, same_tail, not_nil}
use Rattle.books.proofs.Account.{holds_bound}
use Rattle.books.proofs.Invariant.{Setup, timed, clock_at, Fit, Good, Run, run_start, run_onward, Enough, Rightly, Stepped, stepped_quiet}
use Rattle.books.proofs.Packets.{stepped_packet}

-- the packets of an address that were answered 4, each by its weight
module _ (site : Site) where
  abbrev four_by : ℕ → Option JudgedPacket → ℕ
  four_by address None = 0
  four_by address (Some it) =
      cond (eqb (cell_address (packet_in site it)) address && tells 4 (Some it.verdict)) (site.rules.weight (packet_in site it).header) 0

  abbrev pub fours : ℕ → List Event → ℕ
  fours address [] = 0
  fours address (event ∷ before) = fours address before + four_by address (told event).judged

-- what is asked of the calls' input
abbrev pub AllFit : Setup → List Call → Type 0
AllFit x [] = Unit {0}
AllFit x (call ∷ calls) = Fit x (bytes_to_judge call) × AllFit x calls

module _ (x : Setup) (start : Start) where
  abbrev site : Site
  site = x.site

  abbrev U : ℕ
  U = x.U

  abbrev r : Rules
  r = site.rules

  -- ---- one call
  module _ (s : State) (h : List Event) (i : Run x start s h) where
    stepped_passed : (time : ℕ)
        → Stepped x start s.clock h (passed r site.limits time s).state (passed_at time (passed r site.limits time s).answer)
    unfolding passed
    stepped_passed time = go (time_refusal_at site.limits time s) refl
      where
        after : After (Unit {0})
        after = after_call tt (timed x time s)

        go : (refusal : Option Refusal) → time_refusal_at site.limits time s ≡ refusal
            → Stepped x start s.clock h (unless_refused refusal s after).state (passed_at time (unless_refused refusal s after).answer)
        go None e =
            let l = time_in_order site.limits (length s.tables.records) (length s.tables.tags) (length s.tables.counts) s.clock time e in
            stepped_quiet x start (run_onward x start time l i) (passed_at time (Ok tt)) refl (clock_at x s time l)
        go (Some refusal) e = stepped_quiet x start i (passed_at time (Err refusal)) refl refl

    -- one clause for each sort
    stepped : (call : Call) → Fit x (bytes_to_judge call) → Stepped x start s.clock h (state_after site s call) (event_of site s call)
    unfolding state_after event_of
    stepped (packet_at time bytes) fits = stepped_packet x start s h i time bytes fits
    stepped (time_alone time) fits = stepped_passed time
    stepped (why_at time bytes) fits = stepped_quiet x start i (explained_at time bytes _) refl refl

  -- ---- a run
  abbrev leaves : List Call → State
  leaves calls = left_by site start calls

  abbrev happened : List Call → List Event
  happened calls = history site start calls

  module _ (good : Good x start) where
    pub run : (calls : List Call) → AllFit x calls → Run x start (leaves calls) (happened calls)
    unfolding left_by history
    run [] fit = run_start x start good
    run (call ∷ calls) fit = (stepped (leaves calls) (happened calls) (run calls fit.1) call fit.0).run

    -- the last call of a run
    last : (call : Call) (calls : List Call) → Fit x (bytes_to_judge call) → AllFit x calls
        → Stepped x start (leaves calls).clock (happened calls) (state_after site (leaves calls) call) (event_of site (leaves calls) call)
    last call calls fits fit = stepped (leaves calls) (happened calls) (run calls fit) call fits

    clock_is : (calls : List Call) → AllFit x calls → (leaves calls).clock ≡ clock_after start.state.clock (happened calls)
    unfolding left_by history
    clock_is [] fit = refl
    clock_is (call ∷ calls) fit =
        (last call calls fit.0 fit.1).time ∙ ap (unwrap_or (told (event_of site (leaves calls) call)).clock) (clock_is calls fit.1)

    -- what was answered to each call, by what came before it
    rightly_at : (calls : List Call) → AllFit x calls → (newer older : List Event) (event : Event)
        → happened calls ≡ newer ++ (event ∷ older) → Rightly x start older (told event).judged
    unfolding left_by history
    rightly_at [] fit [] older event e = absurd (not_nil e)
    rightly_at [] fit (y ∷ newer) older event e = absurd (not_nil e)
    rightly_at (call ∷ calls) fit [] older event e =
        subst (λ (p : List Event × Event). Rightly x start p.0 (told p.1).judged) (λ i. (same_tail e i, same_head e i))
        (last call calls fit.0 fit.1).rightly
    rightly_at (call ∷ calls) fit (y ∷ newer) older event e = rightly_at calls fit.1 newer older event (same_tail e)

    -- verdict 4 is answered exactly to fresh contacts
    pub four_is_fresh : (calls : List Call) → AllFit x calls → (newer older : List Event) (time : ℕ) (bytes : List ℕ)
        (answered : Result Answer Refusal)
        → happened calls ≡ newer ++ (judged_at time bytes answered ∷ older)
        → is_fresh site start time (ours_of site bytes) (verdict_told answered) older ≡ tells 4 (verdict_told answered)
    four_is_fresh calls fit newer older time bytes answered e =
        go (verdict_told answered) (rightly_at calls fit newer older (judged_at time bytes answered) e)
      where
        go : (verdict : Option ℕ) → Rightly x start older (judgement_by time bytes verdict)
            → is_fresh site start time (ours_of site bytes) verdict older ≡ tells 4 verdict
        go None right = refl
        go (Some zero) right = refl
        go (Some (suc n)) right = right.0

    -- so as many are answered 4 as are fresh
    pub answered : (calls : List Call) → AllFit x calls → (address : ℕ) → fresh_contacts site start address (happened calls) ≡ fours site address (happened calls)
    unfolding left_by history
    answered [] fit address = refl
    answered (call ∷ calls) fit address =
        λ j. answered calls fit.1 address j + one (told (event_of site (leaves calls) call)).judged (last call calls fit.0 fit.1).rightly j
      where
        one : (judged : Option JudgedPacket) → Rightly x start (happened calls) judged → fresh_by site start address judged (happened calls) ≡ four_by site address judged
        one None right = refl
        one (Some it) right = λ j. cond (eqb (cell_address (packet_in site it)) address && right.0 j) (r.weight (packet_in site it).header) 0

    -- The bound of demand 3, from any start: "the first T becomes T less the smaller of T and the count held there" (document 02, K6), which
    -- for a count below 0 is T and as much again as it is below.
    pub bound : (calls : List Call) → AllFit x calls → (address : ℕ) → address < 2 ^ 32
        → fresh_contacts site start address (happened calls) + min (up (start.count address)) U
        ≤ U + dn (start.count address) + decays site start (happened calls) * r.point
        + credits site address (happened calls) * r.point + U * replacements address (happened calls)
    bound calls fit address l =
        subst (λ (clock : ℕ). fresh_contacts site start address (happened calls) + min (up (start.count address)) U
        ≤ U + dn (start.count address) + multiples_passed site.limits.dmiss start.state.clock clock * r.point
        + credits site address (happened calls) * r.point + U * replacements address (happened calls))
        (clock_is calls fit) (holds_bound ((run calls fit).books address l))

    -- No packet is dropped as blocked before enough fresh contacts of its address were forwarded, from any start: "blocking needs T less
    -- that count, or T where the count is negative".
    pub not_before : (calls : List Call) → AllFit x calls → (newer older : List Event) (time : ℕ) (bytes : List ℕ)
        (answered : Result Answer Refusal)
        → happened calls ≡ newer ++ (judged_at time bytes answered ∷ older) → verdict_told answered ≡ Some 6 → Enough x start bytes older
    not_before calls fit newer older time bytes answered e six =
        (subst (λ (verdict : Option ℕ). Rightly x start older (judgement_by time bytes verdict)) six
        (rightly_at calls fit newer older (judged_at time bytes answered) e)).1 refl
