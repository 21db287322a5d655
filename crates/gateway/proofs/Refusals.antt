-- A refused call tells its number alone, and keeps tables and clock. For every input of every call.
-- Assumes nothing.
use mathlib.Core.List.{List}
use mathlib.Core.Path.{◌≡◌, refl}
use Prim.Native.Nat.{ℕ, ◌<◌}
use native.Mathlib.Omega.{arith}
use Rattle.std.specs.Prelude.{Option, None, Some, Result, Ok, Err}
use Rattle.refused.specs.declared.Refusal.{Refusal}
use Rattle.refused.specs.declared.Refusal.TheVariants as refusal
use Rattle.refused.specs.Refused.{refusal_number, refusal_of}
use Rattle.settings.specs.declared.Limits.{Limits}
use Rattle.settings.specs.declared.Settings.{Settings}
use Rattle.packet.specs.Header.{header_of}
use Rattle.rulings.specs.declared.answers.Answer.{Answer}
use Rattle.rulings.specs.Rules.{Rules}
use Rattle.gateway.specs.Packets.{direction_in}
use Rattle.gateway.specs.Calls.{State, After, after_call, unless_refused, start_refusal_at, cold_state, started, time_refusal_at, onward, passed, packet_refusal, accepted, judged}

-- ---- what a refused call tells and leaves
module _ {A : Type 0} (before : State) (after : After A) where
  told : (refusal : Option Refusal) → refusal_of (unless_refused refusal before after).answer ≡ refusal
  told None = refl
  told (Some refusal) = refl

  kept : (refusal : Option Refusal) → (refusal ≡ None → ⊥) → (unless_refused refusal before after).state ≡ before
  kept None ne = absurd (ne refl)
  kept (Some refusal) ne = refl

-- ---- the number of a refusal is never 0, which stands for none
abbrev pub Numbered : Result Answer Refusal → Type 0
Numbered (Err refusal) = 0 < refusal_number refusal
Numbered (Ok answer) = Unit {0}

numbered : (answer : Result Answer Refusal) → Numbered answer
numbered (Ok answer) = tt
numbered (Err refusal.Settings) = omega arith
numbered (Err refusal.Sizes) = omega arith
numbered (Err refusal.Lists) = omega arith
numbered (Err refusal.Time) = omega arith
numbered (Err refusal.Short) = omega arith
numbered (Err refusal.Header) = omega arith
numbered (Err refusal.Capture) = omega arith
numbered (Err refusal.Record) = omega arith
numbered (Err refusal.Room) = omega arith

module _ (settings : Settings) (time : ℕ) (before : State) where
  pub start_told : refusal_of (started settings time before).answer ≡ start_refusal_at settings.limits before
  unfolding started
  start_told = told before (after_call tt (cold_state settings time before)) (start_refusal_at settings.limits before)

  pub start_kept : (start_refusal_at settings.limits before ≡ None → ⊥) → (started settings time before).state ≡ before
  unfolding started
  start_kept = kept before (after_call tt (cold_state settings time before)) (start_refusal_at settings.limits before)

module _ (limits : Limits) (time : ℕ) (before : State) where
  module _ (rules : Rules) where
    pub time_told : refusal_of (passed rules limits time before).answer ≡ time_refusal_at limits time before
    unfolding passed
    time_told = told before (after_call tt (onward rules.point limits time before)) (time_refusal_at limits time before)

    pub time_kept : (time_refusal_at limits time before ≡ None → ⊥) → (passed rules limits time before).state ≡ before
    unfolding passed
    time_kept = kept before (after_call tt (onward rules.point limits time before)) (time_refusal_at limits time before)

    module _ (cell plant bytes : List ℕ) where
      pub packet_told : refusal_of (judged rules limits cell plant time bytes before).answer ≡ packet_refusal limits cell plant time bytes before
      unfolding judged
      packet_told =
          told before (accepted rules limits (header_of bytes) (direction_in cell plant (header_of bytes)) time before)
          (packet_refusal limits cell plant time bytes before)

      pub packet_numbered : Numbered (judged rules limits cell plant time bytes before).answer
      packet_numbered = numbered _

      pub packet_kept : (packet_refusal limits cell plant time bytes before ≡ None → ⊥) → (judged rules limits cell plant time bytes before).state ≡ before
      unfolding judged
      packet_kept =
          kept before (accepted rules limits (header_of bytes) (direction_in cell plant (header_of bytes)) time before)
          (packet_refusal limits cell plant time bytes before)
