-- A time alone and a packet keep what places packets in a gateway's tables, so that the caller's own goes on to stand for it: what a call
-- tells of the gateway's struct is what the library tells of the caller's memory.
-- Assumes nothing.
use mathlib.Core.List.{List}
use mathlib.Core.Path.{◌≡◌, refl, sym, ap, ◌∙◌}
use Prim.Native.Nat.{ℕ}
use lib.IntN.{ℤ}
use Rattle.std.specs.Prelude.{Option, Some, None}
use Rattle.refused.specs.declared.Refusal.{Refusal}
use Rattle.settings.specs.declared.Limits.{Limits}
use Rattle.places.specs.declared.Placing.{Placing}
use Rattle.rulings.specs.Rules.{Rules}
use Rattle.gateway.specs.Calls.{State, state_of, After, after_call, unless_refused, passed, judged}
use Rattle.embed.specs.Plain.{plainly}

kept : {A : Type 0} (refusal : Option Refusal) (before : State) (after : After A) → after.state.placing ≡ before.placing
    → (unless_refused refusal before after).state.placing ≡ before.placing
kept None before after e = e
kept (Some refusal) before after e = refl

module _ (rules : Rules) (limits : Limits) (time : ℕ) (before : State) where
  pub passed_keeps : (passed rules limits time before).state.placing ≡ before.placing
  unfolding passed
  passed_keeps = kept _ before _ refl

  pub judged_keeps : (cell plant bytes : List ℕ) → (judged rules limits cell plant time bytes before).state.placing ≡ before.placing
  unfolding judged
  judged_keeps cell plant bytes = kept _ before _ refl

-- what a call leaves of a gateway that keeps it, with the answer in plain numbers
module _ {placing own : Placing} {records records' tags tags' : List ℕ} {counts counts' : List ℤ} {clock clock' : ℕ} where
  pub in_plain : {A B : Type 0} {answer : A} {told : B} {after : After A} (plain : A → B) → after.state.placing ≡ own
      → after_call answer (state_of placing records tags counts clock) ≡ after
      → told ≡ plain answer → records' ≡ records → tags' ≡ tags → counts' ≡ counts → clock' ≡ clock
      → after_call told (state_of own records' tags' counts' clock') ≡ plainly plain after
  in_plain {A = A} {answer = answer} plain same e t r g c k =
      rw (t, r, g, c, k)
      (ap (λ (p : Placing). after_call (plain answer) (state_of p records tags counts clock)) (sym (ap (λ (a : After A). a.state.placing) e ∙ same))
      ∙ ap (plainly plain) e)
