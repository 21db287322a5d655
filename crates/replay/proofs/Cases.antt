-- What a step makes of the gateway's state, case by case.
-- Assumes nothing.
use mathlib.Core.Bool.{Bool}
use mathlib.Core.Path.{◌≡◌, refl, sym, ap, subst, ◌∙◌}
use mathlib.Core.List.{List}
use Prim.Native.Nat.{ℕ}
use Rattle.std.specs.Prelude.{Option, Result}
use Rattle.refused.specs.declared.Refusal.{Refusal}
use Rattle.capture.specs.declared.Cursor.{Cursor}
use Rattle.capture.specs.declared.Record.{Record}
use Rattle.capture.specs.declared.Reading.{Reading}
use Rattle.capture.specs.declared.Reading.TheVariants as reading
use Rattle.capture.specs.Capture.{next_of}
use Rattle.rulings.specs.declared.answers.Answer.{Answer}
use Rattle.gateway.specs.Calls.{State, After}
use Rattle.reasons.specs.declared.Explanation.{Explanation}
use Rattle.replay.specs.declared.Step.{Step}
use Rattle.replay.specs.declared.Step.TheVariants as step
use Rattle.replay.specs.Replay.{by_reading, stepped}

-- a record that was judged is whole
module _ (asks isFirst : Bool) (bytes : List ℕ) (cursor : Cursor) (before : State) where
  abbrev IsWhole : Step → Type 0
  IsWhole step.End = Unit {0}
  IsWhole step.Cut = Unit {0}
  IsWhole step.Long = Unit {0}
  IsWhole (step.Judged r answer asked) = next_of bytes cursor ≡ reading.Whole r

  by_reading_lem : (x : Reading) → next_of bytes cursor ≡ x → IsWhole (by_reading asks isFirst bytes x before).answer
  by_reading_lem reading.End e = tt
  by_reading_lem reading.Cut e = tt
  by_reading_lem reading.Long e = tt
  by_reading_lem (reading.Whole r) e = e

  pub judged_is_whole : (r : Record) (answer : Result Answer Refusal) (asked : Option (Result Explanation Refusal)) (after : After Step) → after ≡ stepped asks isFirst bytes cursor before
      → after.answer ≡ step.Judged r answer asked
      → next_of bytes cursor ≡ reading.Whole r
  unfolding stepped
  judged_is_whole r answer asked after e f = subst IsWhole (sym (ap (λ (a : After Step). a.answer) e) ∙ f) (by_reading_lem (next_of bytes cursor) refl)
