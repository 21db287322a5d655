-- The refusal that plain numbers tell of a capture is the paper's number of the answer.
-- Assumes nothing.
use mathlib.Core.Path.{◌≡◌, refl}
use Prim.Native.Nat.{ℕ}
use Rattle.std.specs.Prelude.{Result, Ok, Err}
use Rattle.refused.specs.declared.Refusal.{Refusal}
use Rattle.refused.specs.Refused.{refusal_in}
use Rattle.capture.specs.declared.Cursor.{Cursor}
use Rattle.capture.specs.declared.Reading.{Reading}
use Rattle.capture.specs.declared.Reading.TheVariants as reading
use Rattle.capture.specs.Capture.{record_refusal}
use Rattle.embed.specs.Plain.{plain_opening, plain_next, plain_written}

pub opening_told : (answer : Result Cursor Refusal) → (plain_opening answer).refusal ≡ refusal_in answer
opening_told (Err refusal) = refl
opening_told (Ok cursor) = refl

pub next_told : (answer : Reading) → (plain_next answer).refusal ≡ record_refusal answer
next_told reading.End = refl
next_told reading.Cut = refl
next_told reading.Long = refl
next_told (reading.Whole read) = refl

pub written_told : (answer : Result ℕ Refusal) → (plain_written answer).refusal ≡ refusal_in answer
written_told (Err refusal) = refl
written_told (Ok next) = refl
