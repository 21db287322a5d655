-- Answers as plain numbers, for programs in C and Rust. A number that an answer does not have is 0.
-- Assumes nothing.
use Rattle.std.specs.Prelude.{false, List, ℕ, zero, suc, ℤ, pos, Option, None, Some, Result, Ok, Err}
use Rattle.refused.specs.declared.Refusal.{Refusal}
use Rattle.refused.specs.Refused.{refusal_number}
use Rattle.rulings.specs.declared.answers.Answer.{Answer}
use Rattle.rulings.specs.declared.answers.Answer.TheVariants.{NotOurs, Judged}
use Rattle.verdicts.specs.Verdicts.{number_of}
use Rattle.sides.specs.declared.Side.{Side}
use Rattle.sides.specs.declared.Side.TheVariants.{Cell, Plant, Neither}
use Rattle.sides.specs.declared.Winning.{Winning}
use Rattle.capture.specs.declared.Cursor.{Cursor}
use Rattle.capture.specs.declared.Reading.{Reading}
use Rattle.capture.specs.declared.Reading.TheVariants as reading
use Rattle.capture.specs.Writing.{Put}
use Rattle.gateway.specs.Calls.{After}
use Rattle.tally.specs.Tally.{verdict_numbered}
use Rattle.embed.specs.declared.plain.PlainAnswer.{PlainAnswer}
use Rattle.embed.specs.declared.plain.PlainWinner.{PlainWinner}
use Rattle.embed.specs.declared.plain.PlainOpening.{PlainOpening}
use Rattle.embed.specs.declared.plain.PlainNext.{PlainNext}
use Rattle.embed.specs.declared.plain.PlainWritten.{PlainWritten}

-- what a call leaves, with its answer in plain numbers
abbrev pub plainly : {A B : Type 0} → (A → B) → After A → After B
plainly plain after = record { answer = plain after.answer; state = after.state }

-- ---- the answer to a packet
abbrev pub plain_judged : ℕ → ℤ → Option ℕ → PlainAnswer
plain_judged verdict count None = record { refusal = 0; verdict = verdict; count = count; replaced = 0; address = 0 }
plain_judged verdict count (Some address) = record { refusal = 0; verdict = verdict; count = count; replaced = 1; address = address }

-- "The answer of a refusal is its number alone." "The answer holds the verdict, the address's count after it, and the replaced address,
-- if any". "Verdict 0 has no count." Of a refusal that is told by a number, whatever that is:
abbrev pub plain_told : Result Answer ℕ → PlainAnswer
plain_told (Err number) = record { refusal = number; verdict = 0; count = pos 0; replaced = 0; address = 0 }
plain_told (Ok NotOurs) = record { refusal = 0; verdict = 0; count = pos 0; replaced = 0; address = 0 }
plain_told (Ok (Judged verdict count replaced)) = plain_judged (number_of verdict) count replaced

-- and of one of the nine
abbrev pub plain_answer : Result Answer Refusal → PlainAnswer
plain_answer (Err refusal) = plain_told (Err (refusal_number refusal))
plain_answer (Ok answer) = plain_told (Ok answer)

-- ---- the tally
-- the verdict that an answer in plain numbers tells, whoever wrote it
abbrev pub by_refusal : ℕ → ℕ → Option ℕ
by_refusal zero verdict = verdict_numbered verdict
by_refusal (suc n) verdict = None

abbrev pub verdict_in : PlainAnswer → Option ℕ
verdict_in answer = by_refusal answer.refusal answer.verdict

-- ---- the winning entry
abbrev pub side_number : Side → ℕ
side_number Neither = 0
side_number Cell = 1
side_number Plant = 2

abbrev pub plain_winner : Option Winning → PlainWinner
plain_winner (Some winning) = record { side = side_number winning.side; number = winning.number }
plain_winner None = record { side = 0; number = 0 }

-- ---- captures
abbrev pub plain_opening : Result Cursor Refusal → PlainOpening
plain_opening (Err refusal) = record { refusal = refusal_number refusal; cursor = record { at = 0; big_endian = false } }
plain_opening (Ok cursor) = record { refusal = 0; cursor = cursor }

abbrev pub no_record : ℕ → PlainNext
no_record refusal =
    record {
      refusal = refusal;
      whole = 0;
      read = record { seconds = 0; microseconds = 0; captured = 0; original = 0; from = 0; end = 0 };
    }

-- refusal 8: "capture record cut off, or over 2,048 captured bytes"
abbrev pub plain_next : Reading → PlainNext
plain_next reading.End = no_record 0
plain_next reading.Cut = no_record 8
plain_next reading.Long = no_record 8
plain_next (reading.Whole read) = record { refusal = 0; whole = 1; read = read }

-- refusals 8 and 9, or the place after what was written
abbrev pub plain_written : Result ℕ Refusal → PlainWritten
plain_written (Err refusal) = record { refusal = refusal_number refusal; next = 0 }
plain_written (Ok next) = record { refusal = 0; next = next }

-- what a call that writes leaves, with its answer in plain numbers
pub record PlainPut : Type 0 where
  pub answer : PlainWritten
  pub room : List ℕ

abbrev pub plain_put_of : PlainWritten → List ℕ → PlainPut
plain_put_of answer room = record { answer = answer; room = room }

abbrev pub plain_put : Put → PlainPut
plain_put after = plain_put_of (plain_written after.answer) after.room
