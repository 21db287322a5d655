-- Document 01's values for each case of an answer. Its number, where a call is refused, is `refusal_in` of refused/specs/Refused.
-- Assumes nothing.
use Rattle.std.specs.Prelude.{Bool, true, false, ℕ, ℤ, Option, None, Some, Result, Ok, Err}
use Rattle.refused.specs.declared.Refusal.{Refusal}
use Rattle.rulings.specs.declared.answers.Answer.{Answer}
use Rattle.rulings.specs.declared.answers.Answer.TheVariants.{NotOurs, Judged}
use Rattle.verdicts.specs.Verdicts.{number_of, is_forwarded}

-- "0 not ours", and 1 to 6 for a packet of ours; a refusal, whatever tells it, has none
abbrev pub verdict_told : {E : Type 0} → Result Answer E → Option ℕ
verdict_told (Err refusal) = None
verdict_told (Ok NotOurs) = Some 0
verdict_told (Ok (Judged verdict count replaced)) = Some (number_of verdict)

-- whether the packet goes through: verdicts 0 to 4 do, and what is refused does not
abbrev pub forwarded_told : Result Answer Refusal → Bool
forwarded_told (Err refusal) = false
forwarded_told (Ok NotOurs) = true
forwarded_told (Ok (Judged verdict count replaced)) = is_forwarded verdict

-- "The answer holds the verdict, the address's count after it, and the replaced address, if any". "Verdict 0 has no count."
abbrev pub count_told : Result Answer Refusal → Option ℤ
count_told (Err refusal) = None
count_told (Ok NotOurs) = None
count_told (Ok (Judged verdict count replaced)) = Some count

abbrev pub replaced_told : Result Answer Refusal → Option ℕ
replaced_told (Err refusal) = None
replaced_told (Ok NotOurs) = None
replaced_told (Ok (Judged verdict count replaced)) = replaced
