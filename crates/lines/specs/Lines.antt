-- Document 01, "The printing program": its lines, byte for byte.
-- Assumes nothing.
use Rattle.std.specs.Prelude.{List, [], ◌∷◌, ◌++◌, ℕ, Result, Ok, Err}
use Rattle.refused.specs.declared.Refusal.{Refusal}
use Rattle.refused.specs.Refused.{refusal_number}
use Rattle.rulings.specs.declared.answers.Answer.{Answer}
use Rattle.rulings.specs.declared.answers.Answer.TheVariants.{NotOurs, Judged}
use Rattle.verdicts.specs.Verdicts.{number_of}
use Rattle.rulings.specs.Answers.{count_told, replaced_told}
use Rattle.lines.specs.Text.{space, decimal, signed, dotted, or_dash}

-- the end of a line
abbrev pub newline : ℕ
newline = 10

-- "verdict, count, replaced address in dotted form"
abbrev pub verdict_text : ℕ → Result Answer Refusal → List ℕ
verdict_text verdict answer =
    decimal verdict ++ (space ∷ (or_dash signed (count_told answer) ++ (space ∷ or_dash dotted (replaced_told answer))))

-- "A refusal prints the number, R and the refusal."
abbrev pub refusal_text : ℕ → List ℕ
refusal_text number = 82 ∷ (space ∷ decimal number)

abbrev pub answer_text : Result Answer Refusal → List ℕ
answer_text (Err refusal) = refusal_text (refusal_number refusal)
answer_text (Ok NotOurs) = verdict_text 0 (Ok NotOurs)
answer_text (Ok (Judged verdict count replaced)) = verdict_text (number_of verdict) (Ok (Judged verdict count replaced))

-- the line of a record that is refused, by its number and the refusal's, whatever that is
abbrev pub refused_line : ℕ → ℕ → List ℕ
refused_line number refusal = decimal number ++ (space ∷ (refusal_text refusal ++ (newline ∷ [])))

-- "A line is: record number from 1", and what was answered. `line number (Err refusal)` is `refused_line number (refusal_number refusal)`.
abbrev pub line : ℕ → Result Answer Refusal → List ℕ
line number answer = decimal number ++ (space ∷ (answer_text answer ++ (newline ∷ [])))

-- "The last line is "end", records read whole, refusals."
abbrev pub end : List ℕ
end = 101 ∷ (110 ∷ (100 ∷ (space ∷ [])))

abbrev pub last_line : ℕ → ℕ → List ℕ
last_line records refusals = end ++ (decimal records ++ (space ∷ (decimal refusals ++ (newline ∷ []))))
