-- Document 01's tally, and what a verdict adds to it.
-- Assumes nothing.
use Rattle.std.specs.Prelude.{cond, [], ◌∷◌, ℕ, ◌+◌, min, leb, get_or, set, Option, None, Some}
use Rattle.tally.specs.declared.Tally.{Tally}

-- "one 32-bit total per verdict", which makes "seven totals", of 0 to 6: before the first answer each is 0
abbrev pub empty_tally : Tally
empty_tally = record { totals = 0 ∷ 0 ∷ 0 ∷ 0 ∷ 0 ∷ 0 ∷ 0 ∷ [] }

-- "stopping at 4,294,967,295"
abbrev pub one_more : ℕ → ℕ
one_more n = min (n + 1) 4294967295

-- "one .. total per verdict": the verdicts are 0 to 6, and a higher number is none
unfoldable pub verdict_numbered : ℕ → Option ℕ
verdict_numbered number = cond (leb number 6) (Some number) None

-- "The tally is a record that the caller lends to be added to": a verdict adds one to its own total, and a refusal, which has no
-- verdict, adds nothing
unfoldable pub tallied : Tally → Option ℕ → Tally
tallied tally None = tally
tallied tally (Some verdict) = record { totals = set tally.totals verdict (one_more (get_or tally.totals verdict 0)) }
