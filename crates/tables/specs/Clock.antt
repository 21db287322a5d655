-- Document 01, "Records": the clock. Which boundaries a time passes, and what that does to both tables.
-- Assumes nothing.
use Rattle.std.specs.Prelude.{List, map, ℕ, suc, ◌+◌, ◌-◌, ◌*◌, ◌%◌, max, eqb, ℤ}
use Rattle.laws.specs.Times.{how_many}
use Rattle.records.specs.Records.{aged_by}
use Rattle.counts.specs.Counts.{decayed_by}

-- "A multiple is passed when it is above the old clock and not above the new time": how many of the numbers from old + 1 to new are
-- multiples
unfoldable pub multiples_passed : ℕ → ℕ → ℕ → ℕ
multiples_passed every old new = how_many (new - old) (λ i. eqb ((old + suc i) % every) 0)

-- what time changes: the connection records, the counts of the address table, and the clock
pub record Timed : Type 0 where
  pub records : List ℕ
  pub counts : List ℤ
  pub clock : ℕ

abbrev pub timed_of : List ℕ → List ℤ → ℕ → Timed
timed_of records counts clock = record { records = records; counts = counts; clock = clock }

-- "minute boundaries are multiples of 60. Each minute boundary passed adds 1 to the age of each marked record .. Each multiple of Dmiss
-- passed lowers each positive count by 1. Several at once add up. Without a boundary only the clock changes." How much a multiple of Dmiss
-- takes from a positive count, and never below 0, is given as the size of a point: under document 01 a point is 1. The clock becomes the
-- new time; a time before the clock, which a gateway refuses by 4, changes nothing.
unfoldable pub time_passed : ℕ → ℕ → ℕ → ℕ → Timed → Timed
time_passed point dmiss dconn time before =
    timed_of
    (map (aged_by dconn (multiples_passed 60 before.clock time)) before.records)
    (map (decayed_by (multiples_passed dmiss before.clock time * point)) before.counts)
    (max before.clock time)
