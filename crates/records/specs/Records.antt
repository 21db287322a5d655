-- Document 01, "Records": a connection record's marks and age, and what a minute boundary does to it.
-- Assumes nothing.
use Rattle.std.specs.Prelude.{Bool, not, ◌||◌, cond, ℕ, ◌+◌, ◌/◌, ◌%◌, min, ltb, eqb}
use Rattle.laws.specs.Times.{times}
use Rattle.records.specs.declared.Marks.{Marks}

-- "A connection record has bit 7 for plant to cell seen, bit 6 for cell to plant seen, low six bits age."
abbrev pub plant_seen : ℕ → Bool
plant_seen byte = eqb (byte / 128 % 2) 1

abbrev pub cell_seen : ℕ → Bool
cell_seen byte = eqb (byte / 64 % 2) 1

abbrev pub age_of : ℕ → ℕ
age_of byte = byte % 64

abbrev pub marks_of : ℕ → Marks
marks_of byte = record { plant = plant_seen byte; cell = cell_seen byte }

-- the record that has these marks and this age
abbrev pub record_of : Marks → ℕ → ℕ
record_of marks age = cond marks.plant 128 0 + cond marks.cell 64 0 + age

-- "With neither bit it is cold, its age ignored."
abbrev pub is_unmarked : Marks → Bool
is_unmarked marks = not (marks.plant || marks.cell)

abbrev pub is_cold : ℕ → Bool
is_cold byte = is_unmarked (marks_of byte)

-- "Each minute boundary passed adds 1 to the age of each marked record; a record whose age is then over Dconn becomes 0; unmarked ones
-- become 0 too." Dconn is at most 62; for one over 63, 63 stands in its place, the most that six bits hold.
unfoldable pub minute_passed : ℕ → ℕ → ℕ
minute_passed dconn byte = cond (is_cold byte) 0 (cond (ltb (min dconn 63) (age_of byte + 1)) 0 (byte + 1))

-- "Several at once add up."
unfoldable pub aged_by : ℕ → ℕ → ℕ → ℕ
aged_by dconn minutes byte = times minutes (minute_passed dconn) byte
