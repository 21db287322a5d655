-- Document 01, "Records" and "Verdicts": an entry's count. Which one makes the entry empty or the address blocked, and how verdicts and
-- time change it.
-- Assumes nothing.
use Rattle.std.specs.Prelude.{Bool, false, cond, ℕ, suc, eqb, ℤ, pos, negsuc, ◌+ℤ◌, ◌-ℤ◌}
use Rattle.std.specs.Int.Signed.{le_z, lt_z}
use Rattle.laws.specs.Times.{times}

-- "An entry with count -32,768 is empty" (negsuc n is -(n + 1))
unfoldable pub is_empty : ℤ → Bool
is_empty (pos n) = false
is_empty (negsuc n) = eqb (suc n) 32768

-- "It is blocked when its count is at least T"
abbrev pub is_blocked : ℕ → ℤ → Bool
is_blocked threshold count = le_z (pos threshold) count

-- the larger and the smaller of two
unfoldable pub larger : ℤ → ℤ → ℤ
larger a b = cond (le_z a b) b a

unfoldable pub smaller : ℤ → ℤ → ℤ
smaller a b = cond (le_z a b) a b

-- "the larger of Cmin and count-1 for 2, the same with count-2 for 3"
abbrev pub lowered_by : ℕ → ℤ → ℤ → ℤ
lowered_by points floor count = larger floor (count -ℤ pos points)

-- "count+1 for 4", up to a ceiling; a count above the ceiling stays. Document 01 has no ceiling: 32,767, the largest of 16 bits, is none
-- for a count below T.
abbrev pub raised_by : ℕ → ℤ → ℤ → ℤ
raised_by points ceiling count = larger count (smaller (count +ℤ pos points) ceiling)

-- "lowers each positive count by 1"
unfoldable pub point_less : ℤ → ℤ
point_less count = cond (lt_z (pos 0) count) (count -ℤ pos 1) count

-- "Several at once add up."
unfoldable pub decayed_by : ℕ → ℤ → ℤ
decayed_by points count = times points point_less count
