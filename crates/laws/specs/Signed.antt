-- Negative numbers as they are written.
-- Assumes nothing.
use Rattle.std.specs.Prelude.{ℕ, zero, suc, ℤ, pos, negsuc}

-- minus 20 is -20
abbrev pub minus : ℕ → ℤ
minus zero = pos 0
minus (suc n) = negsuc n
