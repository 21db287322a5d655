-- A record's number as an argument: 1 to 19 decimal digits that are not all 0. Such a number fits 64 bits.
-- Assumes nothing.
use Rattle.std.specs.Prelude.{Bool, ◌&&◌, cond, List, [], ◌∷◌, ℕ, ◌+◌, ◌*◌, ◌-◌, leb, ltb, length, Option, Some, None}
use Rattle.std.specs.Bool.{then_some}

-- "0" is 48 and "9" is 57
abbrev pub is_digit : ℕ → Bool
is_digit byte = leb 48 byte && leb byte 57

-- the number whose first digits made this value; none where a byte is no digit
unfoldable pub number_from : ℕ → List ℕ → Option ℕ
number_from value [] = Some value
number_from value (byte ∷ bytes) = cond (is_digit byte) (number_from (10 * value + (byte - 48)) bytes) None

-- 0 is no record's number
abbrev pub from_one : Option ℕ → Option ℕ
from_one None = None
from_one (Some number) = then_some (ltb 0 number) number

unfoldable pub record_number : List ℕ → Option ℕ
record_number bytes = cond (ltb 19 (length bytes)) None (from_one (number_from 0 bytes))
