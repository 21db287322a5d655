-- Numbers made of bytes, and bytes of numbers: "most significant byte first", and "in either byte order".
-- Assumes nothing.
use Rattle.std.specs.Prelude.{Bool, true, false, cond, List, [], ◌∷◌, ◌++◌, ℕ, ◌+◌, ◌*◌, ◌/◌, ◌%◌, leb, length, get_or, take, drop}

abbrev pub of_two : ℕ → ℕ → ℕ
of_two a b = a * 256 + b

abbrev pub of_four : ℕ → ℕ → ℕ → ℕ → ℕ
of_four a b c d = a * 16777216 + b * 65536 + c * 256 + d

-- the numbers of two and of four bytes that stand at a place
abbrev pub two_at : List ℕ → ℕ → ℕ
two_at l at = of_two (get_or l at 0) (get_or l (at + 1) 0)

abbrev pub four_at : List ℕ → ℕ → ℕ
four_at l at = of_four (get_or l at 0) (get_or l (at + 1) 0) (get_or l (at + 2) 0) (get_or l (at + 3) 0)

-- the same in either byte order: as above, or the least significant byte first
abbrev pub two_in : Bool → List ℕ → ℕ → ℕ
two_in true l at = two_at l at
two_in false l at = of_two (get_or l (at + 1) 0) (get_or l at 0)

abbrev pub four_in : Bool → List ℕ → ℕ → ℕ
four_in true l at = four_at l at
four_in false l at = of_four (get_or l (at + 3) 0) (get_or l (at + 2) 0) (get_or l (at + 1) 0) (get_or l at 0)

-- what f makes of the n bytes at a place, and 0 where they are not all there
unfoldable pub whole : ℕ → (List ℕ → ℕ → ℕ) → List ℕ → ℕ → ℕ
whole n f l at = cond (leb (at + n) (length l)) (f l at) 0

-- ---- and back
-- the two and the four bytes of a number, in either byte order
abbrev pub two_bytes : Bool → ℕ → List ℕ
two_bytes true n = n / 256 % 256 ∷ (n % 256 ∷ [])
two_bytes false n = n % 256 ∷ (n / 256 % 256 ∷ [])

abbrev pub four_bytes : Bool → ℕ → List ℕ
four_bytes true n = n / 16777216 % 256 ∷ (n / 65536 % 256 ∷ (n / 256 % 256 ∷ (n % 256 ∷ [])))
four_bytes false n = n % 256 ∷ (n / 256 % 256 ∷ (n / 65536 % 256 ∷ (n / 16777216 % 256 ∷ [])))

-- bytes that are stored in lent room from a place on: all of them where they have room, and else none
unfoldable pub stored : List ℕ → ℕ → List ℕ → List ℕ
stored bytes at room = cond (leb (at + length bytes) (length room)) (take at room ++ (bytes ++ drop (at + length bytes) room)) room
