-- Numbers and addresses as text, in ASCII.
-- Assumes nothing.
use Rattle.std.specs.Prelude.{cond, List, [], ◌∷◌, ◌++◌, ℕ, zero, suc, ◌+◌, ◌/◌, ◌%◌, ltb, ℤ, pos, negsuc, Option, None, Some}

abbrev pub space : ℕ
space = 32

abbrev pub dash : ℕ
dash = 45

abbrev pub dot : ℕ
dot = 46

abbrev pub digit : ℕ → ℕ
digit n = 48 + n

-- the decimal digits of n, in at most so many steps: those of a tenth of it, and the last
unfoldable pub digits_in : ℕ → ℕ → List ℕ
digits_in zero n = digit n ∷ []
digits_in (suc steps) n = cond (ltb n 10) (digit n ∷ []) (digits_in steps (n / 10) ++ (digit (n % 10) ∷ []))

-- the decimal digits of n. A number is in no more than n steps below 10.
abbrev pub decimal : ℕ → List ℕ
decimal n = digits_in n n

abbrev pub signed : ℤ → List ℕ
signed (pos n) = decimal n
signed (negsuc n) = dash ∷ decimal (suc n)

-- "address in dotted form": the numbers of its four bytes, the most significant first
abbrev pub dotted : ℕ → List ℕ
dotted address =
    decimal (address / 16777216)
    ++ (dot ∷ (decimal (address / 65536 % 256) ++ (dot ∷ (decimal (address / 256 % 256) ++ (dot ∷ decimal (address % 256))))))

-- "-" for a value that has none
abbrev pub or_dash : {A : Type 0} → (A → List ℕ) → Option A → List ℕ
or_dash text None = dash ∷ []
or_dash text (Some value) = text value
