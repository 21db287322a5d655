-- Doing a thing so many times, and counting.
-- Assumes nothing.
use Rattle.std.specs.Prelude.{Bool, cond, List, [], ◌∷◌, ℕ, zero, suc, ◌+◌, eqb}

-- what doing f so many times makes of x
unfoldable pub times : {A : Type 0} → ℕ → (A → A) → A → A
times zero f x = x
times (suc n) f x = f (times n f x)

-- how many of the numbers below n pass the test
unfoldable pub how_many : ℕ → (ℕ → Bool) → ℕ
how_many zero p = 0
how_many (suc n) p = how_many n p + cond (p n) 1 0

-- how often a number stands in a list
unfoldable pub times_in : ℕ → List ℕ → ℕ
times_in n [] = 0
times_in n (k ∷ ks) = cond (eqb k n) 1 0 + times_in n ks
