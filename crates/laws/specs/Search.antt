-- Searching the numbers below n: whether a test passes at each of them, or at some, the first that passes it, all that pass it, and the
-- foremost by a value.
-- Assumes nothing.
use Rattle.std.specs.Prelude.{Bool, true, false, ◌&&◌, ◌||◌, cond, List, [], ◌∷◌, ◌++◌, ℕ, zero, suc}

-- the test passes at each number below n
unfoldable pub every : ℕ → (ℕ → Bool) → Bool
every zero p = true
every (suc n) p = p n && every n p

-- the test passes at some number below n
unfoldable pub some_below : ℕ → (ℕ → Bool) → Bool
some_below zero p = false
some_below (suc n) p = p n || some_below n p

-- the first number below n that passes the test, or n where none does
unfoldable pub first_below : ℕ → (ℕ → Bool) → ℕ
first_below zero p = 0
first_below (suc n) p = cond (p 0) 0 (suc (first_below n (λ k. p (suc k))))

-- those numbers below n that pass the test, in rising order
unfoldable pub those_below : ℕ → (ℕ → Bool) → List ℕ
those_below zero p = []
those_below (suc n) p = cond (p n) (those_below n p ++ (n ∷ [])) (those_below n p)

-- the first number below n whose value no other's goes beyond: `within a b` says that a does not go beyond b
unfoldable pub foremost : {A : Type 0} → (A → A → Bool) → (ℕ → A) → ℕ → ℕ
foremost within f n = first_below n (λ k. every n (λ j. within (f j) (f k)))
