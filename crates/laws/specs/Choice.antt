-- A choice by a number that is one of a few, and a test of a few values.
-- Assumes nothing.
use Rattle.std.specs.Prelude.{Bool, false, ◌||◌, List, [], ◌∷◌, ℕ, eqb}

-- n is one of the numbers listed
abbrev pub among : ℕ → List ℕ → Bool
among n [] = false
among n (k ∷ ks) = eqb n k || among n ks

-- the test passes at one of the values listed
abbrev pub at_some : {A : Type 0} → (A → Bool) → List A → Bool
at_some test [] = false
at_some test (value ∷ values) = test value || at_some test values
