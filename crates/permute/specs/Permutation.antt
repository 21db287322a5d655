-- Document 01, "Permutation, slot and line": the permutation.
-- Assumes nothing.
use Rattle.std.specs.Prelude.{ℕ, zero, suc, ◌+◌, ◌-◌, ◌*◌, ◌/◌, ◌%◌, ◌^◌, List, [], ◌∷◌, slice_index, slice_index_or}

-- what a list has at n
abbrev pub at : List ℕ → ℕ → ℕ
at l n = slice_index l n

-- "The eight S-boxes stand as a table of tables": what the row of S-box r has at n
abbrev pub box : List (List ℕ) → ℕ → ℕ → ℕ
box table r = at (slice_index_or table r [])

unfoldable pub boxes : List (List ℕ)
boxes =
    (3 ∷ 8 ∷ 15 ∷ 1 ∷ 10 ∷ 6 ∷ 5 ∷ 11 ∷ 14 ∷ 13 ∷ 4 ∷ 2 ∷ 7 ∷ 0 ∷ 9 ∷ 12 ∷ []) ∷
    (15 ∷ 12 ∷ 2 ∷ 7 ∷ 9 ∷ 0 ∷ 5 ∷ 10 ∷ 1 ∷ 11 ∷ 14 ∷ 8 ∷ 6 ∷ 13 ∷ 3 ∷ 4 ∷ []) ∷
    (8 ∷ 6 ∷ 7 ∷ 9 ∷ 3 ∷ 12 ∷ 10 ∷ 15 ∷ 13 ∷ 1 ∷ 14 ∷ 4 ∷ 0 ∷ 11 ∷ 5 ∷ 2 ∷ []) ∷
    (0 ∷ 15 ∷ 11 ∷ 8 ∷ 12 ∷ 9 ∷ 6 ∷ 3 ∷ 13 ∷ 1 ∷ 2 ∷ 4 ∷ 10 ∷ 7 ∷ 5 ∷ 14 ∷ []) ∷
    (1 ∷ 15 ∷ 8 ∷ 3 ∷ 12 ∷ 0 ∷ 11 ∷ 6 ∷ 2 ∷ 5 ∷ 4 ∷ 10 ∷ 9 ∷ 14 ∷ 7 ∷ 13 ∷ []) ∷
    (15 ∷ 5 ∷ 2 ∷ 11 ∷ 4 ∷ 10 ∷ 9 ∷ 12 ∷ 0 ∷ 3 ∷ 14 ∷ 8 ∷ 13 ∷ 6 ∷ 7 ∷ 1 ∷ []) ∷
    (7 ∷ 2 ∷ 12 ∷ 5 ∷ 8 ∷ 4 ∷ 6 ∷ 11 ∷ 14 ∷ 9 ∷ 1 ∷ 13 ∷ 15 ∷ 3 ∷ 10 ∷ 0 ∷ []) ∷
    (1 ∷ 13 ∷ 15 ∷ 0 ∷ 14 ∷ 8 ∷ 2 ∷ 11 ∷ 7 ∷ 4 ∷ 12 ∷ 10 ∷ 9 ∷ 3 ∷ 5 ∷ 6 ∷ []) ∷ []

-- their inverses: document 01 leaves them to be worked out, and `Inverse` proves that they are
unfoldable pub inverses : List (List ℕ)
inverses =
    (13 ∷ 3 ∷ 11 ∷ 0 ∷ 10 ∷ 6 ∷ 5 ∷ 12 ∷ 1 ∷ 14 ∷ 4 ∷ 7 ∷ 15 ∷ 9 ∷ 8 ∷ 2 ∷ []) ∷
    (5 ∷ 8 ∷ 2 ∷ 14 ∷ 15 ∷ 6 ∷ 12 ∷ 3 ∷ 11 ∷ 4 ∷ 7 ∷ 9 ∷ 1 ∷ 13 ∷ 10 ∷ 0 ∷ []) ∷
    (12 ∷ 9 ∷ 15 ∷ 4 ∷ 11 ∷ 14 ∷ 1 ∷ 2 ∷ 0 ∷ 3 ∷ 6 ∷ 13 ∷ 5 ∷ 8 ∷ 10 ∷ 7 ∷ []) ∷
    (0 ∷ 9 ∷ 10 ∷ 7 ∷ 11 ∷ 14 ∷ 6 ∷ 13 ∷ 3 ∷ 5 ∷ 12 ∷ 2 ∷ 4 ∷ 8 ∷ 15 ∷ 1 ∷ []) ∷
    (5 ∷ 0 ∷ 8 ∷ 3 ∷ 10 ∷ 9 ∷ 7 ∷ 14 ∷ 2 ∷ 12 ∷ 11 ∷ 6 ∷ 4 ∷ 15 ∷ 13 ∷ 1 ∷ []) ∷
    (8 ∷ 15 ∷ 2 ∷ 9 ∷ 4 ∷ 1 ∷ 13 ∷ 14 ∷ 11 ∷ 6 ∷ 5 ∷ 3 ∷ 7 ∷ 12 ∷ 10 ∷ 0 ∷ []) ∷
    (15 ∷ 10 ∷ 1 ∷ 13 ∷ 5 ∷ 3 ∷ 6 ∷ 0 ∷ 4 ∷ 9 ∷ 14 ∷ 7 ∷ 2 ∷ 11 ∷ 8 ∷ 12 ∷ []) ∷
    (3 ∷ 0 ∷ 6 ∷ 13 ∷ 9 ∷ 14 ∷ 15 ∷ 8 ∷ 5 ∷ 12 ∷ 11 ∷ 7 ∷ 10 ∷ 1 ∷ 4 ∷ 2 ∷ []) ∷ []

-- the k lowest nibbles of x, each replaced by its image
unfoldable pub nibbles : ℕ → (ℕ → ℕ) → ℕ → ℕ
nibbles zero image x = 0
nibbles (suc k) image x = image (x % 16) + 16 * nibbles k image (x / 16)

-- 32 bits rotated left by 11 places, and right
abbrev pub left11 : ℕ → ℕ
left11 x = x % 2 ^ 21 * 2 ^ 11 + x / 2 ^ 21

abbrev pub right11 : ℕ → ℕ
right11 x = x % 2 ^ 11 * 2 ^ 21 + x / 2 ^ 11

-- "add round key r modulo 2^32; replace each of the eight nibbles by S-box r; rotate left 11"
unfoldable pub round : (ℕ → ℕ) → ℕ → ℕ → ℕ
round image key x = left11 (nibbles 8 image ((x + key) % 2 ^ 32))

-- a round undone, by the inverse of its S-box
unfoldable pub unround : (ℕ → ℕ) → ℕ → ℕ → ℕ
unround image key x = (nibbles 8 image (right11 x) + (2 ^ 32 - key)) % 2 ^ 32

-- the first rounds, from round 0 on
unfoldable pub rounds : ℕ → List ℕ → ℕ → ℕ
rounds zero keys x = x
rounds (suc r) keys x = round (box boxes r) (at keys r) (rounds r keys x)

-- "the inverse runs the rounds backward"
unfoldable pub unrounds : ℕ → List ℕ → ℕ → ℕ
unrounds zero keys x = x
unrounds (suc r) keys x = unrounds r keys (unround (box inverses r) (at keys r) x)

-- "Eight rounds r = 0 to 7"
unfoldable pub E : List ℕ → ℕ → ℕ
E keys x = rounds 8 keys x

unfoldable pub D : List ℕ → ℕ → ℕ
D keys x = unrounds 8 keys x
