-- Document 01, "Settings and sizes": the tables' sizes, and refusal 2.
-- Assumes nothing.
use Rattle.std.specs.Prelude.{Bool, not, ◌||◌, List, [], ◌∷◌, map, ℕ, zero, suc, ◌*◌, ◌^◌, eqb}
use Rattle.laws.specs.Choice.{among}

-- so many powers of two, from 2 ^ k on
abbrev pub powers_from : ℕ → ℕ → List ℕ
powers_from k zero = []
powers_from k (suc more) = 2 ^ k ∷ powers_from (suc k) more

-- "Connection table: a power of two of one-byte records, 16 to 1,048,576": 2 ^ 4 to 2 ^ 20
abbrev pub record_sizes : List ℕ
record_sizes = powers_from 4 17

-- "Address table: 1 to 262,144 lines, a power of two", 2 ^ 0 to 2 ^ 18, "four entries each"
abbrev pub entry_sizes : List ℕ
entry_sizes = map (λ lines. 4 * lines) (powers_from 0 19)

-- refusal 2: "a table size isn't one named above, or the tag and count lists differ in length"
unfoldable pub bad_sizes : ℕ → ℕ → ℕ → Bool
bad_sizes records tags counts = (not (among records record_sizes) || not (among tags entry_sizes)) || not (eqb tags counts)
