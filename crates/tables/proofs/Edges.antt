-- Refusal 2 at every edge of the sizes, computed: the last good and the first bad of each.
-- Assumes nothing.
use mathlib.Core.Bool.{Bool, true, false}
use mathlib.Core.List.{List, [], ◌∷◌, map}
use mathlib.Core.Path.{◌≡◌, refl}
use Prim.Native.Nat.{ℕ}
use Rattle.tables.specs.Sizes.{bad_sizes}

-- three lengths, and whether they are refused
pub record Edge : Type 0 where
  pub records : ℕ
  pub tags : ℕ
  pub counts : ℕ
  pub refused : Bool

abbrev edge : ℕ → ℕ → ℕ → Bool → Edge
edge records tags counts refused = record { records = records; tags = tags; counts = counts; refused = refused }

abbrev pub list : List Edge
list =
    edge 15 4 4 true ∷
    edge 16 4 4 false ∷
    edge 17 4 4 true ∷
    edge 1048576 4 4 false ∷
    edge 1048577 4 4 true ∷
    edge 2097152 4 4 true ∷
    edge 16 0 0 true ∷
    edge 16 3 3 true ∷
    edge 16 5 5 true ∷
    edge 16 8 8 false ∷
    edge 16 12 12 true ∷
    edge 16 1048576 1048576 false ∷
    edge 16 1048577 1048577 true ∷
    edge 16 1048580 1048580 true ∷
    edge 16 2097152 2097152 true ∷
    edge 16 4 8 true ∷
    edge 16 8 4 true ∷ []

pub edges : map (λ e. bad_sizes e.records e.tags e.counts) list ≡ map (λ e. e.refused) list
unfolding bad_sizes
edges = refl
