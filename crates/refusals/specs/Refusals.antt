-- Document 01, "Refusal numbers": which refusal a call gives before any header is looked at. "A call tests in rising number the
-- conditions for which it has an input".
-- Assumes nothing.
use Rattle.std.specs.Prelude.{Bool, ◌||◌, cond, List, [], ◌∷◌, ℕ, ltb, Option, Some, None}
use Rattle.refused.specs.declared.Refusal.{Refusal}
use Rattle.refused.specs.declared.Refusal.TheVariants.{Settings, Sizes, Lists, Time}
use Rattle.settings.specs.declared.Limits.{Limits}
use Rattle.settings.specs.Settings.{bad_limits}
use Rattle.sides.specs.Lists.{bad_list}
use Rattle.tables.specs.Sizes.{bad_sizes}

-- A call's tests in their order, each a refusal, or a number for one, and whether its condition holds: the refusal of the first that holds.
abbrev pub first_refusal : {A : Type 0} → List (A × Bool) → Option A
first_refusal [] = None
first_refusal (test ∷ tests) = cond test.1 (Some test.0) (first_refusal tests)

-- by the limits, and by the numbers of records, tags and counts
module _ (limits : Limits) (records tags counts : ℕ) where
  -- a cold start "is refused only by 1 and 2"
  unfoldable pub start_refusal : Option Refusal
  start_refusal = first_refusal ((Settings, bad_limits limits) ∷ (Sizes, bad_sizes records tags counts) ∷ [])

  -- a call with a time alone. 4: "the time is before the gateway's clock"
  unfoldable pub time_refusal : ℕ → ℕ → Option Refusal
  time_refusal clock time =
      first_refusal ((Settings, bad_limits limits) ∷ (Sizes, bad_sizes records tags counts) ∷ (Time, ltb time clock) ∷ [])

  -- a call with a packet, by the side lists too, before its headers are looked at
  unfoldable pub early_refusal : List ℕ → List ℕ → ℕ → ℕ → Option Refusal
  early_refusal cell plant clock time =
      first_refusal
      ((Settings, bad_limits limits) ∷
      (Sizes, bad_sizes records tags counts) ∷
      (Lists, bad_list cell || bad_list plant) ∷
      (Time, ltb time clock) ∷ [])
