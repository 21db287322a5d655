-- What the larger and the smaller of two are, and a number that stops where 16 bits end: for `omega`, beside the library's `ints` and
-- `clamps`, which read a signed number as the difference of two naturals.
-- Assumes nothing.
use mathlib.Core.Path.{◌≡◌, refl}
use mathlib.Core.Bool.{Bool, true, false, cond}
use Prim.Native.Nat.{◌+◌, ◌-◌, min, max}
use native.Mathlib.Omega.{arith}
use borrow.Author.Differences.{up, down}
use lib.IntN.{ℤ, pos, negsuc}
use lib.Signed.{le_z}
use mir.Syntax.{w16}
use Rattle.std.specs.Int.{int_max, int_min, saturate_signed}
use Rattle.std.proofs.lemmas.Int.{ints, clamps, int_max_is, int_min_is}
use Rattle.counts.specs.Counts.{larger, smaller}

larger_same : (a b : ℤ) → larger a b ≡ int_max a b
unfolding larger
larger_same a b = go (le_z a b) refl
  where
    go : (t : Bool) → le_z a b ≡ t → cond t b a ≡ int_max a b
    go true e = omega (arith, ints, clamps, e)
    go false e = omega (arith, ints, clamps, e)

smaller_same : (a b : ℤ) → smaller a b ≡ int_min a b
unfolding smaller
smaller_same a b = go (le_z a b) refl
  where
    go : (t : Bool) → le_z a b ≡ t → cond t a b ≡ int_min a b
    go true e = omega (arith, ints, clamps, e)
    go false e = omega (arith, ints, clamps, e)

pub larger_is : (a b : ℤ) → up (larger a b) + down a + down b ≡ down (larger a b) + max (up a + down b) (up b + down a)
larger_is a b = rw larger_same (int_max_is a b)

pub smaller_is : (a b : ℤ) → up (smaller a b) + down a + down b ≡ down (smaller a b) + min (up a + down b) (up b + down a)
smaller_is a b = rw smaller_same (int_min_is a b)

pub saturated : (z : ℤ) → up (saturate_signed w16 z) + 32768 ≡ down (saturate_signed w16 z) + min (up z + 32768 - down z) 65535
saturated (pos n) = omega arith
saturated (negsuc n) = omega arith
