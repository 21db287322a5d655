-- A count in more bits than it has, its distance from 0, and its text by its sign.
-- Assumes nothing.
use Prim.Native.Nat.{ℕ}
use mathlib.Core.Path.{◌≡◌, refl}
use mathlib.Core.Bool.{true, false}
use mathlib.Core.List.{◌∷◌}
use native.Mathlib.Omega.{arith}
use lib.IntN.{ℤ, pos, negsuc, nat_abs}
use lib.Signed.{lt_z}
use mir.Syntax.{w16}
use mir.Val.{SFits, to_z, of_z}
use mir.ValLaws.{to_z-of_z}
use borrow.Author.Tests.{ltb-true}
use Rattle.lines.specs.Text.{dash, decimal, signed}
use Rattle.lines.specs.Room.{Room, put_byte, put}
use Rattle.lines.proofs.Rooms.{byte_then}

pub signed_below : (z : ℤ) → lt_z z (pos 0) ≡ true → signed z ≡ dash ∷ decimal (nat_abs z)
signed_below (pos n) below = absurd (omega (arith, ltb-true n 0 below))
signed_below (negsuc n) below = refl

pub signed_above : (z : ℤ) → lt_z z (pos 0) ≡ false → signed z ≡ decimal (nat_abs z)
signed_above (pos n) above = refl
signed_above (negsuc n) above = let q : ◌≡◌ {A = ℕ} 0 1 = cc in absurd (omega arith)

-- what is put of a count below 0: a minus, and then how far it is from 0
pub put_below : (z : ℤ) (before next after : Room) (m : ℕ) → SFits w16 z → lt_z (to_z w16 (of_z w16 z)) (pos 0) ≡ true
    → next ≡ put_byte dash before → m ≡ nat_abs (to_z w16 (of_z w16 z)) → after ≡ put (decimal m) next → after ≡ put (signed z) before
put_below z before next after m f below minus size rest =
    let same = to_z-of_z w16 z f in
    rw (signed_below z (rw same at below)) (byte_then before dash (decimal (nat_abs z)) minus (rw (size, same) at rest))

-- and of any other: how far it is from 0
pub put_above : (z : ℤ) (before after : Room) (m : ℕ) → SFits w16 z → lt_z (to_z w16 (of_z w16 z)) (pos 0) ≡ false
    → m ≡ nat_abs (to_z w16 (of_z w16 z)) → after ≡ put (decimal m) before → after ≡ put (signed z) before
put_above z before after m f above size rest =
    let same = to_z-of_z w16 z f in
    rw (signed_above z (rw same at above)) (rw (size, same) at rest)
