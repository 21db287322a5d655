-- A rotation by 11 places, as the library defines it, is the sum of the two parts that change places.
-- Assumes nothing.
use Rattle.std.proofs.Common.{◌≡◌, ℕ, ◌*◌, ◌/◌, ◌%◌, ◌^◌, ◌<◌, arith, w32}
use Rattle.std.specs.Int.{rotate_left, rotate_right}
use Rattle.std.specs.Int.Bits.{or_shifted_r}
use Rattle.std.proofs.lemmas.Nat.{or_shifted}
use Rattle.permute.specs.Permutation.{left11, right11}

pub rotated_left : (x : ℕ) → x < 2 ^ 32 → rotate_left w32 x 11 ≡ left11 x
rotated_left x h =
    let high : (x * 2 ^ 11) % 2 ^ 32 ≡ x % 2 ^ 21 * 2 ^ 11 = omega arith in
    rw high (or_shifted (x % 2 ^ 21) 11 (x / 2 ^ 21) (omega (arith, h)))

pub rotated_right : (x : ℕ) → x < 2 ^ 32 → rotate_right w32 x 11 ≡ right11 x
rotated_right x h =
    let high : (x * 2 ^ 21) % 2 ^ 32 ≡ x % 2 ^ 11 * 2 ^ 21 = omega arith in
    rw high (or_shifted_r (x % 2 ^ 11) 21 (x / 2 ^ 11) (omega (arith, h)))
