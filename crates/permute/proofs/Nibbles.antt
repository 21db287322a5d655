-- The nibbles of a word by their places: as one sum, which is what the code adds up, and below 16 ^ k, and taken back by an inverse.
-- Assumes nothing.
use Rattle.std.proofs.Common.{◌≡◌, ℕ, zero, suc, ◌+◌, ◌*◌, ◌/◌, ◌%◌, ◌^◌, ◌<◌, pow-suc, arith}
use native.Mathlib.Nat.{div-div-eq-div-mul}
use Rattle.laws.proofs.Table.{Undone}
use Rattle.permute.specs.Permutation.{nibbles}

-- the four lowest nibbles, which is what the code adds up at once
pub four : (f : ℕ → ℕ) (x : ℕ)
    → f (x % 16) + f (x / 16 % 16) * 16 + f (x / 256 % 16) * 256 + f (x / 4096 % 16) * 4096 ≡ nibbles 4 f x
unfolding nibbles
four f x = simp div-div-eq-div-mul (omega arith)

-- the eight nibbles of a word are its four lowest and the four above them
pub halves : (f : ℕ → ℕ) (x : ℕ) → nibbles 4 f x + nibbles 4 f (x / 65536) * 65536 ≡ nibbles 8 f x
unfolding nibbles
halves f x = simp div-div-eq-div-mul (omega arith)

module _ {f g : ℕ → ℕ} (u : Undone 16 f g) where
  pub nibbles_lt : (k x : ℕ) → nibbles k f x < 16 ^ k
  unfolding nibbles
  nibbles_lt zero x = omega arith
  nibbles_lt (suc k) x = rw pow-suc (omega (arith, nibbles_lt k (x / 16), u.small (x % 16) (omega arith)))

  pub nibbles_back : (k x : ℕ) → x < 16 ^ k → nibbles k g (nibbles k f x) ≡ x
  unfolding nibbles
  nibbles_back zero x h = omega arith
  nibbles_back (suc k) x h =
      let h' : x < 16 ^ k * 16 = rw pow-suc at h in
      let s = u.small (x % 16) (omega arith) in
      let low : (f (x % 16) + 16 * nibbles k f (x / 16)) % 16 ≡ f (x % 16) = omega arith in
      let high : (f (x % 16) + 16 * nibbles k f (x / 16)) / 16 ≡ nibbles k f (x / 16) = omega arith in
      rw (low, high) (omega (arith, u.back (x % 16) (omega arith), nibbles_back k (x / 16) (omega arith)))
