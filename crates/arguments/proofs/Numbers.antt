-- Digits one after another: what each adds, where they stop, and how large the number gets.
-- Assumes nothing.
use mathlib.Core.Bool.{true, false}
use mathlib.Core.List.{List, ◌∷◌}
use mathlib.Core.Path.{◌≡◌, sym, ap, ◌∙◌}
use Prim.Native.Nat.{ℕ, suc, ◌+◌, ◌*◌, ◌-◌, ◌^◌, ◌≤◌, ◌<◌}
use native.Mathlib.Nat.{pow-suc, pow-le-pow_right}
use native.Mathlib.Omega.{arith}
use lib.Dec.{leb}
use lib.ListN.{length, get_or, drop, drop_of_length-le}
use lib.Seq.{drop-cons}
use borrow.Author.Tests.{leb-true}
use Rattle.std.specs.Prelude.{Some, None}
use Rattle.laws.proofs.Tests.{and_left, and_right, cond_at}
use Rattle.arguments.specs.Arguments.{is_digit, number_from}

pub digit_range : (byte : ℕ) → is_digit byte ≡ true → (48 ≤ byte) × (byte ≤ 57)
digit_range byte e =
    (leb-true 48 byte (and_left (leb 48 byte) (leb byte 57) e), leb-true byte 57 (and_right (leb 48 byte) (leb byte 57) e))

-- a number of at most 19 digits fits 64 bits, with one digit more or without
pub fits_more : (value digit done : ℕ) → value < 10 ^ done → digit ≤ 9 → done < 19 → (10 * value + digit < 10 ^ (done + 1)) × (10 ^ (done + 1) ≤ 10 ^ 19)
fits_more value digit done h d l =
    let next : suc done ≡ done + 1 = omega arith in
    (omega (arith, h, d, pow-suc 10 done, ap (λ (n : ℕ). 10 ^ n) next), pow-le-pow_right {n = 10} (omega arith) {i = done + 1} {j = 19} (omega arith))

module _ (bytes : List ℕ) (value done : ℕ) where
  abbrev here : ℕ
  here = get_or bytes done 0

  split : done < length bytes → number_from value (drop done bytes) ≡ number_from value (here ∷ drop (done + 1) bytes)
  split h =
      let next : suc done ≡ done + 1 = omega arith in
      ap (number_from value) (drop-cons bytes done 0 h ∙ ap (λ (n : ℕ). here ∷ drop n bytes) next)

  pub number_next : done < length bytes → is_digit here ≡ true
      → number_from (10 * value + (here - 48)) (drop (done + 1) bytes) ≡ number_from value (drop done bytes)
  unfolding number_from
  number_next h e = sym (split h ∙ cond_at _ _ e)

  pub number_stops : done < length bytes → is_digit here ≡ false → None ≡ number_from value (drop done bytes)
  unfolding number_from
  number_stops h e = sym (split h ∙ cond_at _ _ e)

  pub number_ends : length bytes ≤ done → Some value ≡ number_from value (drop done bytes)
  unfolding number_from
  number_ends h = ap (number_from value) (sym (drop_of_length-le bytes {i = done} h))
