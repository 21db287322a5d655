-- "So line and tag together name one address": with 2^a lines the way back finds it, and two addresses with one line and tag are one.
-- Assumes nothing.
use mathlib.Core.Path.{◌≡◌, ap, ◌∙◌, sym}
use mathlib.Core.List.{List}
use Prim.Native.Nat.{ℕ, ◌+◌, ◌*◌, ◌/◌, ◌^◌, ◌-◌, ◌≤◌, ◌<◌}
use native.Mathlib.Nat.{mod-lt, mod-eq_of_lt, div-add-mod', div-lt_iff_lt-mul, div-eq_of_eq-mul_left}
use native.Mathlib.Omega.{arith}
use lib.Pow.{pow-add, pow_pos}
use Rattle.places.specs.declared.Place.{Place}
use Rattle.permute.specs.Permutation.{E}
use Rattle.places.specs.Places.{slot_of, place_of, address_of}
use Rattle.permute.proofs.Inverse.{Keys, D-of-E, E-lt}

-- 2 ^ a lines divide the words evenly, into 2 ^ (32 - a) tags
whole : (a : ℕ) → a ≤ 32 → 2 ^ (32 - a) * 2 ^ a ≡ 2 ^ 32
whole a h =
    let e : 32 - a + a ≡ 32 = omega arith in
    sym (pow-add 2 (32 - a) a) ∙ ap (λ (n : ℕ). 2 ^ n) e

pub tags : (a : ℕ) → a ≤ 32 → 2 ^ 32 / 2 ^ a ≡ 2 ^ (32 - a)
tags a h = div-eq_of_eq-mul_left (pow_pos a) (sym (whole a h))

-- a slot is one of the records, and a line one of the lines
pub slot_lt : (keys : List ℕ) (plant cell port records : ℕ) → 0 < records → slot_of keys plant cell port records < records
unfolding slot_of
slot_lt keys plant cell port records h = mod-lt _ h

pub line_lt : (keys : List ℕ) (address lines : ℕ) → 0 < lines → (place_of keys address lines).line < lines
unfolding place_of
line_lt keys address lines h = mod-lt _ h

module _ {keys : List ℕ} (k : Keys keys) (a : ℕ) (few : a ≤ 32) where
  -- a tag that belongs to an address is below 2 ^ (32 - a)
  pub tag_lt : (address : ℕ) → address < 2 ^ 32 → (place_of keys address (2 ^ a)).tag < 2 ^ (32 - a)
  unfolding place_of
  tag_lt address h =
      let e = E-lt k address h in
      (div-lt_iff_lt-mul (pow_pos a)).1 (rw (whole a few) e)

  pub recovered : (address : ℕ) → address < 2 ^ 32 → address_of keys (place_of keys address (2 ^ a)) (2 ^ a) ≡ address
  unfolding address_of place_of
  recovered address h =
      rw (tags a few, mod-eq_of_lt (tag_lt address h), div-add-mod' (E keys address) (2 ^ a), mod-eq_of_lt (E-lt k address h))
      (D-of-E k address h)

  pub one_address : (x y : ℕ) → x < 2 ^ 32 → y < 2 ^ 32 → place_of keys x (2 ^ a) ≡ place_of keys y (2 ^ a) → x ≡ y
  one_address x y hx hy e = sym (recovered x hx) ∙ ap (λ (p : Place). address_of keys p (2 ^ a)) e ∙ recovered y hy
