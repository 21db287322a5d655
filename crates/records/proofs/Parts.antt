-- Marks and age are the whole of a record: a byte is made of them, each is read back from what was made, and adding to a record adds to
-- its age alone while six bits hold it.
-- Assumes nothing.
use mathlib.Core.Bool.{Bool, true, false, cond}
use mathlib.Core.Path.{◌≡◌, ◌∙◌}
use Prim.Native.Nat.{ℕ, ◌+◌, ◌*◌, ◌/◌, ◌%◌, ◌≤◌, ◌<◌}
use native.Mathlib.Omega.{arith}
use lib.Dec.{eqb}
use borrow.Author.Tests.{eq-eqb, ne_eqb}
use Rattle.laws.proofs.Tests.{Which, below, above, which}
use Rattle.records.specs.declared.Marks.{Marks}
use Rattle.records.specs.Records.{marks_of, age_of, record_of}

-- a mark as a number, and back
one_or_none : (t : Bool) (k : ℕ) → (cond t k 0 ≡ k * cond t 1 0) × (cond t 1 0 ≤ 1)
one_or_none true k = (omega arith, omega arith)
one_or_none false k = (omega arith, omega arith)

bit_is : (t : Bool) (n : ℕ) → n ≡ cond t 1 0 → eqb n 1 ≡ t
bit_is true n e = eq-eqb n 1 e
bit_is false n e = ne_eqb n 1 (λ (q : n ≡ 1). omega arith)

-- ---- what was made is read back
module _ (m : Marks) (age : ℕ) (h : age < 64) where
  pub marks_back : marks_of (record_of m age) ≡ m
  marks_back = λ i. record { plant = bit_is m.plant (record_of m age / 128 % 2) seven i; cell = bit_is m.cell (record_of m age / 64 % 2) six i }
    where
      seven : record_of m age / 128 % 2 ≡ cond m.plant 1 0
      seven = omega (arith, one_or_none m.plant 128, one_or_none m.cell 64)

      six : record_of m age / 64 % 2 ≡ cond m.cell 1 0
      six = omega (arith, one_or_none m.plant 128, one_or_none m.cell 64)

  pub age_back : age_of (record_of m age) ≡ age
  age_back = omega (arith, one_or_none m.plant 128, one_or_none m.cell 64)

-- ---- a byte is made of its marks and age
weighs : (n k : ℕ) → n ≤ 1 → cond (eqb n 1) k 0 ≡ k * n
weighs n k h = go (which n 1)
  where
    go : Which n 1 → cond (eqb n 1) k 0 ≡ k * n
    go (below l) = let e : n ≡ 0 = omega arith in rw e (omega arith)
    go (above l) = let e : n ≡ 1 = omega arith in rw e (omega arith)

bits_of : (b : ℕ) → b < 256 → 128 * (b / 128 % 2) + 64 * (b / 64 % 2) + b % 64 ≡ b
bits_of b h = omega arith

pub whole : (b : ℕ) → b < 256 → record_of (marks_of b) (age_of b) ≡ b
whole b h = (λ i. weighs (b / 128 % 2) 128 (omega arith) i + weighs (b / 64 % 2) 64 (omega arith) i + b % 64) ∙ bits_of b h

-- ---- adding to a record
module _ (b m : ℕ) (h : age_of b + m ≤ 63) where
  pub same_marks : marks_of (b + m) ≡ marks_of b
  same_marks =
      let plant : (b + m) / 128 % 2 ≡ b / 128 % 2 = omega arith in
      let cell : (b + m) / 64 % 2 ≡ b / 64 % 2 = omega arith in
      λ i. record { plant = eqb (plant i) 1; cell = eqb (cell i) 1 }

  pub older_age : age_of (b + m) ≡ age_of b + m
  older_age = omega arith
