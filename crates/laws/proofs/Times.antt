-- Laws of `times` and `how_many`: repetitions add up, and so many multiples lie between two numbers.
-- Assumes nothing.
use mathlib.Core.Path.{◌≡◌, refl, sym, ap, ◌∙◌}
use mathlib.Core.Bool.{Bool, true, false, cond}
use Prim.Native.Nat.{ℕ, zero, suc, ◌+◌, ◌*◌, ◌/◌, ◌%◌, ◌≤◌, ◌<◌, zero-le}
use native.Mathlib.Nat.{zero-add, mod-lt, mod_self, mod-eq_of_lt, div_self, div-zero, div-eq_of_lt, div-add-mod', mul-add-div_right, mul-add-mod_self_right, le-div_iff_mul-le, div-mul-le_self, le_trans}
use native.Mathlib.Omega.{arith}
use lib.Dec.{eqb}
use borrow.Author.Tests.{eq-eqb, ne_eqb}
use Rattle.laws.specs.Times.{times, how_many}
use Rattle.laws.proofs.Tests.{Which, below, above, which}

-- ---- times
module _ {A : Type 0} (f : A → A) where
  pub times_none : (x : A) → times 0 f x ≡ x
  unfolding times
  times_none x = refl

  pub times_more : (n : ℕ) (x : A) → times (suc n) f x ≡ f (times n f x)
  unfolding times
  times_more n x = refl

  -- first m and then n
  pub times_add : (m n : ℕ) (x : A) → times (m + n) f x ≡ times n f (times m f x)
  times_add m zero x = let e : m + 0 ≡ m = omega arith in ap (λ (k : ℕ). times k f x) e ∙ sym (times_none (times m f x))
  times_add m (suc n) x =
      let e : m + suc n ≡ suc (m + n) = omega arith in
      ap (λ (k : ℕ). times k f x) e ∙ times_more (m + n) x ∙ ap f (times_add m n x) ∙ sym (times_more n (times m f x))

-- ---- how many multiples
-- the quotient grows by one at a multiple, and nowhere else
quotient_more : (k n : ℕ) → 0 < k → suc n / k ≡ n / k + cond (eqb (suc n % k) 0) 1 0
quotient_more k n h = go (which (n % k + 1) k)
  where
    -- by quotient and remainder of n
    parts : suc n ≡ n / k * k + (n % k + 1)
    parts = omega (arith, div-add-mod' n k)

    quotient : suc n / k ≡ n / k + (n % k + 1) / k
    quotient = ap (λ (m : ℕ). m / k) parts ∙ mul-add-div_right h (n / k) (n % k + 1)

    remainder : suc n % k ≡ (n % k + 1) % k
    remainder = ap (λ (m : ℕ). m % k) parts ∙ mul-add-mod_self_right (n / k) k (n % k + 1)

    go : Which (n % k + 1) k → suc n / k ≡ n / k + cond (eqb (suc n % k) 0) 1 0
    go (below l) =
        let more : eqb (suc n % k) 0 ≡ false = ne_eqb _ 0 (λ (e : suc n % k ≡ 0). omega (arith, remainder, mod-eq_of_lt l)) in
        quotient ∙ (λ i. n / k + div-eq_of_lt l i) ∙ sym (ap (λ (t : Bool). n / k + cond t 1 0) more)
    go (above l) =
        let all : n % k + 1 ≡ k = omega (arith, mod-lt n h) in
        let none : eqb (suc n % k) 0 ≡ true = eq-eqb _ 0 (remainder ∙ ap (λ (m : ℕ). m % k) all ∙ mod_self k) in
        quotient ∙ ap (λ (m : ℕ). n / k + m / k) all ∙ (λ i. n / k + div_self h i) ∙ sym (ap (λ (t : Bool). n / k + cond t 1 0) none)

-- among the numbers above a, as many as the gap, there are as many multiples as the quotient grows
pub multiples : (k a gap : ℕ) → 0 < k → how_many gap (λ i. eqb ((a + suc i) % k) 0) + a / k ≡ (a + gap) / k
unfolding how_many
multiples k a zero h = let e : a + 0 ≡ a = omega arith in rw e (zero-add (a / k))
multiples k a (suc gap) h =
    let e : a + suc gap ≡ suc (a + gap) = omega arith in
    let one = quotient_more k (a + gap) h in
    let rest = multiples k a gap h in
    rw e (omega (arith, one, rest))

pub none_of : (n : ℕ) (p : ℕ → Bool) → ((i : ℕ) → i < n → p i ≡ false) → how_many n p ≡ 0
unfolding how_many
none_of zero p h = refl
none_of (suc n) p h = (λ i. none_of n p (λ j l. h j (omega arith)) i + cond (h n (omega arith) i) 1 0)

-- a later number has no smaller quotient
pub quotient_up : {a b : ℕ} (k : ℕ) → a ≤ b → a / k ≤ b / k
quotient_up {a} {b} k l = go (which 0 k)
  where
    go : Which 0 k → a / k ≤ b / k
    go (below h) = (le-div_iff_mul-le h).1 (le_trans (div-mul-le_self a k) l)
    go (above h) = let e : k ≡ 0 = omega arith in rw (e, div-zero a) zero-le
