-- What several minute boundaries come to: "Several at once add up."
-- Assumes nothing.
use mathlib.Core.Path.{◌≡◌, refl, sym, ap, ◌∙◌}
use mathlib.Core.Bool.{Bool, true, false, not, ◌&&◌, ◌||◌, cond}
use Prim.Native.Nat.{ℕ, zero, suc, ◌+◌, ◌%◌, ◌/◌, ◌≤◌, ◌<◌, min}
use native.Mathlib.Omega.{arith}
use lib.Dec.{ltb, leb, eqb}
use borrow.Author.Tests.{lt-ltb, le-ltb, leb-true, eq-eqb, ne_eqb, eqb-true}
use Rattle.laws.specs.Times.{times}
use Rattle.laws.proofs.Times.{times_none, times_more, times_add}
use Rattle.laws.proofs.Tests.{Which, below, above, which, and_right, eqb_same}
use Rattle.records.specs.declared.Marks.{Marks}
use Rattle.records.specs.Records.{plant_seen, cell_seen, is_cold, age_of, minute_passed, aged_by}
use Rattle.records.proofs.Parts.{same_marks, older_age}

-- ---- marks
pub low_is_cold : (b : ℕ) → b < 64 → is_cold b ≡ true
low_is_cold b h =
    λ i. not (ne_eqb (b / 128 % 2) 1 (λ (e : b / 128 % 2 ≡ 1). omega arith) i || ne_eqb (b / 64 % 2) 1 (λ (e : b / 64 % 2 ≡ 1). omega arith) i)

-- a byte of 64 or more has a mark
pub high_is_marked : (b : ℕ) → 64 ≤ b → b < 256 → is_cold b ≡ false
high_is_marked b h l = go (which b 128)
  where
    go : Which b 128 → is_cold b ≡ false
    go (below k) =
        let plant : plant_seen b ≡ false = ne_eqb (b / 128 % 2) 1 (λ (e : b / 128 % 2 ≡ 1). omega arith) in
        let cell : cell_seen b ≡ true = eq-eqb (b / 64 % 2) 1 (omega arith) in
        λ i. not (plant i || cell i)
    go (above k) = ap (λ (t : Bool). not (t || cell_seen b)) (eq-eqb (b / 128 % 2) 1 (omega arith))

-- an age that six bits hold leaves it so
same_cold : (b m : ℕ) → age_of b + m ≤ 63 → is_cold (b + m) ≡ is_cold b
same_cold b m h = ap (λ (x : Marks). not (x.plant || x.cell)) (same_marks b m h)

-- ---- one boundary
module _ (d b : ℕ) where
  cleared_cold : is_cold b ≡ true → minute_passed d b ≡ 0
  unfolding minute_passed
  cleared_cold c = rw c

  cleared_old : min d 63 < age_of b + 1 → minute_passed d b ≡ 0
  unfolding minute_passed
  cleared_old h = go (is_cold b)
    where
      go : (t : Bool) → cond t 0 (cond (ltb (min d 63) (age_of b + 1)) 0 (b + 1)) ≡ 0
      go true = refl
      go false = ap (λ (t : Bool). cond t 0 (b + 1)) (lt-ltb _ _ h)

  one_older : is_cold b ≡ false → age_of b + 1 ≤ min d 63 → minute_passed d b ≡ b + 1
  unfolding minute_passed
  one_older c h = rw (c, le-ltb (min d 63) (age_of b + 1) h)

zero_stays : (d : ℕ) → minute_passed d 0 ≡ 0
zero_stays d = cleared_cold d 0 (low_is_cold 0 (omega arith))

-- ---- several
pub aged_none : (d b : ℕ) → aged_by d 0 b ≡ b
unfolding aged_by
aged_none d b = times_none (minute_passed d) b

pub aged_add : (d m n b : ℕ) → aged_by d (m + n) b ≡ aged_by d n (aged_by d m b)
unfolding aged_by
aged_add d m n b = times_add (minute_passed d) m n b

aged_more : (d m b : ℕ) → aged_by d (suc m) b ≡ minute_passed d (aged_by d m b)
unfolding aged_by
aged_more d m b = times_more (minute_passed d) m b

-- a cold record becomes 0 and stays 0
pub aged_cold : (d m b : ℕ) → is_cold b ≡ true → 0 < m → aged_by d m b ≡ 0
aged_cold d zero b c h = absurd (omega arith)
aged_cold d (suc zero) b c h = aged_more d 0 b ∙ ap (minute_passed d) (aged_none d b) ∙ cleared_cold d b c
aged_cold d (suc (suc m)) b c h =
    aged_more d (suc m) b ∙ ap (minute_passed d) (aged_cold d (suc m) b c (omega arith)) ∙ zero_stays d

-- and 0 is the one that any number of minutes leaves alone
pub zero_same : (d m b : ℕ) → eqb b 0 ≡ true → aged_by d m b ≡ b
zero_same d m b t = let e = eqb-true b 0 t in go m (low_is_cold b (omega arith))
  where
    go : (m : ℕ) → is_cold b ≡ true → aged_by d m b ≡ b
    go zero c = aged_none d b
    go (suc m) c = aged_cold d (suc m) b c (omega arith) ∙ sym (eqb-true b 0 t)

pub zero_still : (d m b : ℕ) → (leb 0 b && leb b 0) ≡ true → aged_by d m b ≡ b
zero_still d m b t = zero_same d m b (eq-eqb b 0 (omega (arith, leb-true b 0 (and_right (leb 0 b) (leb b 0) t))))

-- a marked one is so many minutes older while that is not too old
pub aged_kept : (d m b : ℕ) → is_cold b ≡ false → age_of b + m ≤ min d 63 → aged_by d m b ≡ b + m
aged_kept d zero b c h = aged_none d b ∙ omega arith
aged_kept d (suc m) b c h =
    let older = older_age b m (omega arith) in
    aged_more d m b
    ∙ ap (minute_passed d) (aged_kept d m b c (omega arith))
    ∙ one_older d (b + m) (same_cold b m (omega arith) ∙ c) (omega arith)
    ∙ omega arith

-- and 0 once it is
pub aged_old : (d m b : ℕ) → is_cold b ≡ false → min d 63 < age_of b + m → 0 < m → aged_by d m b ≡ 0
aged_old d zero b c h p = absurd (omega arith)
aged_old d (suc zero) b c h p = aged_more d 0 b ∙ ap (minute_passed d) (aged_none d b) ∙ cleared_old d b h
aged_old d (suc (suc m)) b c h p = aged_more d (suc m) b ∙ last (which (min d 63) (age_of b + suc m)) (aged_old d (suc m) b c)
  where
    -- after all but the last minute: too old already, or just not
    last : Which (min d 63) (age_of b + suc m) → (min d 63 < age_of b + suc m → 0 < suc m → aged_by d (suc m) b ≡ 0) → minute_passed d (aged_by d (suc m) b) ≡ 0
    last (below l) before = ap (minute_passed d) (before l (omega arith)) ∙ zero_stays d
    last (above l) before =
        let older = older_age b (suc m) (omega arith) in
        ap (minute_passed d) (aged_kept d (suc m) b c l) ∙ cleared_old d (b + suc m) (omega arith)

-- ---- which records differ after a minute boundary or several: those that are not 0, and no others
pub differs : (d m b : ℕ) → b < 256 → 0 < m → eqb (aged_by d m b) b ≡ eqb b 0
differs d m b l p = eqb_same (aged_by d m b) b b 0 (λ e. go (which b 64) e) (λ e. zero_same d m b (eq-eqb b 0 e))
  where
    marked : 64 ≤ b → Which (min d 63) (age_of b + m) → aged_by d m b ≡ b → b ≡ 0
    marked h (below k) e = sym e ∙ aged_old d m b (high_is_marked b h l) k p
    marked h (above k) e = let kept = aged_kept d m b (high_is_marked b h l) k in absurd (omega arith)

    go : Which b 64 → aged_by d m b ≡ b → b ≡ 0
    go (below h) e = sym e ∙ aged_cold d m b (low_is_cold b h) p
    go (above h) e = marked h (which (min d 63) (age_of b + m)) e

-- ---- in bytes
-- no age is over 63, so that 64 minutes do what more of them do
steps : (d m b : ℕ) → aged_by d (min m 64) b ≡ aged_by d m b
steps d m b = go (which m 64) (is_cold b) refl
  where
    go : Which m 64 → (t : Bool) → is_cold b ≡ t → aged_by d (min m 64) b ≡ aged_by d m b
    go (below h) t e = let same : min m 64 ≡ m = omega arith in ap (λ (k : ℕ). aged_by d k b) same
    go (above h) true e = aged_cold d (min m 64) b e (omega arith) ∙ sym (aged_cold d m b e (omega arith))
    go (above h) false e = aged_old d (min m 64) b e (omega arith) (omega arith) ∙ sym (aged_old d m b e (omega arith) (omega arith))

-- nor is a Dconn over 63 more than 63
oldest : (d m b : ℕ) → aged_by (min d 63) m b ≡ aged_by d m b
unfolding aged_by minute_passed
oldest d m b =
    let same : min (min d 63) 63 ≡ min d 63 = omega arith in
    ap (λ (k : ℕ). times m (λ byte. cond (is_cold byte) 0 (cond (ltb k (age_of byte + 1)) 0 (byte + 1))) b) same

-- so ageing goes by two numbers that fit a byte
pub in_bytes : (d m : ℕ) {s o : ℕ} → s ≡ min m 64 → o ≡ min d 63 → (b : ℕ) → aged_by o s b ≡ aged_by d m b
in_bytes d m p q b = (λ i. aged_by (q i) (p i) b) ∙ oldest d (min m 64) b ∙ steps d m b
