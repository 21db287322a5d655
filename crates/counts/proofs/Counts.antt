-- Laws of counts, said in the two naturals of a signed number (`up`, `dn`), for `omega`; and that several points of decay add up.
-- Assumes nothing.
use mathlib.Core.Path.{◌≡◌, refl, ap, ◌∙◌}
use mathlib.Core.Bool.{Bool, true, false, cond}
use Prim.Native.Nat.{ℕ, zero, suc, ◌+◌, ◌-◌, ◌<◌, min}
use native.Mathlib.Omega.{arith}
use lib.Dec.{eqb}
use borrow.Author.Tests.{ne_eqb}
use lib.IntN.{ℤ, pos, negsuc, ◌+ℤ◌, ◌-ℤ◌}
use lib.Signed.{le_z, lt_z}
use mir.Syntax.{w16}
use mir.Val.{SFits, to_z, of_z}
use mir.ValLaws.{to_z-of_z}
use Rattle.laws.proofs.Tests.{eqb_same, cond_at}
use Rattle.laws.proofs.Signed.{up, dn, signed, known, lt_z_true, lt_z_false, le_z_yes, sum_is, difference_is, one_part}
use Rattle.laws.specs.Times.{times}
use Rattle.laws.proofs.Times.{times_none, times_more, times_add}
use Rattle.counts.specs.Counts.{is_empty, larger, smaller, raised_by, point_less, decayed_by}

-- the bits of -32,768 are those of no other count
pub empty_bits : (z : ℤ) → SFits w16 z → eqb (of_z w16 z) 32768 ≡ is_empty z
unfolding is_empty
empty_bits (pos n) f = ne_eqb n 32768 (λ (e : n ≡ 32768). omega (arith, f))
empty_bits (negsuc n) f = eqb_same (65536 - suc n) 32768 (suc n) 32768 (λ e. omega (arith, f)) (λ e. omega (arith, f))

-- where the ceiling has room, the count is raised by all its points
pub raised_within : (points : ℕ) (ceiling count : ℤ) → le_z (count +ℤ pos points) ceiling ≡ true → raised_by points ceiling count ≡ count +ℤ pos points
unfolding larger smaller
raised_within points ceiling count e =
    ap (larger count) (cond_at (count +ℤ pos points) ceiling e)
    ∙ cond_at (count +ℤ pos points) count (le_z_yes count (count +ℤ pos points) (omega (arith, sum_is count (pos points))))

-- and where it has none, to the ceiling, unless it was above
pub raised_over : (points : ℕ) (ceiling count : ℤ) → le_z (count +ℤ pos points) ceiling ≡ false → raised_by points ceiling count ≡ larger count ceiling
unfolding smaller
raised_over points ceiling count e = ap (larger count) (cond_at (count +ℤ pos points) ceiling e)

-- ---- points of decay
pub decayed_none : (z : ℤ) → decayed_by 0 z ≡ z
unfolding decayed_by
decayed_none z = times_none point_less z

pub decayed_add : (m n : ℕ) (z : ℤ) → decayed_by (m + n) z ≡ decayed_by n (decayed_by m z)
unfolding decayed_by
decayed_add m n z = times_add point_less m n z

-- the positive part falls by n, stopping at 0, and the other stays
pub record Fell (n : ℕ) (z y : ℤ) : Type 0 where
  pub up_fell : up y ≡ up z - n
  pub dn_same : dn y ≡ dn z

one_fell : (z : ℤ) → Fell 1 z (point_less z)
unfolding point_less
one_fell z = go (lt_z (pos 0) z) refl
  where
    go : (t : Bool) → lt_z (pos 0) z ≡ t → Fell 1 z (cond t (z -ℤ pos 1) z)
    go true e =
        let known : (0 < up z) × (dn z ≡ 0) = (omega (arith, lt_z_true (pos 0) z e, one_part z), omega (arith, lt_z_true (pos 0) z e, one_part z)) in
        let less = difference_is z (pos 1) in
        let one = one_part (z -ℤ pos 1) in
        record { up_fell = omega arith; dn_same = omega arith }
    go false e = record { up_fell = omega (arith, lt_z_false (pos 0) z e, one_part z); dn_same = refl }

pub fell : (n : ℕ) (z : ℤ) → Fell n z (decayed_by n z)
unfolding decayed_by
fell zero z = rw (times_none point_less z) (record { up_fell = omega arith; dn_same = refl })
fell (suc n) z =
    let before = fell n z in
    let last = one_fell (times n point_less z) in
    rw (times_more point_less n z) (record { up_fell = omega (arith, before, last); dn_same = last.dn_same ∙ before.dn_same })

-- no count is over 32,767, so that as many steps do what more of them do; `s` and `z` as the machine has them
pub in_steps : (m : ℕ) {s : ℕ} {z : ℤ} → SFits w16 z → s ≡ min m 32767 → decayed_by s (to_z w16 (of_z w16 z)) ≡ decayed_by m z
in_steps m {s} {z} f e =
    let back = to_z-of_z w16 z f in
    ap (decayed_by s) back ∙ omega (signed, fell s z, fell m z, known f)
