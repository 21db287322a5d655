-- One address's account: its count now and at the start, and what happened to it between. Each thing that may happen keeps the two
-- inequalities from which demand 3 follows. A count z is `up z` less `dn z`, of which one is 0, so that all of this is linear.
-- Assumes nothing.
use mathlib.Core.Bool.{Bool, true, false, cond}
use mathlib.Core.Logic.{◌⊎◌, inl, inr}
use mathlib.Core.Path.{◌≡◌, refl, ap}
use Prim.Native.Nat.{ℕ, suc, ◌+◌, ◌-◌, ◌*◌, ◌≤◌, ◌<◌, min}
use native.Mathlib.Nat.{mul-add}
use native.Mathlib.Omega.{arith}
use lib.IntN.{ℤ, pos, ◌+ℤ◌, ◌-ℤ◌}
use lib.Signed.{le_z}
use Rattle.laws.proofs.Signed.{up, dn, le_z_true, le_z_false, le_z_yes, sum_is, difference_is, one_part}
use Rattle.counts.specs.Counts.{is_blocked, larger, lowered_by, raised_by, decayed_by}
use Rattle.counts.proofs.Counts.{fell, raised_within}

-- ---- what verdicts do to a count
-- a count that is raised by w, with room below the ceiling
pub record Raised (w : ℕ) (c d : ℤ) : Type 0 where
  pub sum : up d + dn c ≡ dn d + up c + w
  pub near : up d ≤ up c + w
  pub up_more : up c ≤ up d
  pub dn_less : dn d ≤ dn c

pub raised : (w : ℕ) (c : ℤ) → up c + w ≤ 32767 → Raised w c (raised_by w (pos 32767) c)
raised w c h =
    let s = sum_is c (pos w) in
    let one = one_part (c +ℤ pos w) in
    let mine = one_part c in
    rw (raised_within w (pos 32767) c (le_z_yes (c +ℤ pos w) (pos 32767) (omega arith)))
    (record { sum = omega arith; near = omega arith; up_more = omega arith; dn_less = omega arith })

-- a count that is lowered by k, down to a floor that is not positive
pub record Lowered (k : ℕ) (floor c d : ℤ) : Type 0 where
  pub sum : up c + dn d ≤ up d + dn c + k
  pub up_less : up d ≤ up c
  pub low : dn d ≤ dn floor

pub lowered : (k : ℕ) (floor c : ℤ) → up floor ≡ 0 → Lowered k floor c (lowered_by k floor c)
unfolding larger
lowered k floor c h = go (le_z floor (c -ℤ pos k)) refl
  where
    less : up (c -ℤ pos k) + (dn c + k) ≡ dn (c -ℤ pos k) + (up c + 0)
    less = difference_is c (pos k)

    go : (t : Bool) → le_z floor (c -ℤ pos k) ≡ t → Lowered k floor c (cond t (c -ℤ pos k) floor)
    go true e =
        let l = le_z_true floor (c -ℤ pos k) e in
        let one = one_part (c -ℤ pos k) in
        let mine = one_part c in
        record { sum = omega (arith, less); up_less = omega (arith, less); low = omega (arith, less) }
    go false e =
        let l = le_z_false floor (c -ℤ pos k) e in
        let one = one_part (c -ℤ pos k) in
        let mine = one_part c in
        record { sum = omega (arith, less); up_less = omega (arith, less); low = omega (arith, less) }

-- a count that a threshold blocks reaches it, and one that it does not is under it
pub reaches : (B : ℕ) (c : ℤ) → is_blocked B c ≡ true → B ≤ up c
reaches B c e = omega (arith, le_z_true (pos B) c e, one_part c)

pub under : (B : ℕ) (c : ℤ) → 1 ≤ B → is_blocked B c ≡ false → up c < B
under B c h e = omega (arith, le_z_false (pos B) c e, one_part c)

-- a count c, and d after a call that names its address n times as replaced: it stays, or its address is named and it is 0
abbrev pub StaysOrNamed : ℕ → ℤ → ℤ → Type 0
StaysOrNamed n c d = (d ≡ c) ⊎ ((0 < n) × (d ≡ pos 0))

-- ---- the account
-- B: blocked from this count on. U: no count that a forwarded contact makes is above it. c0, c: the address's count at the start and now.
-- F, D, H, R: the weights of its fresh contacts forwarded, what decay and credit may have taken, and how often its entry was replaced.
-- A count is never so low that it would be the mark of an empty entry.
pub record Holds (B U : ℕ) (c0 c : ℤ) (F D H R : ℕ) : Type 0 where
  pub bound : F + min (up c0) U + dn c ≤ min (up c) U + dn c0 + D + H + U * R
  pub block : min (up c) B ≤ F + up c0
  pub full : dn c < 32768

pub at_start : (B U : ℕ) (c : ℤ) → dn c < 32768 → Holds B U c c 0 0 0 0
at_start B U c h = record { bound = omega arith; block = omega arith; full = h }

-- the same account, its parts written otherwise
pub recast : {B U : ℕ} {c0 c c' : ℤ} {F F' D D' H H' R R' : ℕ} → Holds B U c0 c F D H R → c' ≡ c → F ≡ F' → D ≡ D' → H ≡ H' → R ≡ R'
    → Holds B U c0 c' F' D' H' R'
recast {U = U} i e f d h k =
    record {
      bound = omega (arith, i.bound, ap up e, ap dn e, ap (λ (x : ℕ). U * x) k);
      block = omega (arith, i.block, ap up e);
      full = omega (arith, i.full, ap dn e);
    }

module _ {B U : ℕ} {c0 c : ℤ} {F D H R : ℕ} (i : Holds B U c0 c F D H R) where
  -- a fresh contact of weight w, forwarded below B
  pub on_fresh : {W w : ℕ} {d : ℤ} → B + W ≤ suc U → w ≤ W → up c < B → Raised w c d → Holds B U c0 d (F + w) D H R
  on_fresh wide h lt r =
      record { bound = omega (arith, i.bound, r); block = omega (arith, i.block, r); full = omega (arith, i.full, r) }

  -- a credit of k
  pub on_credit : {k : ℕ} {floor d : ℤ} → dn floor < 32768 → Lowered k floor c d → Holds B U c0 d F D (H + k) R
  on_credit near l =
      record { bound = omega (arith, i.bound, l); block = omega (arith, i.block, l); full = omega (arith, l) }

  -- an attempt while blocked that writes a count no lower
  pub on_attempt : {d : ℤ} → B ≤ up c → B ≤ U → up c ≤ up d → dn d ≤ dn c → Holds B U c0 d F D H R
  on_attempt b u h k =
      record { bound = omega (arith, i.bound); block = omega (arith, i.block); full = omega (arith, i.full) }

  -- its entry is replaced by another address's
  on_replaced : Holds B U c0 (pos 0) F D H (suc R)
  on_replaced = record { bound = omega (arith, i.bound); block = omega (arith, i.block); full = omega arith }

  -- it is named as replaced, whatever became of it: nothing is lost
  still_holds : (n : ℕ) → Holds B U c0 c F D H (R + n)
  still_holds n = record { bound = omega (arith, i.bound, mul-add U R n); block = i.block; full = i.full }

  -- n points of decay
  pub on_decay : (n : ℕ) → Holds B U c0 (decayed_by n c) F (D + n) H R
  on_decay n =
      let f = fell n c in
      record { bound = omega (arith, i.bound, f); block = omega (arith, i.block, f); full = omega (arith, i.full, f) }

  -- what demand 3 asks
  pub holds_bound : F + min (up c0) U ≤ U + dn c0 + D + H + U * R
  holds_bound = omega (arith, i.bound)

  pub holds_blocked : B ≤ up c → B ≤ F + up c0
  holds_blocked h = omega (arith, i.block)

-- it is named n times as replaced
pub on_named : {B U : ℕ} {c0 c d : ℤ} {F D H R : ℕ} → Holds B U c0 c F D H R → (n : ℕ) → StaysOrNamed n c d → Holds B U c0 d F D H (R + n)
on_named i n (inl e) = recast (still_holds i n) e refl refl refl refl
on_named i n (inr (named, e)) = recast (still_holds (on_replaced i) (n - 1)) e refl refl refl (omega (arith, named))
