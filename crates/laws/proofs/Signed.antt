-- A signed number as a difference of two naturals: z is `up z` less `dn z`, one of which is 0. One law for each operation, order
-- and test, each stated in ℕ and linear, so that `omega` finishes what is said in ℤ: `omega (signed, sum_is a b, known fit)`.
-- Assumes nothing.
use mathlib.Core.Path.{◌≡◌, refl, sym, ap, subst}
use mathlib.Core.Bool.{Bool, true, false, cond, not}
use Prim.Native.Nat.{ℕ, zero, suc, ◌+◌, ◌-◌, ◌≤◌, ◌<◌, ◌^◌, zero-le, min}
use native.Mathlib.Nat.{lt_of_le_of_lt}
use native.Mathlib.Omega.{arith}
use lib.Dec.{T, ltb, ltb→lt, lt→ltb, leb→le, le→leb, nltb→le, nleb→lt}
use lib.IntN.{ℤ, pos, negsuc, ◌+ℤ◌, ◌-ℤ◌, neg_ℤ, sub_ℕ, nat_abs}
use lib.Signed.{◌≤ℤ◌, ◌<ℤ◌, le_z, lt_z, non_neg}
use mir.Syntax.{Width}
use mir.Val.{SFits, hbits, to_z, of_z}
use mir.ValLaws.{to_z-of_z}
use Rattle.laws.proofs.Tests.{is_true, is_false}
use Rattle.laws.proofs.Search.{Order}

abbrev pub up : ℤ → ℕ
up (pos n) = n
up (negsuc n) = 0

abbrev pub dn : ℤ → ℕ
dn (pos n) = 0
dn (negsuc n) = suc n

-- ---- equality
pub eq_in : {a b : ℤ} → a ≡ b → up a + dn b ≡ up b + dn a
eq_in {a} {b} e = subst (λ (z : ℤ). up a + dn z ≡ up z + dn a) e refl

pub eq_out : (a b : ℤ) → up a + dn b ≡ up b + dn a → a ≡ b
eq_out (pos a) (pos b) e = ap pos (omega arith)
eq_out (pos a) (negsuc b) e = absurd (omega arith)
eq_out (negsuc a) (pos b) e = absurd (omega arith)
eq_out (negsuc a) (negsuc b) e = ap negsuc (omega arith)

-- ---- the orders, and the tests that decide them
le_in' : (a b : ℤ) → T (le_z a b) → up a + dn b ≤ up b + dn a
le_in' (pos a) (pos b) t = omega (arith, leb→le)
le_in' (pos a) (negsuc b) t = absurd t
le_in' (negsuc a) (pos b) t = omega arith
le_in' (negsuc a) (negsuc b) t = omega (arith, leb→le)

le_out' : (a b : ℤ) → up a + dn b ≤ up b + dn a → T (le_z a b)
le_out' (pos a) (pos b) h = omega (arith, le→leb)
le_out' (pos a) (negsuc b) h = absurd (omega arith)
le_out' (negsuc a) (pos b) h = tt
le_out' (negsuc a) (negsuc b) h = omega (arith, le→leb)

lt_in' : (a b : ℤ) → T (lt_z a b) → up a + dn b < up b + dn a
lt_in' (pos a) (pos b) t = omega (arith, ltb→lt)
lt_in' (pos a) (negsuc b) t = absurd t
lt_in' (negsuc a) (pos b) t = omega arith
lt_in' (negsuc a) (negsuc b) t = omega (arith, ltb→lt)

lt_out' : (a b : ℤ) → up a + dn b < up b + dn a → T (lt_z a b)
lt_out' (pos a) (pos b) h = omega (arith, lt→ltb)
lt_out' (pos a) (negsuc b) h = absurd (omega arith)
lt_out' (negsuc a) (pos b) h = tt
lt_out' (negsuc a) (negsuc b) h = omega (arith, lt→ltb)

pub le_in : {a b : ℤ} → a ≤ℤ b → up a + dn b ≤ up b + dn a
le_in {a} {b} h = le_in' a b h.le

pub le_out : (a b : ℤ) → up a + dn b ≤ up b + dn a → a ≤ℤ b
le_out a b h = record { le = le_out' a b h }

pub lt_in : {a b : ℤ} → a <ℤ b → up a + dn b < up b + dn a
lt_in {a} {b} h = lt_in' a b h.lt

pub lt_out : (a b : ℤ) → up a + dn b < up b + dn a → a <ℤ b
lt_out a b h = record { lt = lt_out' a b h }

-- a test's flag, as a branch leaves it
pub le_z_true : (a b : ℤ) → le_z a b ≡ true → up a + dn b ≤ up b + dn a
le_z_true a b e = le_in' a b (subst T (sym e) tt)

pub lt_z_true : (a b : ℤ) → lt_z a b ≡ true → up a + dn b < up b + dn a
lt_z_true a b e = lt_in' a b (subst T (sym e) tt)

nle : (a b : ℤ) → le_z a b ≡ false → T (lt_z b a)
nle (pos a) (pos b) e = lt→ltb b a (nleb→lt a b (subst (λ (t : Bool). T (not t)) (sym e) tt))
nle (pos a) (negsuc b) e = tt
nle (negsuc a) (pos b) e = absurd (subst T e tt)
nle (negsuc a) (negsuc b) e = lt→ltb a b (nleb→lt b a (subst (λ (t : Bool). T (not t)) (sym e) tt))

nlt : (a b : ℤ) → lt_z a b ≡ false → T (le_z b a)
nlt (pos a) (pos b) e = le→leb b a (nltb→le a b (subst (λ (t : Bool). T (not t)) (sym e) tt))
nlt (pos a) (negsuc b) e = tt
nlt (negsuc a) (pos b) e = absurd (subst T e tt)
nlt (negsuc a) (negsuc b) e = le→leb a b (nltb→le b a (subst (λ (t : Bool). T (not t)) (sym e) tt))

pub le_z_false : (a b : ℤ) → le_z a b ≡ false → up b + dn a < up a + dn b
le_z_false a b e = lt_in' b a (nle a b e)

pub lt_z_false : (a b : ℤ) → lt_z a b ≡ false → up b + dn a ≤ up a + dn b
lt_z_false a b e = le_in' b a (nlt a b e)

-- the test from the fact
pub le_z_yes : (a b : ℤ) → up a + dn b ≤ up b + dn a → le_z a b ≡ true
le_z_yes a b h = is_true (le_z a b) (λ e. omega (arith, le_z_false a b e))

pub le_z_no : (a b : ℤ) → up b + dn a < up a + dn b → le_z a b ≡ false
le_z_no a b h = is_false (le_z a b) (λ e. omega (arith, le_z_true a b e))

pub lt_z_yes : (a b : ℤ) → up a + dn b < up b + dn a → lt_z a b ≡ true
lt_z_yes a b h = is_true (lt_z a b) (λ e. omega (arith, lt_z_false a b e))

pub lt_z_no : (a b : ℤ) → up b + dn a ≤ up a + dn b → lt_z a b ≡ false
lt_z_no a b h = is_false (lt_z a b) (λ e. omega (arith, lt_z_true a b e))

-- the smaller a number, the further it goes
pub by_smallness : Order (λ a b. le_z b a)
by_smallness =
    record {
      same = λ a. le_z_yes a a (omega arith);
      through = λ {a} {b} {c} p q. le_z_yes c a (omega (arith, le_z_true b a p, le_z_true c b q));
      either = λ {a} {b} e. le_z_yes a b (omega (arith, le_z_false b a e));
    }

-- ---- sums and differences
cond_ind : (c : Bool) (x y : ℤ) (P : ℤ → Type 0) → (T c → P x) → (T (not c) → P y) → P (cond c x y)
cond_ind true x y P f g = f tt
cond_ind false x y P f g = g tt

-- what a - b is, for two naturals
sub_law : (a b : ℕ) → up (sub_ℕ a b) + b ≡ dn (sub_ℕ a b) + a
sub_law a b = cond_ind (ltb a b) (negsuc (b - suc a)) (pos (a - b)) (λ z. up z + b ≡ dn z + a)
    (λ t. omega (arith, ltb→lt)) (λ t. omega (arith, nltb→le))

pub sum_is : (a b : ℤ) → up (a +ℤ b) + (dn a + dn b) ≡ dn (a +ℤ b) + (up a + up b)
sum_is (pos a) (pos b) = omega arith
sum_is (pos a) (negsuc b) = omega (arith, sub_law a (suc b))
sum_is (negsuc a) (pos b) = omega (arith, sub_law b (suc a))
sum_is (negsuc a) (negsuc b) = omega arith

pub up_neg : (a : ℤ) → up (neg_ℤ a) ≡ dn a
up_neg (pos zero) = refl
up_neg (pos (suc n)) = refl
up_neg (negsuc n) = refl

pub dn_neg : (a : ℤ) → dn (neg_ℤ a) ≡ up a
dn_neg (pos zero) = refl
dn_neg (pos (suc n)) = refl
dn_neg (negsuc n) = refl

pub difference_is : (a b : ℤ) → up (a -ℤ b) + (dn a + up b) ≡ dn (a -ℤ b) + (up a + dn b)
difference_is a b = omega (arith, sum_is a (neg_ℤ b), up_neg b, dn_neg b)

-- ---- ranges and bits
-- one of the two is 0
pub one_part : (a : ℤ) → min (up a) (dn a) ≡ 0
one_part (pos n) = omega arith
one_part (negsuc n) = omega arith

-- for `z as u32`
pub size : (a : ℤ) → nat_abs a ≡ up a + dn a
size (pos n) = omega arith
size (negsuc n) = omega arith

pub not_neg : (a : ℤ) → dn a ≡ 0 → T (non_neg a)
not_neg (pos n) h = tt
not_neg (negsuc n) h = absurd (omega arith)

pub sfits_out : {w : Width} (z : ℤ) → (up z < 2 ^ hbits w + dn z) × (dn z ≤ 2 ^ hbits w + up z) → SFits w z
sfits_out (pos n) h = record { sfits = omega arith }
sfits_out (negsuc n) h = record { sfits = omega arith }

-- what is known of a signed number that fits its type: its range, and that reading its bits back gives the number
pub record Known (w : Width) (z : ℤ) : Type 0 where
  pub up_back : up (to_z w (of_z w z)) ≡ up z
  pub dn_back : dn (to_z w (of_z w z)) ≡ dn z
  pub top : up z < 2 ^ hbits w
  pub bottom : dn z ≤ 2 ^ hbits w
  pub one : min (up z) (dn z) ≡ 0

sfits_top : (w : Width) (z : ℤ) → SFits w z → (up z < 2 ^ hbits w) × (dn z ≤ 2 ^ hbits w)
sfits_top w (pos n) f = (f.sfits, zero-le)
sfits_top w (negsuc n) f = (lt_of_le_of_lt zero-le f.sfits, f.sfits)

pub known : {w : Width} {z : ℤ} → SFits w z → Known w z
known {w} {z} f =
    record { up_back = ap up (to_z-of_z w z f); dn_back = ap dn (to_z-of_z w z f); top = (sfits_top w z f).0; bottom = (sfits_top w z f).1; one = one_part z }

-- what `omega` is handed to read and to prove what is said in ℤ
pub ruleset signed = (arith, eq_in, eq_out, le_in, le_out, lt_in, lt_out, le_z_true, le_z_false, lt_z_true, lt_z_false, le_z_yes, le_z_no, lt_z_yes, lt_z_no)
