-- Refusal 1 is given exactly when a setting is outside its range: the limits are not refused if and only if each is in its range.
-- Assumes nothing.
use mathlib.Core.Path.{◌≡◌}
use mathlib.Core.Bool.{false, ◌||◌}
use lib.IntN.{ℤ, pos}
use lib.Signed.{◌≤ℤ◌, lt_z}
use Rattle.laws.specs.Signed.{minus}
use Rattle.laws.proofs.Tests.{or_left, or_right, or_no}
use Rattle.laws.proofs.Signed.{signed, le_in, lt_z_false, lt_z_no}
use Rattle.settings.specs.declared.Limits.{Limits}
use Rattle.settings.specs.Settings.{outside, bad_limits}

pub record Within (least most z : ℤ) : Type 0 where
  pub low : least ≤ℤ z
  pub high : z ≤ℤ most

-- the ranges of document 01
pub record InRange (l : Limits) : Type 0 where
  pub threshold : Within (pos 1) (pos 255) (pos l.threshold)
  pub floor : Within (minus 1000) (pos 0) l.floor
  pub dmiss : Within (pos 1) (pos 3600) (pos l.dmiss)
  pub dconn : Within (pos 1) (pos 62) (pos l.dconn)

within : (least most z : ℤ) → outside least most z ≡ false → Within least most z
within least most z e =
    record {
      low = omega (signed, lt_z_false z least (or_left (lt_z z least) (lt_z most z) e));
      high = omega (signed, lt_z_false most z (or_right (lt_z z least) (lt_z most z) e));
    }

inside : {least most z : ℤ} → Within least most z → outside least most z ≡ false
inside {least} {most} {z} w = or_no (lt_z_no z least (le_in w.low)) (lt_z_no most z (le_in w.high))

pub in_range : (l : Limits) → bad_limits l ≡ false → InRange l
unfolding bad_limits
in_range l e =
    let t = outside (pos 1) (pos 255) (pos l.threshold) in
    let f = outside (minus 1000) (pos 0) l.floor in
    let m = outside (pos 1) (pos 3600) (pos l.dmiss) in
    let c = outside (pos 1) (pos 62) (pos l.dconn) in
    let tfm = or_left (t || f || m) c e in
    let tf = or_left (t || f) m tfm in
    record {
      threshold = within _ _ _ (or_left t f tf);
      floor = within _ _ _ (or_right t f tf);
      dmiss = within _ _ _ (or_right (t || f) m tfm);
      dconn = within _ _ _ (or_right (t || f || m) c e);
    }

pub accepted : (l : Limits) → InRange l → bad_limits l ≡ false
unfolding bad_limits
accepted l r = or_no (or_no (or_no (inside r.threshold) (inside r.floor)) (inside r.dmiss)) (inside r.dconn)
