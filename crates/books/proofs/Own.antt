-- An address's account under a packet of its own: the count that its verdict writes, if it writes one, keeps the account.
-- Assumes nothing.
use mathlib.Core.Bool.{true, cond}
use mathlib.Core.Path.{◌≡◌, refl}
use Prim.Native.Nat.{ℕ, suc, ◌+◌, ◌*◌, ◌≤◌, ◌<◌}
use native.Mathlib.Nat.{add-mul}
use native.Mathlib.Omega.{arith}
use lib.IntN.{ℤ}
use Rattle.std.specs.Prelude.{Option, None, Some}
use Rattle.laws.proofs.Signed.{up, dn}
use Rattle.verdicts.specs.declared.Verdict.{Verdict}
use Rattle.verdicts.specs.declared.Verdict.TheVariants.{Uncounted, CreditOfOne, CreditOfTwo, FreshContact, Hygiene, Blocked}
use Rattle.rulings.specs.Rulings.{count_written, counted_by}
use Rattle.history.specs.Fresh.{credit_of}
use Rattle.books.proofs.Account.{Holds, recast, raised, lowered, on_fresh, on_credit, on_attempt}
use Rattle.books.proofs.Slots.{told_of, is_four, is_six}

-- an attempt writes no lower count
abbrev pub NoLower : ℤ → Option ℤ → Type 0
NoLower c attempted = (d : ℤ) → attempted ≡ Some d → (up c ≤ up d) × (dn d ≤ dn c)

module _ {B U W : ℕ} (floor : ℤ) (point weight : ℕ) (room : B ≤ U) (wide : B + W ≤ suc U) (bits : U ≤ 32767) (light : weight ≤ W)
    (floor_low : up floor ≡ 0) (floor_near : dn floor < 32768) {c0 c : ℤ} {F D R : ℕ} (H : ℕ) (i : Holds B U c0 c F D (H * point) R) where
  -- nothing is counted
  quiet : Holds B U c0 c (F + 0) D ((H + 0) * point) R
  quiet = recast i refl (omega arith) refl (omega (arith, add-mul H 0 point)) refl

  -- the count after a verdict
  abbrev after : Option ℤ → Verdict → ℤ
  after attempted verdict = (counted_by c (count_written floor point weight attempted verdict c)).count

  pub own_account : (attempted : Option ℤ) (verdict : Verdict) → (is_four verdict ≡ true → up c < B) → (is_six verdict ≡ true → B ≤ up c) → NoLower c attempted
      → Holds B U c0 (after attempted verdict) (F + cond (is_four verdict) weight 0) D ((H + credit_of (told_of verdict)) * point) R
  unfolding count_written
  own_account attempted Uncounted four six higher = quiet
  own_account attempted CreditOfOne four six higher =
      recast (on_credit i floor_near (lowered point floor c floor_low)) refl (omega arith) refl (omega (arith, add-mul H 1 point)) refl
  own_account attempted CreditOfTwo four six higher =
      recast (on_credit i floor_near (lowered (2 * point) floor c floor_low)) refl (omega arith) refl (omega (arith, add-mul H 2 point)) refl
  own_account attempted FreshContact four six higher =
      let low = four refl in
      recast (on_fresh i wide light low (raised weight c (omega arith))) refl refl refl (omega (arith, add-mul H 0 point)) refl
  own_account attempted Hygiene four six higher = quiet
  own_account None Blocked four six higher = quiet
  own_account (Some d) Blocked four six higher =
      recast (on_attempt i (six refl) room (higher d refl).0 (higher d refl).1) refl (omega arith) refl (omega (arith, add-mul H 0 point)) refl
