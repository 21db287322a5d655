-- What one answer does to each of the seven totals.
-- Assumes nothing.
use mathlib.Core.Logic.{◌≢◌}
use mathlib.Core.Path.{◌≡◌, refl}
use Prim.Native.Nat.{ℕ, ◌<◌, ◌≤◌}
use native.Mathlib.Omega.{arith}
use borrow.Author.Tests.{le-leb, lt-leb}
use lib.ListN.{length, get_or}
use lib.Seq.{get_or-set_same, get_or-set_other}
use Rattle.std.specs.Prelude.{Some, Err}
use Rattle.verdicts.specs.declared.Verdict.{Verdict}
use Rattle.verdicts.specs.declared.Verdict.TheVariants.{Uncounted, CreditOfOne, CreditOfTwo, FreshContact, Hygiene, Blocked}
use Rattle.rulings.specs.Answers.{verdict_told}
use Rattle.verdicts.specs.Verdicts.{number_of}
use Rattle.tally.specs.declared.Tally.{Tally}
use Rattle.tally.specs.Tally.{one_more, tallied, verdict_numbered}

-- every verdict has a total
pub has_total : (v : Verdict) → number_of v < 7
has_total Uncounted = omega arith
has_total CreditOfOne = omega arith
has_total CreditOfTwo = omega arith
has_total FreshContact = omega arith
has_total Hygiene = omega arith
has_total Blocked = omega arith

-- so a verdict's number is that verdict, and a number over 6 is none
pub is_numbered : (v : Verdict) → verdict_numbered (number_of v) ≡ Some (number_of v)
unfolding verdict_numbered
is_numbered v = rw (le-leb (number_of v) 6 (omega (arith, has_total v)))

module _ (t : Tally) (n : ℕ) where
  pub one_of_seven : n ≤ 6 → tallied t (verdict_numbered n) ≡ tallied t (Some n)
  unfolding verdict_numbered
  one_of_seven h = rw (le-leb n 6 h)

  pub beyond_seven : 6 < n → tallied t (verdict_numbered n) ≡ t
  unfolding verdict_numbered tallied
  beyond_seven h = rw (lt-leb n 6 h)

-- a refusal adds nothing, whatever tells it: one of the nine, or any number
pub refusal_adds_nothing : {E : Type 0} (t : Tally) (r : E) → tallied t (verdict_told (Err r)) ≡ t
unfolding tallied
refusal_adds_nothing t r = refl

-- "stopping at 4,294,967,295"
pub stops : one_more 4294967295 ≡ 4294967295
stops = refl

module _ (t : Tally) (v : ℕ) where
  -- "one 32-bit total per verdict": a verdict's own is one more
  pub one_total : length t.totals ≡ 7 → v < 7 → get_or (tallied t (Some v)).totals v 0 ≡ one_more (get_or t.totals v 0)
  unfolding tallied
  one_total e h = get_or-set_same t.totals v _ 0 (omega (arith, e))

  -- every other is as it was
  pub others_stay : (w : ℕ) → w ≢ v → get_or (tallied t (Some v)).totals w 0 ≡ get_or t.totals w 0
  unfolding tallied
  others_stay w ne = get_or-set_other t.totals v w _ 0 ne
