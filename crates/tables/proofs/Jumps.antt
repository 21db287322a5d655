-- Passing a gap at once is passing it by way of any moment between, and so second by second.
-- Assumes nothing.
use mathlib.Core.List.{List, map}
use mathlib.Core.Path.{◌≡◌, refl, sym, ap, ◌∙◌}
use Prim.Native.Nat.{ℕ, zero, suc, ◌+◌, ◌-◌, ◌*◌, ◌/◌, ◌%◌, ◌≤◌, max}
use native.Mathlib.Nat.{mod-zero, div-zero, add-mul, zero-mul}
use native.Mathlib.Omega.{arith}
use lib.Dec.{eqb}
use lib.IntN.{ℤ}
use lib.ListN.{length, length-map}
use borrow.Author.Tests.{ne_eqb}
use Rattle.laws.proofs.Sweep.{map_none, map_added}
use Rattle.laws.proofs.Tests.{Which, below, above, which}
use Rattle.laws.proofs.Times.{times_none, times_more, multiples, none_of, quotient_up}
use Rattle.laws.specs.Times.{times, how_many}
use Rattle.counts.proofs.Counts.{decayed_none, decayed_add}
use Rattle.counts.specs.Counts.{decayed_by}
use Rattle.records.proofs.Ages.{aged_none, aged_add}
use Rattle.records.specs.Records.{aged_by}
use Rattle.tables.specs.Clock.{multiples_passed, Timed, timed_of, time_passed}

-- ---- how many boundaries
-- none of 0
pub passed_of_none : (old new : ℕ) → multiples_passed 0 old new ≡ 0
unfolding multiples_passed
passed_of_none old new =
    none_of (new - old) (λ i. eqb ((old + suc i) % 0) 0)
    (λ i l. ap (λ (n : ℕ). eqb n 0) (mod-zero (old + suc i)) ∙ ne_eqb (old + suc i) 0 (λ (q : old + suc i ≡ 0). omega arith))

-- as many as the quotient grows
pub passed_is : (k old new : ℕ) → old ≤ new → multiples_passed k old new ≡ new / k - old / k
unfolding multiples_passed
passed_is k old new h = go (which 0 k)
  where
    there : old + (new - old) ≡ new
    there = omega arith

    go : Which 0 k → how_many (new - old) (λ i. eqb ((old + suc i) % k) 0) ≡ new / k - old / k
    go (below l) = omega (arith, multiples k old (new - old) l, ap (λ (n : ℕ). n / k) there)
    go (above l) =
        let e : k ≡ 0 = omega arith in
        rw (e, div-zero new) (passed_of_none old new ∙ omega arith)

-- none where the time does not go on
pub passed_none : (k old new : ℕ) → new ≤ old → multiples_passed k old new ≡ 0
unfolding multiples_passed
passed_none k old new h =
    let e : new - old ≡ 0 = omega arith in
    ap (λ (n : ℕ). how_many n (λ i. eqb ((old + suc i) % k) 0)) e ∙ none_of 0 _ (λ i l. absurd (omega arith))

-- those up to a moment between, and those after it
pub passed_add : (k a b c : ℕ) → a ≤ b → b ≤ c → multiples_passed k a c ≡ multiples_passed k a b + multiples_passed k b c
passed_add k a b c h l =
    omega (arith, passed_is k a b h, passed_is k b c l, passed_is k a c (omega arith), quotient_up k h, quotient_up k l)

-- "Running one tick for a gap of two hours" is an easy slip: it has 120 minute boundaries, wherever it starts
pub two_hours : (old : ℕ) → multiples_passed 60 old (old + 7200) ≡ 120
two_hours old = omega (arith, passed_is 60 old (old + 7200) (omega arith))

-- ---- points
-- a count after so many multiples, of which each takes a point
abbrev decays : ℕ → ℕ → ℤ → ℤ
decays point multiples = decayed_by (multiples * point)

-- none leave it, and several add up
decays_none : (point : ℕ) (z : ℤ) → decays point 0 z ≡ z
decays_none point z = ap (λ (n : ℕ). decayed_by n z) (zero-mul point) ∙ decayed_none z

decays_add : (point m n : ℕ) (z : ℤ) → decays point (m + n) z ≡ decays point n (decays point m z)
decays_add point m n z = ap (λ (k : ℕ). decayed_by k z) (add-mul m n point) ∙ decayed_add (m * point) (n * point) z

-- ---- both tables
-- no boundary: every record and every count as it was
not_aged : (d m : ℕ) → m ≡ 0 → (xs : List ℕ) → map (aged_by d m) xs ≡ xs
not_aged d = map_none (aged_by d) (aged_none d)

not_decayed : (point m : ℕ) → m ≡ 0 → (zs : List ℤ) → map (decays point m) zs ≡ zs
not_decayed point = map_none (decays point) (decays_none point)

module _ (point dmiss dconn : ℕ) where
  pub clock_is : (time : ℕ) (m : Timed) → (time_passed point dmiss dconn time m).clock ≡ max m.clock time
  unfolding time_passed
  clock_is time m = refl

  -- no table gets longer or shorter
  pub records_stay : (time : ℕ) (m : Timed) → length (time_passed point dmiss dconn time m).records ≡ length m.records
  unfolding time_passed
  records_stay time m = length-map m.records (aged_by dconn (multiples_passed 60 m.clock time))

  pub counts_stay : (time : ℕ) (m : Timed) → length (time_passed point dmiss dconn time m).counts ≡ length m.counts
  unfolding time_passed
  counts_stay time m = length-map m.counts (decays point (multiples_passed dmiss m.clock time))

  -- a time that is not after the clock changes nothing
  pub stands : (time : ℕ) (m : Timed) → time ≤ m.clock → time_passed point dmiss dconn time m ≡ m
  unfolding time_passed
  stands time m h = λ i. timed_of
      (not_aged dconn (multiples_passed 60 m.clock time) (passed_none 60 m.clock time h) m.records i)
      (not_decayed point (multiples_passed dmiss m.clock time) (passed_none dmiss m.clock time h) m.counts i)
      (last i)
    where
      last : max m.clock time ≡ m.clock
      last = omega arith

  -- one that is moves the clock there, after a sweep of each table
  pub moves : {time minutes multiples : ℕ} (m : Timed) {records : List ℕ} {counts : List ℤ} → m.clock ≤ time
      → minutes ≡ multiples_passed 60 m.clock time → multiples ≡ multiples_passed dmiss m.clock time
      → records ≡ map (aged_by dconn minutes) m.records → counts ≡ map (decayed_by (multiples * point)) m.counts
      → timed_of records counts time ≡ time_passed point dmiss dconn time m
  unfolding time_passed
  moves {time} m h p q r s =
      let last : time ≡ max m.clock time = omega arith in
      (λ i. timed_of (r i) (s i) (last i))
      ∙ (λ i. timed_of (map (aged_by dconn (p i)) m.records) (map (decays point (q i)) m.counts) (max m.clock time))

  -- "Without a boundary only the clock changes."
  pub only_the_clock : (time : ℕ) (m : Timed) → multiples_passed 60 m.clock time ≡ 0 → multiples_passed dmiss m.clock time ≡ 0
      → time_passed point dmiss dconn time m ≡ timed_of m.records m.counts (max m.clock time)
  unfolding time_passed
  only_the_clock time m p q = λ i. timed_of (not_aged dconn _ p m.records i) (not_decayed point _ q m.counts i) (max m.clock time)

  -- a jump is two jumps by way of any moment between
  pub by_way_of : (between time : ℕ) (m : Timed) → m.clock ≤ between → between ≤ time
      → time_passed point dmiss dconn time m ≡ time_passed point dmiss dconn time (time_passed point dmiss dconn between m)
  unfolding time_passed
  by_way_of between time m h l = λ i. timed_of
      (map_added (aged_by dconn) (aged_add dconn) _ _ _ (split 60) m.records i)
      (map_added (decays point) (decays_add point) _ _ _ (split dmiss) m.counts i)
      (last i)
    where
      there : max m.clock between ≡ between
      there = omega arith

      split : (k : ℕ) → multiples_passed k m.clock time
          ≡ multiples_passed k m.clock between + multiples_passed k (max m.clock between) time
      split k = rw there (passed_add k m.clock between time h l)

      last : max m.clock time ≡ max (max m.clock between) time
      last = omega arith

  -- one second
  abbrev pub a_second : Timed → Timed
  a_second m = time_passed point dmiss dconn (suc m.clock) m

  -- demand 2: "Passing a gap in one jump leaves the same state as passing it second by second."
  pub second_by_second : (gap : ℕ) (m : Timed) → times gap a_second m ≡ time_passed point dmiss dconn (m.clock + gap) m
  second_by_second zero m =
      times_none a_second m ∙ sym (stands (m.clock + 0) m (omega arith))
  second_by_second (suc gap) m =
      let before = second_by_second gap m in
      times_more a_second gap m
      ∙ ap a_second before
      ∙ ap (λ (t : ℕ). time_passed point dmiss dconn t (time_passed point dmiss dconn (m.clock + gap) m)) (next gap)
      ∙ sym (by_way_of (m.clock + gap) (m.clock + suc gap) m (omega arith) (omega arith))
    where
      next : (g : ℕ) → suc (time_passed point dmiss dconn (m.clock + g) m).clock ≡ m.clock + suc g
      next g = omega (arith, clock_is (m.clock + g) m)
