-- Laws of `every`, `some_below`, `first_below` and `foremost`, and the invariant of every loop that searches.
-- Assumes nothing.
use mathlib.Core.Path.{◌≡◌, refl, sym, ap, subst, ◌∙◌}
use mathlib.Core.Bool.{Bool, true, false, ◌&&◌, ◌||◌, cond}
use Prim.Native.Nat.{ℕ, zero, suc, ◌+◌, ◌≤◌, ◌<◌, zero-le, suc-le-suc}
use native.Mathlib.Nat.{not-suc-le-zero, le_of_suc-le-suc}
use native.Mathlib.Numerals.{add-one}
use native.Mathlib.Decide.{dec_lt}
use native.Mathlib.Omega.{arith}
use lib.Dec.{leb}
use borrow.Author.Count.{below_none, below_more}
use borrow.Author.Tests.{le-leb, leb-true, leb-false}
use Rattle.laws.specs.Search.{every, some_below, first_below, foremost}
use Rattle.laws.proofs.Tests.{true_is_not_false, is_false, and_left, and_right, and_yes, or_yes, cond_at}

-- ---- every
pub every_none : (p : ℕ → Bool) → every 0 p ≡ true
unfolding every
every_none p = refl

-- a loop that tests one more
pub every_next : (n : ℕ) (p : ℕ → Bool) → every (n + 1) p ≡ (p n && every n p)
unfolding every
every_next n p = rw add-one refl

pub every_more : (n : ℕ) (p : ℕ → Bool) → every n p ≡ true → p n ≡ true → every (n + 1) p ≡ true
every_more n p e h = every_next n p ∙ and_yes h e

pub every_at : (n : ℕ) (p : ℕ → Bool) → every n p ≡ true → (k : ℕ) → k < n → p k ≡ true
unfolding every
every_at zero p e k h = absurd (not-suc-le-zero h)
every_at (suc n) p e k h =
    elim (dec_lt k n) [
      | yes l ↦ every_at n p (and_right (p n) (every n p) e) k l
      | no l ↦ let same : k ≡ n = omega arith in rw same (and_left (p n) (every n p) e)
    ]

pub every_is : (n : ℕ) (p : ℕ → Bool) → ((k : ℕ) → k < n → p k ≡ true) → every n p ≡ true
unfolding every
every_is zero p h = refl
every_is (suc n) p h = and_yes (h n (omega arith)) (every_is n p (λ k l. h k (omega arith)))

pub every_not : (n : ℕ) (p : ℕ → Bool) (k : ℕ) → k < n → p k ≡ false → every n p ≡ false
every_not n p k h e = is_false (every n p) (λ t. true_is_not_false (every_at n p t k h) e)

-- a loop that tests all of them: its invariant, after i turns
pub record Testing (n : ℕ) (p : ℕ → Bool) (t : Bool) (i : ℕ) : Type 0 where
  pub within : i ≤ n
  pub is : t ≡ every i p

pub test_start : (n : ℕ) (p : ℕ → Bool) → Testing n p true 0
test_start n p = record { within = zero-le; is = sym (every_none p) }

pub test_turn : {n : ℕ} {p : ℕ → Bool} {t : Bool} {i : ℕ} → Testing n p t i → i < n → Testing n p (p i && t) (i + 1)
test_turn {n} {p} {t} {i} s h = record { within = omega arith; is = ap (λ (b : Bool). p i && b) s.is ∙ sym (every_next i p) }

pub test_end : {n : ℕ} {p : ℕ → Bool} {t : Bool} {i : ℕ} → Testing n p t i → n ≤ i → t ≡ every n p
test_end {n} {p} {t} {i} s h = let e : i ≡ n = omega (arith, s.within) in s.is ∙ ap (λ (k : ℕ). every k p) e

-- ---- some
-- a number at which it passes
pub record Passing (n : ℕ) (p : ℕ → Bool) : Type 0 where
  pub number : ℕ
  pub below : number < n
  pub passes : p number ≡ true

pub some_is : (n : ℕ) (p : ℕ → Bool) → Passing n p → some_below n p ≡ true
unfolding some_below
some_is zero p at = absurd (not-suc-le-zero at.below)
some_is (suc n) p at =
    elim (dec_lt at.number n) [
      | yes l ↦ or_yes (p n) (some_is n p (record { number = at.number; below = l; passes = at.passes }))
      | no l ↦ let same : n ≡ at.number = omega (arith, at.below) in ap (λ (b : Bool). b || some_below n p) (ap p same ∙ at.passes)
    ]

pub some_at : (n : ℕ) (p : ℕ → Bool) → some_below n p ≡ true → Passing n p
unfolding some_below
some_at zero p e = true_is_not_false e refl
some_at (suc n) p e = go (p n) refl (some_at n p)
  where
    go : (t : Bool) → p n ≡ t → (some_below n p ≡ true → Passing n p) → Passing (suc n) p
    go true h others = record { number = n; below = omega arith; passes = h }
    go false h others =
        let rest = others (sym (ap (λ (b : Bool). b || some_below n p) h) ∙ e) in
        record { number = rest.number; below = omega (arith, rest.below); passes = rest.passes }

pub some_none : (n : ℕ) (p : ℕ → Bool) → ((k : ℕ) → k < n → p k ≡ false) → some_below n p ≡ false
some_none n p h = is_false (some_below n p) (λ t. let at = some_at n p t in true_is_not_false at.passes (h at.number at.below))

-- ---- the first
-- the test fails below k and passes at k: k is the first
pub first_at : (n : ℕ) (p : ℕ → Bool) (k : ℕ) → k < n → ((j : ℕ) → j < k → p j ≡ false) → p k ≡ true → first_below n p ≡ k
unfolding first_below
first_at zero p k h low e = absurd (not-suc-le-zero h)
first_at (suc n) p zero h low e = cond_at 0 _ e
first_at (suc n) p (suc k) h low e =
    cond_at 0 _ (low 0 (suc-le-suc zero-le))
    ∙ ap suc (first_at n (λ j. p (suc j)) k (le_of_suc-le-suc h) (λ j l. low (suc j) (suc-le-suc l)) e)

-- it fails everywhere
pub first_none : (n : ℕ) (p : ℕ → Bool) → ((j : ℕ) → j < n → p j ≡ false) → first_below n p ≡ n
unfolding first_below
first_none zero p low = refl
first_none (suc n) p low =
    cond_at 0 _ (low 0 (suc-le-suc zero-le)) ∙ ap suc (first_none n (λ j. p (suc j)) (λ j l. low (suc j) (suc-le-suc l)))

-- what is known of the first
pub record First (n : ℕ) (p : ℕ → Bool) (k : ℕ) : Type 0 where
  pub most : k ≤ n
  pub before : (j : ℕ) → j < k → p j ≡ false
  pub holds : k < n → p k ≡ true

pub first_is : (n : ℕ) (p : ℕ → Bool) → First n p (first_below n p)
unfolding first_below
first_is zero p =
    record { most = zero-le; before = λ j l. absurd (not-suc-le-zero l); holds = λ l. absurd (not-suc-le-zero l) }
first_is (suc n) p = go (p 0) refl (first_is n (λ k. p (suc k)))
  where
    rest : ℕ
    rest = first_below n (λ k. p (suc k))

    go : (t : Bool) → p 0 ≡ t → First n (λ k. p (suc k)) rest → First (suc n) p (cond t 0 (suc rest))
    go true e r = record { most = zero-le; before = λ j l. absurd (not-suc-le-zero l); holds = λ l. e }
    go false e r = record { most = suc-le-suc r.most; before = low; holds = λ l. r.holds (le_of_suc-le-suc l) }
      where
        low : (j : ℕ) → j < suc rest → p j ≡ false
        low zero l = e
        low (suc j) l = r.before j (le_of_suc-le-suc l)

-- two tests that agree below n have the same first
pub first_same : (n : ℕ) (p q : ℕ → Bool) → ((j : ℕ) → j < n → p j ≡ q j) → first_below n p ≡ first_below n q
unfolding first_below
first_same zero p q h = refl
first_same (suc n) p q h =
    λ i. cond (h 0 (suc-le-suc zero-le) i) 0 (suc (first_same n (λ k. p (suc k)) (λ k. q (suc k)) (λ j l. h (suc j) (suc-le-suc l)) i))

-- a loop that looks for the first: its invariant, after i turns
pub record Searching (n : ℕ) (p : ℕ → Bool) (i : ℕ) : Type 0 where
  pub within : i ≤ n
  pub none : (j : ℕ) → j < i → p j ≡ false

pub search_start : (n : ℕ) (p : ℕ → Bool) → Searching n p 0
search_start n p = record { within = zero-le; none = below_none _ }

pub search_turn : {n : ℕ} {p : ℕ → Bool} {i : ℕ} → Searching n p i → i < n → p i ≡ false → Searching n p (i + 1)
search_turn s h e = record { within = omega arith; none = below_more _ _ s.none e }

pub search_hit : {n : ℕ} {p : ℕ → Bool} {i : ℕ} → Searching n p i → i < n → p i ≡ true → i ≡ first_below n p
search_hit {n} {p} {i} s h e = sym (first_at n p i h s.none e)

pub search_end : {n : ℕ} {p : ℕ → Bool} {i : ℕ} → Searching n p i → n ≤ i → i ≡ first_below n p
search_end {n} {p} {i} s h =
    let e : i ≡ n = omega arith in
    e ∙ sym (first_none n p (λ j l. s.none j (omega arith)))

-- ---- the foremost
-- `within` is an order in which any two values compare
pub record Order {A : Type 0} (within : A → A → Bool) : Type 0 where
  pub same : (a : A) → within a a ≡ true
  pub through : {a b c : A} → within a b ≡ true → within b c ≡ true → within a c ≡ true
  pub either : {a b : A} → within a b ≡ false → within b a ≡ true

-- numbers, by size
pub by_size : Order leb
by_size =
    record {
      same = λ a. le-leb a a (omega arith);
      through = λ {a} {b} {c} p q. le-leb a c (omega (arith, leb-true a b p, leb-true b c q));
      either = λ {a} {b} e. le-leb b a (omega (arith, leb-false a b e));
    }

-- a loop that looks for the foremost: of the first i, none goes beyond `best`, and each one before it falls short of it
pub record Leading {A : Type 0} (within : A → A → Bool) (f : ℕ → A) (best i : ℕ) : Type 0 where
  pub passed : best < i
  pub most : (j : ℕ) → j < i → within (f j) (f best) ≡ true
  pub first : (j : ℕ) → j < best → within (f best) (f j) ≡ false

module _ {A : Type 0} {within : A → A → Bool} (o : Order within) (f : ℕ → A) where
  pub lead_start : Leading within f 0 1
  lead_start = record { passed = omega arith; most = below_more _ 0 (below_none _) (o.same (f 0)); first = below_none _ }

  -- a turn that finds a value beyond the best so far, and one that does not
  pub lead_found : {best i : ℕ} → Leading within f best i → within (f i) (f best) ≡ false → Leading within f i (i + 1)
  lead_found {best} {i} s e =
      record {
        passed = omega arith;
        most = below_more _ i (λ j l. o.through (s.most j l) (o.either e)) (o.same (f i));
        first = λ j l. is_false (within (f i) (f j)) (λ t. true_is_not_false (o.through t (s.most j l)) e);
      }

  pub lead_kept : {best i : ℕ} → Leading within f best i → within (f i) (f best) ≡ true → Leading within f best (i + 1)
  lead_kept {best} {i} s e = record { passed = omega (arith, s.passed); most = below_more _ i s.most e; first = s.first }

  pub lead_end : {best i : ℕ} (n : ℕ) → Leading within f best i → i ≡ n → best ≡ foremost within f n
  unfolding foremost
  lead_end {best} {i} n s e =
      let low : best < n = omega (arith, s.passed) in
      sym
      (first_at n (λ k. every n (λ j. within (f j) (f k))) best low
      (λ j l. every_not n (λ k. within (f k) (f j)) best low (s.first j l))
      (every_is n (λ j. within (f j) (f best)) (λ j l. s.most j (omega arith))))

  -- there is a foremost of the first n and one more
  pub lead_of : (n : ℕ) → (best : ℕ) × Leading within f best (suc n)
  lead_of zero = (0, lead_start)
  lead_of (suc n) = next (lead_of n).0 (lead_of n).1 (within (f (suc n)) (f (lead_of n).0)) refl
    where
      next : (best : ℕ) → Leading within f best (suc n) → (t : Bool) → within (f (suc n)) (f best) ≡ t → (b : ℕ) × Leading within f b (suc (suc n))
      next best s true e = (best, rw add-one at (lead_kept s e))
      next best s false e = (suc n, rw add-one at (lead_found s e))

  -- so the foremost leads
  pub lead_is : (n : ℕ) → Leading within f (foremost within f (suc n)) (suc n)
  lead_is n = subst (λ (b : ℕ). Leading within f b (suc n)) (lead_end (suc n) (lead_of n).1 refl) (lead_of n).1
