-- What refusal 2 leaves: tables that are not refused have 2 ^ a records and four times 2 ^ b entries, within their limits; and such
-- tables are not refused.
-- Assumes nothing.
use mathlib.Core.Bool.{Bool, true, false, not, ◌||◌, or-true}
use mathlib.Core.List.{map}
use mathlib.Core.Path.{◌≡◌, refl, sym, ap, ◌∙◌}
use Prim.Native.Nat.{ℕ, zero, suc, ◌+◌, ◌*◌, ◌^◌, ◌≤◌, ◌<◌}
use native.Mathlib.Omega.{arith}
use lib.Dec.{eqb}
use borrow.Author.Tests.{eqb-true, eq-eqb, not-false}
use Rattle.laws.proofs.Tests.{or_left, or_right, or_no, true_is_not_false, Which, below, above, which}
use Rattle.laws.specs.Choice.{among}
use Rattle.tables.specs.Sizes.{powers_from, record_sizes, entry_sizes, bad_sizes}

-- n is a power of two, with an exponent from k on and below k + more
pub record Power (k more n : ℕ) : Type 0 where
  pub exponent : ℕ
  pub least : k ≤ exponent
  pub most : exponent < k + more
  pub is : n ≡ 2 ^ exponent

-- the test is passed by f of such powers alone, and by all of them
module _ (f : ℕ → ℕ) where
  some_power : (k more n : ℕ) → among n (map f (powers_from k more)) ≡ true → (p : ℕ) × Power k more p × (n ≡ f p)
  some_power k zero n e = true_is_not_false e refl
  some_power k (suc more) n e = go (eqb n (f (2 ^ k))) refl (some_power (suc k) more n)
    where
      go : (t : Bool) → eqb n (f (2 ^ k)) ≡ t → (among n (map f (powers_from (suc k) more)) ≡ true → (p : ℕ) × Power (suc k) more p × (n ≡ f p))
          → (p : ℕ) × Power k (suc more) p × (n ≡ f p)
      go true s rest = (2 ^ k, record { exponent = k; least = omega arith; most = omega arith; is = refl }, eqb-true _ _ s)
      go false s rest =
          let r = rest (ap (λ (t : Bool). t || among n (map f (powers_from (suc k) more))) (sym s) ∙ e) in
          (r.0, record { exponent = r.1.exponent; least = omega (arith, r.1.least); most = omega (arith, r.1.most); is = r.1.is }, r.2)

  each_power : (k more a : ℕ) → k ≤ a → a < k + more → among (f (2 ^ a)) (map f (powers_from k more)) ≡ true
  each_power k zero a l h = absurd (omega arith)
  each_power k (suc more) a l h = go (which k a) (λ m. each_power (suc k) more a m (omega arith))
    where
      rest : ℕ → Bool
      rest n = among n (map f (powers_from (suc k) more))

      go : Which k a → (k < a → rest (f (2 ^ a)) ≡ true) → among (f (2 ^ a)) (map f (powers_from k (suc more))) ≡ true
      go (below m) r = ap (λ (t : Bool). eqb (f (2 ^ a)) (f (2 ^ k)) || t) (r m) ∙ or-true (eqb (f (2 ^ a)) (f (2 ^ k)))
      go (above m) r =
          let same : a ≡ k = omega arith in
          ap (λ (t : Bool). t || rest (f (2 ^ a))) (eq-eqb _ _ (ap (λ (n : ℕ). f (2 ^ n)) same))

-- what the sizes of a gateway's tables are
pub record Sized (records tags counts : ℕ) : Type 0 where
  pub record_count : Power 4 17 records
  pub lines : ℕ
  pub line_count : Power 0 19 lines
  pub four_each : tags ≡ 4 * lines
  pub alike : counts ≡ tags

pub sized : (records tags counts : ℕ) → bad_sizes records tags counts ≡ false → Sized records tags counts
unfolding bad_sizes
sized records tags counts e =
    let r = not (among records record_sizes) in
    let t = not (among tags entry_sizes) in
    let rt = or_left (r || t) (not (eqb tags counts)) e in
    let some = some_power (λ n. n) 4 17 records (not-false _ (or_left r t rt)) in
    let entries = some_power (λ lines. 4 * lines) 0 19 tags (not-false _ (or_right r t rt)) in
    record {
      record_count = rw some.2 some.1;
      lines = entries.0;
      line_count = entries.1;
      four_each = entries.2;
      alike = sym (eqb-true _ _ (not-false _ (or_right (r || t) (not (eqb tags counts)) e)));
    }

pub accepted : (records tags counts : ℕ) → Sized records tags counts → bad_sizes records tags counts ≡ false
unfolding bad_sizes
accepted records tags counts s =
    let p = s.record_count in
    let q = s.line_count in
    let is : tags ≡ 4 * 2 ^ q.exponent = s.four_each ∙ ap (λ (n : ℕ). 4 * n) q.is in
    or_no
    (or_no
    (ap not (ap (λ (n : ℕ). among n record_sizes) p.is ∙ each_power (λ n. n) 4 17 p.exponent p.least p.most))
    (ap not (ap (λ (n : ℕ). among n entry_sizes) is ∙ each_power (λ lines. 4 * lines) 0 19 q.exponent q.least q.most)))
    (ap not (eq-eqb _ _ (sym s.alike)))
