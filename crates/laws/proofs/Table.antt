-- A table's rule: one test that antt computes over the whole table, and one law that turns it into the rule at each entry; for tables of
-- numbers that undo each other, and for two tables of anything that agree.
-- Assumes nothing.
use mathlib.Core.Path.{◌≡◌, sym, ap, ◌∙◌}
use mathlib.Core.Bool.{Bool, true, ◌&&◌}
use Prim.Native.Nat.{ℕ, ◌<◌}
use lib.Dec.{ltb, eqb}
use borrow.Author.Tests.{ltb-true, eqb-true}
use Rattle.laws.specs.Search.{every}
use Rattle.laws.proofs.Tests.{and_left, and_right}
use Rattle.laws.proofs.Search.{every_at}

-- of the numbers below m: f stays below m, and g takes back what f does
pub record Undone (m : ℕ) (f g : ℕ → ℕ) : Type 0 where
  pub small : (n : ℕ) → n < m → f n < m
  pub back : (n : ℕ) → n < m → g (f n) ≡ n

abbrev taken : ℕ → (ℕ → ℕ) → (ℕ → ℕ) → ℕ → Bool
taken m f g n = ltb (f n) m && eqb (g (f n)) n

-- the test, over a table of rows: each row of f is undone by that row of g
unfoldable pub undoes : ℕ → ℕ → (ℕ → ℕ → ℕ) → (ℕ → ℕ → ℕ) → Bool
undoes rows m f g = every rows (λ r. every m (taken m (f r) (g r)))

pub undone : (rows m : ℕ) (f g : ℕ → ℕ → ℕ) → undoes rows m f g ≡ true → (r : ℕ) → r < rows → Undone m (f r) (g r)
unfolding undoes
undone rows m f g e r h =
    let row = every_at rows (λ k. every m (taken m (f k) (g k))) e r h in
    let at = every_at m (taken m (f r) (g r)) row in
    record {
      small = λ n l. ltb-true _ _ (and_left (ltb (f r n) m) (eqb (g r (f r n)) n) (at n l));
      back = λ n l. eqb-true _ _ (and_right (ltb (f r n) m) (eqb (g r (f r n)) n) (at n l));
    }

-- two functions have equal values below m where a test finds the numbers of their values equal, and a number has one value
pub agree : {A : Type 0} (number : A → ℕ) (numbered : ℕ → A) → ((a : A) → numbered (number a) ≡ a) → (m : ℕ) (f g : ℕ → A)
    → every m (λ n. eqb (number (f n)) (number (g n))) ≡ true → (n : ℕ) → n < m → f n ≡ g n
agree number numbered back m f g e n h =
    sym (back (f n)) ∙ ap numbered (eqb-true _ _ (every_at m (λ k. eqb (number (f k)) (number (g k))) e n h)) ∙ back (g n)
