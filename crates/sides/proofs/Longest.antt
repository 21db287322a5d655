-- "An address belongs to the list with the longest prefix that holds it; at equal length the cell list wins; inside a list the first
-- such entry": what the definitions compute is just that.
-- Assumes nothing.
use mathlib.Core.Path.{◌≡◌, refl, subst}
use mathlib.Core.Bool.{true, false}
use mathlib.Core.List.{List}
use Prim.Native.Nat.{ℕ, zero, suc, ◌+◌, ◌≤◌, ◌<◌}
use native.Mathlib.Omega.{arith}
use lib.Dec.{leb}
use borrow.Author.Tests.{leb-true, leb-false}
use Rattle.laws.proofs.Tests.{Which, below, above, which, is_true, is_false, true_is_not_false, cond_at}
use Rattle.laws.proofs.Search.{Leading}
use Rattle.sides.specs.declared.Best.{Best}
use Rattle.sides.specs.declared.Side.{Side}
use Rattle.sides.specs.declared.Side.TheVariants.{Cell, Plant, Neither}
use Rattle.sides.specs.Lists.{entries, prefix_at, holds, rank_at, rank_of, best_number, best_in, side_of}
use Rattle.sides.proofs.Steps.{leads_all, to_plant, to_cell, to_neither}

-- no entry of the list holds the address
abbrev pub None : List ℕ → ℕ → Type 0
None l address = (j : ℕ) → j < entries l → holds l address j ≡ false

-- each entry that holds the address has a prefix length of at most n, or below n
abbrev pub Upto : List ℕ → ℕ → ℕ → Type 0
Upto l address n = (j : ℕ) → j < entries l → holds l address j ≡ true → prefix_at l j ≤ n

abbrev pub Below : List ℕ → ℕ → ℕ → Type 0
Below l address n = (j : ℕ) → j < entries l → holds l address j ≡ true → prefix_at l j < n

-- entry k holds the address with the longest prefix, and is the first such
pub record Longest (l : List ℕ) (address k : ℕ) : Type 0 where
  pub here : k < entries l
  pub held : holds l address k ≡ true
  pub longest : Upto l address (prefix_at l k)
  pub first : (j : ℕ) → j < k → holds l address j ≡ true → prefix_at l j < prefix_at l k

-- what the number of the best entry says
abbrev pub Best-is : List ℕ → ℕ → ℕ → Type 0
Best-is l address zero = None l address
Best-is l address (suc k) = Longest l address k

module _ (l : List ℕ) (address : ℕ) where
  held_rank : (k : ℕ) → holds l address k ≡ true → rank_at l address k ≡ prefix_at l k + 1
  unfolding rank_at
  held_rank k e = cond_at _ _ e

  other_rank : (k : ℕ) → holds l address k ≡ false → rank_at l address k ≡ 0
  unfolding rank_at
  other_rank k e = cond_at _ _ e

  rank_held : (k : ℕ) → 0 < rank_at l address k → holds l address k ≡ true
  rank_held k h = is_true (holds l address k) (λ e. omega (arith, other_rank k e))

  rank_other : (k : ℕ) → rank_at l address k ≤ 0 → holds l address k ≡ false
  rank_other k h = is_false (holds l address k) (λ e. omega (arith, held_rank k e))

  ranked : (n : ℕ) → Leading leb (rank_of l address) n (suc (entries l)) → Best-is l address n
  unfolding rank_of
  ranked zero s = λ j h. rank_other j (leb-true _ _ (s.most (suc j) (omega arith)))
  ranked (suc k) s =
      let held = rank_held k (leb-false _ _ (s.first 0 (omega arith))) in
      record {
        here = omega (arith, s.passed);
        held = held;
        longest = λ j h e. omega (arith, leb-true (rank_at l address j) (rank_at l address k) (s.most (suc j) (omega arith)), held_rank k held, held_rank j e);
        first = λ j h e. omega (arith, leb-false (rank_at l address k) (rank_at l address j) (s.first (suc j) (omega arith)), held_rank k held, held_rank j e);
      }

  pub best_is : Best-is l address (best_number l address)
  best_is = ranked (best_number l address) (leads_all l address)

  -- the rank of the best entry is 0 where none holds the address, and else one more than its prefix length
  none_of : (n : ℕ) → Best-is l address n → rank_of l address n ≤ 0 → None l address
  unfolding rank_of
  none_of zero b h = b
  none_of (suc k) b h = absurd (omega (arith, held_rank k b.held))

  some_of : (n : ℕ) → Best-is l address n → 0 < rank_of l address n → (k : ℕ) × Longest l address k × (rank_of l address n ≡ prefix_at l k + 1)
  unfolding rank_of
  some_of zero b h = absurd (omega arith)
  some_of (suc k) b h = (k, b, held_rank k b.held)

  -- and is beyond each prefix that holds it
  beyond : (n : ℕ) → Best-is l address n → Below l address (rank_of l address n)
  unfolding rank_of
  beyond zero b j k e = true_is_not_false e (b j k)
  beyond (suc i) b j k e = omega (arith, b.longest j k e, held_rank i b.held)

-- what the side of an address says
abbrev pub Belongs : List ℕ → List ℕ → ℕ → Side → Type 0
Belongs cell plant address Cell = (k : ℕ) × Longest cell address k × Upto plant address (prefix_at cell k)
Belongs cell plant address Plant = (k : ℕ) × Longest plant address k × Below cell address (prefix_at plant k)
Belongs cell plant address Neither = None cell address × None plant address

pub belongs : (cell plant : List ℕ) (address : ℕ) → Belongs cell plant address (side_of cell plant address)
unfolding best_in
belongs cell plant address = first (which c.rank p.rank)
  where
    c : Best
    c = best_in cell address

    p : Best
    p = best_in plant address

    at : (s : Side) → s ≡ side_of cell plant address → Belongs cell plant address s → Belongs cell plant address (side_of cell plant address)
    at s e b = subst (λ (x : Side). Belongs cell plant address x) e b

    then : p.rank ≤ c.rank → Which 0 c.rank → Belongs cell plant address (side_of cell plant address)
    then h (below k) =
        let some = some_of cell address c.number (best_is cell address) k in
        at Cell (to_cell c p Cell Plant Neither h k)
        (some.0, some.1, λ j l e. omega (arith, beyond plant address p.number (best_is plant address) j l e, some.2))
    then h (above k) =
        at Neither (to_neither c p Cell Plant Neither h k)
        (none_of cell address c.number (best_is cell address) k, none_of plant address p.number (best_is plant address) (omega arith))

    first : Which c.rank p.rank → Belongs cell plant address (side_of cell plant address)
    first (below h) =
        let some = some_of plant address p.number (best_is plant address) (omega arith) in
        at Plant (to_plant c p Cell Plant Neither h)
        (some.0, some.1, λ j l e. omega (arith, beyond cell address c.number (best_is cell address) j l e, some.2))
    first (above h) = then h (which 0 c.rank)

-- and it belongs to no other side: so an address is on a side exactly where this says so
module _ (cell plant : List ℕ) (address : ℕ) where
  not_both : Belongs cell plant address Cell → Belongs cell plant address Plant → ⊥
  not_both b c = omega (arith, b.2 c.0 c.1.here c.1.held, c.2 b.0 b.1.here b.1.held)

  same : (s t : Side) → Belongs cell plant address s → Belongs cell plant address t → s ≡ t
  same Cell Cell b c = refl
  same Cell Plant b c = absurd (not_both b c)
  same Cell Neither b c = true_is_not_false b.1.held (c.0 b.0 b.1.here)
  same Plant Cell b c = absurd (not_both c b)
  same Plant Plant b c = refl
  same Plant Neither b c = true_is_not_false b.1.held (c.1 b.0 b.1.here)
  same Neither Cell b c = true_is_not_false c.1.held (b.0 c.0 c.1.here)
  same Neither Plant b c = true_is_not_false c.1.held (b.1 c.0 c.1.here)
  same Neither Neither b c = refl

  pub exactly : (s : Side) → Belongs cell plant address s → side_of cell plant address ≡ s
  exactly s b = same (side_of cell plant address) s (belongs cell plant address) b
