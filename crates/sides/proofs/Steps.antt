-- Laws of `rank_at`, `best_in` and `decided`, for the proofs of the code: each from a fact that a branch leaves.
-- Assumes nothing.
use mathlib.Core.Bool.{Bool, true, false, cond}
use mathlib.Core.Path.{◌≡◌, refl, sym, ap, subst, ◌∙◌}
use mathlib.Core.List.{List}
use Prim.Native.Nat.{ℕ, zero, suc, ◌+◌, ◌*◌, ◌-◌, ◌/◌, ◌^◌, ◌≤◌, ◌<◌}
use native.Mathlib.Omega.{arith}
use native.Mathlib.Numerals.{add-one}
use lib.Dec.{leb, ltb}
use lib.ListN.{length}
use borrow.Author.Tests.{lt-ltb, le-ltb, ltb-true, lt-leb, le-leb, eq-eqb, ne_eqb}
use Rattle.laws.proofs.Tests.{Which, below, above, which}
use Rattle.laws.proofs.Search.{Leading, by_size, lead_start, lead_found, lead_kept, lead_end, lead_is}
use Rattle.sides.specs.declared.Best.{Best}
use Rattle.sides.specs.declared.Side.{Side}
use Rattle.sides.specs.declared.Side.TheVariants.{Cell, Plant, Neither}
use Rattle.sides.specs.Lists.{entries, net_at, prefix_at, holds, rank_at, rank_of, best_number, better, best_in, decided, side_by}

-- ---- the rank of an entry
module _ (l : List ℕ) (address k : ℕ) where
  pub too_long : 32 < prefix_at l k → 0 ≡ rank_at l address k
  unfolding rank_at holds
  too_long h = rw (lt-leb _ _ h)

  module _ (n : ℕ) (is : n ≡ net_at l k) (short : prefix_at l k ≤ 32) where
    pub held : address / 2 ^ (32 - prefix_at l k) ≡ n / 2 ^ (32 - prefix_at l k) → prefix_at l k + 1 ≡ rank_at l address k
    unfolding rank_at holds
    held e = rw (le-leb _ _ short, eq-eqb _ _ (rw is at e))

    pub not_held : (address / 2 ^ (32 - prefix_at l k) ≡ n / 2 ^ (32 - prefix_at l k) → ⊥) → 0 ≡ rank_at l address k
    unfolding rank_at holds
    not_held e = rw (le-leb _ _ short, ne_eqb _ _ (rw is at e))

-- ---- the best so far: after k entries
pub record Besting (l : List ℕ) (address number top k : ℕ) : Type 0 where
  pub within : k ≤ entries l
  pub leads : Leading leb (rank_of l address) number (k + 1)
  pub is : top ≡ rank_of l address number

module _ (l : List ℕ) (address : ℕ) where
  pub best_start : Besting l address 0 0 0
  unfolding rank_of
  best_start = record { within = omega arith; leads = lead_start by_size (rank_of l address); is = refl }

  next : (k : ℕ) → rank_of l address (k + 1) ≡ rank_at l address k
  unfolding rank_of
  next k = rw add-one

  module _ {number top k : ℕ} (s : Besting l address number top k) (more : k < entries l) (found : ℕ) (is : found ≡ rank_at l address k) where
    pub best_better : top < found → Besting l address (k + 1) found (k + 1)
    best_better h =
        record {
          within = omega arith;
          leads = lead_found by_size (rank_of l address) s.leads (rw (next k, ← is, ← s.is) (lt-leb _ _ h));
          is = rw (next k) is;
        }

    pub best_kept : found ≤ top → Besting l address number top (k + 1)
    best_kept h =
        record {
          within = omega arith;
          leads = lead_kept by_size (rank_of l address) s.leads (rw (next k, ← is, ← s.is) (le-leb _ _ h));
          is = s.is;
        }

  -- as the code keeps them
  pub best_or : {k : ℕ} (best : Best) → Besting l address best.number best.rank k → k < entries l → (found : ℕ) → found ≡ rank_at l address k
      → Besting l address (better best (k + 1) found).number (better best (k + 1) found).rank (k + 1)
  best_or {k} best s more found is = go (which best.rank found)
    where
      go : Which best.rank found → Besting l address (better best (k + 1) found).number (better best (k + 1) found).rank (k + 1)
      go (below h) = rw (lt-ltb _ _ h) (best_better s more found is h)
      go (above h) = rw (le-ltb _ _ h) (best_kept s more found is h)

  pub best_end : {number top k : ℕ} → Besting l address number top k → entries l ≤ k → record { number = number; rank = top } ≡ best_in l address
  unfolding best_in best_number
  best_end {number} {top} {k} s h =
      let e = lead_end by_size (rank_of l address) (suc (entries l)) s.leads (omega (arith, s.within)) in
      rw (← e, s.is)

-- ---- the best entry is one of the list's
module _ (l : List ℕ) (address : ℕ) where
  pub leads_all : Leading leb (rank_of l address) (best_number l address) (suc (entries l))
  unfolding best_number
  leads_all = lead_is by_size (rank_of l address) (entries l)

  not_none : (n : ℕ) → 0 < rank_of l address n → 0 < n
  unfolding rank_of
  not_none zero h = h
  not_none (suc n) h = omega arith

  pub in_list : 0 < (best_in l address).rank → (0 < (best_in l address).number) × (5 * (best_in l address).number ≤ length l)
  unfolding best_in
  in_list h = (not_none (best_number l address) h, omega (arith, leads_all.passed))

-- ---- what is decided
module _ {A : Type 0} (ofCell ofPlant : Best) (cell plant neither : A) where
  pub to_plant : ofCell.rank < ofPlant.rank → plant ≡ decided ofCell ofPlant cell plant neither
  unfolding decided
  to_plant h = rw (lt-ltb _ _ h)

  pub to_cell : ofPlant.rank ≤ ofCell.rank → 0 < ofCell.rank → cell ≡ decided ofCell ofPlant cell plant neither
  unfolding decided
  to_cell h k = rw (le-ltb _ _ h, lt-ltb _ _ k)

  pub to_neither : ofPlant.rank ≤ ofCell.rank → ofCell.rank ≤ 0 → neither ≡ decided ofCell ofPlant cell plant neither
  unfolding decided
  to_neither h k = rw (le-ltb _ _ h, le-ltb _ _ k)

-- ---- what a side was decided by
-- what is made of a decision is decided alike
pub made : {A B : Type 0} (f : A → B) (inCell inPlant : Best) (cell plant neither : A)
    → decided inCell inPlant (f cell) (f plant) (f neither) ≡ f (decided inCell inPlant cell plant neither)
unfolding decided
made f inCell inPlant cell plant neither = by (ltb inCell.rank inPlant.rank) (ltb 0 inCell.rank)
  where
    by : (p c : Bool) → cond p (f plant) (cond c (f cell) (f neither)) ≡ f (cond p plant (cond c cell neither))
    by true c = refl
    by false true = refl
    by false false = refl

-- the side that the code decided, by what each list had
pub decides : {x y c p : Best} {s t : Side} → x ≡ c → y ≡ p → s ≡ t → s ≡ side_by x y → t ≡ side_by c p
decides ofCell ofPlant is by = sym is ∙ by ∙ (λ i. side_by (ofCell i) (ofPlant i))

-- what a side picks of three
abbrev pub picked {ℓ} : {A : Type ℓ} → A → A → A → Side → A
picked cell plant neither Cell = cell
picked cell plant neither Plant = plant
picked cell plant neither Neither = neither

module _ (inCell inPlant : Best) where
  pub on_side : {A : Type 0} (cell plant neither : A) {s : Side} → s ≡ side_by inCell inPlant
      → picked cell plant neither s ≡ decided inCell inPlant cell plant neither
  on_side cell plant neither e =
      ap (picked cell plant neither) e ∙ sym (made (picked cell plant neither) inCell inPlant Cell Plant Neither)

  -- an address on a side is held by an entry of that side's list
  pub cell_holds : Cell ≡ side_by inCell inPlant → 0 < inCell.rank
  unfolding decided
  cell_holds e = go (ltb inCell.rank inPlant.rank) (ltb 0 inCell.rank) refl e
    where
      go : (p c : Bool) → ltb 0 inCell.rank ≡ c → Cell ≡ cond p Plant (cond c Cell Neither) → 0 < inCell.rank
      go true c q e = absurd (subst (picked (Unit {0}) ⊥ ⊥) e tt)
      go false true q e = ltb-true _ _ q
      go false false q e = absurd (subst (picked (Unit {0}) ⊥ ⊥) e tt)

  pub plant_holds : Plant ≡ side_by inCell inPlant → 0 < inPlant.rank
  unfolding decided
  plant_holds e = go (ltb inCell.rank inPlant.rank) (ltb 0 inCell.rank) refl e
    where
      go : (p c : Bool) → ltb inCell.rank inPlant.rank ≡ p → Plant ≡ cond p Plant (cond c Cell Neither) → 0 < inPlant.rank
      go true c q e = omega (arith, ltb-true inCell.rank inPlant.rank q)
      go false true q e = absurd (subst (picked ⊥ (Unit {0}) ⊥) e tt)
      go false false q e = absurd (subst (picked ⊥ (Unit {0}) ⊥) e tt)
