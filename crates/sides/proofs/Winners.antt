-- The winning entry by its place and by value is the winning entry as a part: the same bytes, and the side that the address belongs to.
-- Assumes nothing.
use mathlib.Core.List.{List, []}
use mathlib.Core.Path.{◌≡◌, refl, sym, ap, subst, ◌∙◌}
use Rattle.std.specs.Prelude.{Option, Some, None}
use Prim.Native.Nat.{ℕ, ◌+◌, ◌*◌, ◌-◌, ◌≤◌, ◌<◌, ◌^◌}
use native.Mathlib.Omega.{arith}
use lib.ListN.{length, get_or, drop, length-take, length-drop}
use lib.Seq.{get_or-take, get_or-drop}
use denote.Ref.{Bor}
use Rattle.laws.proofs.Tests.{Which, below, above, which}
use Rattle.words.specs.Words.{four_at, whole}
use Rattle.words.specs.Layouts.{Bytes}
use Rattle.words.proofs.Words.{there, cut}
use Rattle.sides.specs.declared.Entry.{Entry}
use Rattle.sides.specs.declared.Side.{Side}
use Rattle.sides.specs.declared.Side.TheVariants.{Cell, Plant, Neither}
use Rattle.sides.specs.declared.Winning.{Winning}
use Rattle.sides.proofs.Steps.{leads_all, made, picked, on_side, in_list, cell_holds, plant_holds}
use Rattle.sides.specs.Lists.{best_in, side_of, entry_of, past, winner_of, winner_at, winning_of, number_in, deciding_entry}

-- the five bytes at a place, and none where neither list holds the address
pub bytes_at : List ℕ → List ℕ → Option Winning → List ℕ
bytes_at cell plant (Some winning) = picked (entry_of cell winning.number) (entry_of plant winning.number) [] winning.side
bytes_at cell plant None = []

-- the side of a winning entry
abbrev pub side_in : Option Winning → Side
side_in (Some winning) = winning.side
side_in None = Neither

module _ (cell plant : List ℕ) (address : ℕ) where
  pub same_bytes : winner_of cell plant address ≡ bytes_at cell plant (winning_of cell plant address)
  unfolding bytes_at
  same_bytes = made (bytes_at cell plant) (best_in cell address) (best_in plant address)
      (Some (record { side = Cell; number = (best_in cell address).number }))
      (Some (record { side = Plant; number = (best_in plant address).number }))
      None

  pub same_side : side_of cell plant address ≡ side_in (winning_of cell plant address)
  same_side = made side_in (best_in cell address) (best_in plant address)
      (Some (record { side = Cell; number = (best_in cell address).number }))
      (Some (record { side = Plant; number = (best_in plant address).number }))
      None

-- so on a side there is one, of its list
pub stands_on : (w : Option Winning) (s : Side) → side_in w ≡ s → (Neither ≡ s → ⊥) → w ≡ Some (record { side = s; number = number_in w })
stands_on (Some winning) s e some = ap (λ (t : Side). Some (record { side = t; number = winning.number })) e
stands_on None s e some = absurd (some e)

-- and where they lie: so whoever knows side and number, and where the lists lie, has the part
pub place_at : Bor (List ℕ) → Bor (List ℕ) → Option Winning → ℕ × ℕ
place_at cell plant (Some winning) =
    picked (past cell.ref_ptr (5 * winning.number - 5)) (past plant.ref_ptr (5 * winning.number - 5)) (past cell.ref_ptr 0) winning.side
place_at cell plant None = past cell.ref_ptr 0

pub same_place : (cell plant : Bor (List ℕ)) (address : ℕ) → winner_at cell plant address ≡ place_at cell plant (winning_of cell.now plant.now address)
unfolding place_at
same_place cell plant address = made (place_at cell plant) (best_in cell.now address) (best_in plant.now address)
    (Some (record { side = Cell; number = (best_in cell.now address).number }))
    (Some (record { side = Plant; number = (best_in plant.now address).number }))
    None

-- ---- by value
-- an entry stands in a part: five bytes, its address and its prefix length
pub record StandsIn (part : List ℕ) (entry : Entry) : Type 0 where
  pub five : length part ≡ 5
  pub address : entry.address ≡ four_at part 0
  pub prefix : entry.prefix ≡ get_or part 4 0

five_bytes : (l : List ℕ) (number : ℕ) → 0 < number → 5 * number ≤ length l → length (entry_of l number) ≡ 5
five_bytes l number some all =
    omega (arith, length-take 5 (drop (5 * number - 5) l), length-drop (5 * number - 5) l)

module _ (cell plant : List ℕ) (address : ℕ) where
  abbrev part : List ℕ
  part = winner_of cell plant address

  stands_in : length part ≡ 5 → StandsIn part (deciding_entry cell plant address)
  stands_in five = record { five = five; address = there 4 four_at part 0 (omega arith); prefix = refl }

  -- the entry that decides on an address of the cell, or of the plant, stands in the part that the lookup hands back
  pub in_cell : side_of cell plant address ≡ Cell → StandsIn part (deciding_entry cell plant address)
  in_cell e =
      let here = in_list cell address (cell_holds (best_in cell address) (best_in plant address) (sym e)) in
      let is = on_side (best_in cell address) (best_in plant address) (entry_of cell (best_in cell address).number) (entry_of plant (best_in plant address).number) [] (sym e) in
      stands_in (ap length (sym is) ∙ five_bytes cell (best_in cell address).number here.0 here.1)

  pub in_plant : side_of cell plant address ≡ Plant → StandsIn part (deciding_entry cell plant address)
  in_plant e =
      let here = in_list plant address (plant_holds (best_in cell address) (best_in plant address) (sym e)) in
      let is = on_side (best_in cell address) (best_in plant address) (entry_of cell (best_in cell address).number) (entry_of plant (best_in plant address).number) [] (sym e) in
      stands_in (ap length (sym is) ∙ five_bytes plant (best_in plant address).number here.0 here.1)

-- ---- what its type says of an entry, of two lists of bytes
pub record EntrySized (entry : Entry) : Type 0 where
  pub number : entry.number < 2 ^ 64
  pub address : entry.address < 2 ^ 32
  pub prefix : entry.prefix < 2 ^ 8

entry_byte : (l : List ℕ) → Bytes l → (number k : ℕ) → k < 5 → get_or (entry_of l number) k 0 < 256
entry_byte l bytes number k h =
    rw (get_or-take 5 (drop (5 * number - 5) l) k 0 h, get_or-drop (5 * number - 5) l k 0) (bytes (5 * number - 5 + k))

few : (l : List ℕ) (address : ℕ) → length l < 2 ^ 64 → (best_in l address).number < 2 ^ 64
unfolding best_in
few l address h = omega (arith, (leads_all l address).passed)

module _ (cell plant : List ℕ) (in_cell : Bytes cell) (in_plant : Bytes plant) (address : ℕ) where
  by_side : (s : Side) → s ≡ side_of cell plant address → (k : ℕ) → k < 5 → get_or (winner_of cell plant address) k 0 < 256
  by_side s e k h = subst (λ (l : List ℕ). get_or l k 0 < 256) (on_side (best_in cell address) (best_in plant address) _ _ _ e) (go s)
    where
      go : (s : Side) → get_or (picked (entry_of cell (best_in cell address).number) (entry_of plant (best_in plant address).number) [] s) k 0 < 256
      go Cell = entry_byte cell in_cell (best_in cell address).number k h
      go Plant = entry_byte plant in_plant (best_in plant address).number k h
      go Neither = omega arith

  part_byte : (k : ℕ) → k < 5 → get_or (winner_of cell plant address) k 0 < 256
  part_byte = by_side (side_of cell plant address) refl

  whole_small : (q : Which (length (winner_of cell plant address)) 4) → whole 4 four_at (winner_of cell plant address) 0 < 2 ^ 32
  whole_small (below h) = omega (arith, cut 4 four_at (winner_of cell plant address) 0 h)
  whole_small (above h) =
      omega (
        arith,
        there 4 four_at (winner_of cell plant address) 0 h,
        part_byte 0 (omega arith),
        part_byte 1 (omega arith),
        part_byte 2 (omega arith),
        part_byte 3 (omega arith),
      )

  numbered : (s : Side) → s ≡ side_of cell plant address → length cell < 2 ^ 64 → length plant < 2 ^ 64 → number_in (winning_of cell plant address) < 2 ^ 64
  numbered s e few-cell few-plant =
      subst (λ (w : Option Winning). number_in w < 2 ^ 64) (on_side (best_in cell address) (best_in plant address) _ _ _ e) (go s)
    where
      go : (s : Side) → number_in (picked {A = Option Winning} (Some (record { side = Cell; number = (best_in cell address).number })) (Some (record { side = Plant; number = (best_in plant address).number })) None s) < 2 ^ 64
      go Cell = few cell address few-cell
      go Plant = few plant address few-plant
      go Neither = omega arith

  pub sized : length cell < 2 ^ 64 → length plant < 2 ^ 64 → EntrySized (deciding_entry cell plant address)
  sized few-cell few-plant =
      record {
        number = numbered (side_of cell plant address) refl few-cell few-plant;
        address = whole_small (which _ _);
        prefix = part_byte 4 (omega arith);
      }
