-- Document 01, "Which side", and refusal 3.
-- Assumes nothing.
use Rattle.std.specs.Prelude.{Bool, cond, Option, Some, None, not, ◌&&◌, ◌||◌, List, [], ℕ, zero, suc, ◌+◌, ◌*◌, ◌-◌, ◌/◌, ◌%◌, ◌^◌, eqb, leb, ltb, length, get_or, take, drop}
use Rattle.std.specs.Borrow.{Bor}
use Rattle.laws.specs.Search.{every, foremost}
use Rattle.words.specs.Words.{four_at, whole}
use Rattle.sides.specs.declared.Best.{Best}
use Rattle.sides.specs.declared.Side.{Side}
use Rattle.sides.specs.declared.Side.TheVariants.{Cell, Plant, Neither}
use Rattle.sides.specs.declared.Winning.{Winning}
use Rattle.sides.specs.declared.Entry.{Entry}
use Rattle.sides.specs.declared.Direction.{Direction}
use Rattle.sides.specs.declared.Direction.TheVariants.{FromCell, FromPlant, NotOurs}

-- "A side list has entries of five bytes: address, most significant byte first, then prefix length."
abbrev pub entries : List ℕ → ℕ
entries l = length l / 5

abbrev pub net_at : List ℕ → ℕ → ℕ
net_at l k = four_at l (5 * k)

abbrev pub prefix_at : List ℕ → ℕ → ℕ
prefix_at l k = get_or l (5 * k + 4) 0

-- refusal 3: "a side list's length isn't a multiple of 5, it has over 64 entries, or a prefix length is over 32"
unfoldable pub bad_list : List ℕ → Bool
bad_list l = (not (eqb (length l % 5) 0) || ltb 64 (entries l)) || not (every (entries l) (λ k. leb (prefix_at l k) 32))

-- "Address bits beyond the prefix are ignored." A prefix length over 32, which refusal 3 keeps out, holds no address.
unfoldable pub holds : List ℕ → ℕ → ℕ → Bool
holds l address k =
    leb (prefix_at l k) 32 && eqb (address / 2 ^ (32 - prefix_at l k)) (net_at l k / 2 ^ (32 - prefix_at l k))

-- an entry that holds the address ranks above no entry, and by its prefix length
unfoldable pub rank_at : List ℕ → ℕ → ℕ → ℕ
rank_at l address k = cond (holds l address k) (prefix_at l k + 1) 0

-- the same by the entries' numbers, from 1, with 0 for no entry
unfoldable pub rank_of : List ℕ → ℕ → ℕ → ℕ
rank_of l address zero = 0
rank_of l address (suc k) = rank_at l address k

-- "the longest prefix that holds it; .. inside a list the first such entry": the first number whose rank no other's exceeds
unfoldable pub best_number : List ℕ → ℕ → ℕ
best_number l address = foremost leb (rank_of l address) (suc (entries l))

unfoldable pub best_in : List ℕ → ℕ → Best
best_in l address = record { number = best_number l address; rank = rank_of l address (best_number l address) }

-- the better of what was kept and an entry of this number and rank
abbrev pub better : Best → ℕ → ℕ → Best
better kept number rank = cond (ltb kept.rank rank) (record { number = number; rank = rank }) kept

-- "An address belongs to the list with the longest prefix that holds it; at equal length the cell list wins"
unfoldable pub decided {ℓ} : {A : Type ℓ} → Best → Best → A → A → A → A
decided ofCell ofPlant cell plant neither =
    cond (ltb ofCell.rank ofPlant.rank) plant (cond (ltb 0 ofCell.rank) cell neither)

abbrev pub side_by : Best → Best → Side
side_by inCell inPlant = decided inCell inPlant Cell Plant Neither

abbrev pub side_of : List ℕ → List ℕ → ℕ → Side
side_of cell plant address = side_by (best_in cell address) (best_in plant address)

-- "The lookup hands back the winning entry as part of whichever list held it, and an empty part of the cell list where neither holds
-- the address": the bytes of the part,
abbrev pub entry_of : List ℕ → ℕ → List ℕ
entry_of l number = take 5 (drop (5 * number - 5) l)

abbrev pub winner_of : List ℕ → List ℕ → ℕ → List ℕ
winner_of cell plant address =
    decided (best_in cell address) (best_in plant address)
    (entry_of cell (best_in cell address).number)
    (entry_of plant (best_in plant address).number)
    []

-- and where they lie: so many bytes into the cell list, or into the plant list
abbrev pub past : ℕ × ℕ → ℕ → ℕ × ℕ
past list bytes = (list.0, bytes + list.1)

abbrev pub winner_at : Bor (List ℕ) → Bor (List ℕ) → ℕ → ℕ × ℕ
winner_at cell plant address =
    decided (best_in cell.now address) (best_in plant.now address)
    (past cell.ref_ptr (5 * (best_in cell.now address).number - 5))
    (past plant.ref_ptr (5 * (best_in plant.now address).number - 5))
    (past cell.ref_ptr 0)

-- whose list the winning entry stands in, and its number there, from 1; none where neither list holds the address
abbrev pub winning_of : List ℕ → List ℕ → ℕ → Option Winning
winning_of cell plant address =
    decided (best_in cell address) (best_in plant address)
    (Some (record { side = Cell; number = (best_in cell address).number }))
    (Some (record { side = Plant; number = (best_in plant address).number }))
    None

-- its number, with 0 for none
abbrev pub number_in : Option Winning → ℕ
number_in (Some winning) = winning.number
number_in None = 0

-- document 02, K4: "the entries of the side lists that decided", by value: the number in its list, and the address and the prefix length that
-- stand in a part; all 0 in the empty one
abbrev pub entry_in : ℕ → List ℕ → Entry
entry_in number part = record { number = number; address = whole 4 four_at part 0; prefix = get_or part 4 0 }

abbrev pub deciding_entry : List ℕ → List ℕ → ℕ → Entry
deciding_entry cell plant address = entry_in (number_in (winning_of cell plant address)) (winner_of cell plant address)

-- "A packet is ours when one end is cell and the other plant."
abbrev pub direction_of : Side → Side → Direction
direction_of Cell Cell = NotOurs
direction_of Cell Plant = FromCell
direction_of Cell Neither = NotOurs
direction_of Plant Cell = FromPlant
direction_of Plant Plant = NotOurs
direction_of Plant Neither = NotOurs
direction_of Neither destination = NotOurs

abbrev pub direction_between : List ℕ → List ℕ → ℕ → ℕ → Direction
direction_between cell plant source destination = direction_of (side_of cell plant source) (side_of cell plant destination)
