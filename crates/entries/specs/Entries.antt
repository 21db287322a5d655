-- Document 01, "Records" and "Verdicts": the entries of the address table. Which entry is an address's, what its count is, and where
-- it is written.
-- Assumes nothing.
use Rattle.std.specs.Prelude.{Bool, not, ◌&&◌, ◌||◌, cond, List, ℕ, ◌+◌, ◌*◌, eqb, ltb, ℤ, pos, length, get_or, set, take, drop, Option, Some, None}
use Rattle.std.specs.Int.Signed.{le_z}
use Rattle.laws.specs.Search.{every, first_below}
use Rattle.counts.specs.Counts.{is_empty}
use Rattle.entries.specs.declared.Room.{Room}

-- a line's part of the list of tags or of counts: "four entries each"
abbrev pub line_of : {A : Type 0} → ℕ → List A → List A
line_of line list = take 4 (drop (4 * line) list)

-- lists of so many tags and counts end before the line does. A gateway's tables have each line that an address may be in; where one is
-- not there, no address has an entry in it, and nothing is written.
abbrev pub lacks_line : ℕ → ℕ → ℕ → Bool
lacks_line line tags counts = ltb tags (4 * line + 4) || ltb counts (4 * line + 4)

-- ---- in one line: its four tags and its four counts
-- the entry of a way is the tag's: "non-empty", "with its tag"
abbrev pub is_own : ℕ → List ℕ → List ℤ → ℕ → Bool
is_own tag tags counts way = not (is_empty (get_or counts way (pos 0))) && eqb (get_or tags way 0) tag

-- "an address's entry is the first non-empty one with its tag in its line": its way, or 4 where there is none
unfoldable pub own_way : ℕ → List ℕ → List ℤ → ℕ
own_way tag tags counts = first_below 4 (is_own tag tags counts)

-- the tag's count; "without one its count is 0"
unfoldable pub count_in : ℕ → List ℕ → List ℤ → ℤ
count_in tag tags counts = cond (ltb (own_way tag tags counts) 4) (get_or counts (own_way tag tags counts) (pos 0)) (pos 0)

-- "the lowest empty way", or 4 where there is none
unfoldable pub empty_way : List ℤ → ℕ
empty_way counts = first_below 4 (λ way. is_empty (get_or counts way (pos 0)))

-- "the way with the smallest count, lowest on a tie": the first that is at most every other
unfoldable pub smallest_way : List ℤ → ℕ
smallest_way counts = first_below 4 (λ way. every 4 (λ other. le_z (get_or counts way (pos 0)) (get_or counts other (pos 0))))

-- a way, and the tag that is replaced there
abbrev pub room_of : ℕ → Option ℕ → Room
room_of way replaced = record { way = way; replaced = replaced }

-- where a tag's entry is written, and which tag that replaces: its own entry is overwritten; "An absent address takes the lowest empty
-- way, else the way with the smallest count, lowest on a tie."
unfoldable pub room_for : ℕ → List ℕ → List ℤ → Room
room_for tag tags counts =
    cond (ltb (own_way tag tags counts) 4)
    (room_of (own_way tag tags counts) None)
    (cond (ltb (empty_way counts) 4)
    (room_of (empty_way counts) None)
    (room_of (smallest_way counts) (Some (get_or tags (smallest_way counts) 0))))

-- ---- in the table
-- an address's count, by its line and tag
unfoldable pub count_of : ℕ → ℕ → List ℕ → List ℤ → ℤ
count_of line tag tags counts = cond (lacks_line line (length tags) (length counts)) (pos 0) (count_in tag (line_of line tags) (line_of line counts))

-- what a write leaves: the tag that it replaced, and both lists
pub record Written : Type 0 where
  pub replaced : Option ℕ
  pub tags : List ℕ
  pub counts : List ℤ

abbrev pub written_of : Option ℕ → List ℕ → List ℤ → Written
written_of replaced tags counts = record { replaced = replaced; tags = tags; counts = counts }

-- an address's entry written: one tag and one count of the table, and no other number
unfoldable pub written : ℕ → ℕ → ℤ → List ℕ → List ℤ → Written
written line tag count tags counts =
    cond (lacks_line line (length tags) (length counts))
    (written_of None tags counts)
    (written_of room.replaced (set tags (4 * line + room.way) tag) (set counts (4 * line + room.way) count))
  where
    room : Room
    room = room_for tag (line_of line tags) (line_of line counts)
