-- The smallest count of a line and the room for an entry, each one of the four ways; and what the writer says of the line that it was
-- lent, said of the whole table.
-- Assumes nothing.
use mathlib.Core.Bool.{true, false}
use mathlib.Core.List.{List}
use mathlib.Core.Path.{◌≡◌, refl, sym, ap, subst, ◌∙◌}
use Prim.Native.Nat.{ℕ, ◌+◌, ◌*◌, ◌-◌, ◌≤◌, ◌<◌}
use native.Mathlib.Omega.{arith}
use lib.Dec.{ltb}
use lib.IntN.{ℤ, pos}
use lib.ListN.{length, take, drop, set, get_or}
use lib.Signed.{le_z}
use borrow.Author.Tests.{lt-ltb, le-ltb, ltb-false}
use borrow.Rule.Slice.PartMut.{mid_of, put_mid, set_mid_at, mid_len}
use Rattle.laws.specs.Search.{foremost}
use Rattle.laws.proofs.Search.{Leading, lead_is}
use Rattle.laws.proofs.Signed.{by_smallness}
use Rattle.laws.proofs.Tests.{Which, below, above, which, or_left, or_right, cond_at}
use Rattle.entries.specs.declared.Room.{Room}
use Rattle.entries.specs.Entries.{line_of, lacks_line, own_way, empty_way, smallest_way, room_of, room_for, written_of, written}
use Rattle.std.specs.Prelude.{Option, Some, None}

-- ---- the smallest count, lowest on a tie
module _ (counts : List ℤ) where
  leads : Leading (λ a b. le_z b a) (λ way. get_or counts way (pos 0)) (smallest_way counts) 4
  unfolding smallest_way foremost
  leads = lead_is by_smallness (λ way. get_or counts way (pos 0)) 3

  -- it is one of the four
  pub smallest_lt : smallest_way counts < 4
  smallest_lt = leads.passed

  -- no count is below it
  pub smallest_of_all : (way : ℕ) → way < 4 → le_z (get_or counts (smallest_way counts) (pos 0)) (get_or counts way (pos 0)) ≡ true
  smallest_of_all = leads.most

  -- and none before it is as small
  pub lowest_on_a_tie : (way : ℕ) → way < smallest_way counts → le_z (get_or counts way (pos 0)) (get_or counts (smallest_way counts) (pos 0)) ≡ false
  lowest_on_a_tie = leads.first

-- ---- where there is room: three cases, by what the searches found
module _ (tag : ℕ) (tags : List ℕ) (counts : List ℤ) where
  pub room_own : (own : ℕ) → own ≡ own_way tag tags counts → own < 4 → room_of own None ≡ room_for tag tags counts
  unfolding room_for
  room_own own e h = rw (← e) (sym (cond_at _ _ (lt-ltb own 4 h)))

  pub room_empty : (own empty : ℕ) → own ≡ own_way tag tags counts → 4 ≤ own → empty ≡ empty_way counts → empty < 4
      → room_of empty None ≡ room_for tag tags counts
  unfolding room_for
  room_empty own empty e h q k = rw (← e, ← q) (sym (cond_at _ _ (le-ltb own 4 h) ∙ cond_at _ _ (lt-ltb empty 4 k)))

  pub room_smallest : (own empty smallest : ℕ) → own ≡ own_way tag tags counts → 4 ≤ own → empty ≡ empty_way counts → 4 ≤ empty
      → smallest ≡ smallest_way counts → room_of smallest (Some (get_or tags smallest 0)) ≡ room_for tag tags counts
  unfolding room_for
  room_smallest own empty smallest e h q k s = rw (← e, ← q, ← s) (sym (cond_at _ _ (le-ltb own 4 h) ∙ cond_at _ _ (le-ltb empty 4 k)))

  -- so what holds of the three holds of the room
  pub room_cases : (P : Room → Type 0)
      → (own_way tag tags counts < 4 → P (room_of (own_way tag tags counts) None))
      → (4 ≤ own_way tag tags counts → empty_way counts < 4 → P (room_of (empty_way counts) None))
      → (4 ≤ own_way tag tags counts → 4 ≤ empty_way counts → P (room_of (smallest_way counts) (Some (get_or tags (smallest_way counts) 0))))
      → P (room_for tag tags counts)
  room_cases P own empty smallest = first (which (own_way tag tags counts) 4)
    where
      then : 4 ≤ own_way tag tags counts → Which (empty_way counts) 4 → P (room_for tag tags counts)
      then h (below k) = subst P (room_empty _ _ refl h refl k) (empty h k)
      then h (above k) = subst P (room_smallest _ _ _ refl h refl k refl) (smallest h k)

      first : Which (own_way tag tags counts) 4 → P (room_for tag tags counts)
      first (below h) = subst P (room_own _ refl h) (own h)
      first (above h) = then h (which (empty_way counts) 4)

  -- it is one of the four ways
  pub room_lt : (room_for tag tags counts).way < 4
  room_lt = room_cases (λ r. r.way < 4) (λ h. h) (λ h k. k) (λ h k. smallest_lt counts)

-- ---- a line of the table
-- lists that do not lack the line reach to its end
pub has_line : (line tags counts : ℕ) → lacks_line line tags counts ≡ false → (4 * line + 4 ≤ tags) × (4 * line + 4 ≤ counts)
has_line line tags counts e =
    let s = ltb tags (4 * line + 4) in
    let t = ltb counts (4 * line + 4) in
    (ltb-false _ _ (or_left s t e), ltb-false _ _ (or_right s t e))

-- the part that is lent for writing, and the list when it is given back, as the borrow rules name them
module _ {A : Type 0} (line : ℕ) (list : List A) where
  abbrev pub lent : List A
  lent = mid_of (4 * line) (4 * line + 4 - 4 * line) list

  abbrev pub given_back : List A → List A
  given_back part = put_mid (4 * line) (4 * line + 4 - 4 * line) list part

  -- the part is the line, and has four entries
  pub lent_is : lent ≡ line_of line list
  lent_is =
      let four : 4 * line + 4 - 4 * line ≡ 4 = omega arith in
      ap (λ (k : ℕ). take k (drop (4 * line) list)) four

  pub line_length : 4 * line + 4 ≤ length list → length (line_of line list) ≡ 4
  line_length h = sym (ap length lent_is) ∙ mid_len (4 * line) (4 * line + 4) list h ∙ omega arith

  -- given back with one entry set, it is the list with that entry set
  back_is : (way : ℕ) (v : A) (part : List A) → 4 * line + 4 ≤ length list → way < 4 → part ≡ set lent way v → given_back part ≡ set list (4 * line + way) v
  back_is way v part h low e =
      ap given_back e
      ∙ set_mid_at (4 * line) (4 * line + 4 - 4 * line) way list v (omega (arith, mid_len (4 * line) (4 * line + 4) list h))

-- what the writer did to a line is what `written` does to the table
module _ (line tag : ℕ) (count : ℤ) (tags : List ℕ) (counts : List ℤ) where
  abbrev here : Room
  here = room_for tag (lent line tags) (lent line counts)

  pub line_written : (r : Option ℕ) (ts : List ℕ) (cs : List ℤ) → lacks_line line (length tags) (length counts) ≡ false
      → (r ≡ here.replaced) × (ts ≡ set (lent line tags) here.way tag) × (cs ≡ set (lent line counts) here.way count)
      → written_of r (given_back line tags ts) (given_back line counts cs) ≡ written line tag count tags counts
  unfolding written
  line_written r ts cs e w =
      let h = has_line line (length tags) (length counts) e in
      let low = room_lt tag (lent line tags) (lent line counts) in
      (λ i. written_of (w.0 i) (back_is line tags here.way tag ts h.0 low w.1 i) (back_is line counts here.way count cs h.1 low w.2 i))
      ∙ (λ i. written_of (there i).replaced (set tags (4 * line + (there i).way) tag) (set counts (4 * line + (there i).way) count))
      ∙ sym (cond_at _ _ e)
    where
      there : here ≡ room_for tag (line_of line tags) (line_of line counts)
      there = λ i. room_for tag (lent_is line tags i) (lent_is line counts i)
