-- What is read after an entry was written: the count that was written, in a line that is there and but for -32,768, which is none; any
-- other tag's as it was, unless it was the one replaced; and the other lines untouched. For every table, also one that no gateway would
-- write.
-- Assumes nothing.
use mathlib.Core.Bool.{Bool, true, false, not, ◌&&◌, cond, and-false}
use mathlib.Core.List.{List}
use mathlib.Core.Logic.{◌≢◌}
use mathlib.Core.Path.{◌≡◌, refl, sym, ap, subst, ◌∙◌}
use Prim.Native.Nat.{ℕ, ◌+◌, ◌*◌, ◌-◌, ◌≤◌, ◌<◌}
use native.Mathlib.Decide.{ℕ_discrete}
use native.Mathlib.Omega.{arith}
use lib.Dec.{eqb, ltb}
use lib.IntN.{ℤ, pos}
use lib.ListN.{length, get_or, set, take, drop, length-set}
use lib.Seq.{get_or-set_same, get_or-set_other, take-set-lt, take-set-le, drop-set-lt, drop-set-add}
use borrow.Author.Tests.{eq-eqb, ne_eqb, eqb-true, lt-ltb, ltb-true}
use Rattle.laws.proofs.Search.{first_at, first_is, first_same}
use Rattle.laws.proofs.Tests.{Which, below, above, which, true_is_not_false, and_right, cond_at}
use Rattle.laws.specs.Search.{first_below}
use Rattle.counts.specs.Counts.{is_empty}
use Rattle.entries.proofs.Lines.{smallest_lt, room_cases, room_lt, has_line, line_length}
use Rattle.entries.specs.Entries.{line_of, lacks_line, is_own, own_way, empty_way, smallest_way, count_in, count_of, room_for, Written, written_of, written}
use Rattle.std.specs.Prelude.{Option, Some, None}
use Rattle.entries.specs.declared.Room.{Room}

-- ---- what is told
abbrev tag_told : Option ℕ → ℕ
tag_told None = 0
tag_told (Some t) = t

abbrev is_told : Option ℕ → Bool
is_told None = false
is_told (Some t) = true

pub nothing_is_no_tag : {t : ℕ} → None ≡ Some t → ⊥
nothing_is_no_tag e = true_is_not_false refl (ap is_told (sym e))

-- ---- in a line
module _ (tag : ℕ) (tags : List ℕ) (counts : List ℤ) where
  -- no way before the first is the tag's
  pub before_own : (j : ℕ) → j < own_way tag tags counts → is_own tag tags counts j ≡ false
  unfolding own_way
  before_own j l = (first_is 4 (is_own tag tags counts)).before j l

  pub at_own : own_way tag tags counts < 4 → is_own tag tags counts (own_way tag tags counts) ≡ true
  unfolding own_way
  at_own h = (first_is 4 (is_own tag tags counts)).holds h

  at_empty : empty_way counts < 4 → is_empty (get_or counts (empty_way counts) (pos 0)) ≡ true
  unfolding empty_way
  at_empty h = (first_is 4 (λ way. is_empty (get_or counts way (pos 0)))).holds h

  -- so none before the room is either
  pub before_room : (j : ℕ) → j < (room_for tag tags counts).way → is_own tag tags counts j ≡ false
  before_room j =
      room_cases tag tags counts (λ r. j < r.way → is_own tag tags counts j ≡ false)
      (λ h l. before_own j l)
      (λ h k l. before_own j (omega arith))
      (λ h k l. before_own j (omega (arith, smallest_lt counts)))

  -- an entry with another tag is not the tag's, nor is an empty one
  other_tag : (t way : ℕ) → (get_or tags way 0 ≡ t → ⊥) → is_own t tags counts way ≡ false
  other_tag t way ne =
      let full = not (is_empty (get_or counts way (pos 0))) in
      ap (λ (b : Bool). full && b) (ne_eqb _ t ne) ∙ and-false full

  no_entry : (t way : ℕ) → is_empty (get_or counts way (pos 0)) ≡ true → is_own t tags counts way ≡ false
  no_entry t way e = ap (λ (b : Bool). not b && eqb (get_or tags way 0) t) e

  -- the tag's own entry has its tag, and no way before the first empty one is empty
  pub own_tag : own_way tag tags counts < 4 → get_or tags (own_way tag tags counts) 0 ≡ tag
  own_tag h =
      let way = own_way tag tags counts in
      eqb-true _ _ (and_right (not (is_empty (get_or counts way (pos 0)))) (eqb (get_or tags way 0) tag) (at_own h))

  pub before_empty : (j : ℕ) → j < empty_way counts → is_empty (get_or counts j (pos 0)) ≡ false
  unfolding empty_way
  before_empty j l = (first_is 4 (λ way. is_empty (get_or counts way (pos 0)))).before j l

  -- what stands in the room is no other tag's entry, or that tag is told as replaced
  in_room : (t : ℕ) → t ≢ tag → ((room_for tag tags counts).replaced ≡ Some t → ⊥) → is_own t tags counts (room_for tag tags counts).way ≡ false
  in_room t ne =
      room_cases tag tags counts (λ r. (r.replaced ≡ Some t → ⊥) → is_own t tags counts r.way ≡ false)
      (λ h told. other_tag t _ (λ e. ne (sym e ∙ own_tag h)))
      (λ h k told. no_entry t _ (at_empty k))
      (λ h k told. other_tag t _ (λ e. told (ap Some e)))

  -- a full way with the tag would be its own entry
  no_own : 4 ≤ own_way tag tags counts → 4 ≤ empty_way counts → (way : ℕ) → way < 4 → get_or tags way 0 ≢ tag
  no_own h k way l e =
      let full = before_empty way (omega arith) in
      true_is_not_false (λ i. not (full i) && eq-eqb (get_or tags way 0) tag e i) (before_own way (omega arith))

  -- so the tag that is replaced is another
  pub replaced_in : (t : ℕ) → (room_for tag tags counts).replaced ≡ Some t → t ≢ tag
  replaced_in t =
      room_cases tag tags counts (λ r. r.replaced ≡ Some t → t ≢ tag)
      (λ h told. absurd (nothing_is_no_tag told))
      (λ h k told. absurd (nothing_is_no_tag told))
      (λ h k told same. no_own h k (smallest_way counts) (smallest_lt counts) (ap tag_told told ∙ same))

-- a line with one entry set
module _ (tags : List ℕ) (counts : List ℤ) (way tag : ℕ) (count : ℤ) (in-tags : way < length tags) (in-counts : way < length counts) where
  -- the entry is what was set
  pub set_here : (t : ℕ) → is_own t (set tags way tag) (set counts way count) way ≡ (not (is_empty count) && eqb tag t)
  set_here t = λ i. not (is_empty (get_or-set_same counts way count (pos 0) in-counts i)) && eqb (get_or-set_same tags way tag 0 in-tags i) t

  -- the others are what they were
  pub set_there : (t j : ℕ) → j ≢ way → is_own t (set tags way tag) (set counts way count) j ≡ is_own t tags counts j
  set_there t j ne = λ i. not (is_empty (get_or-set_other counts way j count (pos 0) ne i)) && eqb (get_or-set_other tags way j tag 0 ne i) t

  -- the tag's count is then the one that was set
  own_read : way < 4 → ((j : ℕ) → j < way → is_own tag tags counts j ≡ false) → is_empty count ≡ false
      → count_in tag (set tags way tag) (set counts way count) ≡ count
  unfolding count_in own_way
  own_read h none full =
      rw here (cond_at _ _ (lt-ltb way 4 h) ∙ get_or-set_same counts way count (pos 0) in-counts)
    where
      here : first_below 4 (is_own tag (set tags way tag) (set counts way count)) ≡ way
      here =
          first_at 4 (is_own tag (set tags way tag) (set counts way count)) way h
          (λ j l. set_there tag j (omega arith) ∙ none j l)
          (set_here tag ∙ (λ i. not (full i) && eq-eqb tag tag refl i))

  -- and another tag's as it was, unless its entry stood there
  other_read : (t : ℕ) → t ≢ tag → is_own t tags counts way ≡ false → count_in t (set tags way tag) (set counts way count) ≡ count_in t tags counts
  unfolding count_in own_way
  other_read t ne was = rw same (value (ltb first 4) refl)
    where
      first : ℕ
      first = first_below 4 (is_own t tags counts)

      agree : (j : ℕ) → Dec (j ≡ way) → is_own t (set tags way tag) (set counts way count) j ≡ is_own t tags counts j
      agree j (yes e) =
          let mine : eqb tag t ≡ false = ne_eqb tag t (λ q. ne (sym q)) in
          rw e (set_here t ∙ ap (λ (b : Bool). not (is_empty count) && b) mine ∙ and-false (not (is_empty count)) ∙ sym was)
      agree j (no e) = set_there t j e

      same : first_below 4 (is_own t (set tags way tag) (set counts way count)) ≡ first
      same = first_same 4 _ _ (λ j l. agree j (ℕ_discrete j way))

      value : (b : Bool) → ltb first 4 ≡ b → cond b (get_or (set counts way count) first (pos 0)) (pos 0) ≡ cond b (get_or counts first (pos 0)) (pos 0)
      value false e = refl
      value true e =
          get_or-set_other counts way first count (pos 0)
          (λ q. true_is_not_false ((first_is 4 (is_own t tags counts)).holds (ltb-true _ _ e)) (ap (is_own t tags counts) q ∙ was))

-- ---- in the table
-- the line that was written, with its entry set
pub own_line : {A : Type 0} (line way : ℕ) (xs : List A) (v : A) → way < 4 → line_of line (set xs (4 * line + way) v) ≡ set (line_of line xs) way v
own_line {A} line way xs v h =
    ap (λ (l : List A). take 4 l) (drop-set-add (4 * line) xs way v) ∙ take-set-lt 4 (drop (4 * line) xs) way v h

-- any other line, as it was
pub other_line : {A : Type 0} (m line way : ℕ) (xs : List A) (v : A) → m ≢ line → way < 4 → line_of m (set xs (4 * line + way) v) ≡ line_of m xs
other_line {A} m line way xs v ne h = go (which m line)
  where
    go : Which m line → line_of m (set xs (4 * line + way) v) ≡ line_of m xs
    go (below l) =
        let e : 4 * line + way ≡ 4 * m + (4 * (line - m) + way) = omega arith in
        ap (λ (k : ℕ). line_of m (set xs k v)) e
        ∙ ap (λ (l : List A). take 4 l) (drop-set-add (4 * m) xs (4 * (line - m) + way) v)
        ∙ take-set-le 4 (drop (4 * m) xs) (4 * (line - m) + way) v (omega arith)
    go (above l) = ap (λ (l : List A). take 4 l) (drop-set-lt (4 * m) xs (4 * line + way) v (omega arith))

-- setting an entry keeps the lists' lengths, so that they lack the same lines as before
pub same_lines : (m i j v : ℕ) (z : ℤ) (tags : List ℕ) (counts : List ℤ)
    → lacks_line m (length (set tags i v)) (length (set counts j z)) ≡ lacks_line m (length tags) (length counts)
same_lines m i j v z tags counts = λ k. lacks_line m (length-set tags i v k) (length-set counts j z k)

module _ (line tag : ℕ) (count : ℤ) (tags : List ℕ) (counts : List ℤ) where
  -- what the write leaves, and the room that the entry takes
  abbrev pub after : Written
  after = written line tag count tags counts

  abbrev pub room : Room
  room = room_for tag (line_of line tags) (line_of line counts)

  pub low : room.way < 4
  low = room_lt tag (line_of line tags) (line_of line counts)

  -- a line that is not there: nothing is written
  nothing : lacks_line line (length tags) (length counts) ≡ true → after ≡ written_of None tags counts
  unfolding written
  nothing e = cond_at _ _ e

  -- one that is: its entry is
  pub something : lacks_line line (length tags) (length counts) ≡ false
      → after ≡ written_of room.replaced (set tags (4 * line + room.way) tag) (set counts (4 * line + room.way) count)
  unfolding written
  something e = cond_at _ _ e

  -- so what holds of both holds of what a write leaves
  pub cases : (P : Written → Type 0) → P (written_of None tags counts)
      → (lacks_line line (length tags) (length counts) ≡ false → P (written_of room.replaced (set tags (4 * line + room.way) tag) (set counts (4 * line + room.way) count)))
      → P after
  cases P none some = go (lacks_line line (length tags) (length counts)) refl
    where
      go : (b : Bool) → lacks_line line (length tags) (length counts) ≡ b → P after
      go true e = subst P (sym (nothing e)) none
      go false e = subst P (sym (something e)) (some e)

  -- then the room is within the line's part of each list
  pub within : lacks_line line (length tags) (length counts) ≡ false → (room.way < length (line_of line tags)) × (room.way < length (line_of line counts))
  within e =
      let h = has_line line (length tags) (length counts) e in
      (omega (arith, low, line_length line tags h.0), omega (arith, low, line_length line counts h.1))

  -- what was written is read back
  pub read_back : lacks_line line (length tags) (length counts) ≡ false → is_empty count ≡ false → count_of line tag after.tags after.counts ≡ count
  unfolding count_of
  read_back e full =
      rw (something e, own_line line room.way tags tag low, own_line line room.way counts count low)
      (cond_at _ _ (same_lines line _ _ tag count tags counts ∙ e)
      ∙ own_read (line_of line tags) (line_of line counts) room.way tag count (within e).0 (within e).1 low
      (before_room tag (line_of line tags) (line_of line counts)) full)

  kept : (t : ℕ) → t ≢ tag → lacks_line line (length tags) (length counts) ≡ false → (room.replaced ≡ Some t → ⊥)
      → count_of line t (set tags (4 * line + room.way) tag) (set counts (4 * line + room.way) count) ≡ count_of line t tags counts
  unfolding count_of
  kept t ne e told =
      rw (own_line line room.way tags tag low, own_line line room.way counts count low)
      (λ i. cond (same_lines line (4 * line + room.way) (4 * line + room.way) tag count tags counts i) (pos 0)
      (other_read (line_of line tags) (line_of line counts) room.way tag count (within e).0 (within e).1 t ne
      (in_room tag (line_of line tags) (line_of line counts) t ne told) i))

  -- any other tag of the line keeps its count unless it was the one replaced
  pub others_keep : (t : ℕ) → t ≢ tag → (after.replaced ≡ Some t → ⊥) → count_of line t after.tags after.counts ≡ count_of line t tags counts
  others_keep t ne =
      cases (λ w. (w.replaced ≡ Some t → ⊥) → count_of line t w.tags w.counts ≡ count_of line t tags counts)
      (λ told. refl)
      (λ e told. kept t ne e told)

  -- the tag told as replaced is never the one that was written
  pub replaced_is_another : (t : ℕ) → after.replaced ≡ Some t → t ≢ tag
  replaced_is_another t =
      cases (λ w. w.replaced ≡ Some t → t ≢ tag)
      (λ told. absurd (nothing_is_no_tag told))
      (λ e told. replaced_in tag (line_of line tags) (line_of line counts) t told)

  -- both lists keep their lengths, and the other lines are as they were
  pub same_lengths : (length after.tags ≡ length tags) × (length after.counts ≡ length counts)
  same_lengths =
      cases (λ w. (length w.tags ≡ length tags) × (length w.counts ≡ length counts))
      (refl, refl)
      (λ e. (length-set tags _ tag, length-set counts _ count))

  pub other_lines : (m : ℕ) → m ≢ line → (line_of m after.tags ≡ line_of m tags) × (line_of m after.counts ≡ line_of m counts)
  other_lines m ne =
      cases (λ w. (line_of m w.tags ≡ line_of m tags) × (line_of m w.counts ≡ line_of m counts))
      (refl, refl)
      (λ e. (other_line m line room.way tags tag ne low, other_line m line room.way counts count ne low))

  -- so every tag of another line keeps its count
  pub other_lines_keep : (m t : ℕ) → m ≢ line → count_of m t after.tags after.counts ≡ count_of m t tags counts
  unfolding count_of
  other_lines_keep m t ne =
      let same = other_lines m ne in
      let long = same_lengths in
      λ i. cond (lacks_line m (long.0 i) (long.1 i)) (pos 0) (count_in t (same.0 i) (same.1 i))
