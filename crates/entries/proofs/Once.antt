-- No tag stands twice among a line's non-empty entries, once none does: writing and decay keep it so, and a cold table has no entry. Of
-- such a table a replaced tag's count is 0 afterwards: nothing of it is left.
-- Assumes nothing.
use mathlib.Core.Bool.{Bool, true, false, not, ◌&&◌, cond}
use mathlib.Core.List.{List, map}
use mathlib.Core.Logic.{◌≢◌}
use mathlib.Core.Path.{◌≡◌, refl, sym, ap, subst, ◌∙◌}
use Prim.Native.Nat.{ℕ, ◌+◌, ◌*◌, ◌<◌}
use native.Mathlib.Decide.{ℕ_discrete}
use native.Mathlib.Omega.{arith}
use lib.Dec.{eqb}
use lib.IntN.{ℤ, pos}
use lib.ListN.{length, get_or, set, replicate, length-map, length-replicate, get_or-replicate}
use borrow.Author.Tests.{eq-eqb, eqb-true}
use Rattle.laws.proofs.Search.{first_at, first_none}
use Rattle.laws.proofs.Tests.{true_is_not_false, and_right, and_yes, cond_at, is_false}
use Rattle.laws.specs.Search.{first_below}
use Rattle.counts.specs.Counts.{is_empty, decayed_by}
use Rattle.entries.proofs.Lines.{smallest_lt, room_cases, has_line}
use Rattle.entries.proofs.Readback.{before_own, before_empty, before_room, set_here, set_there, own_line, nothing_is_no_tag, after, room, low, within, cases, same_lines, other_line, replaced_in}
use Rattle.entries.proofs.Decay.{in_line, same_empty, at, same_own}
use Rattle.entries.specs.Entries.{line_of, lacks_line, is_own, own_way, smallest_way, count_in, count_of, room_for}
use Rattle.std.specs.Prelude.{Some}

-- ---- in a line: an entry that is a tag's is the first that is
abbrev pub OnceIn : List ℕ → List ℤ → Type 0
OnceIn tags counts = (tag way : ℕ) → way < 4 → is_own tag tags counts way ≡ true → own_way tag tags counts ≡ way

-- where an entry is the tag's, the room for the tag is that entry
own_room : (tag : ℕ) (tags : List ℕ) (counts : List ℤ) → own_way tag tags counts < 4 → (room_for tag tags counts).way ≡ own_way tag tags counts
own_room tag tags counts h =
    room_cases tag tags counts (λ r. r.way ≡ own_way tag tags counts) (λ l. refl) (λ l k. absurd (omega arith)) (λ l k. absurd (omega arith))

module _ (tags : List ℕ) (counts : List ℤ) (once : OnceIn tags counts) (tag : ℕ) (count : ℤ) where
  abbrev way : ℕ
  way = (room_for tag tags counts).way

  abbrev tags' : List ℕ
  tags' = set tags way tag

  abbrev counts' : List ℤ
  counts' = set counts way count

  module _ (in-tags : way < length tags) (in-counts : way < length counts) where
    -- what is written there is no other tag's
    not_here : (t : ℕ) → t ≢ tag → is_own t tags' counts' way ≡ false
    not_here t ne =
        set_here tags counts way tag count in-tags in-counts t
        ∙ is_false _ (λ e. ne (sym (eqb-true tag t (and_right (not (is_empty count)) (eqb tag t) e))))

    pub once_written : OnceIn tags' counts'
    unfolding own_way
    once_written t j l e = go (ℕ_discrete j way) (ℕ_discrete t tag)
      where
        there : (i : ℕ) → i ≢ way → is_own t tags' counts' i ≡ is_own t tags counts i
        there i ne = set_there tags counts way tag count in-tags in-counts t i ne

        -- before the room nothing is the tag's; and another tag's entry is where it was
        none_of_it : j ≡ way → t ≡ tag → (i : ℕ) → i < j → is_own t tags' counts' i ≡ false
        none_of_it here mine i k = there i (omega arith) ∙ rw mine (before_room tag tags counts i (omega arith))

        was : j ≢ way → own_way t tags counts ≡ j
        was ne = once t j l (sym (there j ne) ∙ e)

        none_before : j ≢ way → t ≢ tag → (i : ℕ) → i < j → is_own t tags' counts' i ≡ false
        none_before ne other i k = at_way (ℕ_discrete i way)
          where
            at_way : Dec (i ≡ way) → is_own t tags' counts' i ≡ false
            at_way (yes q) = rw q (not_here t other)
            at_way (no q) = there i q ∙ before_own t tags counts i (omega (arith, was ne))

        go : Dec (j ≡ way) → Dec (t ≡ tag) → own_way t tags' counts' ≡ j
        go (yes here) (yes mine) = first_at 4 (is_own t tags' counts') j l (none_of_it here mine) e
        go (yes here) (no other) = true_is_not_false e (rw here (not_here t other))
        go (no ne) (yes mine) = absurd (ne (sym (was ne) ∙ rw mine (sym (own_room tag tags counts (subst (λ (x : ℕ). own_way x tags counts < 4) mine (omega (arith, was ne, l)))))))
        go (no ne) (no other) = first_at 4 (is_own t tags' counts') j l (none_before ne other) e

    -- a tag whose entry stood in the room is nowhere then
    pub gone : (t : ℕ) → t ≢ tag → is_own t tags counts way ≡ true → way < 4 → count_in t tags' counts' ≡ pos 0
    unfolding count_in own_way
    gone t ne held l = rw nowhere refl
      where
        first : own_way t tags counts ≡ way
        first = once t way l held

        none : (i : ℕ) → i < 4 → Dec (i ≡ way) → is_own t tags' counts' i ≡ false
        none i k (yes q) = rw q (not_here t ne)
        none i k (no q) =
            set_there tags counts way tag count in-tags in-counts t i q
            ∙ is_false _ (λ e. q (sym (once t i k e) ∙ first))

        nowhere : own_way t tags' counts' ≡ 4
        nowhere = first_none 4 (is_own t tags' counts') (λ i k. none i k (ℕ_discrete i way))

-- the tag that the room tells as replaced had its entry there
stood : (tag : ℕ) (tags : List ℕ) (counts : List ℤ) (t : ℕ) → (room_for tag tags counts).replaced ≡ Some t → is_own t tags counts (room_for tag tags counts).way ≡ true
stood tag tags counts t =
    room_cases tag tags counts (λ r. r.replaced ≡ Some t → is_own t tags counts r.way ≡ true)
    (λ h told. absurd (nothing_is_no_tag told))
    (λ h k told. absurd (nothing_is_no_tag told))
    (λ h k told. and_yes (ap not (before_empty tag tags counts (smallest_way counts) (omega (arith, smallest_lt counts)))) (eq-eqb _ _ (tag_of told)))
  where
    tag_of : {a b : ℕ} → Some a ≡ Some b → a ≡ b
    tag_of e = cc

-- ---- in the table
abbrev pub Once : List ℕ → List ℤ → Type 0
Once tags counts = (line : ℕ) → lacks_line line (length tags) (length counts) ≡ false → OnceIn (line_of line tags) (line_of line counts)

module _ (tags : List ℕ) (counts : List ℤ) (once : Once tags counts) where
  -- counts decay
  pub once_decayed : (points : ℕ) → Once tags (map (decayed_by points) counts)
  once_decayed points line there tag way l e =
      same_own points line tag tags counts
      ∙ once line (sym (ap (λ (n : ℕ). lacks_line line (length tags) n) (length-map counts (decayed_by points))) ∙ there) tag way l
      (sym (ap (λ (b : Bool). not b && eqb (get_or (line_of line tags) way 0) tag) (ap is_empty (at points counts line way l) ∙ same_empty points _)) ∙ e)

  -- an entry is written
  module _ (line tag : ℕ) (count : ℤ) where
    abbrev place : ℕ
    place = 4 * line + (room line tag count tags counts).way

    small : (room line tag count tags counts).way < 4
    small = low line tag count tags counts

    -- the written line is the line with its entry set; the others are as they were
    once_there : lacks_line line (length tags) (length counts) ≡ false → Once (set tags place tag) (set counts place count)
    once_there e m there = go (ℕ_discrete m line)
      where
        go : Dec (m ≡ line) → OnceIn (line_of m (set tags place tag)) (line_of m (set counts place count))
        go (yes same) =
            let inside = within line tag count tags counts e in
            rw (same, own_line line _ tags tag small, own_line line _ counts count small)
            (once_written (line_of line tags) (line_of line counts) (once line e) tag count inside.0 inside.1)
        go (no other) =
            rw (other_line m line _ tags tag other small, other_line m line _ counts count other small)
            (once m (sym (same_lines m _ _ tag count tags counts) ∙ there))

    pub once_after : Once (after line tag count tags counts).tags (after line tag count tags counts).counts
    once_after = cases line tag count tags counts (λ w. Once w.tags w.counts) once once_there

    -- what it replaced is gone
    gone_there : (t : ℕ) → lacks_line line (length tags) (length counts) ≡ false → (room line tag count tags counts).replaced ≡ Some t
        → count_of line t (set tags place tag) (set counts place count) ≡ pos 0
    unfolding count_of
    gone_there t e told =
        let inside = within line tag count tags counts e in
        rw (own_line line _ tags tag small, own_line line _ counts count small)
        (cond_at _ _ (same_lines line _ _ tag count tags counts ∙ e)
        ∙ gone (line_of line tags) (line_of line counts) (once line e) tag count inside.0 inside.1 t
        (replaced_in tag (line_of line tags) (line_of line counts) t told) (stood tag (line_of line tags) (line_of line counts) t told) small)

    pub gone_after : (t : ℕ) → (after line tag count tags counts).replaced ≡ Some t
        → count_of line t (after line tag count tags counts).tags (after line tag count tags counts).counts ≡ pos 0
    gone_after t =
        cases line tag count tags counts (λ w. w.replaced ≡ Some t → count_of line t w.tags w.counts ≡ pos 0)
        (λ told. absurd (nothing_is_no_tag told))
        (gone_there t)

-- ---- a cold table has no entry
module _ (tags : List ℕ) (n : ℕ) (count : ℤ) (empty : is_empty count ≡ true) where
  none_own : (line tag way : ℕ) → lacks_line line (length tags) (length (replicate n count)) ≡ false → way < 4
      → is_own tag (line_of line tags) (line_of line (replicate n count)) way ≡ false
  none_own line tag way there l =
      let long = (has_line line (length tags) (length (replicate n count)) there).1 in
      let size : length (replicate n count) ≡ n = length-replicate n count in
      let is = in_line line (replicate n count) way (pos 0) l ∙ get_or-replicate n (4 * line + way) count (pos 0) (omega arith) in
      ap (λ (b : Bool). not b && eqb (get_or (line_of line tags) way 0) tag) (ap is_empty is ∙ empty)

  pub once_cold : Once tags (replicate n count)
  once_cold line there tag way l e = true_is_not_false e (none_own line tag way there l)

  pub count_cold : (line tag : ℕ) → count_of line tag tags (replicate n count) ≡ pos 0
  unfolding count_of count_in own_way
  count_cold line tag = go (lacks_line line (length tags) (length (replicate n count))) refl
    where
      nowhere : lacks_line line (length tags) (length (replicate n count)) ≡ false → first_below 4 (is_own tag (line_of line tags) (line_of line (replicate n count))) ≡ 4
      nowhere there = first_none 4 _ (λ way l. none_own line tag way there l)

      go : (t : Bool) → lacks_line line (length tags) (length (replicate n count)) ≡ t → cond t (pos 0) (count_in tag (line_of line tags) (line_of line (replicate n count))) ≡ pos 0
      go true there = refl
      go false there = rw (nowhere there) refl
