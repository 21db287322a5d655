-- Reading a whole capture in turn ends, never passes its end, and covers every byte that it does not refuse.
-- Assumes nothing.
use mathlib.Core.Bool.{Bool, true, false, cond, not, ◌||◌}
use mathlib.Core.List.{List, [], ◌∷◌, ◌++◌, append_assoc}
use mathlib.Core.Logic.{◌≢◌}
use mathlib.Core.Path.{◌≡◌, refl, sym, ap, subst, ◌∙◌}
use Prim.Native.Nat.{ℕ, zero, suc, ◌+◌, ◌-◌, ◌≤◌, ◌<◌}
use native.Mathlib.Omega.{arith}
use lib.Dec.{eqb, ltb}
use lib.ListN.{length, take, drop, take-append-drop}
use lib.Seq.{drop-drop}
use borrow.Author.Tests.{ltb-false, eqb-true, not-false}
use Rattle.std.specs.Prelude.{Result, Ok, Err}
use Rattle.refused.specs.declared.Refusal.{Refusal}
use Rattle.refused.specs.declared.Refusal.TheVariants as refusal
use Rattle.laws.proofs.Tests.{or_left, or_right}
use Rattle.capture.specs.Format.{magic, magic_in, major_in, minor_in, link_type_in}
use Rattle.capture.specs.declared.Cursor.{Cursor}
use Rattle.capture.specs.declared.Record.{Record}
use Rattle.capture.specs.declared.Reading.{Reading}
use Rattle.capture.specs.declared.Reading.TheVariants.{End, Cut, Long, Whole}
use Rattle.capture.specs.Capture.{big_endian, bad_words, bad_header, opened_of, next_of, record_refusal}
use Rattle.capture.specs.Whole.{Course, moved_to, stopped, onto, turn, in_turn, course_of, Each, Tiles, all_bytes}
use Rattle.capture.proofs.Readings.{at_the_end, tells, whole_record}

-- records side by side hold all the bytes between, in order
between : (l : List ℕ) (a : ℕ) (records : List Record) (b : ℕ) → Tiles a records b → all_bytes l records ++ drop b l ≡ drop a l
between l a [] b t = ap (λ (n : ℕ). drop n l) (sym t)
between l a (r ∷ records) b t =
    let long : ℕ = 16 + r.captured in
    let start : r.from - 16 ≡ a = omega arith in
    let end : r.end ≡ a + long = omega arith in
    append_assoc (take long (drop (r.from - 16) l)) (all_bytes l records) (drop b l)
    ∙ ap (◌++◌ (take long (drop (r.from - 16) l))) (between l r.end records b t.3)
    ∙ rw (start, end, ← drop-drop long a l) (take-append-drop long (drop a l))

-- a reading that ends a course: any but a whole record
abbrev Over : Reading → Type 0
Over End = Unit {0}
Over Cut = Unit {0}
Over Long = Unit {0}
Over (Whole r) = ⊥

module _ (l : List ℕ) where
  -- what each turn keeps up
  record Kept (turns : ℕ) (cursor : Cursor) (course : Course) : Type 0 where
    over : length l ≤ cursor.at + turns → Over course.ended
    last : next_of l (moved_to course.unread cursor) ≡ course.ended
    upto : cursor.at ≤ length l → course.unread ≤ length l
    inside : Each (λ r. (r.from ≤ r.end) × (r.end ≤ length l)) course.records
    tiles : Tiles cursor.at course.records course.unread

  halts : {turns : ℕ} {cursor : Cursor} {x : Reading} → next_of l cursor ≡ x → (length l ≤ cursor.at + turns → Over x)
      → Kept turns cursor (stopped cursor x)
  halts e o = record { over = o; last = e; upto = λ h. h; inside = tt; tiles = refl }

  kept : (turns : ℕ) (cursor : Cursor) → Kept turns cursor (in_turn turns l cursor)
  unfolding in_turn
  kept zero cursor = halts refl (λ h. subst Over (sym (at_the_end l cursor (omega arith))) tt)
  kept (suc turns) cursor =
      (elim (next_of l cursor) as (λ x. next_of l cursor ≡ x → Kept (suc turns) cursor (turn cursor (λ c. in_turn turns l c) x)) [
        | End ↦ λ e. halts e (λ h. tt)
        | Cut ↦ λ e. halts e (λ h. tt)
        | Long ↦ λ e. halts e (λ h. tt)
        | Whole r ↦ λ e.
            let t = whole_record l cursor r e in
            let k = kept turns (moved_to r.end cursor) in
            record {
              over = λ h. k.over (omega arith);
              last = k.last;
              upto = λ h. k.upto t.3;
              inside = ((omega arith, t.3), k.inside);
              tiles = (t.0, t.1, t.2, k.tiles);
            }
      ]) refl

  -- turns that are enough come to the same, however many they are
  same : (t u : ℕ) (cursor : Cursor) → length l ≤ cursor.at + t → length l ≤ cursor.at + u → in_turn t l cursor ≡ in_turn u l cursor
  unfolding in_turn
  same zero zero cursor h k = refl
  same zero (suc u) cursor h k = rw (at_the_end l cursor (omega arith))
  same (suc t) zero cursor h k = rw (at_the_end l cursor (omega arith))
  same (suc t) (suc u) cursor h k =
      (elim (next_of l cursor) as (λ x. next_of l cursor ≡ x → turn cursor (λ c. in_turn t l c) x ≡ turn cursor (λ c. in_turn u l c) x) [
        | End ↦ λ e. refl
        | Cut ↦ λ e. refl
        | Long ↦ λ e. refl
        | Whole r ↦ λ e.
            let facts = whole_record l cursor r e in
            ap (onto (r ∷ [])) (same t u (moved_to r.end cursor) (omega arith) (omega arith))
      ]) refl

  -- it ends, from any cursor: with as many turns as there are bytes, or more, it is ended by no whole record, and comes to the same
  module _ (cursor : Cursor) (turns : ℕ) (h : length l ≤ turns) where
    pub ends : (r : Record) → (in_turn turns l cursor).ended ≢ Whole r
    ends r e = subst Over e ((kept turns cursor).over (omega arith))

    pub more_turns : in_turn turns l cursor ≡ course_of l cursor
    more_turns = same turns (length l) cursor (omega arith) (omega arith)

-- what is said of the course of a capture from a cursor on
pub record Covers (l : List ℕ) (cursor : Cursor) (course : Course) : Type 0 where
  -- it ends: by no whole record, and more turns read no more
  pub ends : (r : Record) → course.ended ≢ Whole r
  pub more_turns : (turns : ℕ) → length l ≤ turns → in_turn turns l cursor ≡ course
  -- it never passes the end
  pub inside : Each (λ r. (r.from ≤ r.end) × (r.end ≤ length l)) course.records
  pub upto : course.unread ≤ length l
  -- it covers every byte that it does not refuse: the records lie side by side; their bytes, and then those that were not read, are all the
  -- bytes from the cursor on, in order; where some were not read, reading there is what ended it, refused by 8; where End did, none is left
  pub tiles : Tiles cursor.at course.records course.unread
  pub all : all_bytes l course.records ++ drop course.unread l ≡ drop cursor.at l
  pub last : next_of l (moved_to course.unread cursor) ≡ course.ended
  pub refused : course.unread < length l → record_refusal course.ended ≡ 8
  pub none_left : course.ended ≡ End → course.unread ≡ length l

pub covers : (l : List ℕ) (cursor : Cursor) → cursor.at ≤ length l → Covers l cursor (course_of l cursor)
covers l cursor h =
    record {
      ends = ends l cursor (length l) (omega arith);
      more_turns = more_turns l cursor;
      inside = k.inside;
      upto = k.upto h;
      tiles = k.tiles;
      all = between l cursor.at course.records course.unread k.tiles;
      last = k.last;
      refused = left course.ended (k.over (omega arith)) k.last;
      none_left = λ e. omega (arith, tells l (moved_to course.unread cursor) End (k.last ∙ e), k.upto h);
    }
  where
    course : Course
    course = course_of l cursor

    k : Kept l (length l) cursor course
    k = kept l (length l) cursor

    left : (x : Reading) → Over x → next_of l (moved_to course.unread cursor) ≡ x → course.unread < length l → record_refusal x ≡ 8
    left End o e m = absurd (omega (arith, tells l (moved_to course.unread cursor) End e))
    left Cut o e m = refl
    left Long o e m = refl
    left (Whole r) o e m = absurd o

-- a capture that opens has its header, and its first record starts behind it; what its words say
pub record Opens (l : List ℕ) (cursor : Cursor) : Type 0 where
  pub long : 24 ≤ length l
  pub at_first : cursor.at ≡ 24
  pub magic_is : magic_in cursor.big_endian l ≡ magic
  pub major_is : major_in cursor.big_endian l ≡ 2
  pub minor_is : minor_in cursor.big_endian l ≡ 4
  pub link_is : link_type_in cursor.big_endian l ≡ 1

is_so : (a b : ℕ) → not (eqb a b) ≡ false → a ≡ b
is_so a b e = eqb-true a b (not-false (eqb a b) e)

pub says : (l : List ℕ) (cursor : Cursor) → opened_of l ≡ Ok cursor → Opens l cursor
unfolding opened_of bad_header
says l cursor e = subst Says e (go (ltb (length l) 24) (bad_words big l) (ltb-false _ _) words)
  where
    big : Bool
    big = big_endian l

    first : Cursor
    first = record { at = 24; big_endian = big }

    Says : Result Cursor Refusal → Type 0
    Says (Err refused) = Unit {0}
    Says (Ok c) = Opens l c

    words : bad_words big l ≡ false → 24 ≤ length l → Opens l (first)
    words q long =
        let first = or_left (not (eqb (magic_in big l) magic)) _ q in
        let others = or_right (not (eqb (magic_in big l) magic)) _ q in
        let version = or_left (not (eqb (major_in big l) 2) || not (eqb (minor_in big l) 4)) _ others in
        record {
          long = long;
          at_first = refl;
          magic_is = is_so (magic_in big l) magic first;
          major_is = is_so (major_in big l) 2 (or_left (not (eqb (major_in big l) 2)) _ version);
          minor_is = is_so (minor_in big l) 4 (or_right (not (eqb (major_in big l) 2)) _ version);
          link_is = is_so (link_type_in big l) 1 (or_right (not (eqb (major_in big l) 2) || not (eqb (minor_in big l) 4)) _ others);
        }

    go : (short bad : Bool) → (short ≡ false → 24 ≤ length l) → (bad ≡ false → 24 ≤ length l → Opens l (first))
        → Says (cond (cond short true bad) (Err refusal.Capture) (Ok (first)))
    go true bad h w = tt
    go false true h w = tt
    go false false h w = w refl (h refl)

-- so it is of a whole capture: of every one that opens, from its first record on
pub whole_capture : (l : List ℕ) (cursor : Cursor) → opened_of l ≡ Ok cursor
    → (cursor.at ≡ 24) × (24 ≤ length l) × Covers l cursor (course_of l cursor)
whole_capture l cursor e =
    let o = says l cursor e in
    (o.at_first, o.long, covers l cursor (omega (arith, o.at_first, o.long)))
