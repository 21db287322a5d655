-- What a turn does to the bytes at hand, to the room and to what is due.
-- Assumes nothing.
use mathlib.Core.Bool.{Bool, true, false, cond, false≢true}
use mathlib.Core.List.{List, [], ◌∷◌, ◌++◌, map, append_assoc}
use mathlib.Core.Path.{◌≡◌, refl, sym, ap, subst, ◌∙◌}
use mathlib.Core.Logic.{⊎_elim}
use Prim.Native.Nat.{ℕ, zero, suc, ◌+◌, ◌-◌, ◌≤◌, ◌<◌}
use native.Mathlib.Omega.{arith}
use lib.Dec.{leb}
use lib.ListN.{length, take, drop, length-append, length-drop, take-append-drop}
use lib.Seq.{paste, take_all, take_at, drop_at, take-add, take-paste, length-paste, take-append_seam, length-take-le}
use borrow.Author.Tests.{le-leb, lt-leb}
use Rattle.laws.proofs.Tests.{Which, below, above, which}
use Rattle.words.specs.Words.{stored}
use Rattle.words.proofs.Words.{all_stored}
use Rattle.capture.specs.declared.Cursor.{Cursor}
use Rattle.capture.specs.declared.Record.{Record}
use Rattle.capture.specs.declared.Reading.{Reading}
use Rattle.capture.specs.declared.Reading.TheVariants.{End, Cut, Long, Whole}
use Rattle.capture.specs.Capture.{next_of, record_refusal}
use Rattle.capture.specs.Whole.{Course, moved_to, stopped, turn, in_turn, course_of, bytes_of, content_in, placed, later_record, later_reading}
use Rattle.capture.proofs.Readings.{tells, whole_record}
use Rattle.capture.proofs.Pieces.{bytes_before, same_bytes}
use Rattle.replay.specs.Replay.{record_judged}
use Rattle.outputs.specs.declared.Output.{Output}
use Rattle.outputs.proofs.Whole.{Sized}
use Rattle.feeding.specs.Whole.{Told, answered, asked_in, told_next, told_in}
use Rattle.feeding.proofs.Pieces.{due}
use Rattle.feeding.proofs.Sizes.{AllSized}
use Rattle.feeding.proofs.Whole.{is_long, is_whole}
use Rattle.streams.specs.Streams.{Held, shifted}
use Rattle.streams.proofs.Shifts as shifts
use Rattle.turns.specs.Runs.{joined, AllFull, behind_first}
use Rattle.turns.specs.declared.Stage.{Stage}
use Rattle.turns.specs.declared.Source.TheVariants.{Open, Ended, Lost}
use Rattle.turns.specs.Turns.{lost_in, has_ended, is_lost, refilled_stage}

-- ---- what a read tells of input
lost_by : (failed none : Bool) → lost_in (cond failed Lost (cond none Ended Open)) ≡ failed
lost_by true none = refl
lost_by false true = refl
lost_by false false = refl

pub lost_so : (s : Stage) (held : ℕ) (failed : Bool) → is_lost (refilled_stage s held failed) ≡ failed
lost_so s held failed = lost_by failed (leb held s.held)

pub open_so : (s : Stage) (held : ℕ) → leb held s.held ≡ false → has_ended (refilled_stage s held false) ≡ false
open_so s held e = rw e

-- ---- bytes
-- what is left after the first ones
pub drop_of_take : (a n : ℕ) (l : List ℕ) → a + n ≤ length l → drop a (take (a + n) l) ≡ take n (drop a l)
drop_of_take a n l h =
    ap (drop a) (take-add a n l) ∙ drop_at (take a l) (take n (drop a l)) a (length-take-le a l (omega arith))

-- the bytes at hand after a shift, in a buffer of the same length
pub record Shifted (at held : ℕ) (input : List ℕ) : Type 0 where
  pub count : (shifted at held input).count ≡ held - at
  pub long : length (shifted at held input).bytes ≡ length input
  pub front : take (held - at) (shifted at held input).bytes ≡ drop at (take held input)

pub shift_so : (at held : ℕ) (input : List ℕ) → at ≤ held → held ≤ length input → Shifted at held input
shift_so at held input h g =
    let e = shifts.within at held input h g in
    let n : ℕ = held - at in
    let few : n ≤ length (drop at input) = omega (arith, length-drop at input) in
    let sum : at + n ≡ held = omega arith in
    let zeroth : 0 + n ≡ n = omega arith in
    record {
      count = ap (λ (x : Held). x.count) e;
      long = ap (λ (x : Held). length x.bytes) e ∙ length-paste input 0 (drop at input) n (omega arith) few;
      front =
          ap (λ (x : Held). take n x.bytes) e
          ∙ ap (λ (k : ℕ). take k (paste input 0 (drop at input) n)) (sym zeroth)
          ∙ take-paste input 0 (drop at input) n (omega arith) few
          ∙ sym (drop_of_take at n input (omega arith))
          ∙ ap (λ (k : ℕ). drop at (take k input)) sum;
    }

-- bytes that were read stand behind those at hand
pub read_behind : (got : List ℕ) (held : ℕ) (input : List ℕ) → held + length got ≤ length input
    → take (held + length got) (stored got held input) ≡ take held input ++ got
read_behind got held input h =
    ap (take (held + length got)) (all_stored got held input h ∙ sym (append_assoc (take held input) got (drop (held + length got) input)))
    ∙ take_at (take held input ++ got) (drop (held + length got) input) (held + length got)
    (omega (arith, length-append (take held input) got, length-take-le held input (omega (arith, h))))

-- what was put from the start of the room on
pub put_in_front : (bytes room : List ℕ) → length bytes ≤ length room → take (length bytes) (stored bytes 0 room) ≡ bytes
put_in_front bytes room h =
    ap (take (length bytes)) (all_stored bytes 0 room (omega (arith, h)))
    ∙ take-append_seam bytes (drop (0 + length bytes) room)

-- ---- reads
-- the bytes that a read gets, and those that it leaves, are all of them
pub got_and_left : (free : ℕ) (piece : List ℕ) (pieces : List (List ℕ))
    → take free piece ++ joined (behind_first free piece pieces) ≡ piece ++ joined pieces
got_and_left free piece pieces = go (which free (length piece))
  where
    go : Which free (length piece) → take free piece ++ joined (behind_first free piece pieces) ≡ piece ++ joined pieces
    go (below h) =
        rw (lt-leb (length piece) free h)
        (sym (append_assoc (take free piece) (drop free piece) (joined pieces))
        ∙ ap (λ (b : List ℕ). b ++ joined pieces) (take-append-drop free piece))
    go (above h) = rw (le-leb (length piece) free h, take_all free piece h)

pub full_left : (free : ℕ) (piece : List ℕ) (pieces : List (List ℕ)) → AllFull pieces → AllFull (behind_first free piece pieces)
full_left free piece pieces full = go (which free (length piece))
  where
    go : Which free (length piece) → AllFull (behind_first free piece pieces)
    go (below h) = rw (lt-leb (length piece) free h) (omega (arith, h, length-drop free piece), full)
    go (above h) = rw (le-leb (length piece) free h) full

-- ---- readings
pub whole_later : (n : ℕ) (x : Reading) → is_whole (later_reading n x) ≡ is_whole x
whole_later n End = refl
whole_later n Cut = refl
whole_later n Long = refl
whole_later n (Whole r) = refl

pub long_later : (n : ℕ) (x : Reading) → is_long (later_reading n x) ≡ is_long x
long_later n End = refl
long_later n Cut = refl
long_later n Long = refl
long_later n (Whole r) = refl

pub refusal_later : (n : ℕ) (x : Reading) → record_refusal (later_reading n x) ≡ record_refusal x
refusal_later n End = refl
refusal_later n Cut = refl
refusal_later n Long = refl
refusal_later n (Whole r) = refl

abbrev pub cursor_at : Bool → ℕ → Cursor
cursor_at big at = record { at = at; big_endian = big }

-- what stands at a place is what stands in front of the bytes from there on
pub moved : (big : Bool) (at : ℕ) (l : List ℕ) → at ≤ length l
    → next_of l (cursor_at big at) ≡ later_reading at (next_of (drop at l) (cursor_at big 0))
moved big at l h =
    let n : length (take at l) ≡ at = length-take-le at l h in
    let place : at ≡ length (take at l) + 0 = omega (arith, n) in
    (λ i. next_of (sym (take-append-drop at l) i) (cursor_at big (place i)))
    ∙ bytes_before (take at l) (drop at l) (cursor_at big 0)
    ∙ ap (λ (k : ℕ). later_reading k (next_of (drop at l) (cursor_at big 0))) n

-- where no whole record stands, the course ends
no_turn : (c : Cursor) (rest : Cursor → Course) (x : Reading) → is_whole x ≡ false → turn c rest x ≡ stopped c x
no_turn c rest End e = refl
no_turn c rest Cut e = refl
no_turn c rest Long e = refl
no_turn c rest (Whole r) e = absurd (false≢true (sym e))

no_turns : (turns : ℕ) (l : List ℕ) (c : Cursor) → is_whole (next_of l c) ≡ false → in_turn turns l c ≡ stopped c (next_of l c)
unfolding in_turn
no_turns zero l c e = refl
no_turns (suc turns) l c e = no_turn c (λ d. in_turn turns l d) (next_of l c) e

pub no_course : (l : List ℕ) (c : Cursor) → is_whole (next_of l c) ≡ false → course_of l c ≡ stopped c (next_of l c)
no_course l c e = no_turns (length l) l c e

-- a course never passes the end
pub never_past : (l : List ℕ) (turns : ℕ) (c : Cursor) → c.at ≤ length l → (in_turn turns l c).unread ≤ length l
unfolding in_turn
never_past l zero c h = h
never_past l (suc turns) c h =
    (elim (next_of l c) as (λ x. next_of l c ≡ x → (turn c (λ d. in_turn turns l d) x).unread ≤ length l) [
      | End ↦ λ e. h
      | Cut ↦ λ e. h
      | Long ↦ λ e. h
      | Whole r ↦ λ e. never_past l turns (moved_to r.end c) (whole_record l c r e).3
    ]) refl

-- nor goes back; and where it read none of the bytes, no record
pub never_back : (l : List ℕ) (turns : ℕ) (c : Cursor) → c.at ≤ (in_turn turns l c).unread
unfolding in_turn
never_back l zero c = omega arith
never_back l (suc turns) c =
    (elim (next_of l c) as (λ x. next_of l c ≡ x → c.at ≤ (turn c (λ d. in_turn turns l d) x).unread) [
      | End ↦ λ e. omega arith
      | Cut ↦ λ e. omega arith
      | Long ↦ λ e. omega arith
      | Whole r ↦ λ e.
          let facts = whole_record l c r e in
          omega (arith, facts.0, facts.1, never_back l turns (moved_to r.end c))
    ]) refl

pub none_read : (l : List ℕ) (turns : ℕ) (c : Cursor) → (in_turn turns l c).unread ≤ c.at → (in_turn turns l c).records ≡ []
unfolding in_turn
none_read l zero c h = refl
none_read l (suc turns) c h =
    (elim (next_of l c) as
    (λ x. next_of l c ≡ x → (turn c (λ d. in_turn turns l d) x).unread ≤ c.at → (turn c (λ d. in_turn turns l d) x).records ≡ []) [
      | End ↦ λ e h. refl
      | Cut ↦ λ e h. refl
      | Long ↦ λ e h. refl
      | Whole r ↦ λ e h.
          let facts = whole_record l c r e in
          absurd (omega (arith, facts.0, facts.1, never_back l turns (moved_to r.end c), h))
    ]) refl h

-- bytes that hold neither a whole record nor one that is too long are fewer than the longest record has
pub few_left : (big : Bool) (l : List ℕ) (x : Reading) → next_of l (cursor_at big 0) ≡ x → is_whole x ≡ false → is_long x ≡ false
    → length l < 2064
few_left big l End e w o = omega (arith, tells l (cursor_at big 0) End e)
few_left big l Cut e w o =
    let t = tells l (cursor_at big 0) Cut e in
    ⊎_elim (λ h. omega (arith, h)) (λ h. omega (arith, h.0, h.1, h.2)) t.1
few_left big l Long e w o = absurd (false≢true (sym o))
few_left big l (Whole r) e w o = absurd (false≢true (sym w))

-- ---- sizes
pub sized_split : (output : Output) (l : List ℕ) (first second : List Record) (t : Told) → AllSized output l (first ++ second) t
    → AllSized output l first t × AllSized output l second (told_in output l first t)
sized_split output l [] second t s = (tt, s)
sized_split output l (r ∷ first) second t s =
    let rest = sized_split output l first second (told_next output l r t) s.1 in
    ((s.0, rest.0), rest.1)

abbrev pub with_bytes : List ℕ → Told → Told
with_bytes bytes t = record { bytes = bytes; records = t.records; refusals = t.refusals; state = t.state }

-- they do not depend on what was put out before
pub sized_anew : (output : Output) (l : List ℕ) (records : List Record) (bytes : List ℕ) (t : Told) → AllSized output l records t
    → AllSized output l records (with_bytes bytes t)
sized_anew output l [] bytes t s = tt
sized_anew output l (r ∷ records) bytes t s =
    (s.0, sized_anew output l records (told_next output l r (with_bytes bytes t)).bytes (told_next output l r t) s.1)

-- those of a window's records are those of the same records in the whole
sized_one : (output : Output) (l m : List ℕ) (r : Record) (a b : ℕ) (t : Told) → let s = placed r a b in
    bytes_of m s ≡ bytes_of l r
    → Sized output (content_in m s) (answered m s t).answer (asked_in output m s t) ≡ Sized output (content_in l r) (answered l r t).answer (asked_in output l r t)
unfolding record_judged
sized_one output l m r a b t e = rw e

module _ (output : Output) (past window rest : List ℕ) where
  abbrev whole : List ℕ
  whole = past ++ (window ++ rest)

  pub sized_window : (turns : ℕ) (c : Cursor) (t : Told)
      → AllSized output whole (map (later_record (length past)) (in_turn turns window c).records) t
      → AllSized output window (in_turn turns window c).records t
  unfolding in_turn
  sized_window zero c t s = tt
  sized_window (suc turns) c t s =
      (elim (next_of window c) as
      (λ x. next_of window c ≡ x → AllSized output whole (map (later_record (length past)) (turn c (λ d. in_turn turns window d) x).records) t
      → AllSized output window (turn c (λ d. in_turn turns window d) x).records t) [
        | End ↦ λ e s. tt
        | Cut ↦ λ e s. tt
        | Long ↦ λ e s. tt
        | Whole r ↦ λ e s.
            let n = length past in
            let bytes = same_bytes past window rest c r e in (
              subst (λ (X : Type 0). X) (sized_one output window whole r (n + r.from) (n + r.end) t bytes) s.0,
              sized_window turns (moved_to r.end c) (told_next output window r t)
                  (subst (λ (u : Told). AllSized output whole (map (later_record n) (in_turn turns window (moved_to r.end c)).records) u)
                  (due output window whole r (n + r.from) (n + r.end) t bytes) s.1),
            )
      ]) refl s
