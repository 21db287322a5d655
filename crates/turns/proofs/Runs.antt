-- However a capture is cut into reads, the turns put out what the whole capture is due, and end as it ends.
-- Assumes nothing.
use mathlib.Core.Bool.{Bool, true, false, cond, not, ◌||◌, false≢true}
use mathlib.Core.List.{List, [], ◌∷◌, ◌++◌, map, append_assoc, append-nil}
use mathlib.Core.Logic.{◌⊎◌, inl, inr, ⊎_elim}
use mathlib.Core.Path.{◌≡◌, refl, sym, ap, subst, ◌∙◌}
use Prim.Native.Nat.{ℕ, zero, suc, min, ◌+◌, ◌-◌, ◌*◌, ◌≤◌, ◌<◌}
use native.Mathlib.Omega.{arith}
use lib.Dec.{eqb, ltb}
use lib.ListN.{length, take, drop, length-append, length-take, length-drop, take-append-drop}
use lib.Seq.{take_all, take-append-le, length-take-le}
use borrow.Author.Tests.{le-leb, lt-leb, lt-ltb, le-ltb, leb-true, leb-false, eqb-true}
use Rattle.laws.proofs.Tests.{Which, below, above, which, cond_at, and_yes}
use Rattle.words.proofs.Words.{stored_length, nothing_stored}
use Rattle.capture.specs.declared.Cursor.{Cursor}
use Rattle.capture.specs.declared.Record.{Record}
use Rattle.capture.specs.declared.Reading.{Reading}
use Rattle.capture.specs.declared.Reading.TheVariants.{End, Cut, Long, Whole}
use Rattle.capture.specs.Capture.{next_of, record_refusal}
use Rattle.capture.specs.Whole.{Course, in_turn, course_of, later_record, later_reading}
use Rattle.capture.proofs.Readings.{at_the_end, tells}
use Rattle.capture.proofs.Pieces.{bytes_before, in_pieces, course_in_pieces}
use Rattle.lines.specs.Room.{room_of}
use Rattle.outputs.specs.declared.Output.{Output}
use Rattle.feeding.specs.Feeding.{Replayed, replayed_of, fed}
use Rattle.feeding.specs.Whole.{Told, told_in}
use Rattle.feeding.proofs.Sizes.{AllSized}
use Rattle.feeding.proofs.Whole.{is_long, is_whole, sofar, Stops, no_record, no_room, no_bytes, FedSome, fed_some}
use Rattle.feeding.proofs.Pieces.{anew, begun_anew as told_begun_anew, told_in_pieces, window_due}
use Rattle.streams.specs.Streams.{Held, shifted}
use Rattle.turns.specs.Turns.{begun_anew, refilled_stage, written_stage, wants_bytes, has_ended, is_lost, goes_on, ends_refused, Turn, turn_of, window_of, fed_of, taken_of, turn_taken}
use Rattle.turns.specs.Runs.{Run, joined, AllFull, behind_first, free_of, read, refilled, put_in, is_taken, wrote, told, one_turn, run}
use Rattle.turns.proofs.Windows.{lost_so, open_so, Shifted, shift_so, read_behind, put_in_front, whole_later, long_later, refusal_later, cursor_at, moved, no_course, never_past, none_read, few_left, got_and_left, full_left, sized_split, sized_anew, sized_window}

-- ---- whether a read is to fail is a matter of input
read_fails : (t : Turn) (out : List ℕ) (pieces : List (List ℕ)) (fails : Bool) → (read t out pieces fails).input.fails ≡ fails
read_fails t out [] fails = refl
read_fails t out (piece ∷ pieces) fails = refl

either_fails : (b : Bool) (y z : Run) (fails : Bool) → y.input.fails ≡ fails → z.input.fails ≡ fails → (cond b y z).input.fails ≡ fails
either_fails true y z fails e f = e
either_fails false y z fails e f = f

module _ (takes : ℕ) (output : Output) (big : Bool) where
  turn_fails : (r : Run) → (one_turn takes output big r).input.fails ≡ r.input.fails
  turn_fails r =
      let e = either_fails r.turn.stage.wants_bytes (read r.turn r.out r.input.pieces r.input.fails) r r.input.fails
      (read_fails r.turn r.out r.input.pieces r.input.fails) refl in
      either_fails (goes_on (refilled r).turn.stage) (told takes output big (refilled r)) (refilled r) r.input.fails e e

  pub run_fails : (turns : ℕ) (r : Run) → (run takes output big turns r).input.fails ≡ r.input.fails
  unfolding run
  run_fails zero r = refl
  run_fails (suc turns) r =
      either_fails (goes_on r.turn.stage) (run takes output big turns (one_turn takes output big r)) r r.input.fails
      (run_fails turns (one_turn takes output big r) ∙ turn_fails r) refl

module _ (takes : ℕ) (output : Output) (big : Bool) (target : Told) (ended : Reading) where
  abbrev front : Cursor
  front = cursor_at big 0

  -- ---- what is due from a place of the whole on
  pub record DueIn (l : List ℕ) (n : ℕ) (t : Told) : Type 0 where
    pub due : told_in output l (course_of l (cursor_at big (n + 0))).records t ≡ target
    pub ended_is : (course_of l (cursor_at big (n + 0))).ended ≡ ended
    pub sized : AllSized output l (course_of l (cursor_at big (n + 0))).records t

  module _ (past window rest : List ℕ) where
    abbrev whole : List ℕ
    whole = past ++ (window ++ rest)

    -- where so many records of the window were told, the rest is due behind them
    due_on : (turns : ℕ) (t : Told) → DueIn whole (length past) t → let course = in_turn turns window front in
        DueIn whole (length (past ++ take course.unread window)) (told_in output window course.records t)
    due_on turns t d =
        let n : ℕ = length past in
        let course : Course = in_turn turns window front in
        let at : ℕ = course.unread in
        let inside : at ≤ length window = never_past window turns front (omega arith) in
        let place : n + at ≡ length (past ++ take at window) + 0 =
        omega (arith, length-append past (take at window), length-take-le at window inside) in
        let pieces = course_in_pieces past window rest turns front in
        let further : List Record = (course_of whole (cursor_at big (n + at))).records in
        let t2 : Told = told_in output window course.records t in
        let both = sized_split output whole (map (later_record n) course.records) further t
        (subst (λ (c : Course). AllSized output whole c.records t) pieces d.sized) in
        record {
          due =
              subst (λ (k : ℕ). told_in output whole (course_of whole (cursor_at big k)).records t2 ≡ target) place
              (sym (told_in_pieces output past window rest turns front t) ∙ d.due);
          ended_is =
              subst (λ (k : ℕ). (course_of whole (cursor_at big k)).ended ≡ ended) place
              (sym (ap (λ (c : Course). c.ended) pieces) ∙ d.ended_is);
          sized =
              subst (λ (k : ℕ). AllSized output whole (course_of whole (cursor_at big k)).records t2) place
              (subst (AllSized output whole further) (window_due output past window rest turns front t) both.1);
        }

    -- what the window's own records are
    sized_here : (t : Told) → DueIn whole (length past) t → AllSized output window (course_of window front).records t
    sized_here t d =
        let n : ℕ = length past in
        let course : Course = course_of window front in
        let pieces = course_in_pieces past window rest (length window) front in
        sized_window output past window rest (length window) front t
        (sized_split output whole (map (later_record n) course.records) (course_of whole (cursor_at big (n + course.unread))).records t
        (subst (λ (c : Course). AllSized output whole c.records t) pieces d.sized)).0

  -- where no whole record stands there, nothing more is due
  finish : (l : List ℕ) (n : ℕ) (t : Told) → DueIn l n t → is_whole (next_of l (cursor_at big (n + 0))) ≡ false
      → (t ≡ target) × (next_of l (cursor_at big (n + 0)) ≡ ended)
  finish l n t d e =
      let c = no_course l (cursor_at big (n + 0)) e in (
        sym (ap (λ (course : Course). told_in output l course.records t) c) ∙ d.due,
        sym (ap (λ (course : Course). course.ended) c) ∙ d.ended_is,
      )

  -- what is due stands behind what was told
  record Grown (t : Told) : Type 0 where
    rest : List ℕ
    is : target.bytes ≡ t.bytes ++ rest

  grows : (l : List ℕ) (n : ℕ) (t : Told) → DueIn l n t → Grown t
  grows l n t d =
      let records : List Record = (course_of l (cursor_at big (n + 0))).records in
      record {
        rest = (told_in output l records (anew t)).bytes;
        is = ap (λ (u : Told). u.bytes) (sym d.due ∙ told_begun_anew output l records t);
      }

  -- ---- a run
  abbrev pub told_so_far : Run → Told
  told_so_far r =
      record {
        bytes = r.out;
        records = r.turn.stage.progress.records;
        refusals = r.turn.stage.progress.refusals;
        state = r.turn.state;
      }

  module _ (l : List ℕ) where
    -- what is so of a run that goes on
    pub record Ready (r : Run) : Type 0 where
      pub past : List ℕ
      pub window : List ℕ
      pub held_in : r.turn.stage.held ≤ length r.turn.input
      pub window_is : take r.turn.stage.held r.turn.input ≡ window
      pub buffer : 2064 ≤ length r.turn.input
      pub room : 2064 ≤ length r.turn.room
      pub split : past ++ (window ++ joined r.input.pieces) ≡ l
      pub due : DueIn l (length past) (told_so_far r)
      pub full : AllFull r.input.pieces
      pub within : length r.out ≤ takes
      pub written : r.turn.stage.is_written ≡ true
      pub found : is_lost r.turn.stage ≡ false
      pub not_ended : has_ended r.turn.stage ≡ false
      pub not_over : r.turn.stage.progress.is_over ≡ false

    -- bytes are wanted only where those at hand hold no record, whole or too long
    pub record Waits (window : List ℕ) : Type 0 where
      pub no_whole : is_whole (next_of window front) ≡ false
      pub no_long : is_long (next_of window front) ≡ false

    pub record Going (r : Run) : Type 0 where
      pub ready : Ready r
      pub waits : r.turn.stage.wants_bytes ≡ true → Waits ready.window

    -- and of one that is over: all was told, and the end is the capture's, unless a read failed
    pub record Final (r : Run) : Type 0 where
      pub all_told : told_so_far r ≡ target
      pub stops : goes_on r.turn.stage ≡ false
      pub written : r.turn.stage.is_written ≡ true
      pub within : length r.out ≤ takes
      pub room : 2064 ≤ length r.turn.room
      pub ends_so : is_lost r.turn.stage ≡ false → ends_refused r.turn.stage ≡ eqb (record_refusal ended) 8
      pub found : r.input.fails ≡ false → is_lost r.turn.stage ≡ false
      pub lost : is_long ended ≡ false → is_lost r.turn.stage ≡ r.input.fails

    -- or a write failed: standard output has as much of what is due as it takes
    pub record Broken (r : Run) : Type 0 where
      pub part_told : r.out ≡ take takes target.bytes
      pub too_much : takes < length target.bytes
      pub stops : goes_on r.turn.stage ≡ false
      pub unwritten : r.turn.stage.is_written ≡ false
      pub room : 2064 ≤ length r.turn.room
      pub found : is_lost r.turn.stage ≡ false

    abbrev pub Over : Run → Type 0
    Over r = Final r ⊎ Broken r

    over_stops : (r : Run) → Over r → goes_on r.turn.stage ≡ false
    over_stops r over = ⊎_elim (λ f. f.stops) (λ b. b.stops) over

    -- how many turns it has left at most: each takes bytes, or asks for more
    abbrev pub unasked : Bool → ℕ
    unasked true = 0
    unasked false = 1

    abbrev pub left : Run → ℕ
    left r = 4 * length (joined r.input.pieces) + 2 * r.turn.stage.held + unasked r.turn.stage.wants_bytes

    -- what comes of a turn: it goes on, with fewer left, or it is over
    abbrev Then : ℕ → Run → Type 0
    Then k r = (Going r × (left r < k)) ⊎ Over r

    then_more : (j k : ℕ) (r : Run) → j ≤ k → Then j r → Then k r
    then_more j k r h p = ⊎_elim (λ g. inl (g.0, omega (arith, g.1, h))) (λ o. inr o) p

    goes : (r : Run) → Ready r → goes_on r.turn.stage ≡ true
    goes r d = rw (d.written, d.found, d.not_ended, d.not_over)

    -- ---- what is due is told
    module _ (r : Run) (d : Ready r) where
      abbrev t : Turn
      t = r.turn

      abbrev held : ℕ
      held = r.turn.stage.held

      abbrev x : Replayed
      x = fed_of output big t

      abbrev at : ℕ
      at = x.page.progress.at

      abbrev h : Held
      h = shifted at (min held (length t.input)) t.input

      abbrev after : Turn
      after = taken_of t x h

      abbrev bytes : List ℕ
      bytes = put_in (room_of after.stage.progress.put after.room)

      is_told : told takes output big r ≡ wrote takes after r.out r.input bytes
      unfolding turn_taken
      is_told = refl

      -- where all of it is taken
      abbrev next : Run
      next =
          record {
            turn = turn_of (written_stage after.stage true) after.input after.room after.state;
            out = r.out ++ bytes;
            input = r.input;
          }

      is_next : is_taken takes r.out bytes ≡ true → wrote takes after r.out r.input bytes ≡ next
      is_next e =
          λ i. record {
            turn = turn_of (written_stage after.stage (e i)) after.input after.room after.state;
            out = take_all takes (r.out ++ bytes) (leb-true (length (r.out ++ bytes)) takes e) i;
            input = r.input;
          }

      all_held : min held (length t.input) ≡ held
      all_held = omega (arith, d.held_in)

      window_so : window_of t ≡ d.window
      window_so = ap (λ (k : ℕ). take k t.input) all_held ∙ d.window_is

      window_long : length d.window ≡ held
      window_long = sym (ap length d.window_is) ∙ length-take-le held t.input d.held_in

      in_whole : DueIn (d.past ++ (d.window ++ joined r.input.pieces)) (length d.past) (told_so_far r)
      in_whole = subst (λ (m : List ℕ). DueIn m (length d.past) (told_so_far r)) (sym d.split) d.due

      begins : sofar output d.window big 0 t.room (anew (told_so_far r)) 0 true false
          ≡ replayed_of (begun_anew t.stage.progress) t.room t.state
      begins =
          λ i. replayed_of
          (record {
            at = 0;
            put = 0;
            records = t.stage.progress.records;
            refusals = t.stage.progress.refusals;
            has_more = true;
            is_over = sym d.not_over i;
          })
          (nothing_stored 0 t.room (omega arith) i) t.state

      some : FedSome output d.window big 0 t.room (anew (told_so_far r)) 0 x
      some =
          subst (FedSome output d.window big 0 t.room (anew (told_so_far r)) 0)
          (λ i. fed output (length (sym window_so i)) (sym window_so i) big (begins i))
          (fed_some output d.window big 0 t.room (anew (told_so_far r)) 0 (omega arith)
          (sized_anew output d.window (course_of d.window front).records [] (told_so_far r)
          (sized_here d.past d.window (joined r.input.pieces) (told_so_far r) in_whole)))

      abbrev course : Course
      course = in_turn some.count d.window front

      abbrev text : List ℕ
      text = (told_in output d.window course.records (anew (told_so_far r))).bytes

      at_inside : at ≤ length d.window
      at_inside = omega (arith, some.so.at_is, never_past d.window some.count front (omega arith))

      shift_is : Shifted at held t.input
      shift_is = shift_so at held t.input (omega (arith, at_inside, window_long)) d.held_in

      h_is : h ≡ shifted at held t.input
      h_is = ap (λ (k : ℕ). shifted at k t.input) all_held

      count_is : h.count ≡ held - at
      count_is = ap (λ (g : Held). g.count) h_is ∙ shift_is.count

      long_is : length h.bytes ≡ length t.input
      long_is = ap (λ (g : Held). length g.bytes) h_is ∙ shift_is.long

      window_next : take h.count h.bytes ≡ drop at d.window
      window_next =
          ap (λ (k : ℕ). take k h.bytes) count_is
          ∙ ap (λ (g : Held). take (held - at) g.bytes) h_is
          ∙ shift_is.front
          ∙ ap (drop at) d.window_is

      -- the bytes that are written are those that are due
      fits : length text ≤ length t.room
      fits = omega (arith, some.so.fits)

      room_long : length x.page.room ≡ length t.room
      room_long = ap length some.so.room_is ∙ stored_length text 0 t.room

      put_count : min x.page.progress.put (length x.page.room) ≡ length text
      put_count = omega (arith, some.so.put_is, room_long, fits)

      written_is : bytes ≡ text
      written_is =
          (λ i. take (put_count i) (some.so.room_is i))
          ∙ put_in_front text t.room fits

      told_is : told_so_far next ≡ told_in output d.window course.records (told_so_far r)
      told_is =
          (λ i. record {
            bytes = r.out ++ written_is i;
            records = some.so.records_is i;
            refusals = some.so.refusals_is i;
            state = some.so.state_is i;
          })
          ∙ sym (told_begun_anew output d.window course.records (told_so_far r))

      abbrev past_next : List ℕ
      past_next = d.past ++ take at d.window

      split_next : past_next ++ (drop at d.window ++ joined r.input.pieces) ≡ l
      split_next =
          append_assoc d.past (take at d.window) (drop at d.window ++ joined r.input.pieces)
          ∙ ap (◌++◌ d.past)
          (sym (append_assoc (take at d.window) (drop at d.window) (joined r.input.pieces))
          ∙ ap (λ (w : List ℕ). w ++ joined r.input.pieces) (take-append-drop at d.window))
          ∙ d.split

      due_next : DueIn l (length past_next) (told_so_far next)
      due_next =
          subst (λ (m : List ℕ). DueIn m (length past_next) (told_so_far next)) d.split
          (subst (DueIn (d.past ++ (d.window ++ joined r.input.pieces)) (length past_next)) (sym told_is)
          (subst (λ (k : ℕ). DueIn (d.past ++ (d.window ++ joined r.input.pieces)) (length (d.past ++ take k d.window))
          (told_in output d.window course.records (told_so_far r))) (sym some.so.at_is)
          (due_on d.past d.window (joined r.input.pieces) some.count (told_so_far r) in_whole)))

      -- what stands at the front then
      here : next_of d.window (cursor_at big at) ≡ later_reading at (next_of (drop at d.window) front)
      here = moved big at d.window at_inside

      whole_here : is_whole (next_of (drop at d.window) front) ≡ is_whole (next_of d.window (cursor_at big at))
      whole_here = sym (ap is_whole here ∙ whole_later at (next_of (drop at d.window) front))

      long_here : is_long (next_of (drop at d.window) front) ≡ is_long (next_of d.window (cursor_at big at))
      long_here = sym (ap is_long here ∙ long_later at (next_of (drop at d.window) front))

      -- why it stopped
      record Why : Type 0 where
        by_no_record : x.page.progress.has_more ≡ false → x.page.progress.is_over ≡ false → Waits (drop at d.window)
        by_long : x.page.progress.is_over ≡ true → next_of d.window (cursor_at big at) ≡ Long

      is_long_lem : (y : Reading) → is_long y ≡ true → y ≡ Long
      is_long_lem End e = absurd (false≢true e)
      is_long_lem Cut e = absurd (false≢true e)
      is_long_lem Long e = refl
      is_long_lem (Whole rec) e = absurd (false≢true e)

      why : Stops output d.window big 0 t.room x → Why
      why (no_record more none over) =
          record {
            by_no_record = λ e f. record { no_whole = whole_here ∙ none; no_long = long_here ∙ sym over ∙ f };
            by_long = λ e. is_long_lem (next_of d.window (cursor_at big at)) (sym over ∙ e);
          }
      why (no_room more over few) =
          record { by_no_record = λ e f. absurd (false≢true (sym e ∙ more)); by_long = λ e. absurd (false≢true (sym over ∙ e)) }
      why (no_bytes more over few) =
          record { by_no_record = λ e f. absurd (false≢true (sym e ∙ more)); by_long = λ e. absurd (false≢true (sym over ∙ e)) }

      -- with no bytes at hand there is no record
      empty : h.count ≡ 0 → Waits (drop at d.window)
      empty e =
          let none : length (drop at d.window) ≤ 0 = omega (arith, e, count_is, length-drop at d.window, window_long, at_inside) in
          let end = at_the_end (drop at d.window) front none in
          record { no_whole = ap is_whole end; no_long = ap is_long end }

      waits_next : x.page.progress.is_over ≡ false → wants_bytes x.page.progress h.count ≡ true → Waits (drop at d.window)
      waits_next over e = go x.page.progress.has_more (eqb h.count 0) refl refl e
        where
          go : (more none : Bool) → x.page.progress.has_more ≡ more → eqb h.count 0 ≡ none → (not more || none) ≡ true
              → Waits (drop at d.window)
          go false none e f g = (why some.so.stops).by_no_record e over
          go true true e f g = empty (eqb-true h.count 0 f)
          go true false e f g = absurd (false≢true g)

      abbrev ready_next : is_taken takes r.out bytes ≡ true → x.page.progress.is_over ≡ false → Ready next
      ready_next taken over =
          record {
            past = past_next;
            window = drop at d.window;
            held_in = omega (arith, count_is, long_is, d.held_in);
            window_is = window_next;
            buffer = omega (arith, long_is, d.buffer);
            room = omega (arith, room_long, d.room);
            split = split_next;
            due = due_next;
            full = d.full;
            within = leb-true (length (r.out ++ bytes)) takes taken;
            written = and_yes d.written refl;
            found = d.found;
            not_ended = d.not_ended;
            not_over = over;
          }

      -- a record that is too long ends the whole
      over_next : is_taken takes r.out bytes ≡ true → x.page.progress.is_over ≡ true → Final next
      over_next taken over =
          let rest : List ℕ = joined r.input.pieces in
          let place : length d.past + at ≡ length past_next + 0 =
          omega (arith, length-append d.past (take at d.window), length-take-le at d.window at_inside) in
          let long : next_of (d.past ++ (d.window ++ rest)) (cursor_at big (length d.past + at)) ≡ Long =
          in_pieces d.past d.window rest (cursor_at big at) Long refl ((why some.so.stops).by_long over) in
          let there : next_of l (cursor_at big (length past_next + 0)) ≡ Long =
          subst (λ (k : ℕ). next_of l (cursor_at big k) ≡ Long) place
          (subst (λ (m : List ℕ). next_of m (cursor_at big (length d.past + at)) ≡ Long) d.split long) in
          let done = finish l (length past_next) (told_so_far next) due_next (ap is_whole there) in
          record {
            all_told = done.0;
            stops = rw (d.written, d.found, d.not_ended, over);
            written = and_yes d.written refl;
            within = leb-true (length (r.out ++ bytes)) takes taken;
            room = omega (arith, room_long, d.room);
            ends_so = λ e. rw over (ap (λ (y : Reading). eqb (record_refusal y) 8) (sym there ∙ done.1));
            found = λ e. d.found;
            lost = λ e. absurd (false≢true (sym e ∙ sym (ap is_long (sym there ∙ done.1))));
          }

      -- not all of it is taken
      broken_next : is_taken takes r.out bytes ≡ false → Broken (wrote takes after r.out r.input bytes)
      broken_next e =
          let more = grows l (length past_next) (told_so_far next) due_next in
          let few = leb-false (length (r.out ++ bytes)) takes e in
          record {
            part_told = sym (take-append-le takes (r.out ++ bytes) more.rest (omega (arith, few))) ∙ sym (ap (take takes) more.is);
            too_much = omega (arith, few, ap length more.is, length-append (r.out ++ bytes) more.rest);
            stops = rw (d.written, e);
            unwritten = rw d.written e;
            room = omega (arith, room_long, d.room);
            found = d.found;
          }

      -- a turn that takes no byte asks for more
      asks : at ≤ 0 → wants_bytes x.page.progress h.count ≡ true
      asks none = by some.so.stops
        where
          no_text : text ≡ []
          no_text =
              ap (λ (records : List Record). (told_in output d.window records (anew (told_so_far r))).bytes)
              (none_read d.window some.count front (omega (arith, none, some.so.at_is)))

          or_true : (b : Bool) → (b || true) ≡ true
          or_true true = refl
          or_true false = refl

          by : Stops output d.window big 0 t.room x → wants_bytes x.page.progress h.count ≡ true
          by (no_record more whole-no over) = rw more
          by (no_room more over few) = absurd (omega (arith, few, some.so.put_is, ap length no_text, d.room))
          by (no_bytes more over few) =
              let zero_left : h.count ≡ 0 = omega (arith, count_is, few, none, window_long) in
              rw (zero_left) (or_true (not x.page.progress.has_more))

      abbrev before : ℕ
      before = 4 * length (joined r.input.pieces) + 2 * held

      fewer : left next < before + 1
      fewer = go (which at 1)
        where
          flag : (b : Bool) → unasked b ≤ 1
          flag true = omega arith
          flag false = omega arith

          go : Which at 1 → left next < before + 1
          go (below g) =
              let zero_flag : unasked (wants_bytes x.page.progress h.count) ≡ 0 = ap unasked (asks (omega (arith, g))) in
              omega (arith, count_is, at_inside, window_long, zero_flag)
          go (above g) = omega (arith, g, count_is, at_inside, window_long, flag (wants_bytes x.page.progress h.count))

      told_then : Then (before + 1) (told takes output big r)
      told_then = subst (Then (before + 1)) (sym is_told) (go (is_taken takes r.out bytes) x.page.progress.is_over refl refl)
        where
          go : (taken over : Bool) → is_taken takes r.out bytes ≡ taken → x.page.progress.is_over ≡ over
              → Then (before + 1) (wrote takes after r.out r.input bytes)
          go false over e f = inr (inr (broken_next e))
          go true true e f = subst (Then (before + 1)) (sym (is_next e)) (inr (inl (over_next e f)))
          go true false e f =
              subst (Then (before + 1)) (sym (is_next e)) (inl (record { ready = ready_next e f; waits = waits_next f }, fewer))

    -- ---- a read
    -- the end of input, or a read that fails
    left_over : (w : List ℕ) (k : ℕ) (y : Reading) → k ≡ length w → next_of w front ≡ y → is_whole y ≡ false → ltb 0 k ≡ eqb (record_refusal y) 8
    left_over w k End e f g = le-ltb 0 k (omega (arith, e, tells w front End f))
    left_over w k Cut e f g = lt-ltb 0 k (omega (arith, e, (tells w front Cut f).0))
    left_over w k Long e f g = lt-ltb 0 k (omega (arith, e, (tells w front Long f).0))
    left_over w k (Whole rec) e f g = absurd (false≢true (sym g))

    module _ (t : Turn) (out : List ℕ) (fails : Bool) where
      abbrev at_end : Run
      at_end = record { turn = t; out = out; input = record { pieces = []; fails = fails } }

      no_more : (g : Going at_end) → t.stage.wants_bytes ≡ true → Final (read t out [] fails)
      no_more g wants =
          let d = g.ready in
          let w = g.waits wants in
          let n : ℕ = length d.past in
          let whole_is : next_of (d.past ++ (d.window ++ [])) (cursor_at big (n + 0)) ≡ later_reading n (next_of d.window front) =
          bytes_before d.past (d.window ++ []) front
          ∙ ap (λ (v : List ℕ). later_reading n (next_of v front)) (append-nil d.window) in
          let there : next_of l (cursor_at big (n + 0)) ≡ later_reading n (next_of d.window front) =
          subst (λ (m : List ℕ). next_of m (cursor_at big (n + 0)) ≡ later_reading n (next_of d.window front)) d.split whole_is in
          let done = finish l n (told_so_far at_end) d.due (ap is_whole there ∙ whole_later n (next_of d.window front) ∙ w.no_whole) in
          let count : t.stage.held + 0 ≡ length d.window =
          omega (arith, sym (ap length d.window_is) ∙ length-take-le t.stage.held t.input d.held_in) in
          record {
            all_told = done.0;
            stops = stopped fails d.written;
            written = d.written;
            within = d.within;
            room = d.room;
            ends_so = λ e.
                rw d.not_over
                (left_over d.window (t.stage.held + 0) (next_of d.window front) count refl w.no_whole
                ∙ ap (λ (k : ℕ). eqb k 8) (sym (refusal_later n (next_of d.window front)))
                ∙ ap (λ (y : Reading). eqb (record_refusal y) 8) (sym there ∙ done.1));
            found = λ e. lost_so t.stage (t.stage.held + 0) fails ∙ e;
            lost = λ e. lost_so t.stage (t.stage.held + 0) fails;
          }
        where
          stopped : (failed : Bool) → t.stage.is_written ≡ true → goes_on (refilled_stage t.stage (t.stage.held + 0) failed) ≡ false
          stopped true e = rw e
          stopped false e = rw (e, le-leb (t.stage.held + 0) t.stage.held (omega arith))

    module _ (t : Turn) (out : List ℕ) (piece : List ℕ) (pieces : List (List ℕ)) (fails : Bool) where
      abbrev at_piece : Run
      at_piece = record { turn = t; out = out; input = record { pieces = piece ∷ pieces; fails = fails } }

      got_any : (g : Going at_piece) → t.stage.wants_bytes ≡ true → 0 < length (take (free_of t) piece)
      got_any g wants =
          let d = g.ready in
          let w = g.waits wants in
          let held : ℕ = t.stage.held in
          let few = few_left big d.window (next_of d.window front) refl w.no_whole w.no_long in
          let count : held ≡ length d.window = sym (sym (ap length d.window_is) ∙ length-take-le held t.input d.held_in) in
          omega (arith, length-take (free_of t) piece, few, count, d.buffer, d.full.0)

      all_got : length (take (free_of t) piece) + length (joined (behind_first (free_of t) piece pieces)) ≡ length (piece ++ joined pieces)
      all_got =
          sym (length-append (take (free_of t) piece) (joined (behind_first (free_of t) piece pieces)))
          ∙ ap length (got_and_left (free_of t) piece pieces)

      got_more : (g : Going at_piece) → t.stage.wants_bytes ≡ true → Ready (read t out (piece ∷ pieces) fails)
      got_more g wants =
          let d = g.ready in
          let got : List ℕ = take (free_of t) piece in
          let held : ℕ = t.stage.held in
          let fits : held + length got ≤ length t.input = omega (arith, length-take (free_of t) piece, d.held_in) in
          let some : held < held + length got = omega (arith, got_any g wants) in
          let same = stored_length got held t.input in
          record {
            past = d.past;
            window = d.window ++ got;
            held_in = omega (arith, fits, same);
            window_is = read_behind got held t.input fits ∙ ap (λ (b : List ℕ). b ++ got) d.window_is;
            buffer = omega (arith, d.buffer, same);
            room = d.room;
            split =
                ap (◌++◌ d.past)
                (append_assoc d.window got (joined (behind_first (free_of t) piece pieces))
                ∙ ap (◌++◌ d.window) (got_and_left (free_of t) piece pieces))
                ∙ d.split;
            due = d.due;
            full = full_left (free_of t) piece pieces d.full.1;
            within = d.within;
            written = d.written;
            found = lost_so t.stage (held + length got) false;
            not_ended = open_so t.stage (held + length got) (lt-leb (held + length got) held some);
            not_over = d.not_over;
          }

    -- ---- a turn, and all turns
    abbrev gone_on : Run → Run
    gone_on y = cond (goes_on y.turn.stage) (told takes output big y) y

    turn_by : (on : Bool) (k : ℕ) (r y : Run) → refilled r ≡ y → goes_on y.turn.stage ≡ on → Then k (cond on (told takes output big y) y)
        → Then k (one_turn takes output big r)
    turn_by on k r y e f p = subst (Then k) (sym (ap gone_on e ∙ cond_at (told takes output big y) y f)) p

    no_read : (r : Run) → Going r → r.turn.stage.wants_bytes ≡ false → Then (left r) (one_turn takes output big r)
    no_read r g e =
        let flag : unasked r.turn.stage.wants_bytes ≡ 1 = ap unasked e in
        turn_by true (left r) r r (cond_at (read r.turn r.out r.input.pieces r.input.fails) r e) (goes r g.ready)
        (then_more (before r g.ready + 1) (left r) (told takes output big r) (omega (arith, flag)) (told_then r g.ready))

    a_read : (t : Turn) (out : List ℕ) (pieces : List (List ℕ)) (fails : Bool) →
        let r : Run = record { turn = t; out = out; input = record { pieces = pieces; fails = fails } } in
        Going r → t.stage.wants_bytes ≡ true → Then (left r) (one_turn takes output big r)
    a_read t out [] fails g e =
        let r : Run = record { turn = t; out = out; input = record { pieces = []; fails = fails } } in
        let f = no_more t out fails g e in
        turn_by false (left r) r (read t out [] fails) (cond_at (read t out [] fails) r e) f.stops (inr (inl f))
    a_read t out (piece ∷ pieces) fails g e =
        let r : Run = record { turn = t; out = out; input = record { pieces = piece ∷ pieces; fails = fails } } in
        let y : Run = read t out (piece ∷ pieces) fails in
        let d = got_more t out piece pieces fails g e in
        turn_by true (left r) r y (cond_at y r e) (goes y d)
        (then_more (before y d + 1) (left r) (told takes output big y)
        (omega (arith, got_any t out piece pieces fails g e, all_got t out piece pieces fails)) (told_then y d))

    one_turn_lem : (r : Run) → Going r → Then (left r) (one_turn takes output big r)
    one_turn_lem r g = go r.turn.stage.wants_bytes refl
      where
        go : (b : Bool) → r.turn.stage.wants_bytes ≡ b → Then (left r) (one_turn takes output big r)
        go true e = a_read r.turn r.out r.input.pieces r.input.fails g e
        go false e = no_read r g e

    pub stays : (turns : ℕ) (r : Run) → goes_on r.turn.stage ≡ false → run takes output big turns r ≡ r
    unfolding run
    stays zero r e = refl
    stays (suc turns) r e = rw e

    -- where the turns have come to an end, all is told
    pub run_so : (turns : ℕ) (r : Run) → Going r → goes_on (run takes output big turns r).turn.stage ≡ false → Over (run takes output big turns r)
    unfolding run
    run_so zero r g e = absurd (false≢true (sym e ∙ goes r g.ready))
    run_so (suc turns) r g e =
        let on : run takes output big (suc turns) r ≡ run takes output big turns (one_turn takes output big r) = rw (goes r g.ready) in
        subst Over (sym on)
        (⊎_elim
        (λ n. run_so turns (one_turn takes output big r) n.0 (sym (ap (λ (y : Run). goes_on y.turn.stage) on) ∙ e))
        (λ o. subst Over (sym (stays turns (one_turn takes output big r) (over_stops (one_turn takes output big r) o))) o)
        (one_turn_lem r g))

    -- and so many turns are enough
    pub run_ends : (turns : ℕ) (r : Run) → Going r → left r < turns → goes_on (run takes output big turns r).turn.stage ≡ false
    unfolding run
    run_ends zero r g h = absurd (omega (arith, h))
    run_ends (suc turns) r g h =
        let on : run takes output big (suc turns) r ≡ run takes output big turns (one_turn takes output big r) = rw (goes r g.ready) in
        ap (λ (y : Run). goes_on y.turn.stage) on
        ∙ ⊎_elim
        (λ n. run_ends turns (one_turn takes output big r) n.0 (omega (arith, n.1, h)))
        (λ o. ap (λ (y : Run). goes_on y.turn.stage) (stays turns (one_turn takes output big r) (over_stops (one_turn takes output big r) o))
        ∙ over_stops (one_turn takes output big r) o)
        (one_turn_lem r g)
