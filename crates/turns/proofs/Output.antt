-- What a program puts out and says, however its input is cut into reads and wherever a write or a read fails: what the definitions of the
-- whole output say.
-- Assumes nothing.
use mathlib.Core.Bool.{Bool, true, false, cond, not, ◌&&◌, ◌||◌, false≢true}
use mathlib.Core.List.{List, [], ◌∷◌, ◌++◌, append-nil}
use mathlib.Core.Logic.{inr, ⊎_elim}
use mathlib.Core.Path.{◌≡◌, refl, sym, ap, subst, ◌∙◌}
use Prim.Native.Nat.{ℕ, min, ◌+◌, ◌-◌, ◌*◌, ◌^◌, ◌≤◌, ◌<◌}
use native.Mathlib.Omega.{arith}
use lib.Dec.{eqb}
use lib.ListN.{length, get_or, take, drop, replicate, length-replicate, length-append, length-take, length-drop, get_or-append}
use lib.Seq.{take_all, take-append-le, take-append_seam, length-take-le}
use native.Mathlib.Nat.{zero-add}
use borrow.Author.Tests.{le-ltb, le-leb, lt-leb, leb-true, leb-false}
use Rattle.laws.proofs.Tests.{cond_at}
use Rattle.words.specs.Layouts.{Bytes, numbers_at}
use Rattle.words.specs.Words.{stored}
use Rattle.words.proofs.Layouts.{numbers_alike}
use Rattle.words.proofs.Words.{stored_length}
use Rattle.capture.specs.Format.{magic, header_words}
use Rattle.capture.specs.declared.Cursor.{Cursor}
use Rattle.std.specs.Prelude.{Result, Ok, Err}
use Rattle.refused.specs.declared.Refusal.{Refusal}
use Rattle.refused.specs.declared.Refusal.TheVariants as refusal
use Rattle.refused.specs.Refused.{refusal_number}
use Rattle.capture.specs.declared.Reading.{Reading}
use Rattle.capture.specs.Capture.{big_endian, bad_words, bad_header, opened_of, record_refusal}
use Rattle.capture.specs.Whole.{course_of}
use Rattle.capture.specs.declared.Record.{Record}
use Rattle.capture.proofs.Readings.{at_the_end}
use Rattle.capture.proofs.Whole.{says}
use Rattle.lines.specs.Room.{Room, room_of, put}
use Rattle.lines.specs.Letters.{text}
use Rattle.lines.specs.Lines.{refused_line, line, last_line}
use Rattle.lines.proofs.Whole.{whole, refusal_small, refused_line_short, line_short, last_line_short}
use Rattle.outputs.specs.declared.Output.{Output}
use Rattle.outputs.specs.declared.Output.TheVariants.{Lines, Forwarded, Reasons}
use Rattle.outputs.specs.Outputs.{opening_of, opening_put}
use Rattle.outputs.proofs.Whole.{Stored, opening_whole}
use Rattle.endings.specs.Endings.{ending, header_refused, one_more}
use Rattle.feeding.specs.Whole.{Told, told_in, at_first, told_of_capture, ending_of, output_of, refused_output, opened_output, program_tables, program_output, answered, told_next}
use Rattle.feeding.specs.Feeding.{is_refused}
use Rattle.feeding.proofs.Sizes.{AllSized, program_sized}
use Rattle.feeding.proofs.Whole.{is_long, is_whole}
use Rattle.feeding.proofs.Pieces.{anew, begun_anew}
use Rattle.turns.specs.declared.Stage.{Stage}
use Rattle.turns.specs.Turns.{is_lost, is_sound, ends_refused, written_stage, ending_due, ending_stream, is_missing, missing_words, missing_due, Beginning, begun_by, first_stage, turn_of, window_of}
use Rattle.turns.specs.Runs.{Run, joined, AllFull, headed, put_in, put_out, is_taken, run, on_output, Said, lost_text, said_beside, said_last, ended, first_run, replayed, program, beside_of, opened_beside, program_beside}
use Rattle.turns.proofs.Windows.{put_in_front, cursor_at}
use Rattle.turns.proofs.Heads.{How, whole as All-there, short, lost, Headed, header_read}
use Rattle.turns.proofs.Runs.{DueIn, Going, Final, Broken, Over, stays, run_so, run_ends, run_fails}

-- ---- what is put in a room is written whole
put_in_lem : (bytes room : List ℕ) → length bytes ≤ length room → put_in (put bytes (room_of 0 room)) ≡ bytes
put_in_lem bytes room h =
    ap put_in (whole bytes 0 room (omega (arith, h))) ∙ front (bytes ++ drop (0 + length bytes) room) refl
  where
    front : (l : List ℕ) → bytes ++ drop (0 + length bytes) room ≡ l → take (min (0 + length bytes) (length l)) l ≡ bytes
    front l e =
        let count : min (0 + length bytes) (length l) ≡ length bytes =
        omega (arith, sym (ap length e), length-append bytes (drop (0 + length bytes) room)) in
        ap (λ (n : ℕ). take n l) count
        ∙ sym (ap (take (length bytes)) e)
        ∙ take-append_seam bytes (drop (0 + length bytes) room)

same_long : (bytes room : List ℕ) → length bytes ≤ length room → length (put bytes (room_of 0 room)).bytes ≡ length room
same_long bytes room h =
    ap (λ (r : Room). length r.bytes) (whole bytes 0 room (omega (arith, h)))
    ∙ omega (arith, h, length-append bytes (drop (0 + length bytes) room), length-drop (0 + length bytes) room)

-- the opening of a capture
opening_few : (output : Output) → length (opening_of output) ≤ 24
opening_few Lines = omega arith
opening_few Forwarded = omega arith
opening_few (Reasons wanted) = omega arith

module _ (output : Output) (room : List ℕ) (long : 2064 ≤ length room) where
  abbrev opened_room : Room
  opened_room = opening_put output (room_of 0 room)

  opening_is : opened_room ≡ Stored (opening_of output) 0 room
  opening_is = opening_whole 0 room output (omega (arith, long, opening_few output))

  opening_in : put_in (room_of opened_room.end opened_room.bytes) ≡ opening_of output
  opening_in =
      let count : min (0 + length (opening_of output)) (length (stored (opening_of output) 0 room)) ≡ length (opening_of output) =
      omega (arith, long, opening_few output, stored_length (opening_of output) 0 room) in
      ap put_in opening_is
      ∙ ap (λ (n : ℕ). take n (stored (opening_of output) 0 room)) count
      ∙ put_in_front (opening_of output) room (omega (arith, long, opening_few output))

  opening_long : length opened_room.bytes ≡ length room
  opening_long = ap (λ (r : Room). length r.bytes) opening_is ∙ stored_length (opening_of output) 0 room

-- ---- how long the last words are
header_few : (number : ℕ) → number < 2 ^ 8 → length (header_refused number) ≤ 92
header_few number h =
    omega (
      arith,
      length-append (refused_line 0 number) (last_line 0 1),
      refused_line_short 0 number (omega arith) h,
      last_line_short 0 1 (omega arith) (omega arith),
    )

ending_few : (refused : Bool) (records refusals : ℕ) → records < 2 ^ 64 → refusals < 2 ^ 64 → length (ending refused records refusals) ≤ 92
ending_few true records refusals h g =
    omega (
      arith,
      length-append (line (one_more records) (Err refusal.Record)) (last_line records (one_more refusals)),
      line_short (one_more records) (Err refusal.Record) (omega arith) tt,
      last_line_short records (one_more refusals) h (omega arith),
    )
ending_few false records refusals h g = omega (arith, last_line_short records refusals h g)

missing_few : (output : Output) (s : Stage) → length (missing_due output s) ≤ 92
unfolding missing_words text
missing_few output s = go (is_sound s && is_missing output s.progress.records)
  where
    go : (t : Bool) → length (cond t missing_words []) ≤ 92
    go true = omega arith
    go false = omega arith

-- numbers that are counted in 64 bits stay there
module _ (output : Output) (l : List ℕ) where
  record Counted (t : Told) : Type 0 where
    records : t.records < 2 ^ 64
    refusals : t.refusals < 2 ^ 64

  counted_next : (r : Record) (t : Told) → Counted t → Counted (told_next output l r t)
  counted_next r t c = record { records = omega arith; refusals = go (is_refused (answered l r t).answer) }
    where
      go : (t' : Bool) → cond t' (one_more t.refusals) t.refusals < 2 ^ 64
      go true = omega arith
      go false = c.refusals

  counted : (records : List Record) (t : Told) → Counted t → Counted (told_in output l records t)
  counted [] t c = c
  counted (r ∷ records) t c = counted records (told_next output l r t) (counted_next r t c)

-- ---- the header
-- what a program reads of the header tells what the whole capture tells of it
module _ (header rest : List ℕ) (long : length header ≡ 24) where
  words : (big : Bool) → numbers_at big header_words (header ++ rest) 0 ≡ numbers_at big header_words header 0
  words big =
      numbers_alike (header ++ rest) header 0 (λ p q e h. rw (e, zero-add q) (get_or-append header rest 0 q h)) big header_words 0 0 0 refl (omega (arith, long))

  same_order : big_endian (header ++ rest) ≡ big_endian header
  same_order = ap (λ (n : List ℕ). eqb (get_or n 0 0) magic) (words true)

  same_words : bad_words (big_endian (header ++ rest)) (header ++ rest) ≡ bad_words (big_endian header) header
  same_words =
      ap (λ (n : List ℕ). not (eqb (get_or n 0 0) magic) || ((not (eqb (get_or n 1 0) 2) || not (eqb (get_or n 2 0) 4)) || not (eqb (get_or n 6 0) 1)))
      (words (big_endian (header ++ rest)))
      ∙ ap (λ (big : Bool). bad_words big header) same_order

  pub same_opening : opened_of (header ++ rest) ≡ opened_of header
  unfolding opened_of bad_header
  same_opening =
      let more : 24 ≤ length (header ++ rest) = omega (arith, length-append header rest, long) in
      rw (le-ltb (length (header ++ rest)) 24 more, le-ltb (length header) 24 (omega (arith, long)))
      (λ i. cond (same_words i) (Err refusal.Capture) (Ok (record { at = 24; big_endian = same_order i })))

-- ---- what is said at the end
module _ (takes : ℕ) (reason : List ℕ) (output : Output) where
  -- beside output, by the last stage: that a record is missing, where nothing was lost
  beside_sound : (s : Stage) (room out beside : List ℕ) → 2064 ≤ length room → is_sound s ≡ true → is_lost s ≡ false
      → (said_beside takes reason output s room out beside).beside ≡ beside ++ cond (is_missing output s.progress.records) missing_words []
  beside_sound s room out beside long e f =
      ap (◌++◌ beside)
      ((λ i. put_in_lem (missing_due output s) room (omega (arith, long, missing_few output s)) i ++ cond (f i) (lost_text output reason) [])
      ∙ append-nil (missing_due output s)
      ∙ ap (λ (b : Bool). cond (b && is_missing output s.progress.records) missing_words []) e)

  -- nothing of the sort, where something was
  unsound : (s : Stage) (room out beside : List ℕ) → 2064 ≤ length room → is_sound s ≡ false
      → (said_beside takes reason output s room out beside).beside ≡ beside ++ cond (is_lost s) (lost_text output reason) []
  unsound s room out beside long e =
      let none : missing_due output s ≡ [] = ap (λ (b : Bool). cond (b && is_missing output s.progress.records) missing_words []) e in
      ap (λ (words : List ℕ). beside ++ (words ++ cond (is_lost s) (lost_text output reason) []))
      (put_in_lem (missing_due output s) room (omega (arith, long, missing_few output s)) ∙ none)

  -- the last lines, on standard output or beside it
  abbrev taken : List ℕ → List ℕ → Bool
  taken out lines = cond (on_output (ending_stream output)) (is_taken takes out lines) true

last_out : (takes : ℕ) (reason : List ℕ) (output : Output) (s : Stage) (room out lines : List ℕ)
    → (said_last takes reason output (ending_stream output) s room out lines).out ≡ cond (on_output (ending_stream output)) (put_out takes out lines) out
last_out takes reason Lines s room out lines = refl
last_out takes reason Forwarded s room out lines = refl
last_out takes reason (Reasons wanted) s room out lines = refl

module _ (takes : ℕ) (reason : List ℕ) (s : Stage) (room out lines : List ℕ) (long : 2064 ≤ length room) (written : s.is_written ≡ true) (found : is_lost s ≡ false) where
  sound_then : (b : Bool) → b ≡ true → is_sound (written_stage s b) ≡ true
  sound_then b e = rw (written, found, e)

  unsound_then : (b : Bool) → b ≡ false → is_sound (written_stage s b) ≡ false
  unsound_then b e = rw (written, e)

  last_beside : (output : Output) → taken takes reason output out lines ≡ true
      → (said_last takes reason output (ending_stream output) s room out lines).beside ≡ beside_of output lines s.progress.records
  last_beside Lines e =
      beside_sound takes reason Lines (written_stage s (is_taken takes out lines)) room (put_out takes out lines) [] long (sound_then (is_taken takes out lines) e) found
  last_beside Forwarded e =
      beside_sound takes reason Forwarded (written_stage s true) room out lines long (sound_then true refl) found
  last_beside (Reasons wanted) e =
      beside_sound takes reason (Reasons wanted) (written_stage s (is_taken takes out lines)) room (put_out takes out lines) [] long
      (sound_then (is_taken takes out lines) e) found

  last_broken : (output : Output) → taken takes reason output out lines ≡ false
      → (said_last takes reason output (ending_stream output) s room out lines).beside ≡ []
  last_broken Lines e =
      unsound takes reason Lines (written_stage s (is_taken takes out lines)) room (put_out takes out lines) [] long (unsound_then (is_taken takes out lines) e)
      ∙ cond_at (lost_text Lines reason) [] found
  last_broken Forwarded e = absurd (false≢true (sym e))
  last_broken (Reasons wanted) e =
      unsound takes reason (Reasons wanted) (written_stage s (is_taken takes out lines)) room (put_out takes out lines) [] long
      (unsound_then (is_taken takes out lines) e)
      ∙ cond_at (lost_text (Reasons wanted) reason) [] found

-- an ending of a stage, by what it tells
ending_said : (s : Stage) (refused : Bool) (records refusals : ℕ) → is_sound s ≡ true → ends_refused s ≡ refused
    → s.progress.records ≡ records → s.progress.refusals ≡ refusals → ending_due s ≡ ending refused records refusals
ending_said s refused records refusals sound e a b =
    cond_at (ending (ends_refused s) s.progress.records s.progress.refusals) [] sound ∙ (λ i. ending (e i) (a i) (b i))

nothing_said : (s : Stage) → is_sound s ≡ false → ending_due s ≡ []
nothing_said s e = cond_at (ending (ends_refused s) s.progress.records s.progress.refusals) [] e

-- the ending stands on standard output, or beside it
out_by : (output : Output) (l : List ℕ) (cursor : Cursor) (out end : List ℕ) → out ≡ (told_of_capture output l cursor program_tables).bytes
    → end ≡ ending_of output l cursor program_tables
    → cond (on_output (ending_stream output)) (out ++ end) out ≡ output_of output l cursor program_tables
out_by Lines l cursor out end p q = λ i. p i ++ q i
out_by Forwarded l cursor out end p q = p
out_by (Reasons wanted) l cursor out end p q = λ i. p i ++ q i

refused_by : (output : Output) (number : ℕ) → cond (on_output (ending_stream output)) (header_refused number) [] ≡ refused_output output number
refused_by Lines number = refl
refused_by Forwarded number = refl
refused_by (Reasons wanted) number = refl

-- what stands on output is what it takes, and all of that was taken where it takes as many bytes
module _ (takes : ℕ) (reason : List ℕ) (output : Output) (out lines : List ℕ) (within : length out ≤ takes) where
  abbrev all_of : List ℕ
  all_of = cond (on_output (ending_stream output)) (out ++ lines) out

  cut_out : cond (on_output (ending_stream output)) (put_out takes out lines) out ≡ take takes all_of
  cut_out = go (on_output (ending_stream output))
    where
      go : (b : Bool) → cond b (put_out takes out lines) out ≡ take takes (cond b (out ++ lines) out)
      go true = refl
      go false = sym (take_all takes out within)

  taken_if : length all_of ≤ takes → taken takes reason output out lines ≡ true
  taken_if = go (on_output (ending_stream output))
    where
      go : (b : Bool) → length (cond b (out ++ lines) out) ≤ takes → cond b (is_taken takes out lines) true ≡ true
      go true h = le-leb (length (out ++ lines)) takes h
      go false h = refl

  broken_if : takes < length all_of → taken takes reason output out lines ≡ false
  broken_if = go (on_output (ending_stream output))
    where
      go : (b : Bool) → takes < length (cond b (out ++ lines) out) → cond b (is_taken takes out lines) true ≡ false
      go true h = lt-leb (length (out ++ lines)) takes h
      go false h = absurd (omega (arith, h, within))

-- with no last lines nothing more is put out, and of what is said beside only that a read failed
no_more_out : (takes : ℕ) (reason : List ℕ) (output : Output) (s : Stage) (room out lines : List ℕ) → length out ≤ takes → lines ≡ []
    → (said_last takes reason output (ending_stream output) s room out lines).out ≡ out
no_more_out takes reason output s room out lines within e =
    last_out takes reason output s room out lines ∙ go (on_output (ending_stream output))
  where
    go : (b : Bool) → cond b (put_out takes out lines) out ≡ out
    go true = ap (put_out takes out) e ∙ ap (take takes) (append-nil out) ∙ take_all takes out within
    go false = refl

no_more_beside : (takes : ℕ) (reason : List ℕ) (output : Output) (s : Stage) (room out lines : List ℕ) → 2064 ≤ length room
    → ((b : Bool) → is_sound (written_stage s b) ≡ false) → lines ≡ []
    → (said_last takes reason output (ending_stream output) s room out lines).beside ≡ cond (is_lost s) (lost_text output reason) []
no_more_beside takes reason Lines s room out lines long off e =
    unsound takes reason Lines (written_stage s (is_taken takes out lines)) room (put_out takes out lines) [] long (off (is_taken takes out lines))
no_more_beside takes reason Forwarded s room out lines long off e =
    unsound takes reason Forwarded (written_stage s true) room out lines long (off true)
    ∙ ap (λ (l : List ℕ). l ++ cond (is_lost s) (lost_text Forwarded reason) []) e
no_more_beside takes reason (Reasons wanted) s room out lines long off e =
    unsound takes reason (Reasons wanted) (written_stage s (is_taken takes out lines)) room (put_out takes out lines) [] long (off (is_taken takes out lines))

lost_not_sound : (b : Bool) (s : Stage) → is_lost s ≡ true → is_sound (written_stage s b) ≡ false
lost_not_sound b s e = rw e (go (s.is_written && b))
  where
    go : (t : Bool) → (t && false) ≡ false
    go true = refl
    go false = refl

-- a run whose last stage is not sound: nothing more is put out, and of what is said beside only that a read failed
module _ (takes : ℕ) (reason : List ℕ) (output : Output) (r : Run) (room : 2064 ≤ length r.turn.room) (within : length r.out ≤ takes)
    (off : is_sound r.turn.stage ≡ false) (stays-off : (b : Bool) → is_sound (written_stage r.turn.stage b) ≡ false) where
  abbrev room_after_it : List ℕ
  room_after_it = (put (ending_due r.turn.stage) (room_of 0 r.turn.room)).bytes

  abbrev lines_of_it : List ℕ
  lines_of_it = put_in (put (ending_due r.turn.stage) (room_of 0 r.turn.room))

  none_due : ending_due r.turn.stage ≡ []
  none_due = nothing_said r.turn.stage off

  no_lines : lines_of_it ≡ []
  no_lines = put_in_lem (ending_due r.turn.stage) r.turn.room (omega (arith, ap length none_due)) ∙ none_due

  unsound_out : (ended takes reason output r).out ≡ r.out
  unsound_out = no_more_out takes reason output r.turn.stage room_after_it r.out lines_of_it within no_lines

  unsound_beside : (ended takes reason output r).beside ≡ cond (is_lost r.turn.stage) (lost_text output reason) []
  unsound_beside =
      no_more_beside takes reason output r.turn.stage room_after_it r.out lines_of_it
      (omega (arith, room, same_long (ending_due r.turn.stage) r.turn.room (omega (arith, ap length none_due)))) stays-off no_lines

-- a capture that opens, of which the header was read: input brings the rest
module _ (takes : ℕ) (reason : List ℕ) (output : Output) (header : List ℕ) (pieces : List (List ℕ)) (fails : Bool) (buffer room : List ℕ)
    (cursor : Cursor) (turns : ℕ) where
  abbrev all : List ℕ
  all = header ++ joined pieces

  abbrev target : Told
  target = told_of_capture output all cursor program_tables

  abbrev ended_by : Reading
  ended_by = (course_of all cursor).ended

  abbrev big : Bool
  big = cursor.big_endian

  abbrev begun : Beginning
  begun = begun_by output (Ok cursor) room

  abbrev first : Run
  first = first_run takes reason output buffer begun (record { pieces = pieces; fails = fails })

  abbrev last : Run
  last = run takes output big turns first

  record Opened-so : Type 0 where
    opens : opened_of all ≡ Ok cursor
    header_long : length header ≡ 24
    full : AllFull pieces
    bytes : Bytes all
    buffer_long : 2064 ≤ length buffer
    room_long : 2064 ≤ length room
    turns_enough : 4 * length (joined pieces) < turns

  module _ (so : Opened-so) where
    opening_so : put_in (room_of begun.begun.put begun.room) ≡ opening_of output
    opening_so = opening_in output room so.room_long

    long_room : 2064 ≤ length begun.room
    long_room = omega (arith, so.room_long, opening_long output room so.room_long)

    place : cursor ≡ cursor_at big (length header + 0)
    place =
        let at : cursor.at ≡ length header + 0 = omega (arith, (says all cursor so.opens).at_first, so.header_long) in
        λ i. record { at = at i; big_endian = big }

    due_first : DueIn takes output big target ended_by all (length header) (at_first output program_tables)
    due_first =
        record {
          due = ap (λ (c : Cursor). told_in output all (course_of all c).records (at_first output program_tables)) (sym place);
          ended_is = ap (λ (c : Cursor). (course_of all c).ended) (sym place);
          sized =
              subst (λ (c : Cursor). AllSized output all (course_of all c).records (at_first output program_tables)) place
              (program_sized output all so.bytes cursor);
        }

    -- the opening is taken, or it is not
    first_out : is_taken takes [] (opening_of output) ≡ true → first.out ≡ opening_of output
    first_out e = ap (put_out takes []) opening_so ∙ take_all takes (opening_of output) (leb-true (length (opening_of output)) takes e)

    going : is_taken takes [] (opening_of output) ≡ true → Going takes output big target ended_by all first
    going e =
        let none = at_the_end [] (cursor_at big 0) (omega arith) in
        record {
          ready =
              record {
                past = header;
                window = [];
                held_in = omega arith;
                window_is = refl;
                buffer = so.buffer_long;
                room = long_room;
                split = refl;
                due =
                    subst (λ (bytes : List ℕ). DueIn takes output big target ended_by all (length header)
                    (record { bytes = bytes; records = 0; refusals = 0; state = program_tables })) (sym (first_out e)) due_first;
                full = so.full;
                within = omega (arith, ap length (first_out e), leb-true (length (opening_of output)) takes e);
                written = ap (is_taken takes []) opening_so ∙ e;
                found = refl;
                not_ended = refl;
                not_over = refl;
              };
          waits = λ e. record { no_whole = ap is_whole none; no_long = ap is_long none };
        }

    target_grown : target.bytes ≡ opening_of output ++ (told_in output all (course_of all cursor).records (anew (at_first output program_tables))).bytes
    target_grown = ap (λ (t : Told). t.bytes) (begun_anew output all (course_of all cursor).records (at_first output program_tables))

    first_broken : is_taken takes [] (opening_of output) ≡ false → Broken takes output big target ended_by all first
    first_broken e =
        let few = leb-false (length (opening_of output)) takes e in
        let more : List ℕ = (told_in output all (course_of all cursor).records (anew (at_first output program_tables))).bytes in
        record {
          part_told =
              ap (put_out takes []) opening_so
              ∙ sym (take-append-le takes (opening_of output) more (omega (arith, few)))
              ∙ sym (ap (take takes) target_grown);
          too_much = omega (arith, few, ap length target_grown, length-append (opening_of output) more);
          stops = rw (ap (is_taken takes []) opening_so ∙ e);
          unwritten = ap (is_taken takes []) opening_so ∙ e;
          room = long_room;
          found = refl;
        }

    over : Over takes output big target ended_by all last
    over = go (is_taken takes [] (opening_of output)) refl
      where
        go : (t : Bool) → is_taken takes [] (opening_of output) ≡ t → Over takes output big target ended_by all last
        go true e =
            let g = going e in
            run_so takes output big target ended_by all turns first g
            (run_ends takes output big target ended_by all turns first g (omega (arith, so.turns_enough)))
        go false e =
            let b = first_broken e in
            inr (subst (Broken takes output big target ended_by all) (sym (stays takes output big target ended_by all turns first b.stops)) b)

    last_fails : last.input.fails ≡ fails
    last_fails = run_fails takes output big turns first

    -- ---- all was told
    module _ (f : Final takes output big target ended_by all last) where
      abbrev s : Stage
      s = last.turn.stage

      all_out : last.out ≡ target.bytes
      all_out = ap (λ (t : Told). t.bytes) f.all_told

      counts : Counted output all target
      counts = counted output all (course_of all cursor).records (at_first output program_tables) (record { records = omega arith; refusals = omega arith })

      module _ (found : is_lost s ≡ false) where
        sound : is_sound s ≡ true
        sound = rw (f.written, found)

        ending_is : ending_due s ≡ ending_of output all cursor program_tables
        ending_is =
            ending_said s (eqb (record_refusal ended_by) 8) target.records target.refusals sound (f.ends_so found)
            (ap (λ (t : Told). t.records) f.all_told) (ap (λ (t : Told). t.refusals) f.all_told)

        ending_short : length (ending_due s) ≤ length last.turn.room
        ending_short =
            omega (arith, f.room, ap length ending_is, ending_few (eqb (record_refusal ended_by) 8) target.records target.refusals counts.records counts.refusals)

        lines_are : put_in (put (ending_due s) (room_of 0 last.turn.room)) ≡ ending_of output all cursor program_tables
        lines_are = put_in_lem (ending_due s) last.turn.room ending_short ∙ ending_is

        room_after : 2064 ≤ length (put (ending_due s) (room_of 0 last.turn.room)).bytes
        room_after = omega (arith, f.room, same_long (ending_due s) last.turn.room ending_short)

        abbrev lines : List ℕ
        lines = put_in (put (ending_due s) (room_of 0 last.turn.room))

        whole_is : all_of takes reason output last.out lines f.within ≡ output_of output all cursor program_tables
        whole_is = out_by output all cursor last.out lines all_out lines_are

        done_out : (ended takes reason output last).out ≡ take takes (output_of output all cursor program_tables)
        done_out =
            last_out takes reason output s (put (ending_due s) (room_of 0 last.turn.room)).bytes last.out lines
            ∙ cut_out takes reason output last.out lines f.within
            ∙ ap (take takes) whole_is

        done_beside : length (output_of output all cursor program_tables) ≤ takes
            → (ended takes reason output last).beside ≡ beside_of output (ending_of output all cursor program_tables) target.records
        done_beside h =
            last_beside takes reason s (put (ending_due s) (room_of 0 last.turn.room)).bytes last.out lines room_after f.written found output
            (taken_if takes reason output last.out lines f.within (omega (arith, h, ap length whole_is)))
            ∙ (λ i. beside_of output (lines_are i) (f.all_told i).records)

        done_broken : takes < length (output_of output all cursor program_tables) → (ended takes reason output last).beside ≡ []
        done_broken h =
            last_broken takes reason s (put (ending_due s) (room_of 0 last.turn.room)).bytes last.out lines room_after f.written found output
            (broken_if takes reason output last.out lines f.within (omega (arith, h, ap length whole_is)))

      -- a read failed behind what was told: nothing is said of an end
      module _ (failed : is_lost s ≡ true) where
        not_sound : is_sound s ≡ false
        not_sound = rw (f.written, failed)

        lost_out : (ended takes reason output last).out ≡ target.bytes
        lost_out = unsound_out takes reason output last f.room f.within not_sound (λ b. lost_not_sound b s failed) ∙ all_out

        lost_beside : (ended takes reason output last).beside ≡ lost_text output reason
        lost_beside =
            unsound_beside takes reason output last f.room f.within not_sound (λ b. lost_not_sound b s failed)
            ∙ cond_at (lost_text output reason) [] failed

    -- ---- or a write failed
    module _ (b : Broken takes output big target ended_by all last) where
      abbrev s' : Stage
      s' = last.turn.stage

      not_sound_now : is_sound s' ≡ false
      not_sound_now = rw b.unwritten

      not_sound_then : (t : Bool) → is_sound (written_stage s' t) ≡ false
      not_sound_then t = rw b.unwritten

      few_out : length last.out ≤ takes
      few_out = omega (arith, ap length b.part_told, length-take takes target.bytes)

      broken_out : (ended takes reason output last).out ≡ take takes target.bytes
      broken_out = unsound_out takes reason output last b.room few_out not_sound_now not_sound_then ∙ b.part_told

      broken_beside : (ended takes reason output last).beside ≡ []
      broken_beside =
          unsound_beside takes reason output last b.room few_out not_sound_now not_sound_then
          ∙ cond_at (lost_text output reason) [] b.found

      -- what is told is the first part of the output, the ending included
      abbrev end : List ℕ
      end = ending_of output all cursor program_tables

      by_stream : cond (on_output (ending_stream output)) (target.bytes ++ end) target.bytes ≡ output_of output all cursor program_tables
      by_stream = out_by output all cursor target.bytes end refl refl

      first_part : take takes target.bytes ≡ take takes (output_of output all cursor program_tables)
      first_part = go (on_output (ending_stream output)) ∙ ap (take takes) by_stream
        where
          go : (t : Bool) → take takes target.bytes ≡ take takes (cond t (target.bytes ++ end) target.bytes)
          go true = sym (take-append-le takes target.bytes end (omega (arith, b.too_much)))
          go false = refl

      too_long : takes < length (output_of output all cursor program_tables)
      too_long = subst (λ (l : List ℕ). takes < length l) by_stream (go (on_output (ending_stream output)))
        where
          go : (t : Bool) → takes < length (cond t (target.bytes ++ end) target.bytes)
          go true = omega (arith, b.too_much, length-append target.bytes end)
          go false = b.too_much

    -- ---- so it is, whichever
    opened_out : fails ≡ false → (ended takes reason output last).out ≡ take takes (output_of output all cursor program_tables)
    opened_out e = ⊎_elim (λ f. done_out f (f.found (last_fails ∙ e))) (λ b. broken_out b ∙ first_part b) over

    opened_beside_lem : fails ≡ false → length (output_of output all cursor program_tables) ≤ takes
        → (ended takes reason output last).beside ≡ beside_of output (ending_of output all cursor program_tables) target.records
    opened_beside_lem e h =
        ⊎_elim (λ f. done_beside f (f.found (last_fails ∙ e)) h) (λ b. absurd (omega (arith, h, too_long b))) over

    opened_broken : fails ≡ false → takes < length (output_of output all cursor program_tables) → (ended takes reason output last).beside ≡ []
    opened_broken e h = ⊎_elim (λ f. done_broken f (f.found (last_fails ∙ e)) h) (λ b. broken_beside b) over

    opened_lost : fails ≡ true → is_long ended_by ≡ false → length target.bytes ≤ takes
        → ((ended takes reason output last).out ≡ target.bytes) × ((ended takes reason output last).beside ≡ lost_text output reason)
    opened_lost e not-long h =
        ⊎_elim
        (λ f. let failed = f.lost not-long ∙ last_fails ∙ e in (lost_out f failed, lost_beside f failed))
        (λ b. absurd (omega (arith, h, b.too_much)))
        over

-- ---- the whole run, from the first byte of input: for any cutting of it into pieces, and whatever the buffers hold
module _ (takes : ℕ) (reason : List ℕ) (output : Output) (pieces : List (List ℕ)) (fails : Bool) (header buffer room : List ℕ) (turns : ℕ) where
  abbrev pub capture : List ℕ
  capture = joined pieces

  abbrev pub said : Said
  said = program takes reason output turns header buffer room (record { pieces = pieces; fails = fails })

  -- no piece is empty, and all are of bytes; the header's buffer has its size, the others have place for a record; and there are turns enough:
  -- a program counts up to 2 ^ 64 - 1
  pub record Given : Type 0 where
    pub full : AllFull pieces
    pub bytes : Bytes capture
    pub header_long : length header ≡ 24
    pub buffer_long : 2064 ≤ length buffer
    pub room_long : 2064 ≤ length room
    pub turns_enough : 4 * length capture < turns

  module _ (given : Given) where
    abbrev start : Run
    start = record { turn = turn_of (first_stage true) header room program_tables; out = []; input = record { pieces = pieces; fails = fails } }

    abbrev r : Run
    r = headed 24 start

    abbrev held : ℕ
    held = r.turn.stage.held

    abbrev window : List ℕ
    window = window_of r.turn

    head : Headed capture room fails r
    head =
        header_read capture room fails 24 start
        (record {
          few = omega arith;
          buffer = given.header_long;
          split = refl;
          full = given.full;
          written = refl;
          wants = refl;
          none_told = refl;
          same_room = refl;
          fails_is = refl;
        })
        refl refl (omega arith)

    window_is : window ≡ take held r.turn.input
    window_is =
        let all_held : min held (length r.turn.input) ≡ held = omega (arith, head.heading.few, head.heading.buffer) in
        ap (λ (n : ℕ). take n r.turn.input) all_held

    window_long : length window ≡ held
    window_long = ap length window_is ∙ length-take-le held r.turn.input (omega (arith, head.heading.few, head.heading.buffer))

    split : window ++ joined r.input.pieces ≡ capture
    split = ap (λ (w : List ℕ). w ++ joined r.input.pieces) window_is ∙ head.heading.split

    -- what was read of the header tells what the capture tells
    opening_told : is_lost r.turn.stage ≡ false → opened_of window ≡ opened_of capture
    opening_told e = by head.how
      where
        by : How capture room fails r → opened_of window ≡ opened_of capture
        by (All-there h f) = sym (same_opening window (joined r.input.pieces) (window_long ∙ h)) ∙ ap opened_of split
        by (short none f not-failed) = ap opened_of (sym (append-nil window) ∙ ap (◌++◌ window) (sym none) ∙ split)
        by (lost f g few) = absurd (false≢true (sym e ∙ f))

    read_whole : is_lost r.turn.stage ≡ false → is_sound r.turn.stage ≡ true
    read_whole e = rw (head.heading.written, e)

    said_by : (x : Result Cursor Refusal) → is_lost r.turn.stage ≡ false → opened_of capture ≡ x
        → said ≡ replayed takes reason output turns buffer r (begun_by output x room)
    said_by x e f =
        cond_at (replayed takes reason output turns buffer r (begun_by output (opened_of window) r.turn.room))
        (said_beside takes reason output r.turn.stage r.turn.room [] []) (read_whole e)
        ∙ (λ i. replayed takes reason output turns buffer r (begun_by output ((opening_told e ∙ f) i) (head.heading.same_room i)))

    -- ---- a header that is refused
    module _ (found : is_lost r.turn.stage ≡ false) (refused : Refusal) (e : opened_of capture ≡ Err refused) where
      abbrev number : ℕ
      number = refusal_number refused

      small : number < 2 ^ 8
      small = omega (arith, refusal_small refused)

      few : length (header_refused number) ≤ length room
      few = omega (arith, given.room_long, header_few number small)

      lines_in : put_in (put (header_refused number) (room_of 0 room)) ≡ header_refused number
      lines_in = put_in_lem (header_refused number) room few

      long : 2064 ≤ length (put (header_refused number) (room_of 0 room)).bytes
      long = omega (arith, given.room_long, same_long (header_refused number) room few)

      abbrev lines_put : List ℕ
      lines_put = put_in (put (header_refused number) (room_of 0 room))

      refused_said : said ≡ said_last takes reason output (ending_stream output) r.turn.stage (put (header_refused number) (room_of 0 room)).bytes [] lines_put
      refused_said = said_by (Err refused) found e

      out_is : all_of takes reason output [] lines_put (omega arith) ≡ program_output output capture
      out_is =
          ap (λ (lines : List ℕ). cond (on_output (ending_stream output)) lines []) lines_in
          ∙ refused_by output number
          ∙ sym (ap (opened_output output capture program_tables) e)

      refused_out : said.out ≡ take takes (program_output output capture)
      refused_out =
          ap (λ (x : Said). x.out) refused_said
          ∙ last_out takes reason output r.turn.stage (put (header_refused number) (room_of 0 room)).bytes [] lines_put
          ∙ cut_out takes reason output [] lines_put (omega arith)
          ∙ ap (take takes) out_is

      refused_beside : length (program_output output capture) ≤ takes → said.beside ≡ program_beside output capture
      refused_beside h =
          ap (λ (x : Said). x.beside) refused_said
          ∙ last_beside takes reason r.turn.stage (put (header_refused number) (room_of 0 room)).bytes [] lines_put long head.heading.written found output
          (taken_if takes reason output [] lines_put (omega arith) (omega (arith, h, ap length out_is)))
          ∙ (λ i. beside_of output (lines_in i) (head.heading.none_told i).records)
          ∙ sym (ap (opened_beside output capture) e)

      refused_broken : takes < length (program_output output capture) → said.beside ≡ []
      refused_broken h =
          ap (λ (x : Said). x.beside) refused_said
          ∙ last_broken takes reason r.turn.stage (put (header_refused number) (room_of 0 room)).bytes [] lines_put long head.heading.written found output
          (broken_if takes reason output [] lines_put (omega arith) (omega (arith, h, ap length out_is)))

    -- ---- a header that opens
    module _ (found : is_lost r.turn.stage ≡ false) (cursor : Cursor) (e : opened_of capture ≡ Ok cursor) where
      abbrev whole_capture : List ℕ
      whole_capture = window ++ joined r.input.pieces

      abbrev fails_now : Bool
      fails_now = r.input.fails

      header_there : length window ≡ 24
      header_there = by head.how
        where
          by : How capture room fails r → length window ≡ 24
          by (All-there h f) = window_long ∙ h
          by (short none f not-failed) =
              omega (arith, (says capture cursor e).long, sym (ap length split), length-append window (joined r.input.pieces), ap length none, window_long, head.heading.few)
          by (lost f g few) = absurd (false≢true (sym found ∙ f))

      so : Opened-so takes reason output window r.input.pieces fails_now buffer room cursor turns
      so =
          record {
            opens = ap opened_of split ∙ e;
            header_long = header_there;
            full = head.heading.full;
            bytes = subst Bytes (sym split) given.bytes;
            buffer_long = given.buffer_long;
            room_long = given.room_long;
            turns_enough =
                omega (arith, given.turns_enough, sym (ap length split), length-append window (joined r.input.pieces));
          }

      abbrev end_run : Run
      end_run = last takes reason output window r.input.pieces fails_now buffer room cursor turns

      opened_said : said ≡ ended takes reason output end_run
      opened_said = said_by (Ok cursor) found e

      output_is : output_of output whole_capture cursor program_tables ≡ program_output output capture
      output_is = ap (λ (l : List ℕ). output_of output l cursor program_tables) split ∙ sym (ap (opened_output output capture program_tables) e)

      open_out : fails ≡ false → said.out ≡ take takes (program_output output capture)
      open_out f =
          ap (λ (x : Said). x.out) opened_said
          ∙ opened_out takes reason output window r.input.pieces fails_now buffer room cursor turns so (head.heading.fails_is ∙ f)
          ∙ ap (take takes) output_is

      open_beside : fails ≡ false → length (program_output output capture) ≤ takes → said.beside ≡ program_beside output capture
      open_beside f h =
          ap (λ (x : Said). x.beside) opened_said
          ∙ opened_beside_lem takes reason output window r.input.pieces fails_now buffer room cursor turns so (head.heading.fails_is ∙ f)
          (omega (arith, h, ap length output_is))
          ∙ (λ i. beside_of output (ending_of output (split i) cursor program_tables) (told_of_capture output (split i) cursor program_tables).records)
          ∙ sym (ap (opened_beside output capture) e)

      open_broken : fails ≡ false → takes < length (program_output output capture) → said.beside ≡ []
      open_broken f h =
          ap (λ (x : Said). x.beside) opened_said
          ∙ opened_broken takes reason output window r.input.pieces fails_now buffer room cursor turns so (head.heading.fails_is ∙ f)
          (omega (arith, h, ap length output_is))

      open_lost : fails ≡ true → is_long (course_of capture cursor).ended ≡ false
          → length (told_of_capture output capture cursor program_tables).bytes ≤ takes
          → (said.out ≡ (told_of_capture output capture cursor program_tables).bytes) × (said.beside ≡ lost_text output reason)
      open_lost f not-long h =
          let both = opened_lost takes reason output window r.input.pieces fails_now buffer room cursor turns so (head.heading.fails_is ∙ f)
          (ap (λ (l : List ℕ). is_long (course_of l cursor).ended) split ∙ not-long)
          (omega (arith, h, ap (λ (l : List ℕ). length (told_of_capture output l cursor program_tables).bytes) split)) in (
            ap (λ (x : Said). x.out) opened_said ∙ both.0 ∙ ap (λ (l : List ℕ). (told_of_capture output l cursor program_tables).bytes) split,
            ap (λ (x : Said). x.beside) opened_said ∙ both.1,
          )

    -- ---- whichever it is
    no_loss : fails ≡ false → is_lost r.turn.stage ≡ false
    no_loss e = by head.how
      where
        by : How capture room fails r → is_lost r.turn.stage ≡ false
        by (All-there h f) = f
        by (short none f not-failed) = f
        by (lost f g few) = absurd (false≢true (sym e ∙ g))

    -- where no read fails, standard output is as much of the output as it takes
    pub puts_out : fails ≡ false → said.out ≡ take takes (program_output output capture)
    puts_out e =
        (elim (opened_of capture) as (λ x. opened_of capture ≡ x → said.out ≡ take takes (program_output output capture)) [
          | Err refused ↦ λ f. refused_out (no_loss e) refused f
          | Ok cursor ↦ λ f. open_out (no_loss e) cursor f e
        ]) refl

    -- so all of it, where it takes all; and then standard error has what it should
    pub program_puts_out : fails ≡ false → length (program_output output capture) ≤ takes
        → (said.out ≡ program_output output capture) × (said.beside ≡ program_beside output capture)
    program_puts_out e h = (
      puts_out e ∙ take_all takes (program_output output capture) h,
      (elim (opened_of capture) as (λ x. opened_of capture ≡ x → said.beside ≡ program_beside output capture) [
        | Err refused ↦ λ f. refused_beside (no_loss e) refused f h
        | Ok cursor ↦ λ f. open_beside (no_loss e) cursor f e h
      ]) refl,
    )

    -- a write that fails stops it, and nothing is said after it
    pub broken_says_nothing : fails ≡ false → takes < length (program_output output capture) → said.beside ≡ []
    broken_says_nothing e h =
        (elim (opened_of capture) as (λ x. opened_of capture ≡ x → said.beside ≡ []) [
          | Err refused ↦ λ f. refused_broken (no_loss e) refused f h
          | Ok cursor ↦ λ f. open_broken (no_loss e) cursor f e h
        ]) refl

    -- a read that fails is no end: the records before it are told, and nothing is said but that it failed
    pub lost_says_so : fails ≡ true → (cursor : Cursor) → opened_of capture ≡ Ok cursor → is_long (course_of capture cursor).ended ≡ false
        → length (told_of_capture output capture cursor program_tables).bytes ≤ takes
        → (said.out ≡ (told_of_capture output capture cursor program_tables).bytes) × (said.beside ≡ lost_text output reason)
    lost_says_so e cursor f not-long h = open_lost (by head.how) cursor f e not-long h
      where
        by : How capture room fails r → is_lost r.turn.stage ≡ false
        by (All-there g k) = k
        by (short none k not-failed) = k
        by (lost k g few) = absurd (omega (arith, (says capture cursor f).long, few))

    pub lost_in_the_header : fails ≡ true → length capture < 24 → (said.out ≡ []) × (said.beside ≡ lost_text output reason)
    lost_in_the_header e few = by head.how
      where
        by : How capture room fails r → (said.out ≡ []) × (said.beside ≡ lost_text output reason)
        by (All-there h f) =
            absurd (omega (arith, few, h, window_long, sym (ap length split), length-append window (joined r.input.pieces)))
        by (short none f not-failed) = absurd (false≢true (sym not-failed ∙ e))
        by (lost f g h) =
            let s : Stage = r.turn.stage in
            let off : is_sound s ≡ false = rw (head.heading.written, f) in
            let only : said ≡ said_beside takes reason output s r.turn.room [] [] =
            cond_at (replayed takes reason output turns buffer r (begun_by output (opened_of window) r.turn.room))
            (said_beside takes reason output s r.turn.room [] []) off in
            let long : 2064 ≤ length r.turn.room = omega (arith, given.room_long, ap length head.heading.same_room) in (
              ap (λ (x : Said). x.out) only,
              ap (λ (x : Said). x.beside) only ∙ unsound takes reason output s r.turn.room [] [] long off ∙ cond_at (lost_text output reason) [] f,
            )

-- ---- as the programs are: with their own buffers, and the turns that they count down
module _ (takes : ℕ) (reason : List ℕ) (output : Output) (pieces : List (List ℕ)) (fails : Bool) (full : AllFull pieces) (bytes : Bytes (joined pieces))
    (few : length (joined pieces) < 2 ^ 62) where
  pub as_the_programs_are : Given takes reason output pieces fails (replicate 24 0) (replicate 262144 0) (replicate 65536 0) (2 ^ 64 - 1)
  as_the_programs_are =
      record {
        full = full;
        bytes = bytes;
        header_long = length-replicate {A = ℕ} 24 0;
        buffer_long = subst (λ (n : ℕ). 2064 ≤ n) (sym (length-replicate {A = ℕ} 262144 0)) (omega arith);
        room_long = subst (λ (n : ℕ). 2064 ≤ n) (sym (length-replicate {A = ℕ} 65536 0)) (omega arith);
        turns_enough = omega (arith, few);
      }
