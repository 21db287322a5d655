-- A whole run of a program, from the first byte of standard input: what stands on standard output at its end, and what was said beside it.
-- Assumes nothing.
use Rattle.std.specs.Prelude.{Bool, true, false, cond, List, [], ◌∷◌, ◌++◌, ℕ, zero, suc, min, ◌+◌, ◌-◌, ◌<◌, leb, length, take, drop, Option, None, Some, Result, Ok, Err}
use Rattle.words.specs.Words.{stored}
use Rattle.refused.specs.declared.Refusal.{Refusal}
use Rattle.refused.specs.Refused.{refusal_number}
use Rattle.capture.specs.declared.Cursor.{Cursor}
use Rattle.capture.specs.Capture.{opened_of}
use Rattle.lines.specs.Lines.{newline}
use Rattle.lines.specs.Text.{space}
use Rattle.lines.specs.Room.{Room, room_of, put}
use Rattle.outputs.specs.declared.Output.{Output}
use Rattle.outputs.specs.declared.Output.TheVariants.{Lines, Forwarded, Reasons}
use Rattle.endings.specs.Endings.{header_refused}
use Rattle.feeding.specs.Whole.{told_of_capture, ending_of, program_tables}
use Rattle.turns.specs.declared.Stage.{Stage}
use Rattle.turns.specs.declared.Stream.{Stream}
use Rattle.turns.specs.declared.Stream.TheVariants.{Stdout, Stderr}
use Rattle.turns.specs.Turns.{Turn, turn_of, window_of, turn_taken, first_stage, refilled_stage, written_stage, is_lost, is_sound, goes_on, lacks_header, ending_due, ending_stream, beginning_stream, is_missing, missing_words, missing_due, lost_words, Beginning, begun_by}

-- ---- what is read
-- what input still brings: bytes, piece by piece as reads may get them, and then its end, or a read that fails. A read that would only have
-- had to wait is none: it waits.
pub record Input : Type 0 where
  pub pieces : List (List ℕ)
  pub fails : Bool

-- how far a program has come, what stands on standard output, and what input still brings
pub record Run : Type 0 where
  pub turn : Turn
  pub out : List ℕ
  pub input : Input

-- all bytes of the pieces
abbrev pub joined : List (List ℕ) → List ℕ
joined [] = []
joined (piece ∷ pieces) = piece ++ joined pieces

-- a read that brings nothing is the end: no piece is empty
abbrev pub AllFull : List (List ℕ) → Type 0
AllFull [] = Unit {0}
AllFull (piece ∷ pieces) = (0 < length piece) × AllFull pieces

-- a read gets what a piece has and the buffer has room for; what it has not room for is got by the next
abbrev pub behind_first : ℕ → List ℕ → List (List ℕ) → List (List ℕ)
behind_first free piece pieces = cond (leb (length piece) free) pieces (drop free piece ∷ pieces)

abbrev pub turn_read : Turn → List ℕ → Bool → Turn
turn_read t got failed =
    turn_of (refilled_stage t.stage (t.stage.held + length got) failed) (stored got t.stage.held t.input) t.room t.state

abbrev pub free_of : Turn → ℕ
free_of t = length t.input - t.stage.held

abbrev pub read : Turn → List ℕ → List (List ℕ) → Bool → Run
read t out [] fails = record { turn = turn_read t [] fails; out = out; input = record { pieces = []; fails = fails } }
read t out (piece ∷ pieces) fails =
    record {
      turn = turn_read t (take (free_of t) piece) false;
      out = out;
      input = record { pieces = behind_first (free_of t) piece pieces; fails = fails };
    }

-- a read, where bytes are wanted
abbrev pub refilled : Run → Run
refilled r = cond r.turn.stage.wants_bytes (read r.turn r.out r.input.pieces r.input.fails) r

-- reads for the header, at most so many
unfoldable pub headed : ℕ → Run → Run
headed zero r = r
headed (suc turns) r = cond (lacks_header r.turn.stage) (headed turns (refilled r)) r

-- ---- what is written
-- what was put in a room, from its start on
abbrev pub put_in : Room → List ℕ
put_in room = take (min room.end (length room.bytes)) room.bytes

-- Standard output takes so many bytes in all. A write for which that is too few puts out what is still taken, and fails.
module _ (takes : ℕ) where
  abbrev pub put_out : List ℕ → List ℕ → List ℕ
  put_out out bytes = take takes (out ++ bytes)

  abbrev pub is_taken : List ℕ → List ℕ → Bool
  is_taken out bytes = leb (length (out ++ bytes)) takes

  -- what a turn has put in the room is written
  abbrev pub wrote : Turn → List ℕ → Input → List ℕ → Run
  wrote t out input bytes =
      record {
        turn = turn_of (written_stage t.stage (is_taken out bytes)) t.input t.room t.state;
        out = put_out out bytes;
        input = input;
      }

  abbrev pub told : Output → Bool → Run → Run
  told output big r =
      wrote (turn_taken output big r.turn) r.out r.input
      (put_in (room_of (turn_taken output big r.turn).stage.progress.put (turn_taken output big r.turn).room))

  -- a turn: a read, where bytes are wanted, and what is due, where it goes on
  abbrev pub one_turn : Output → Bool → Run → Run
  one_turn output big r = cond (goes_on (refilled r).turn.stage) (told output big (refilled r)) (refilled r)

  -- at most so many turns
  unfoldable pub run : Output → Bool → ℕ → Run → Run
  run output big zero r = r
  run output big (suc turns) r = cond (goes_on r.turn.stage) (run output big turns (one_turn output big r)) r

-- ---- how it ends
-- whether what is written to a stream stands on standard output; else it stands on standard error
abbrev pub on_output : Stream → Bool
on_output Stdout = true
on_output Stderr = false

-- all of standard output, and of standard error, which takes all that is said
pub record Said : Type 0 where
  pub out : List ℕ
  pub beside : List ℕ

-- the system's own words for why a read failed stand behind a colon
abbrev pub lost_text : Output → List ℕ → List ℕ
lost_text output reason = lost_words output ++ (58 ∷ (space ∷ (reason ++ (newline ∷ []))))

-- a program in a world in which standard output takes so many bytes and the system has these words for why a read failed; the buffers may
-- hold anything
module _ (takes : ℕ) (reason : List ℕ) (output : Output) where
  -- at the very end: a record that is missing, or a read that failed
  abbrev pub said_beside : Stage → List ℕ → List ℕ → List ℕ → Said
  said_beside s room out beside =
      record {
        out = out;
        beside = beside ++ (put_in (put (missing_due output s) (room_of 0 room)) ++ cond (is_lost s) (lost_text output reason) []);
      }

  -- lines that go to a stream, and what is said after them
  abbrev pub said_last : Stream → Stage → List ℕ → List ℕ → List ℕ → Said
  said_last stream s room out lines =
      cond (on_output stream)
      (said_beside (written_stage s (is_taken takes out lines)) room (put_out takes out lines) [])
      (said_beside (written_stage s true) room out lines)

  -- how the capture ended
  abbrev pub said_ending : Run → Room → Said
  said_ending r ending = said_last (ending_stream output) r.turn.stage ending.bytes r.out (put_in ending)

  abbrev pub ended : Run → Said
  ended r = said_ending r (put (ending_due r.turn.stage) (room_of 0 r.turn.room))

  -- a header that opens: the opening is written, and the records follow. One that does not: its lines, and it is over.
  abbrev pub first_run : List ℕ → Beginning → Input → Run
  first_run buffer b input =
      record {
        turn = turn_of (first_stage (cond on_it (is_taken takes [] opening) true)) buffer b.room program_tables;
        out = cond on_it (put_out takes [] opening) [];
        input = input;
      }
    where
      on_it : Bool
      on_it = on_output (beginning_stream output true)

      opening : List ℕ
      opening = put_in (room_of b.begun.put b.room)

  abbrev pub replayed_from : ℕ → List ℕ → Run → Beginning → Option Cursor → Said
  replayed_from turns buffer r b None =
      said_last (beginning_stream output false) r.turn.stage b.room [] (put_in (room_of b.begun.put b.room))
  replayed_from turns buffer r b (Some first) = ended (run takes output first.big_endian turns (first_run buffer b r.input))

  abbrev pub replayed : ℕ → List ℕ → Run → Beginning → Said
  replayed turns buffer r b = replayed_from turns buffer r b b.begun.first

  -- by the header's bytes, unless a read failed
  abbrev pub from_header : ℕ → List ℕ → Run → Said
  from_header turns buffer r =
      cond (is_sound r.turn.stage)
      (replayed turns buffer r (begun_by output (opened_of (window_of r.turn)) r.turn.room))
      (said_beside r.turn.stage r.turn.room [] [])

  -- the whole run, in at most so many turns: 24 reads are enough for the header, for each brings a byte or is the last
  abbrev pub program : ℕ → List ℕ → List ℕ → List ℕ → Input → Said
  program turns header buffer room input =
      from_header turns buffer (headed 24 (record { turn = turn_of (first_stage true) header room program_tables; out = []; input = input }))

-- ---- and what it should be
-- of the last lines, those that stand on standard error: all of them where standard output is a capture itself
abbrev pub lines_beside : Output → List ℕ → List ℕ
lines_beside Lines lines = []
lines_beside Forwarded lines = lines
lines_beside (Reasons wanted) lines = []

-- all of standard error, for a capture that is read and put out whole: such lines, and for a record that alone is wanted and is not there a
-- sentence
abbrev pub beside_of : Output → List ℕ → ℕ → List ℕ
beside_of output lines records = lines_beside output lines ++ cond (is_missing output records) missing_words []

abbrev pub opened_beside : Output → List ℕ → Result Cursor Refusal → List ℕ
opened_beside output l (Err refusal) = beside_of output (header_refused (refusal_number refusal)) 0
opened_beside output l (Ok cursor) = beside_of output (ending_of output l cursor program_tables) (told_of_capture output l cursor program_tables).records

abbrev pub program_beside : Output → List ℕ → List ℕ
program_beside output l = opened_beside output l (opened_of l)
