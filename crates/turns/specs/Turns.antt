-- What a program that replays a capture decides in a turn: when it reads, when it goes on, what it says at the end, and where.
-- Assumes nothing.
use Rattle.std.specs.Prelude.{Bool, true, false, cond, not, ◌&&◌, ◌||◌, List, [], ℕ, min, eqb, leb, ltb, ℤ, pos, negsuc, length, take, Some, None, Result, Ok, Err}
use Rattle.refused.specs.declared.Refusal.{Refusal}
use Rattle.refused.specs.Refused.{refusal_number}
use Rattle.capture.specs.declared.Cursor.{Cursor}
use Rattle.gateway.specs.Calls.{State}
use Rattle.lines.specs.Letters.{text}
use Rattle.lines.specs.Room.{room_of, put}
use Rattle.outputs.specs.declared.Output.{Output}
use Rattle.outputs.specs.declared.Output.TheVariants.{Lines, Forwarded, Reasons}
use Rattle.outputs.specs.Outputs.{opening_put}
use Rattle.endings.specs.Endings.{ending, header_refused}
use Rattle.feeding.specs.declared.Progress.{Progress}
use Rattle.feeding.specs.Feeding.{Replayed, replayed_of, fed}
use Rattle.streams.specs.Streams.{Held, shifted}
use Rattle.turns.specs.declared.Stage.{Stage}
use Rattle.turns.specs.declared.Begun.{Begun}
use Rattle.turns.specs.declared.Source.{Source}
use Rattle.turns.specs.declared.Source.TheVariants.{Open, Ended, Lost}
use Rattle.turns.specs.declared.Stream.{Stream}
use Rattle.turns.specs.declared.Stream.TheVariants.{Stdout, Stderr}

-- ---- what the last read told of input
abbrev pub ended_in : Source → Bool
ended_in Open = false
ended_in Ended = true
ended_in Lost = false

abbrev pub lost_in : Source → Bool
lost_in Open = false
lost_in Ended = false
lost_in Lost = true

abbrev pub has_ended : Stage → Bool
has_ended s = ended_in s.source

abbrev pub is_lost : Stage → Bool
is_lost s = lost_in s.source

-- ---- where it starts, and goes on from
abbrev pub none_yet : Progress
none_yet = record { at = 0; put = 0; records = 0; refusals = 0; has_more = true; is_over = false }

-- nothing is held, and bytes are wanted
abbrev pub first_stage : Bool → Stage
first_stage written =
    record { held = 0; progress = none_yet; wants_bytes = true; source = Open; is_written = written }

-- the same counts, with nothing put and the next record at the front of the bytes at hand
abbrev pub begun_anew : Progress → Progress
begun_anew p = record { at = 0; put = 0; records = p.records; refusals = p.refusals; has_more = true; is_over = p.is_over }

-- ---- decisions
-- a read that failed by one of these errors would only have had to wait: EAGAIN is 11, EINTR is 4
abbrev pub is_early : ℤ → Bool
is_early (pos error) = eqb error 11 || eqb error 4
is_early (negsuc n) = false

-- input has ended where a read brought nothing; what is said of a read that failed is not that input has ended
abbrev pub refilled_stage : Stage → ℕ → Bool → Stage
refilled_stage s held failed =
    record {
      held = held;
      progress = s.progress;
      wants_bytes = s.wants_bytes;
      source = cond failed Lost (cond (leb held s.held) Ended Open);
      is_written = s.is_written;
    }

-- more bytes are wanted where those at hand hold no further whole record, or where there are none
abbrev pub wants_bytes : Progress → ℕ → Bool
wants_bytes p held = not p.has_more || eqb held 0

abbrev pub taken_stage : Stage → ℕ → Progress → Stage
taken_stage s held p =
    record {
      held = held;
      progress = p;
      wants_bytes = wants_bytes p held;
      source = s.source;
      is_written = s.is_written;
    }

-- once a write failed, not all is written
abbrev pub written_stage : Stage → Bool → Stage
written_stage s written =
    record {
      held = s.held;
      progress = s.progress;
      wants_bytes = s.wants_bytes;
      source = s.source;
      is_written = s.is_written && written;
    }

-- nothing was lost, in or out
abbrev pub is_sound : Stage → Bool
is_sound s = s.is_written && not (is_lost s)

-- "After 7 or 8 it stops."
abbrev pub goes_on : Stage → Bool
goes_on s = is_sound s && (not (has_ended s) && not s.progress.is_over)

-- the header's 24 bytes are not all held, and more may come
abbrev pub lacks_header : Stage → Bool
lacks_header s = goes_on s && ltb s.held 24

-- 8: a record is too long, or bytes are left that are no whole record
abbrev pub ends_refused : Stage → Bool
ends_refused s = s.progress.is_over || ltb 0 s.held

-- ---- how it ends
-- what is said at the end: nothing where anything was lost
abbrev pub ending_due : Stage → List ℕ
ending_due s = cond (is_sound s) (ending (ends_refused s) s.progress.records s.progress.refusals) []

abbrev pub ending_stream : Output → Stream
ending_stream Lines = Stdout
ending_stream Forwarded = Stderr
ending_stream (Reasons wanted) = Stdout

abbrev pub beginning_stream : Output → Bool → Stream
beginning_stream output opens = cond opens Stdout (ending_stream output)

-- ---- what is said beside output
-- that the record which alone is wanted is not among so many
abbrev pub is_missing : Output → ℕ → Bool
is_missing Lines records = false
is_missing Forwarded records = false
is_missing (Reasons None) records = false
is_missing (Reasons (Some wanted)) records = ltb records wanted

unfoldable pub missing_words : List ℕ
missing_words = text "why: the capture has no whole record with that number\n"

abbrev pub missing_due : Output → Stage → List ℕ
missing_due output s = cond (is_sound s && is_missing output s.progress.records) missing_words []

-- that a read failed, before the system's own words for why
unfoldable pub lost_words : Output → List ℕ
lost_words Lines = text "verdicts: standard input cannot be read"
lost_words Forwarded = text "forwarded: standard input cannot be read"
lost_words (Reasons wanted) = text "why: standard input cannot be read"

-- ---- how it begins
pub record Beginning : Type 0 where
  pub begun : Begun
  pub room : List ℕ

abbrev pub beginning_of : Begun → List ℕ → Beginning
beginning_of begun room = record { begun = begun; room = room }

-- a header that opens: the opening. One that does not: "Refusal 7 prints as record 0", and it is over.
abbrev pub begun_by : Output → Result Cursor Refusal → List ℕ → Beginning
begun_by output (Err refusal) room =
    beginning_of
    (record { put = (put (header_refused (refusal_number refusal)) (room_of 0 room)).end; first = None })
    (put (header_refused (refusal_number refusal)) (room_of 0 room)).bytes
begun_by output (Ok cursor) room =
    beginning_of
    (record { put = (opening_put output (room_of 0 room)).end; first = Some cursor })
    (opening_put output (room_of 0 room)).bytes

-- ---- a turn
-- the stage, all bytes of the buffer that is read into, the room, and the gateway's state
pub record Turn : Type 0 where
  pub stage : Stage
  pub input : List ℕ
  pub room : List ℕ
  pub state : State

abbrev pub turn_of : Stage → List ℕ → List ℕ → State → Turn
turn_of stage input room state = record { stage = stage; input = input; room = room; state = state }

-- the bytes at hand
abbrev pub window_of : Turn → List ℕ
window_of t = take (min t.stage.held (length t.input)) t.input

-- what the records at hand come to, in an empty room
abbrev pub fed_of : Output → Bool → Turn → Replayed
fed_of output big t = fed output (length (window_of t)) (window_of t) big (replayed_of (begun_anew t.stage.progress) t.room t.state)

abbrev pub taken_of : Turn → Replayed → Held → Turn
taken_of t x held = turn_of (taken_stage t.stage held.count x.page.progress) held.bytes x.page.room x.state

-- what the whole records at hand are due is put, and the bytes that are left stand in front
unfoldable pub turn_taken : Output → Bool → Turn → Turn
turn_taken output big t =
    taken_of t (fed_of output big t)
    (shifted (fed_of output big t).page.progress.at (min t.stage.held (length t.input)) t.input)
