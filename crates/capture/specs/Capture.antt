-- Document 01, "Captures are classic pcap, version 2.4.", and refusals 7 and 8: what reading answers.
-- Assumes nothing.
use Rattle.std.specs.Prelude.{Bool, true, cond, not, ◌||◌, List, ℕ, ◌+◌, eqb, ltb, leb, length, Result, Ok, Err}
use Rattle.refused.specs.declared.Refusal.{Refusal}
use Rattle.refused.specs.declared.Refusal.TheVariants as refusal
use Rattle.capture.specs.Format.{header_size, most_captured, magic, major, minor, link_type, magic_in, major_in, minor_in, link_type_in}
use Rattle.capture.specs.Format.{record_size, seconds_in, microseconds_in, captured_in, original_in}
use Rattle.capture.specs.declared.Cursor.{Cursor}
use Rattle.capture.specs.declared.Record.{Record}
use Rattle.capture.specs.declared.Reading.{Reading}
use Rattle.capture.specs.declared.Reading.TheVariants.{End, Cut, Long, Whole}

-- ---- the header
-- the byte order is that in which the magic stands: the most significant byte first, or else it has to be the least
abbrev pub big_endian : List ℕ → Bool
big_endian l = eqb (magic_in true l) magic

-- "magic not a1b2c3d4 in either byte order, version not 2.4, or link type not 1"
abbrev pub bad_words : Bool → List ℕ → Bool
bad_words big l =
    not (eqb (magic_in big l) magic)
    || ((not (eqb (major_in big l) major) || not (eqb (minor_in big l) minor))
    || not (eqb (link_type_in big l) link_type))

-- 7: "capture header: short", or one of these
unfoldable pub bad_header : List ℕ → Bool
bad_header l = cond (ltb (length l) header_size) true (bad_words (big_endian l) l)

unfoldable pub opened_of : List ℕ → Result Cursor Refusal
opened_of l = cond (bad_header l) (Err refusal.Capture) (Ok (record { at = header_size; big_endian = big_endian l }))

-- ---- a record: its header, and the captured bytes
-- what the header says that starts at a place: seconds, microseconds, captured and original length, and where the captured bytes stand
abbrev pub head_at : Bool → ℕ → List ℕ → Record
head_at big at l =
    record {
      seconds = seconds_in big at l;
      microseconds = microseconds_in big at l;
      captured = captured_in big at l;
      original = original_in big at l;
      from = at + record_size;
      end = (at + record_size) + captured_in big at l;
    }

-- 8: "capture record cut off, or over 2,048 captured bytes". Nothing at all is no record that is cut off, but the capture's end.
unfoldable pub next_of : List ℕ → Cursor → Reading
next_of l cursor =
    cond (leb (length l) cursor.at) End
    (cond (ltb (length l) (cursor.at + record_size)) Cut
    (cond (ltb most_captured head.captured) Long
    (cond (ltb (length l) head.end) Cut
    (Whole head))))
  where
    head : Record
    head = head_at cursor.big_endian cursor.at l

-- the paper's number for each case of the answer, and 0 for what is not refused
abbrev pub record_refusal : Reading → ℕ
record_refusal End = 0
record_refusal Cut = 8
record_refusal Long = 8
record_refusal (Whole r) = 0
