-- What reading a whole capture in turn comes to, and what a window on a part of one tells of the whole.
-- Assumes nothing.
use Rattle.std.specs.Prelude.{Bool, true, false, List, [], ◌∷◌, ◌++◌, map, ◌≡◌, ℕ, zero, suc, ◌+◌, ◌-◌, ◌≤◌, ◌<◌, length, take, drop}
use Rattle.words.specs.Layouts.{four, limit}
use Rattle.capture.specs.Format.{most_captured, record_size, Content, content_of}
use Rattle.capture.specs.Capture.{next_of}
use Rattle.capture.specs.declared.Cursor.{Cursor}
use Rattle.capture.specs.declared.Record.{Record}
use Rattle.capture.specs.declared.Reading.{Reading}
use Rattle.capture.specs.declared.Reading.TheVariants.{End, Cut, Long, Whole}

-- ---- records in turn
-- the records that were read, the reading that ended it (a whole record only where the turns were too few), and the place of the first byte
-- that was not read
pub record Course : Type 0 where
  pub records : List Record
  pub ended : Reading
  pub unread : ℕ

-- a cursor at another place, in the same byte order
abbrev pub moved_to : ℕ → Cursor → Cursor
moved_to place cursor = record { at = place; big_endian = cursor.big_endian }

-- no record is read at the cursor
abbrev pub stopped : Cursor → Reading → Course
stopped cursor reading = record { records = []; ended = reading; unread = cursor.at }

-- records, and then those of a course
abbrev pub onto : List Record → Course → Course
onto records course = record { records = records ++ course.records; ended = course.ended; unread = course.unread }

-- a turn: behind a whole record the rest goes on, and any other reading ends the course
abbrev pub turn : Cursor → (Cursor → Course) → Reading → Course
turn cursor rest End = stopped cursor End
turn cursor rest Cut = stopped cursor Cut
turn cursor rest Long = stopped cursor Long
turn cursor rest (Whole r) = onto (r ∷ []) (rest (moved_to r.end cursor))

-- the course from a cursor on, of at most so many records; and the whole course, with as many turns as there are bytes
unfoldable pub in_turn : ℕ → List ℕ → Cursor → Course
in_turn zero l cursor = stopped cursor (next_of l cursor)
in_turn (suc turns) l cursor = turn cursor (λ c. in_turn turns l c) (next_of l cursor)

abbrev pub course_of : List ℕ → Cursor → Course
course_of l cursor = in_turn (length l) l cursor

-- each of the records is so
abbrev pub Each : (Record → Type 0) → List Record → Type 0
Each P [] = Unit {0}
Each P (r ∷ records) = P r × Each P records

-- the records lie side by side from one place to another: a header, the captured bytes, at most 2,048, and the next record
abbrev pub Tiles : ℕ → List Record → ℕ → Type 0
Tiles a [] b = a ≡ b
Tiles a (r ∷ records) b = (r.from ≡ a + record_size) × (r.end ≡ r.from + r.captured) × (r.captured ≤ most_captured) × Tiles r.end records b

-- the bytes of the records, headers and captured bytes, one after another
abbrev pub all_bytes : List ℕ → List Record → List ℕ
all_bytes l [] = []
all_bytes l (r ∷ records) = take (record_size + r.captured) (drop (r.from - record_size) l) ++ all_bytes l records

-- a record's captured bytes: from a place up to another
abbrev pub bytes_of : List ℕ → Record → List ℕ
bytes_of l r = take (r.end - r.from) (drop r.from l)

-- ---- contents
-- a record's content, and those of all records from a cursor on
abbrev pub content_in : List ℕ → Record → Content
content_in l r = content_of r.seconds r.microseconds r.original (bytes_of l r)

abbrev pub records_in : List ℕ → Cursor → List Content
records_in l cursor = map (content_in l) (course_of l cursor).records

-- what can be written: times and an original length of 32 bits, and at most 2,048 bytes
abbrev pub Writable : Content → Type 0
Writable r = (r.seconds < limit four) × (r.microseconds < limit four) × (r.original < limit four) × (length r.bytes ≤ most_captured)

abbrev pub AllWritable : List Content → Type 0
AllWritable [] = Unit {0}
AllWritable (r ∷ records) = Writable r × AllWritable records

-- ---- a window on a part of a capture
-- whether it is enough to tell: not where it ends before the record does, or before there is one
abbrev pub settled : Reading → Bool
settled End = false
settled Cut = false
settled Long = true
settled (Whole r) = true

-- a record with its captured bytes from one place up to another
abbrev pub placed : Record → ℕ → ℕ → Record
placed r a b =
    record { seconds = r.seconds; microseconds = r.microseconds; captured = r.captured; original = r.original; from = a; end = b }

-- a cursor, a record and a reading of the window, by their places in the whole, in which n bytes stand before it
abbrev pub later : ℕ → Cursor → Cursor
later n cursor = moved_to (n + cursor.at) cursor

abbrev pub later_record : ℕ → Record → Record
later_record n r = placed r (n + r.from) (n + r.end)

abbrev pub later_reading : ℕ → Reading → Reading
later_reading n End = End
later_reading n Cut = Cut
later_reading n Long = Long
later_reading n (Whole r) = Whole (later_record n r)

-- the records of a window's course, and then the course of the whole from the place where that stopped
abbrev pub gone_on : List ℕ → ℕ → Cursor → Course → Course
gone_on whole n cursor course = onto (map (later_record n) course.records) (course_of whole (later n (moved_to course.unread cursor)))
