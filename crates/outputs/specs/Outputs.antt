-- What each program puts out: document 01, "The printing program", a line for a record; document 02, K1, "reads a capture and writes the
-- forwarded records"; document 02, K4, "Why was it dropped?".
-- Assumes nothing.
use Rattle.std.specs.Prelude.{Bool, true, false, cond, List, [], ℕ, Option, Result, Ok, Err}
use Rattle.refused.specs.declared.Refusal.{Refusal}
use Rattle.rulings.specs.declared.answers.Answer.{Answer}
use Rattle.rulings.specs.Answers.{forwarded_told}
use Rattle.lines.specs.Lines.{line}
use Rattle.lines.specs.Room.{Room, room_of, put}
use Rattle.capture.specs.Format.{header_bytes, Content, record_bytes}
use Rattle.capture.specs.Writing.{Put, header_put, record_put}
use Rattle.reasons.specs.declared.Explanation.{Explanation}
use Rattle.explanations.specs.Explanations.{asked_text}
use Rattle.outputs.specs.declared.Output.{Output}
use Rattle.outputs.specs.declared.Output.TheVariants.{Lines, Forwarded, Reasons}

-- the program that says why asks of each record
abbrev pub asks_why : Output → Bool
asks_why Lines = false
asks_why Forwarded = false
asks_why (Reasons wanted) = true

-- ---- the bytes
-- for a whole record, by its number, what it tells, what was answered, and what was answered to the question why where that was asked
abbrev pub told_of : Output → ℕ → Content → Result Answer Refusal → Option (Result Explanation Refusal) → List ℕ
told_of Lines number r answer asked = line number answer
told_of Forwarded number r answer asked = cond (forwarded_told answer) (record_bytes false r) []
told_of (Reasons wanted) number r answer asked = asked_text wanted number r.seconds asked

-- before the first record: "7 yields no output", so not before the header was read
abbrev pub opening_of : Output → List ℕ
opening_of Lines = []
opening_of Forwarded = header_bytes false
opening_of (Reasons wanted) = []

-- ---- put into lent room, by the writer or line by line: where they have room, as `proofs/Whole` shows, just these bytes
-- the place after what was written: as it was where that was refused
abbrev pub place_after : Result ℕ Refusal → ℕ → ℕ
place_after (Err refusal) at = at
place_after (Ok next) at = next

abbrev pub room_after : ℕ → Put → Room
room_after at after = room_of (place_after after.answer at) after.room

unfoldable pub forwarded_put : Content → Result Answer Refusal → Room → Room
forwarded_put r answer room = cond (forwarded_told answer) (room_after room.end (record_put r room.end room.bytes)) room

abbrev pub told_put : Output → ℕ → Content → Result Answer Refusal → Option (Result Explanation Refusal) → Room → Room
told_put Lines number r answer asked room = put (line number answer) room
told_put Forwarded number r answer asked room = forwarded_put r answer room
told_put (Reasons wanted) number r answer asked room = put (asked_text wanted number r.seconds asked) room

abbrev pub opening_put : Output → Room → Room
opening_put Lines room = room
opening_put Forwarded room = room_after room.end (header_put room.end room.bytes)
opening_put (Reasons wanted) room = room
