-- Document 01, "The printing program": how its gateway is set up, and what becomes of a capture's records; and document 02, K4: what is
-- answered where it is asked why.
-- Assumes nothing.
use Rattle.std.specs.Prelude.{Bool, cond, List, [], ◌∷◌, ℕ, Option, Some, None, Result}
use Rattle.refused.specs.declared.Refusal.{Refusal}
use Rattle.refused.specs.Refused.{refusal_in}
use Rattle.settings.specs.declared.Limits.{Limits}
use Rattle.settings.specs.declared.Settings.{Settings}
use Rattle.settings.specs.Settings.{factory_settings, with_threshold}
use Rattle.places.specs.declared.Placing.{Placing}
use Rattle.capture.specs.declared.Cursor.{Cursor}
use Rattle.capture.specs.declared.Record.{Record}
use Rattle.capture.specs.declared.Reading.{Reading}
use Rattle.capture.specs.declared.Reading.TheVariants as reading
use Rattle.capture.specs.Capture.{next_of}
use Rattle.capture.specs.Whole.{bytes_of}
use Rattle.reasons.specs.declared.Explanation.{Explanation}
use Rattle.rulings.specs.declared.answers.Answer.{Answer}
use Rattle.rulings.specs.Rules.{Rules, rules_of}
use Rattle.gateway.specs.Calls.{State, After, cold_placing, started}
use Rattle.frames.specs.Frames.{frame_judged, frame_explained}
use Rattle.replay.specs.declared.Judgement.{Judgement}
use Rattle.replay.specs.declared.Step.{Step}
use Rattle.replay.specs.declared.Step.TheVariants.{End, Cut, Long, Judged}

-- "cell 10.0.0.0/8, plant 192.168.0.0/16"
abbrev pub cell_list : List ℕ
cell_list = 10 ∷ (0 ∷ (0 ∷ (0 ∷ (8 ∷ []))))

abbrev pub plant_list : List ℕ
plant_list = 192 ∷ (168 ∷ (0 ∷ (0 ∷ (16 ∷ []))))

-- "with factory settings", and document 02, K2: "the factory T becomes 5. Callers that took ten by default name it themselves: the printing
-- program and the writer of K1, whose stored outputs stay."
abbrev pub program_settings : Settings
program_settings = with_threshold 10 factory_settings

-- what its calls after the start go by: the limits, the rules of these limits, and what places packets in its tables, as the start leaves it
abbrev pub program_limits : Limits
program_limits = program_settings.limits

abbrev pub program_rules : Rules
program_rules = rules_of program_limits

abbrev pub program_placing : Placing
program_placing = cold_placing program_settings

-- it "starts cold at the first record's second"
unfoldable pub started_first : Bool → ℕ → State → State
started_first first time before = cond first (started program_settings time before).state before

-- a whole record's frame, judged at the record's second
unfoldable pub record_judged : Bool → List ℕ → Record → State → After (Result Answer Refusal)
record_judged first bytes r before =
    frame_judged program_rules program_limits cell_list plant_list r.seconds (bytes_of bytes r) (started_first first r.seconds before)

-- "The tool judges by the tables as they would stand at the packet's second": of a frame, where it is asked
unfoldable pub asked_of : Bool → ℕ → List ℕ → State → Option (Result Explanation Refusal)
asked_of asks time frame before = cond asks (Some (frame_explained program_rules program_limits cell_list plant_list time frame before)) None

-- of a whole record, before it is judged
abbrev pub record_asked : Bool → Bool → List ℕ → Record → State → Option (Result Explanation Refusal)
record_asked asks first bytes r before = asked_of asks r.seconds (bytes_of bytes r) (started_first first r.seconds before)

-- what a whole record gets
abbrev pub judgement_of : Bool → Bool → List ℕ → Record → State → After Judgement
judgement_of asks first bytes r before =
    record {
      answer = record { answer = (record_judged first bytes r before).answer; asked = record_asked asks first bytes r before };
      state = (record_judged first bytes r before).state;
    }

-- a record that is judged, with what it got
abbrev pub judged_step : Record → After Judgement → After Step
judged_step r after = record { answer = Judged r after.answer.answer after.answer.asked; state = after.state }

abbrev pub by_reading : Bool → Bool → List ℕ → Reading → State → After Step
by_reading asks first bytes reading.End before = record { answer = End; state = before }
by_reading asks first bytes reading.Cut before = record { answer = Cut; state = before }
by_reading asks first bytes reading.Long before = record { answer = Long; state = before }
by_reading asks first bytes (reading.Whole r) before = judged_step r (judgement_of asks first bytes r before)

-- one step: the record at the cursor, the first one or a further one
unfoldable pub stepped : Bool → Bool → List ℕ → Cursor → State → After Step
stepped asks first bytes cursor before = by_reading asks first bytes (next_of bytes cursor) before

-- the paper's number for each case of a step: that of its refusal, and 0 for what is not refused
abbrev pub step_refusal : Step → ℕ
step_refusal End = 0
step_refusal Cut = 8
step_refusal Long = 8
step_refusal (Judged r answer asked) = refusal_in answer
