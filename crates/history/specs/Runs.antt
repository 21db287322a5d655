-- A run of the gateway: where it begins, calls one after another, and what is known of them afterwards, which is each call's input and its
-- answer. Lists stand newest first.
-- Assumes nothing.
use Rattle.std.specs.Prelude.{Bool, false, List, [], ◌∷◌, ℕ, ℤ, pos, Result}
use Rattle.refused.specs.declared.Refusal.{Refusal}
use Rattle.settings.specs.declared.Limits.{Limits}
use Rattle.places.specs.declared.Placing.{Placing}
use Rattle.reasons.specs.declared.Explanation.{Explanation}
use Rattle.rulings.specs.declared.answers.Answer.{Answer}
use Rattle.rulings.specs.Rules.{Rules}
use Rattle.gateway.specs.Calls.{State, passed, judged}
use Rattle.gateway.specs.Why.{why_of}

-- "with settings, side lists and sizes unchanged": what stays in a run. Of the settings these are the limits, the rules by them, and what
-- places packets, and of the sizes the number of connection records.
pub record Site : Type 0 where
  pub rules : Rules
  pub limits : Limits
  pub placing : Placing
  pub cell : List ℕ
  pub plant : List ℕ
  pub records : ℕ

-- Where a run begins: a state, and what is held there. That is whether a slot is live at a moment while nothing was forwarded on it since,
-- which fresh contacts are judged by, and each address's count, which what is allowed from such a start is measured by (books/proofs/Runs).
pub record Start : Type 0 where
  pub state : State
  pub held : ℕ → ℕ → Bool
  pub count : ℕ → ℤ

-- A cold start "writes 0 to every record and tag and -32,768 to every count": no slot is live then, and every address's count is 0.
abbrev pub started_cold : State → Start
started_cold state = record { state = state; held = λ slot now. false; count = λ address. pos 0 }

-- "calls of every other sort" than a cold start: a packet's bytes that come at a time, a time alone, and the question why, of a packet's
-- bytes at a time
pub data Call : Type 0 where
  packet_at : ℕ → List ℕ → Call
  time_alone : ℕ → Call
  why_at : ℕ → List ℕ → Call

-- the bytes that a call brings to be judged, if any
abbrev pub bytes_to_judge : Call → List ℕ
bytes_to_judge (packet_at time bytes) = bytes
bytes_to_judge (time_alone time) = []
bytes_to_judge (why_at time bytes) = []

-- a call, and what it was answered
pub data Event : Type 0 where
  judged_at : ℕ → List ℕ → Result Answer Refusal → Event
  passed_at : ℕ → Result (Unit {0}) Refusal → Event
  explained_at : ℕ → List ℕ → Result Explanation Refusal → Event

module _ (site : Site) where
  -- one call: the very definitions that the contracts of `judge`, `pass` and `why` cite. `why` is lent everything for reading alone: it
  -- leaves the state as it was.
  unfoldable pub state_after : State → Call → State
  state_after before (packet_at time bytes) = (judged site.rules site.limits site.cell site.plant time bytes before).state
  state_after before (time_alone time) = (passed site.rules site.limits time before).state
  state_after before (why_at time bytes) = before

  unfoldable pub event_of : State → Call → Event
  event_of before (packet_at time bytes) = judged_at time bytes (judged site.rules site.limits site.cell site.plant time bytes before).answer
  event_of before (time_alone time) = passed_at time (passed site.rules site.limits time before).answer
  event_of before (why_at time bytes) = explained_at time bytes (why_of site.rules site.limits site.cell site.plant time bytes before)

  module _ (start : Start) where
    -- the state that calls leave, and their history
    unfoldable pub left_by : List Call → State
    left_by [] = start.state
    left_by (call ∷ calls) = state_after (left_by calls) call

    unfoldable pub history : List Call → List Event
    history [] = []
    history (call ∷ calls) = event_of (left_by calls) call ∷ history calls
