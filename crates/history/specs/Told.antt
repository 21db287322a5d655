-- What an event tells, by document 01's numbers. The clock, the life of a slot, F, D, H and R are made of what events tell, and never ask of
-- what sort these are.
-- Assumes nothing.
use Rattle.std.specs.Prelude.{List, [], ℕ, zero, suc, Option, None, Some, option_to_list}
use Rattle.refused.specs.declared.Refusal.{Refusal}
use Rattle.refused.specs.Refused.{refusal_of}
use Rattle.rulings.specs.Answers.{verdict_told, replaced_told}
use Rattle.history.specs.Runs.{Event, judged_at, passed_at, explained_at}

-- a packet of ours that was judged: when, its bytes, and the verdict's number
pub record JudgedPacket : Type 0 where
  pub time : ℕ
  pub bytes : List ℕ
  pub verdict : ℕ

-- the time that the clock was set to, if any; the packet of ours that was judged, if any; and the addresses named as replaced, whose
-- entries were lost
pub record Told : Type 0 where
  pub clock : Option ℕ
  pub judged : Option JudgedPacket
  pub lost : List ℕ

-- a call that is not refused sets the clock to its time
abbrev pub time_set : Option Refusal → ℕ → Option ℕ
time_set None time = Some time
time_set (Some refusal) time = None

-- "0 not ours", and 1 to 6 for a packet of ours
abbrev pub judgement_by : ℕ → List ℕ → Option ℕ → Option JudgedPacket
judgement_by time bytes None = None
judgement_by time bytes (Some zero) = None
judgement_by time bytes (Some (suc n)) = Some (record { time = time; bytes = bytes; verdict = suc n })

-- nothing but a time, if any
abbrev only_time : Option ℕ → Told
only_time clock = record { clock = clock; judged = None; lost = [] }

-- the question why passes no time
abbrev pub told : Event → Told
told (judged_at time bytes answered) =
    record {
      clock = time_set (refusal_of answered) time;
      judged = judgement_by time bytes (verdict_told answered);
      lost = option_to_list (replaced_told answered);
    }
told (passed_at time reply) = only_time (time_set (refusal_of reply) time)
told (explained_at time bytes why) = only_time None
