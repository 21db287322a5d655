-- Small histories, made by hand, and what document 01's section "Fresh, from history" says of each: F, H, R and D. A slot is here the plant
-- address modulo 16, so that it can be seen; Dconn is 10, Dmiss 60, and the start is at second 100.
-- Assumes nothing.
use Rattle.std.specs.Prelude.{cond, List, [], ◌∷◌, ℕ, ◌%◌, pos, Some, None, Ok, Err}
use Rattle.refused.specs.declared.Refusal.TheVariants as refusal
use Rattle.settings.specs.declared.Settings.{Settings}
use Rattle.settings.specs.Settings.{factory_settings, with_threshold}
use Rattle.verdicts.specs.declared.Verdict.{Verdict}
use Rattle.verdicts.specs.declared.Verdict.TheVariants.{Uncounted, CreditOfOne, CreditOfTwo, FreshContact, Blocked}
use Rattle.reasons.specs.declared.Explanation.TheVariants as explanation
use Rattle.rulings.specs.declared.answers.Answer.TheVariants.{NotOurs, Judged}
use Rattle.rulings.specs.Rules.{Rules}
use Rattle.gateway.specs.Calls.{state_of, cold_placing}
use Rattle.history.specs.Runs.{Site, Start, started_cold, Event, judged_at, passed_at, explained_at}
use Rattle.history.specs.Fresh.{replacements, decays, credits, fresh_contacts}

abbrev settings : Settings
settings = with_threshold 10 factory_settings

abbrev rules : Rules
rules =
    record {
      threshold = settings.limits.threshold;
      floor = settings.limits.floor;
      point = 1;
      weight = λ h. 1;
      attempt = λ h count. None;
      slot = λ placing h from_plant records. cond from_plant h.source h.destination % records;
    }

abbrev site : Site
site =
    record {
      rules = rules;
      limits = settings.limits;
      placing = cold_placing settings;
      cell = 10 ∷ 0 ∷ 0 ∷ 0 ∷ 8 ∷ [];
      plant = 192 ∷ 168 ∷ 0 ∷ 0 ∷ 16 ∷ [];
      records = 16;
    }

-- of its state only the clock matters here
abbrev start : Start
start = started_cold (state_of (cold_placing settings) [] [] [] 100)

-- a TCP packet with flags, from 10.0.0.machine to 192.168.0.stranger, and one back
abbrev sent : ℕ → ℕ → ℕ → List ℕ
sent machine stranger flags =
    0x45 ∷ 0 ∷ 0 ∷ 40 ∷ 0 ∷ 0 ∷ 0 ∷ 0 ∷ 64 ∷ 6 ∷ 0 ∷ 0 ∷ 10 ∷ 0 ∷ 0 ∷ machine ∷ 192 ∷ 168 ∷ 0 ∷ stranger ∷
    0 ∷ 80 ∷ 0 ∷ 80 ∷ 0 ∷ 0 ∷ 0 ∷ 0 ∷ 0 ∷ 0 ∷ 0 ∷ 0 ∷ 0x50 ∷ flags ∷ 0 ∷ 0 ∷ 0 ∷ 0 ∷ 0 ∷ 0 ∷ []

abbrev back : ℕ → ℕ → ℕ → List ℕ
back machine stranger flags =
    0x45 ∷ 0 ∷ 0 ∷ 40 ∷ 0 ∷ 0 ∷ 0 ∷ 0 ∷ 64 ∷ 6 ∷ 0 ∷ 0 ∷ 192 ∷ 168 ∷ 0 ∷ stranger ∷ 10 ∷ 0 ∷ 0 ∷ machine ∷
    0 ∷ 80 ∷ 0 ∷ 80 ∷ 0 ∷ 0 ∷ 0 ∷ 0 ∷ 0 ∷ 0 ∷ 0 ∷ 0 ∷ 0x50 ∷ flags ∷ 0 ∷ 0 ∷ 0 ∷ 0 ∷ 0 ∷ 0 ∷ []

-- a packet that was judged; count and replaced address matter to none but R
abbrev judged : ℕ → List ℕ → Verdict → Event
judged time bytes verdict = judged_at time bytes (Ok (Judged verdict (pos 0) None))

abbrev replacing : ℕ → Event
replacing address = judged_at 100 (sent 2 1 2) (Ok (Judged FreshContact (pos 1) (Some address)))

-- the question why of a packet from 10.0.0.1 to 192.168.0.1, and the verdict that was explained
abbrev asked : ℕ → Verdict → Event
asked time verdict = explained_at time (sent 1 1 2) (Ok (explanation.Forwarded verdict))

-- of 10.0.0.1
abbrev F : List Event → ℕ
F h = fresh_contacts site start 0x0A000001 h

abbrev H : List Event → ℕ
H h = credits site 0x0A000001 h

abbrev R : List Event → ℕ
R h = replacements 0x0A000001 h

abbrev D : List Event → ℕ
D h = decays site start h

pub record Example : Type 0 where
  pub computed : ℕ
  pub said : ℕ

abbrev example : ℕ → ℕ → Example
example computed said = record { computed = computed; said = said }

-- histories stand newest first; flags: 2 is opening, 16 plain, 4 closing
unfoldable pub examples : List Example
examples =
    -- a forwarded cell packet on a slot that nothing was forwarded on is fresh, and its own again is not
    example (F (judged 100 (sent 1 1 2) FreshContact ∷ [])) 1 ∷
    example (F (judged 100 (sent 1 1 16) Uncounted ∷ judged 100 (sent 1 1 2) FreshContact ∷ [])) 1 ∷
    -- ten boundaries later it is live still, eleven later it is not
    example (F (judged 719 (sent 1 1 2) Uncounted ∷ judged 119 (sent 1 1 2) FreshContact ∷ [])) 1 ∷
    example (F (judged 720 (sent 1 1 2) FreshContact ∷ judged 119 (sent 1 1 2) FreshContact ∷ [])) 2 ∷
    -- a packet between keeps it live
    example (F (judged 1300 (sent 1 1 2) Uncounted ∷ judged 700 (back 1 1 16) Uncounted ∷ judged 119 (sent 1 1 2) FreshContact ∷ [])) 1 ∷
    -- the plant's own packet is never fresh, and makes a slot live unless it is closing
    example (F (judged 100 (back 1 1 2) Uncounted ∷ [])) 0 ∷
    example (F (judged 100 (sent 1 1 16) CreditOfOne ∷ judged 100 (back 1 1 2) Uncounted ∷ [])) 0 ∷
    example (F (judged 100 (sent 1 1 2) FreshContact ∷ judged 100 (back 1 1 4) Uncounted ∷ [])) 1 ∷
    -- a dropped packet is neither fresh nor makes a slot live, and a refused one is nothing
    example (F (judged 100 (sent 1 1 2) Blocked ∷ [])) 0 ∷
    example (F (judged 100 (sent 1 1 2) FreshContact ∷ judged 100 (sent 1 1 2) Blocked ∷ [])) 1 ∷
    example (F (judged 100 (sent 1 1 2) FreshContact ∷ judged_at 100 (sent 1 1 2) (Err refusal.Time) ∷ [])) 1 ∷
    -- the question why is no contact and makes no slot live
    example (F (judged 100 (sent 1 1 2) FreshContact ∷ asked 100 FreshContact ∷ [])) 1 ∷
    -- other slots and other machines do not matter, but connections that share a slot share its life
    example (F (judged 100 (sent 1 1 2) FreshContact ∷ judged 100 (sent 1 2 2) FreshContact ∷ judged 100 (sent 2 3 2) FreshContact ∷ [])) 2 ∷
    example (F (judged 100 (sent 1 17 2) Uncounted ∷ judged 100 (sent 2 1 2) FreshContact ∷ [])) 0 ∷
    -- H: "1 per verdict 2 and 2 per verdict 3 for the address"
    example (H (judged 100 (sent 1 1 16) CreditOfOne ∷ [])) 1 ∷
    example (H (judged 100 (back 1 1 18) CreditOfTwo ∷ judged 100 (sent 1 1 2) FreshContact ∷ judged 100 (sent 1 2 16) Uncounted ∷ [])) 2 ∷
    example (H (judged 100 (back 2 1 18) CreditOfTwo ∷ asked 100 CreditOfTwo ∷ [])) 0 ∷
    -- R: "the answers that name it as replaced"
    example (R (replacing 0x0A000001 ∷ replacing 0x0A000003 ∷ [])) 1 ∷
    -- D: "the multiples of Dmiss passed since the cold start", at 120 and 180; a refused call and the question why pass no
    -- time, a packet that is not ours does
    example (D (passed_at 180 (Ok tt) ∷ [])) 2 ∷
    example
    (D (passed_at 300 (Err refusal.Time) ∷ judged_at 240 (sent 1 1 2) (Err refusal.Short) ∷ judged 180 (sent 1 1 2) FreshContact ∷ []))
    2 ∷
    example (D (asked 240 FreshContact ∷ judged_at 180 (sent 1 1 2) (Ok NotOurs) ∷ [])) 2 ∷
    example (D (judged_at 119 (sent 1 1 2) (Ok NotOurs) ∷ [])) 0 ∷ []
