-- The customer's demand 3: "From its one cold start, with settings, side lists and sizes unchanged and tables written by its calls alone,
-- after calls of every other sort: for each cell address the fresh contacts forwarded are never more than T + D + H + T × R, and no packet
-- of its is dropped as blocked until at least T of its fresh contacts were forwarded. Fresh is judged from the packet history by document
-- 01, not from stored marks."
-- Assumes nothing.
use Rattle.std.specs.Prelude.{List, [], ◌∷◌, ◌++◌, ◌≡◌, ℕ, ◌+◌, ◌*◌, ◌^◌, ◌≤◌, ◌<◌, length, Some, None, Result}
use Rattle.refused.specs.declared.Refusal.{Refusal}
use Rattle.settings.specs.declared.Settings.{Settings}
use Rattle.tables.specs.Tables.{Tables}
use Rattle.rulings.specs.declared.answers.Answer.{Answer}
use Rattle.rulings.specs.Answers.{verdict_told}
use Rattle.rulings.specs.Rules.{rules_of}
use Rattle.gateway.specs.Calls.{unstarted, start_refusal_at, cold_placing, started}
use Rattle.history.specs.Runs.{Site, Start, started_cold, Call, bytes_to_judge, Event, judged_at, history}
use Rattle.history.specs.Fresh.{ours_of, cell_address, fresh_contacts, decays, credits, replacements}

-- ---- a gateway and its one cold start
-- its settings and side lists, the tables and the clock that it is lent, and the time at which it starts cold
pub record Gateway : Type 0 where
  pub settings : Settings
  pub cell : List ℕ
  pub plant : List ℕ
  pub tables : Tables
  pub clock : ℕ
  pub began : ℕ

-- each number of a list is below a limit
abbrev pub EachBelow : ℕ → List ℕ → Type 0
EachBelow limit [] = Unit {0}
EachBelow limit (x ∷ xs) = (x < limit) × EachBelow limit xs

-- the cold start is not refused. That keys are 32-bit words, and packets made of bytes, is what the types of the code's arguments say.
pub record StartsCold (g : Gateway) : Type 0 where
  pub not_refused : start_refusal_at g.settings.limits (unstarted g.tables g.clock) ≡ None
  pub keys_are_words : EachBelow (2 ^ 32) g.settings.keys

abbrev pub OfBytes : List Call → Type 0
OfBytes [] = Unit {0}
OfBytes (call ∷ calls) = EachBelow 256 (bytes_to_judge call) × OfBytes calls

-- ---- its run
module _ (g : Gateway) where
  -- "with settings, side lists and sizes unchanged"
  abbrev pub site : Site
  site =
      record {
        rules = rules_of g.settings.limits;
        limits = g.settings.limits;
        placing = cold_placing g.settings;
        cell = g.cell;
        plant = g.plant;
        records = length g.tables.records;
      }

  -- "From its one cold start": in the state that it leaves, with nothing held
  abbrev pub first : Start
  first = started_cold (started g.settings g.began (unstarted g.tables g.clock)).state

  -- what happened, call by call, from there on
  abbrev pub happened : List Call → List Event
  happened calls = history site first calls

  -- of a history: an address's fresh contacts that were forwarded, D, and the address's H and R
  abbrev pub F : ℕ → List Event → ℕ
  F address h = fresh_contacts site first address h

  abbrev pub D : List Event → ℕ
  D h = decays site first h

  abbrev pub H : ℕ → List Event → ℕ
  H address h = credits site address h

  abbrev pub R : ℕ → List Event → ℕ
  R address h = replacements address h

  -- T
  abbrev pub threshold : ℕ
  threshold = g.settings.limits.threshold

  -- "T + D + H + T × R", and "at least T"
  abbrev pub most : ℕ → List Event → ℕ
  most address h = threshold + D h + H address h + threshold * R address h

  abbrev pub least : ℕ
  least = threshold

  -- ---- the demand
  pub record Demand3 (calls : List Call) : Type 0 where
    -- "for each cell address the fresh contacts forwarded are never more than T + D + H + T × R"
    pub bounded : (address : ℕ) → address < 2 ^ 32 → F address (happened calls) ≤ most address (happened calls)
    -- "no packet of its is dropped as blocked until at least T of its fresh contacts were forwarded": wherever 6 was answered, by what
    -- came before
    pub not_before : (after before : List Event) (time : ℕ) (bytes : List ℕ) (answered : Result Answer Refusal)
        → happened calls ≡ after ++ (judged_at time bytes answered ∷ before) → verdict_told answered ≡ Some 6
        → least ≤ F (cell_address (ours_of site bytes)) before
