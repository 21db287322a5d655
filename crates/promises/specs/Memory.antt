-- What the gateway remembers of connections is what happened: a record is marked exactly if its slot is live, and its age is the minute
-- boundaries since the last packet forwarded there. So no remembered connection outlasts Dconn boundaries. And in every run a packet is
-- answered 4 exactly if it is a fresh contact.
-- Assumes nothing.
use Rattle.std.specs.Prelude.{false, List, ◌∷◌, ◌++◌, ◌↔◌, ◌≡◌, ℕ, ◌<◌, get_or, Some, Result}
use Rattle.refused.specs.declared.Refusal.{Refusal}
use Rattle.records.specs.Records.{is_cold, age_of}
use Rattle.tables.specs.Clock.{multiples_passed}
use Rattle.rulings.specs.declared.answers.Answer.{Answer}
use Rattle.rulings.specs.Answers.{verdict_told}
use Rattle.gateway.specs.Calls.{State}
use Rattle.history.specs.Runs.{Call, Event, judged_at, left_by}
use Rattle.history.specs.Fresh.{ours_of, Forwarded, Live, forwarded_on, Fresh}
use Rattle.promises.specs.Demand3.{Gateway, site, first, happened}

module _ (g : Gateway) where
  -- the state that calls leave, a slot's record in it, and the packets forwarded on the slot
  abbrev pub state_after_all : List Call → State
  state_after_all calls = left_by (site g) (first g) calls

  abbrev pub record_at : List Call → ℕ → ℕ
  record_at calls slot = get_or (state_after_all calls).tables.records slot 0

  abbrev pub forwarded_at : List Call → ℕ → List Forwarded
  forwarded_at calls slot = forwarded_on (site g) slot (happened g calls)

  pub record Memory (calls : List Call) : Type 0 where
    pub marked_exactly_if_live : (slot : ℕ) → slot < (site g).records
        → (is_cold (record_at calls slot) ≡ false) ↔ Live g.settings.limits.dconn (state_after_all calls).clock (forwarded_at calls slot)
    pub age_is : (slot : ℕ) → slot < (site g).records → is_cold (record_at calls slot) ≡ false
        → (last : Forwarded) (earlier : List Forwarded) → forwarded_at calls slot ≡ last ∷ earlier
        → age_of (record_at calls slot) ≡ multiples_passed 60 last.time (state_after_all calls).clock
    -- "4 forwarded, fresh contact": wherever a packet was answered, by what came before
    pub four_exactly_if_fresh : (after before : List Event) (time : ℕ) (bytes : List ℕ) (answered : Result Answer Refusal)
        → happened g calls ≡ after ++ (judged_at time bytes answered ∷ before)
        → (verdict_told answered ≡ Some 4) ↔ Fresh (site g) time (ours_of (site g) bytes) (verdict_told answered) before
