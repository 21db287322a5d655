-- What the gateway remembers of connections is what happened.
-- Assumes nothing.
use mathlib.Core.Bool.{true, not}
use mathlib.Core.List.{List, ◌∷◌, ◌++◌}
use mathlib.Core.Path.{◌≡◌, refl, sym, ap, ◌∙◌}
use Prim.Native.Nat.{ℕ, ◌<◌}
use lib.ListN.{get_or}
use borrow.Author.Tests.{eqb-true, not-true}
use Rattle.std.specs.Prelude.{Option, None, Some, Result}
use Rattle.refused.specs.declared.Refusal.{Refusal}
use Rattle.laws.proofs.Tests.{true_is_not_false}
use Rattle.rulings.specs.declared.answers.Answer.{Answer}
use Rattle.rulings.specs.Answers.{verdict_told}
use Rattle.history.specs.Runs.{Call, Event, judged_at}
use Rattle.history.specs.Fresh.{ours_of, tells, is_fresh}
use Rattle.history.proofs.Live.{live_is, fresh_is}
use Rattle.books.proofs.Slots.{since}
use Rattle.books.proofs.Invariant.{SlotWith}
use Rattle.books.proofs.Runs.{run, fours, four_is_fresh, answered}
use Rattle.promises.specs.Demand3.{Gateway, StartsCold, OfBytes, site, first, happened, F}
use Rattle.promises.specs.Memory.{state_after_all, forwarded_at, Memory}
use Rattle.promises.proofs.Cold.{setup, good_first, all_fit}

-- a number that is told is that number
told_is : (number : ℕ) (told : Option ℕ) → tells number told ≡ true → told ≡ Some number
told_is number None e = true_is_not_false e refl
told_is number (Some n) e = ap Some (eqb-true n number e)

module _ (g : Gateway) (cold : StartsCold g) (calls : List Call) (bytes : OfBytes calls) where
  -- by addresses: as many are answered 4 as are fresh
  pub answered_as_fresh : (address : ℕ) → F g address (happened g calls) ≡ fours (site g) address (happened g calls)
  unfolding setup
  answered_as_fresh address = answered (setup g cold) (first g) (good_first g cold) calls (all_fit g cold calls bytes) address

  four : (after before : List Event) (time : ℕ) (packet : List ℕ) (answered : Result Answer Refusal)
      → happened g calls ≡ after ++ (judged_at time packet answered ∷ before)
      → is_fresh (site g) (first g) time (ours_of (site g) packet) (verdict_told answered) before ≡ tells 4 (verdict_told answered)
  unfolding setup
  four = four_is_fresh (setup g cold) (first g) (good_first g cold) calls (all_fit g cold calls bytes)

  kept : (slot : ℕ) → slot < (site g).records → SlotWith (setup g cold) (first g) (state_after_all g calls) slot (forwarded_at g calls slot)
  unfolding setup
  kept slot l = (run (setup g cold) (first g) (good_first g cold) calls (all_fit g cold calls bytes)).slots slot l

  pub memory : Memory g calls
  unfolding setup
  memory =
      record {
        marked_exactly_if_live = λ slot l. (
          λ e. (live_is g.settings.limits.dconn _ _).0 (sym (kept slot l).mark ∙ ap not e),
          λ w. not-true _ ((kept slot l).mark ∙ (live_is g.settings.limits.dconn _ _).1 w),
        );
        age_is = λ slot l c last earlier e.
            (kept slot l).old c
            ∙ ap (since g.settings.limits.dconn (first g).state.clock (get_or (first g).state.tables.records slot 0) ((first g).held slot)
            (state_after_all g calls).clock) e;
        four_exactly_if_fresh = λ after before time packet answered e. (
          λ q. (fresh_is (site g) (first g).state time (ours_of (site g) packet) (verdict_told answered) before).0
              (four after before time packet answered e ∙ ap (tells 4) q),
          λ w. told_is 4 (verdict_told answered)
              (sym (four after before time packet answered e) ∙ (fresh_is (site g) (first g).state time (ours_of (site g) packet) (verdict_told answered) before).1 w),
        );
      }
