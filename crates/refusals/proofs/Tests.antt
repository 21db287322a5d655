-- The first test that holds gives the refusal.
-- Assumes nothing.
use mathlib.Core.Bool.{Bool, true, false, ◌||◌, cond}
use mathlib.Core.List.{List, [], ◌∷◌, ◌++◌}
use mathlib.Core.Path.{◌≡◌, refl, sym, ap, ◌∙◌}
use Prim.Native.Nat.{ℕ, ◌≤◌}
use lib.Dec.{ltb}
use borrow.Author.Tests.{ltb-false}
use Rattle.std.specs.Prelude.{Option, Some, None}
use Rattle.std.proofs.lemmas.Option.{none-some, same_Some}
use Rattle.laws.proofs.Tests.{cond_at}
use Rattle.refused.specs.declared.Refusal.{Refusal}
use Rattle.refused.specs.declared.Refusal.TheVariants.{Settings, Sizes, Lists, Time}
use Rattle.settings.specs.declared.Limits.{Limits}
use Rattle.settings.specs.Settings.{bad_limits}
use Rattle.sides.specs.Lists.{bad_list}
use Rattle.tables.specs.Sizes.{bad_sizes}
use Rattle.refusals.specs.Refusals.{first_refusal, start_refusal, time_refusal, early_refusal}

-- ---- the first test that holds, whatever stands for a refusal
-- none of these conditions holds
abbrev pub NoneOf : {A : Type 0} → List (A × Bool) → Type 0
NoneOf [] = Unit {0}
NoneOf (test ∷ tests) = (test.1 ≡ false) × NoneOf tests

-- the tests are those before it, of which none holds, then it, which does, and others
pub record First {A : Type 0} (refusal : A) (tests : List (A × Bool)) : Type 0 where
  pub before : List (A × Bool)
  pub after : List (A × Bool)
  pub split : tests ≡ before ++ ((refusal, true) ∷ after)
  pub none_before : NoneOf before

module _ {A : Type 0} where
  pub first_given : (tests : List (A × Bool)) (refusal : A) → first_refusal tests ≡ Some refusal → First refusal tests
  first_given [] refusal e = absurd (none-some _ e)
  first_given (test ∷ tests) refusal e = go test.1 refl (first_given tests refusal)
    where
      go : (t : Bool) → test.1 ≡ t → (first_refusal tests ≡ Some refusal → First refusal tests) → First refusal (test ∷ tests)
      go true q rest =
          let is : test.0 ≡ refusal = same_Some _ _ (sym (cond_at _ _ q) ∙ e) in
          record { before = []; after = tests; split = λ i. (is i, q i) ∷ tests; none_before = tt }
      go false q rest =
          let r = rest (sym (cond_at _ _ q) ∙ e) in
          record {
            before = test ∷ r.before;
            after = r.after;
            split = ap (λ (l : List (A × Bool)). test ∷ l) r.split;
            none_before = (q, r.none_before);
          }

  pub first_is : (before after : List (A × Bool)) (refusal : A) → NoneOf before → first_refusal (before ++ ((refusal, true) ∷ after)) ≡ Some refusal
  first_is [] after refusal none = refl
  first_is (test ∷ before) after refusal none = cond_at _ _ none.0 ∙ first_is before after refusal none.1

-- ---- where there is no refusal, no condition holds
passed_by : (refusal : Refusal) (t : Bool) {rest : Option Refusal} → cond t (Some refusal) rest ≡ None → (t ≡ false) × (rest ≡ None)
passed_by refusal true e = absurd (none-some _ (sym e))
passed_by refusal false e = (refl, e)

module _ (limits : Limits) (records tags counts : ℕ) where
  -- limits and sizes, of a start
  pub good_start : start_refusal limits records tags counts ≡ None → (bad_limits limits ≡ false) × (bad_sizes records tags counts ≡ false)
  unfolding start_refusal
  good_start e =
      let one = passed_by Settings (bad_limits limits) e in
      (one.0, (passed_by Sizes (bad_sizes records tags counts) one.1).0)

  -- the time, of a call with a time alone
  pub time_in_order : (clock time : ℕ) → time_refusal limits records tags counts clock time ≡ None → clock ≤ time
  unfolding time_refusal
  time_in_order clock time e =
      let one = passed_by Settings (bad_limits limits) e in
      let two = passed_by Sizes (bad_sizes records tags counts) one.1 in
      ltb-false time clock (passed_by Time (ltb time clock) two.1).0

  module _ (cell plant : List ℕ) (clock time : ℕ) (e : early_refusal limits records tags counts cell plant clock time ≡ None) where
    -- the sizes, of a packet, are what its judge goes on with
    pub good_sizes : bad_sizes records tags counts ≡ false
    unfolding early_refusal
    good_sizes =
        let one = passed_by Settings (bad_limits limits) e in
        (passed_by Sizes (bad_sizes records tags counts) one.1).0

    -- and the time
    pub packet_in_order : clock ≤ time
    unfolding early_refusal
    packet_in_order =
        let one = passed_by Settings (bad_limits limits) e in
        let two = passed_by Sizes (bad_sizes records tags counts) one.1 in
        let three = passed_by Lists (bad_list cell || bad_list plant) two.1 in
        ltb-false time clock (passed_by Time (ltb time clock) three.1).0
