-- Plain numbers keep all of an answer: there is a way back from them, and the tally takes from them the verdict that it takes from the
-- answer.
-- Assumes nothing.
use mathlib.Core.Bool.{cond}
use mathlib.Core.List.{List}
use mathlib.Core.Path.{◌≡◌, refl, ap}
use Prim.Native.Nat.{ℕ, zero, suc}
use lib.Dec.{eqb}
use lib.IntN.{ℤ}
use Rattle.std.specs.Prelude.{Option, Some, None, Result, Ok, Err}
use Rattle.refused.specs.declared.Refusal.{Refusal}
use Rattle.refused.specs.declared.Refusal.TheVariants.{Settings, Sizes, Lists, Time, Short, Header, Capture, Record, Room}
use Rattle.verdicts.specs.declared.Verdict.{Verdict}
use Rattle.verdicts.specs.declared.Verdict.TheVariants.{Uncounted, CreditOfOne, CreditOfTwo, FreshContact, Hygiene, Blocked}
use Rattle.verdicts.specs.Verdicts.{number_of}
use Rattle.rulings.specs.declared.answers.Answer.{Answer}
use Rattle.rulings.specs.declared.answers.Answer.TheVariants.{NotOurs, Judged}
use Rattle.rulings.specs.Answers.{verdict_told}
use Rattle.rulings.specs.Rules.{Rules}
use Rattle.settings.specs.declared.Limits.{Limits}
use Rattle.gateway.specs.Calls.{State, judged}
use Rattle.frames.specs.Frames.{frame_judged}
use Rattle.tally.specs.declared.Tally.{Tally}
use Rattle.tally.specs.Tally.{tallied, verdict_numbered}
use Rattle.tally.proofs.Totals.{is_numbered}
use Rattle.embed.specs.declared.plain.PlainAnswer.{PlainAnswer}
use Rattle.embed.specs.Plain.{plain_judged, plain_told, plain_answer, by_refusal, verdict_in}

-- ---- the way back
verdict_back : ℕ → Verdict
verdict_back n =
    cond (eqb n 2) CreditOfOne
    (cond (eqb n 3) CreditOfTwo (cond (eqb n 4) FreshContact (cond (eqb n 5) Hygiene (cond (eqb n 6) Blocked Uncounted))))

replaced_back : ℕ → ℕ → Option ℕ
replaced_back zero address = None
replaced_back (suc n) address = Some address

judged_back : ℕ → ℤ → Option ℕ → Answer
judged_back zero count replaced = NotOurs
judged_back (suc n) count replaced = Judged (verdict_back (suc n)) count replaced

refusal_back : ℕ → Refusal
refusal_back n =
    cond (eqb n 1) Settings
    (cond (eqb n 2) Sizes
    (cond (eqb n 3) Lists
    (cond (eqb n 4) Time (cond (eqb n 5) Short (cond (eqb n 6) Header (cond (eqb n 7) Capture (cond (eqb n 8) Record Room)))))))

refused_back : {E : Type 0} → (ℕ → E) → ℕ → Answer → Result Answer E
refused_back refusal zero other = Ok other
refused_back refusal (suc n) other = Err (refusal (suc n))

back_by : {E : Type 0} → (ℕ → E) → PlainAnswer → Result Answer E
back_by refusal p = refused_back refusal p.refusal (judged_back p.verdict p.count (replaced_back p.replaced p.address))

-- to an answer whose refusal is one of the nine, and to one that tells it by its number
pub answer_back : PlainAnswer → Result Answer Refusal
answer_back p = back_by refusal_back p

pub number_back : PlainAnswer → Result Answer ℕ
number_back p = back_by (λ n. n) p

judged_back_lem : {E : Type 0} (refusal : ℕ → E) (v : Verdict) (c : ℤ) (replaced : Option ℕ)
    → back_by refusal (plain_judged (number_of v) c replaced) ≡ Ok (Judged v c replaced)
unfolding back_by refused_back judged_back verdict_back replaced_back
judged_back_lem refusal Uncounted c None = refl
judged_back_lem refusal Uncounted c (Some a) = refl
judged_back_lem refusal CreditOfOne c None = refl
judged_back_lem refusal CreditOfOne c (Some a) = refl
judged_back_lem refusal CreditOfTwo c None = refl
judged_back_lem refusal CreditOfTwo c (Some a) = refl
judged_back_lem refusal FreshContact c None = refl
judged_back_lem refusal FreshContact c (Some a) = refl
judged_back_lem refusal Hygiene c None = refl
judged_back_lem refusal Hygiene c (Some a) = refl
judged_back_lem refusal Blocked c None = refl
judged_back_lem refusal Blocked c (Some a) = refl

refused_back_lem : (r : Refusal) → answer_back (plain_answer (Err r)) ≡ Err r
unfolding answer_back back_by refused_back refusal_back
refused_back_lem Settings = refl
refused_back_lem Sizes = refl
refused_back_lem Lists = refl
refused_back_lem Time = refl
refused_back_lem Short = refl
refused_back_lem Header = refl
refused_back_lem Capture = refl
refused_back_lem Record = refl
refused_back_lem Room = refl

-- so that two answers with the same numbers are one
pub comes_back : (a : Result Answer Refusal) → answer_back (plain_answer a) ≡ a
unfolding answer_back back_by refused_back judged_back
comes_back (Err r) = refused_back_lem r
comes_back (Ok NotOurs) = refl
comes_back (Ok (Judged v c replaced)) = judged_back_lem refusal_back v c replaced

-- and so it is where a refusal is told by any number that tells it from none
abbrev pub Numbered : Result Answer ℕ → Type 0
Numbered (Err zero) = ⊥
Numbered (Err (suc n)) = Unit {0}
Numbered (Ok answer) = Unit {0}

pub number_comes_back : (a : Result Answer ℕ) → Numbered a → number_back (plain_told a) ≡ a
unfolding number_back back_by refused_back judged_back
number_comes_back (Err zero) numbered = absurd numbered
number_comes_back (Err (suc n)) numbered = refl
number_comes_back (Ok NotOurs) numbered = refl
number_comes_back (Ok (Judged v c replaced)) numbered = judged_back_lem (λ n. n) v c replaced

-- ---- what the tally takes
judged_verdict : (v : Verdict) (c : ℤ) (replaced : Option ℕ) → verdict_in (plain_judged (number_of v) c replaced) ≡ Some (number_of v)
judged_verdict v c None = is_numbered v
judged_verdict v c (Some a) = is_numbered v

refused_verdict : (r : Refusal) → verdict_in (plain_answer (Err r)) ≡ verdict_told (Err r)
refused_verdict Settings = refl
refused_verdict Sizes = refl
refused_verdict Lists = refl
refused_verdict Time = refl
refused_verdict Short = refl
refused_verdict Header = refl
refused_verdict Capture = refl
refused_verdict Record = refl
refused_verdict Room = refl

pub same_verdict : (a : Result Answer Refusal) → verdict_in (plain_answer a) ≡ verdict_told a
unfolding verdict_numbered
same_verdict (Err r) = refused_verdict r
same_verdict (Ok NotOurs) = refl
same_verdict (Ok (Judged v c replaced)) = judged_verdict v c replaced

pub number_same_verdict : (a : Result Answer ℕ) → Numbered a → verdict_in (plain_told a) ≡ verdict_told a
unfolding verdict_numbered
number_same_verdict (Err zero) numbered = absurd numbered
number_same_verdict (Err (suc n)) numbered = refl
number_same_verdict (Ok NotOurs) numbered = refl
number_same_verdict (Ok (Judged v c replaced)) numbered = judged_verdict v c replaced

-- ---- every answer that crosses
module _ (rules : Rules) (limits : Limits) (cell plant : List ℕ) (time : ℕ) (before : State) where
  pub of_packets : (bytes : List ℕ) → answer_back (plain_answer (judged rules limits cell plant time bytes before).answer) ≡ (judged rules limits cell plant time bytes before).answer
  of_packets bytes = comes_back _

  pub of_frames : (frame : List ℕ) → answer_back (plain_answer (frame_judged rules limits cell plant time frame before).answer) ≡ (frame_judged rules limits cell plant time frame before).answer
  of_frames frame = comes_back _

module _ (tally : Tally) (verdict : ℕ) where
  pub refused_adds_none : (refusal : ℕ) → (refusal ≡ 0 → ⊥) → tallied tally (by_refusal refusal verdict) ≡ tally
  unfolding tallied
  refused_adds_none zero ne = absurd (ne refl)
  refused_adds_none (suc n) ne = refl

  pub else_adds_verdict : (refusal : ℕ) → refusal ≡ 0 → tallied tally (by_refusal refusal verdict) ≡ tallied tally (verdict_numbered verdict)
  else_adds_verdict refusal e = ap (λ (n : ℕ). tallied tally (by_refusal n verdict)) e
