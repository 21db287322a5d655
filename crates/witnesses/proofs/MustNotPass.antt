-- A gateway that meets the contracts is none of the four that must not pass: a cold start, the first two packets of specs/Tight's first run
-- and a minute boundary after the first of them tell it from each.
-- Assumes nothing.
use mathlib.Core.List.{List}
use mathlib.Core.Path.{◌≡◌, refl, ap, ◌∙◌}
use Prim.Native.Nat.{ℕ}
use native.Mathlib.Omega.{arith}
use lib.IntN.{pos}
use lib.ListN.{get_or}
use Rattle.std.specs.Prelude.{Option, None, Some, Result}
use Rattle.refused.specs.declared.Refusal.{Refusal}
use Rattle.refused.specs.Refused.{refusal_in}
use Rattle.laws.specs.Times.{times, how_many}
use Rattle.laws.proofs.Signed.{dn}
use Rattle.settings.specs.Settings.{bad_limits}
use Rattle.records.specs.Records.{minute_passed, aged_by}
use Rattle.tables.specs.Sizes.{bad_sizes}
use Rattle.tables.specs.Tables.{Tables}
use Rattle.tables.specs.Clock.{multiples_passed, time_passed}
use Rattle.rulings.specs.declared.answers.Answer.{Answer}
use Rattle.rulings.specs.Answers.{verdict_told}
use Rattle.rulings.specs.Rules.{rules_of}
use Rattle.refusals.specs.Refusals.{time_refusal}
use Rattle.counts.specs.Counts.{decayed_by}
use Rattle.gateway.specs.Calls.{State, After, passed}
use Rattle.books.proofs.Apart.{same_head, same_tail}
use Rattle.witnesses.specs.Tight.{gateway, syn, syn_ack_back}
use Rattle.witnesses.specs.MustNotPass.{AnyGateway, MeetsContracts, MustNotPass}
use Rattle.witnesses.proofs.Tight.{state_before, judged_here, opening_rows, computed, cold, cold_is}

-- a number that tells verdicts apart
abbrev number_in : Option ℕ → ℕ
number_in None = 0
number_in (Some n) = n

abbrev verdict : After (Result Answer Refusal) → ℕ
verdict after = number_in (verdict_told after.answer)

-- the record of the first packet's slot, and the first count
abbrev slot8 : Tables → ℕ
slot8 tables = get_or tables.records 8 0

abbrev below : Tables → ℕ
below tables = dn (get_or tables.counts 0 (pos 0))

-- ---- what the definitions make of them
abbrev judged_at100 : List ℕ → State → After (Result Answer Refusal)
judged_at100 bytes before = judged_here 100 bytes before

abbrev first : After (Result Answer Refusal)
first = judged_at100 (syn 1 6379) cold

abbrev second : After (Result Answer Refusal)
second = judged_at100 (syn_ack_back 1 6379) first.state

contact : (refusal_in first.answer ≡ 0) × (verdict first ≡ 4) × (slot8 first.state.tables ≡ 64)
contact =
    let e = same_head (same_tail computed.opening_made) in (
      ap (λ (a : After (Result Answer Refusal)). refusal_in a.answer) e,
      ap verdict e,
      ap (λ (a : After (Result Answer Refusal)). slot8 a.state.tables) e,
    )

answer : verdict second ≡ 3
answer =
    ap (λ (a : After (Result Answer Refusal)). verdict (judged_at100 (syn_ack_back 1 6379) a.state))
    (same_head (same_tail computed.opening_made))
    ∙ ap verdict (same_head computed.opening_made)

-- a record with the cell's mark, after a minute boundary
abbrev marked : State
marked = state_before opening_rows

older : slot8 (passed (rules_of gateway.settings.limits) gateway.settings.limits 120 marked).state.tables ≡ 193
unfolding times how_many bad_limits bad_sizes minute_passed aged_by multiples_passed time_passed decayed_by time_refusal passed
older = refl

-- ---- so none of the four
module _ (g : AnyGateway) (m : MeetsContracts g) where
  abbrev judged_by : List ℕ → State → After (Result Answer Refusal)
  judged_by bytes before = g.judge gateway.settings.limits gateway.cell gateway.plant 100 bytes before

  by_contract : (bytes : List ℕ) (before : State) → judged_by bytes before ≡ judged_at100 bytes before
  by_contract bytes before = m.of_judge gateway.settings.limits gateway.cell gateway.plant 100 bytes before

  started_cold : (g.start gateway.settings 100 gateway.tables gateway.clock).state ≡ cold
  started_cold =
      ap (λ (a : After (Result (Unit {0}) Refusal)). a.state) (m.of_start gateway.settings 100 gateway.tables gateway.clock) ∙ cold_is

  pub must_not_pass : MustNotPass g
  must_not_pass =
      record {
        not_always_refused = λ always. absurd (omega (
          arith,
          always gateway.settings.limits gateway.cell gateway.plant 100 (syn 1 6379) cold,
          ap (λ (a : After (Result Answer Refusal)). refusal_in a.answer) (by_contract (syn 1 6379) cold),
          contact.0,
        ));
        not_one_to_all = λ one. absurd (omega (
          arith,
          ap number_in (one gateway.settings.limits gateway.cell gateway.plant 100 (syn 1 6379) cold),
          ap verdict (by_contract (syn 1 6379) cold),
          contact.1,
        ));
        tables_by_packets = λ untouched. absurd (omega (
          arith,
          ap slot8 (untouched gateway.settings.limits gateway.cell gateway.plant 100 (syn 1 6379) cold),
          ap (λ (a : After (Result Answer Refusal)). slot8 a.state.tables) (by_contract (syn 1 6379) cold),
          contact.2,
        ));
        tables_by_time = λ untouched. absurd (omega (
          arith,
          ap slot8 (untouched gateway.settings.limits 120 marked),
          ap (λ (a : After (Result (Unit {0}) Refusal)). slot8 a.state.tables) (m.of_pass gateway.settings.limits 120 marked),
          older,
        ));
        tables_by_starts = λ untouched. absurd (omega (
          arith,
          ap below (untouched gateway.settings 100 gateway.tables gateway.clock),
          ap (λ (s : State). below s.tables) started_cold,
        ));
        not_repeated = λ repeats. absurd (omega (
          arith,
          ap (λ (a : Result Answer Refusal). number_in (verdict_told a))
              (repeats gateway.settings gateway.cell gateway.plant gateway.tables gateway.clock 100 100 100 (syn 1 6379) (syn_ack_back 1 6379)),
          ap (λ (s : State). verdict (judged_by (syn 1 6379) s)) started_cold,
          ap verdict (by_contract (syn 1 6379) cold),
          contact.1,
          ap (λ (s : State). verdict (judged_by (syn_ack_back 1 6379) (judged_by (syn 1 6379) s).state)) started_cold,
          ap (λ (a : After (Result Answer Refusal)). verdict (judged_by (syn_ack_back 1 6379) a.state)) (by_contract (syn 1 6379) cold),
          ap verdict (by_contract (syn_ack_back 1 6379) first.state),
          answer,
        ));
      }
