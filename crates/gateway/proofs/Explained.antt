-- Why a packet is dropped: the steps of the call come to what the definition says.
-- Assumes nothing.
use mathlib.Core.Bool.{Bool}
use mathlib.Core.List.{List, map}
use mathlib.Core.Path.{◌≡◌, refl, sym, ap, ◌∙◌}
use Prim.Native.Nat.{ℕ, ◌*◌}
use lib.IntN.{ℤ}
use lib.ListN.{length, get_or, length-map, get_or-map}
use Rattle.settings.specs.declared.Limits.{Limits}
use Rattle.packet.specs.declared.Header.{Header}
use Rattle.places.specs.declared.Placing.{Placing}
use Rattle.records.specs.Records.{aged_by}
use Rattle.records.proofs.Ages.{zero_same}
use Rattle.counts.specs.Counts.{decayed_by}
use Rattle.entries.specs.Entries.{count_of}
use Rattle.entries.proofs.Decay.{count_decays}
use Rattle.tables.specs.Clock.{multiples_passed, time_passed}
use Rattle.tables.specs.Tables.{Tables, tables_of}
use Rattle.reasons.specs.declared.Explanation.{Explanation}
use Rattle.rulings.specs.Rules.{slot_rule, rules_of}
use Rattle.gateway.specs.declared.Met.{Met}
use Rattle.gateway.specs.declared.Spot.{Spot}
use Rattle.gateway.specs.Packets.{spot_of}
use Rattle.gateway.specs.Calls.{tables_at}
use Rattle.gateway.specs.Why.{met_in, why_met, why_ours}

-- ---- one record and one line, aged as the clock would do it
module _ (limits : Limits) (time : ℕ) (records tags : List ℕ) (counts : List ℤ) (clock : ℕ) where
  -- the tables as they would stand
  abbrev then : Tables
  then = tables_at 1 limits clock time (tables_of records tags counts)

  -- a record of a table that is aged is that record aged; where there is none it is 0, which stays
  aged_at : (minutes slot : ℕ) → get_or (map (aged_by limits.dconn minutes) records) slot 0 ≡ aged_by limits.dconn minutes (get_or records slot 0)
  aged_at minutes slot =
      ap (get_or (map (aged_by limits.dconn minutes) records) slot) (sym (zero_same limits.dconn minutes 0 refl))
      ∙ get_or-map (aged_by limits.dconn minutes) records slot 0

  pub met_as : (spot : Spot) {minutes multiples byte : ℕ} {count left : ℤ}
      → minutes ≡ multiples_passed 60 clock time → multiples ≡ multiples_passed limits.dmiss clock time
      → byte ≡ aged_by limits.dconn minutes (get_or records spot.slot 0)
      → count ≡ count_of spot.place.line spot.place.tag tags counts → left ≡ decayed_by (multiples * 1) count
      → record { byte = byte; count = left } ≡ met_in spot then
  unfolding time_passed
  met_as spot p q b c l = λ i. record {
    byte = (b ∙ ap (λ (m : ℕ). aged_by limits.dconn m (get_or records spot.slot 0)) p ∙ sym (aged_at _ spot.slot)) i;
    count =
        (l
        ∙ (λ j. decayed_by (q j * 1) (c j))
        ∙ sym (count_decays (multiples_passed limits.dmiss clock time * 1) spot.place.line spot.place.tag tags counts)) i;
  }

  -- it is looked up where it would be in the tables as they stand
  pub why_ours_lem : (placing : Placing) (cell plant : List ℕ) (h : Header) (from_plant : Bool) {spot : Spot} {met : Met} {left : Explanation}
      → spot ≡ spot_of slot_rule placing h from_plant (length records) (length tags)
      → met ≡ met_in spot then → left ≡ why_met (rules_of limits) cell plant h from_plant met
      → left ≡ why_ours (rules_of limits) placing cell plant h from_plant then
  unfolding why_ours time_passed
  why_ours_lem placing cell plant h from_plant s m l =
      l
      ∙ ap (why_met (rules_of limits) cell plant h from_plant) m
      ∙ ap (λ (x : Spot). why_met (rules_of limits) cell plant h from_plant (met_in x then))
      (s ∙ ap (λ (n : ℕ). spot_of slot_rule placing h from_plant n (length tags)) (sym (length-map records _)))
