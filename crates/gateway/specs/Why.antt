-- Document 02, K4: why a packet was dropped. The same refusals, and the same verdict by what the packet meets, as for the packet itself; no
-- table is written.
-- Assumes nothing.
use Rattle.std.specs.Prelude.{Bool, true, false, cond, List, ℕ, length, Result}
use Rattle.refused.specs.declared.Refusal.{Refusal}
use Rattle.refused.specs.Refused.{answer_unless}
use Rattle.settings.specs.declared.Limits.{Limits}
use Rattle.packet.specs.declared.Header.{Header}
use Rattle.packet.specs.Header.{header_of}
use Rattle.sides.specs.declared.Direction.{Direction}
use Rattle.sides.specs.declared.Direction.TheVariants.{FromCell, FromPlant, NotOurs}
use Rattle.sides.specs.Lists.{deciding_entry}
use Rattle.places.specs.declared.Placing.{Placing}
use Rattle.records.specs.Records.{marks_of, plant_seen, cell_seen}
use Rattle.tables.specs.Tables.{Tables}
use Rattle.verdicts.specs.declared.Verdict.{Verdict}
use Rattle.verdicts.specs.Verdicts.{is_forwarded}
use Rattle.reasons.specs.declared.Drop.{Drop}
use Rattle.reasons.specs.declared.Explanation.{Explanation}
use Rattle.reasons.specs.declared.Explanation.TheVariants as explanation
use Rattle.reasons.specs.Reasons.{facts_of, reported_on}
use Rattle.rulings.specs.Rules.{Rules}
use Rattle.rulings.specs.Rulings.{verdict_by}
use Rattle.gateway.specs.declared.Met.{Met}
use Rattle.gateway.specs.declared.Spot.{Spot}
use Rattle.gateway.specs.Packets.{spot_of, record_met, count_met, direction_in}
use Rattle.gateway.specs.Calls.{State, onward, packet_refusal}

-- what a packet of ours meets where it is looked up: its record, and its cell address's count
abbrev pub met_in : Spot → Tables → Met
met_in spot tables = record { byte = record_met spot tables; count = count_met spot tables }

-- "Beside them it gives the entries of the side lists that decided, the count and T": that of the cell list on the packet's source and that
-- of the plant list on its destination, for only a packet from the cell is dropped
abbrev pub drop_of : Rules → List ℕ → List ℕ → Header → Verdict → Met → Drop
drop_of rules cell plant h verdict met =
    record {
      verdict = verdict;
      header = h;
      count = met.count;
      marks = marks_of met.byte;
      threshold = rules.threshold;
      reported =
          reported_on rules.threshold
          (facts_of met.count (plant_seen met.byte) (cell_seen met.byte) h.transport.kind);
      cell_entry = deciding_entry cell plant h.source;
      plant_entry = deciding_entry cell plant h.destination;
    }

-- "Verdicts 0 to 4 get the verdict alone."
abbrev pub why_met : Rules → List ℕ → List ℕ → Header → Bool → Met → Explanation
why_met rules cell plant h from_plant met =
    cond (is_forwarded verdict) (explanation.Forwarded verdict) (explanation.Dropped (drop_of rules cell plant h verdict met))
  where
    verdict : Verdict
    verdict = verdict_by rules h from_plant met.byte met.count

unfoldable pub why_ours : Rules → Placing → List ℕ → List ℕ → Header → Bool → Tables → Explanation
why_ours rules placing cell plant h from_plant tables =
    why_met rules cell plant h from_plant
    (met_in (spot_of rules.slot placing h from_plant (length tables.records) (length tables.tags)) tables)

unfoldable pub why_by_direction : Rules → Placing → List ℕ → List ℕ → Header → Direction → Tables → Explanation
why_by_direction rules placing cell plant h FromCell tables = why_ours rules placing cell plant h false tables
why_by_direction rules placing cell plant h FromPlant tables = why_ours rules placing cell plant h true tables
why_by_direction rules placing cell plant h NotOurs tables = explanation.NotOurs

-- "It is refused exactly as the packet would be." "The tool judges by the tables as they would stand at the packet's second and leaves them untouched."
unfoldable pub why_of : Rules → Limits → List ℕ → List ℕ → ℕ → List ℕ → State → Result Explanation Refusal
why_of rules limits cell plant time bytes before =
    answer_unless (packet_refusal limits cell plant time bytes before)
    (why_by_direction rules before.placing cell plant (header_of bytes) (direction_in cell plant (header_of bytes))
    (onward rules.point limits time before).tables)
