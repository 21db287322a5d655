-- Document 01, "Verdicts": what a packet that is not refused gets of the tables, and what it makes of them.
-- Assumes nothing.
use Rattle.std.specs.Prelude.{Bool, true, false, cond, List, ℕ, ◌/◌, ℤ, length, get_or, set, Option, Some, None}
use Rattle.packet.specs.declared.Header.{Header}
use Rattle.sides.specs.declared.Direction.{Direction}
use Rattle.sides.specs.declared.Direction.TheVariants.{FromCell, FromPlant, NotOurs}
use Rattle.sides.specs.Lists.{direction_between}
use Rattle.places.specs.declared.Place.{Place}
use Rattle.places.specs.declared.Placing.{Placing}
use Rattle.places.specs.Places.{place_of, address_of}
use Rattle.entries.specs.Entries.{count_of, Written, written_of, written}
use Rattle.tables.specs.Tables.{Tables, tables_of}
use Rattle.rulings.specs.declared.Ruling.{Ruling}
use Rattle.rulings.specs.declared.answers.Answer.{Answer}
use Rattle.rulings.specs.declared.answers.Answer.TheVariants as answer
use Rattle.rulings.specs.Rules.{SlotRule, Rules, cell_of}
use Rattle.rulings.specs.Rulings.{ruling_of}
use Rattle.gateway.specs.declared.Spot.{Spot}

-- what a packet leaves: the answer, and the tables
pub record Outcome : Type 0 where
  pub answer : Answer
  pub tables : Tables

abbrev pub outcome_of : Answer → Tables → Outcome
outcome_of answer tables = record { answer = answer; tables = tables }

-- ---- a packet of ours, from the plant or from the cell
-- where it is looked up: its slot, by a slot rule, among so many records, and its cell address's place among the lines of so many tags,
-- "four entries each"
abbrev pub spot_of : SlotRule → Placing → Header → Bool → ℕ → ℕ → Spot
spot_of slot placing h from_plant records tags =
    record {
      slot = slot placing h from_plant records;
      lines = tags / 4;
      place = place_of placing.keys (cell_of h from_plant) (tags / 4);
    }

-- what it meets there: a record, and its cell address's count
abbrev pub record_met : Spot → Tables → ℕ
record_met spot tables = get_or tables.records spot.slot 0

abbrev pub count_met : Spot → Tables → ℤ
count_met spot tables = count_of spot.place.line spot.place.tag tables.tags tables.counts

abbrev pub ruling_at : Rules → Header → Bool → Spot → Tables → Ruling
ruling_at rules h from_plant spot before = ruling_of rules h from_plant (record_met spot before) (count_met spot before)

-- "Only these write an entry": the lists after a ruling, and what that replaced
abbrev pub entered : Place → Ruling → List ℕ → List ℤ → Written
entered place ruling tags counts =
    cond ruling.writes
    (written place.line place.tag ruling.count tags counts)
    (written_of None tags counts)

-- "the replaced address, if any, recovered by the inverse from line and tag": by the keys, the number of lines and the line
abbrev pub replacement_of : List ℕ → ℕ → ℕ → Option ℕ → Option ℕ
replacement_of keys lines line None = None
replacement_of keys lines line (Some tag) = Some (address_of keys (record { line = line; tag = tag }) lines)

-- what the ruling makes of the tables. "The answer holds the verdict, the address's count after it, and the replaced address, if any"
abbrev pub settled : List ℕ → Spot → Ruling → Tables → Outcome
settled keys spot ruling before =
    outcome_of
    (answer.Judged ruling.verdict ruling.count (replacement_of keys spot.lines spot.place.line after.replaced))
    (tables_of (set before.records spot.slot ruling.byte) after.tags after.counts)
  where
    after : Written
    after = entered spot.place ruling before.tags before.counts

unfoldable pub ours : Rules → Placing → Header → Bool → Tables → Outcome
ours rules placing h from_plant before = settled placing.keys spot (ruling_at rules h from_plant spot before) before
  where
    spot : Spot
    spot = spot_of rules.slot placing h from_plant (length before.records) (length before.tags)

-- ---- any packet, by both side lists
abbrev pub direction_in : List ℕ → List ℕ → Header → Direction
direction_in cell plant h = direction_between cell plant h.source h.destination

-- "A packet is ours when one end is cell and the other plant": from either of them.
-- "0 not ours": it touches no table
unfoldable pub by_direction : Rules → Placing → Header → Direction → Tables → Outcome
by_direction rules placing h FromCell before = ours rules placing h false before
by_direction rules placing h FromPlant before = ours rules placing h true before
by_direction rules placing h NotOurs before = outcome_of answer.NotOurs before
