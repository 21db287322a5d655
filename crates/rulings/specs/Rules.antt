-- What the rules of a gateway are made of, and its own, by what they depend on. The gateway's step is defined over any rules.
-- Assumes nothing.
use Rattle.std.specs.Prelude.{Bool, cond, ℕ, ℤ, Option, None}
use Rattle.packet.specs.declared.Header.{Header}
use Rattle.packet.specs.Kinds.{port_of}
use Rattle.places.specs.declared.Placing.{Placing}
use Rattle.places.specs.Places.{slot_of}
use Rattle.settings.specs.declared.Limits.{Limits}

-- the two ends of a packet of ours, by whether it comes from the plant
abbrev pub cell_of : Header → Bool → ℕ
cell_of h from_plant = cond from_plant h.destination h.source

abbrev pub plant_of : Header → Bool → ℕ
plant_of h from_plant = cond from_plant h.source h.destination

-- a slot rule: the slot of a packet of ours, by what places packets in the state's tables, among so many records
abbrev pub SlotRule : Type 0
SlotRule = Placing → Header → Bool → ℕ → ℕ

pub record Rules : Type 0 where
  -- T and Cmin, as counts
  pub threshold : ℕ
  pub floor : ℤ
  -- the size of a point: a credit of one takes it from a count, and so does each multiple of Dmiss passed
  pub point : ℕ
  -- what a fresh contact, this packet from the cell, adds to its cell address's count
  pub weight : Header → ℕ
  -- the count that an attempt, dropped as blocked on a slot with neither mark, writes over this one, if it writes
  pub attempt : Header → ℤ → Option ℤ
  pub slot : SlotRule

-- The gateway's slot rule: by plant address, cell address and port.
abbrev pub slot_rule : SlotRule
slot_rule placing h from_plant records = slot_of placing.keys (plant_of h from_plant) (cell_of h from_plant) (port_of h from_plant) records

-- The rules of a gateway with these limits. By document 01 counts are in points; "count+1 for 4"; "Dropped packets alter neither table".
abbrev pub rules_of : Limits → Rules
rules_of limits =
    record {
      threshold = limits.threshold;
      floor = limits.floor;
      point = 1;
      weight = λ h. 1;
      attempt = λ h count. None;
      slot = slot_rule;
    }
