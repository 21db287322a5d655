-- Document 02, K4: which of four facts, changed alone, would have had a packet from the cell forwarded.
-- Assumes nothing.
use Rattle.std.specs.Prelude.{Bool, true, false, List, [], ◌∷◌, ℕ, ℤ, pos, ◌-ℤ◌}
use Rattle.laws.specs.Search.{some_below}
use Rattle.laws.specs.Choice.{at_some}
use Rattle.packet.specs.declared.kinds.Kind.{Kind}
use Rattle.packet.specs.declared.kinds.Kind.TheVariants.{Udp, Opening, SynAck, Closing, Plain}
use Rattle.counts.specs.Counts.{is_blocked}
use Rattle.verdicts.specs.declared.Verdict.{Verdict}
use Rattle.verdicts.specs.Verdicts.{is_forwarded, verdict_of}
use Rattle.reasons.specs.declared.Reported.{Reported}

-- "four facts: the address's count, the plant-to-cell mark, the cell-to-plant mark, the kind of packet"
pub record Facts : Type 0 where
  pub count : ℤ
  pub plant : Bool
  pub cell : Bool
  pub kind : Kind

abbrev pub facts_of : ℤ → Bool → Bool → Kind → Facts
facts_of count plant cell kind = record { count = count; plant = plant; cell = cell; kind = kind }

-- the verdict's own definition, on a packet from the cell, by these facts
abbrev pub verdict_on : ℕ → Facts → Verdict
verdict_on threshold facts =
    verdict_of false (is_blocked threshold facts.count) (record { plant = facts.plant; cell = facts.cell }) facts.kind

-- the packet is forwarded
abbrev pub let_through : ℕ → Facts → Bool
let_through threshold facts = is_forwarded (verdict_on threshold facts)

-- "changing it alone": each fact at another value, and the other three as they are
abbrev pub with_count : Facts → ℤ → Facts
with_count facts count = facts_of count facts.plant facts.cell facts.kind

abbrev pub with_plant : Facts → Bool → Facts
with_plant facts mark = facts_of facts.count mark facts.cell facts.kind

abbrev pub with_cell : Facts → Bool → Facts
with_cell facts mark = facts_of facts.count facts.plant mark facts.kind

abbrev pub with_kind : Facts → Kind → Facts
with_kind facts kind = facts_of facts.count facts.plant facts.cell kind

-- "to some value it may take": a count any of the 65,535 that an entry may hold, -32,767 to 32,767, among them 0, which an absent address
-- has; -32,768 is none, it says that the entry is empty
abbrev pub held_counts : ℕ
held_counts = 65535

abbrev pub held_count : ℕ → ℤ
held_count number = pos number -ℤ pos 32767

-- a mark: set or not
abbrev pub mark_values : List Bool
mark_values = true ∷ (false ∷ [])

-- "The kind's values are UDP, opening, SYN+ACK, closing and plain."
abbrev pub kind_values : List Kind
kind_values = Udp ∷ (Opening ∷ (SynAck ∷ (Closing ∷ (Plain ∷ []))))

-- "A fact is reported exactly if changing it alone, to some value it may take, would have had the packet forwarded." It is asked of a packet
-- that was dropped, so the value that the fact has is never such a value.
unfoldable pub reported_on : ℕ → Facts → Reported
reported_on threshold facts =
    record {
      count = some_below held_counts (λ number. let_through threshold (with_count facts (held_count number)));
      plant_mark = at_some (λ mark. let_through threshold (with_plant facts mark)) mark_values;
      cell_mark = at_some (λ mark. let_through threshold (with_cell facts mark)) mark_values;
      kind = at_some (λ kind. let_through threshold (with_kind facts kind)) kind_values;
    }
