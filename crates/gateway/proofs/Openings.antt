-- Document 02, K5: a blocked machine opens nothing. Whatever stands beside SYN in the flags, whatever the marks of the slot, and under any
-- rules of a run.
-- Assumes nothing.
use mathlib.Core.Bool.{Bool, true, false}
use mathlib.Core.List.{List}
use mathlib.Core.Path.{◌≡◌, refl}
use Prim.Native.Nat.{ℕ}
use lib.ListN.{length}
use Rattle.std.specs.Prelude.{Some, None}
use Rattle.settings.specs.declared.Limits.{Limits}
use Rattle.packet.specs.declared.kinds.Kind.TheVariants.{Opening}
use Rattle.packet.specs.Header.{header_of}
use Rattle.packet.proofs.Flags.{Opens, opens}
use Rattle.sides.specs.declared.Direction.TheVariants.{FromCell}
use Rattle.records.specs.declared.Marks.{Marks}
use Rattle.counts.specs.Counts.{is_blocked}
use Rattle.tables.specs.Tables.{Tables}
use Rattle.verdicts.specs.declared.Verdict.TheVariants.{Blocked}
use Rattle.verdicts.specs.Verdicts.{from_blocked_cell, verdict_of}
use Rattle.rulings.specs.Answers.{verdict_told}
use Rattle.rulings.specs.Rules.{Rules}
use Rattle.rulings.specs.Rulings.{ruling_of}
use Rattle.gateway.specs.declared.Spot.{Spot}
use Rattle.gateway.specs.Packets.{spot_of, count_met, ours, direction_in, by_direction}
use Rattle.gateway.specs.Calls.{State, onward, packet_refusal, judged}

-- "Other unset: 6. Other set, UDP or opening: 6."
either_mark : (own other : Bool) → from_blocked_cell own other Opening ≡ Blocked
unfolding from_blocked_cell
either_mark own true = refl
either_mark own false = refl

opening_blocked : (marks : Marks) → verdict_of false true marks Opening ≡ Blocked
unfolding verdict_of
opening_blocked marks = either_mark marks.cell marks.plant

module _ (rules : Rules) (limits : Limits) (time : ℕ) (bytes : List ℕ) (before : State) where
  -- the tables as they stand at the packet's second, and where a packet from the cell is looked up in them
  abbrev pub tables_then : Tables
  tables_then = (onward rules.point limits time before).tables

  abbrev pub spot_then : Spot
  spot_then = spot_of rules.slot before.placing (header_of bytes) false (length tables_then.records) (length tables_then.tags)

  -- the machine that sends the packet is blocked by then
  abbrev pub BlockedThen : Type 0
  BlockedThen = is_blocked rules.threshold (count_met spot_then tables_then) ≡ true

  pub opens_nothing : (cell plant : List ℕ) → packet_refusal limits cell plant time bytes before ≡ None
      → direction_in cell plant (header_of bytes) ≡ FromCell → Opens bytes → BlockedThen
      → verdict_told (judged rules limits cell plant time bytes before).answer ≡ Some 6
  unfolding judged by_direction ours ruling_of
  opens_nothing cell plant accepted from_cell opening blocked = rw (accepted, from_cell, blocked, opens bytes opening, opening_blocked)
