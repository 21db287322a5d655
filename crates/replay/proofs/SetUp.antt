-- How the programs are set up is never refused: with tables of their sizes, which no call can change, the first record always starts the
-- gateway, and a packet is refused by 4 or by its header's number, and by no other.
-- Assumes nothing.
use mathlib.Core.Bool.{Bool, true, false, cond}
use mathlib.Core.List.{List}
use mathlib.Core.Path.{◌≡◌, refl, ap, ◌∙◌}
use Prim.Native.Nat.{ℕ}
use lib.Dec.{ltb}
use native.Mathlib.Omega.{arith}
use lib.ListN.{length, length-replicate}
use borrow.Author.Tests.{le-ltb}
use Rattle.laws.specs.Signed.{minus}
use Rattle.laws.specs.Search.{every}
use Rattle.std.specs.Prelude.{Option, None, Some}
use Rattle.refused.specs.declared.Refusal.{Refusal}
use Rattle.refused.specs.declared.Refusal.TheVariants as refusal
use Rattle.refused.specs.Refused.{number_or_zero, refusal_of, refusal_or}
use Rattle.refused.proofs.Told.{number_told}
use Rattle.settings.specs.Settings.{bad_limits}
use Rattle.sides.specs.Lists.{bad_list}
use Rattle.packet.specs.Header.{header_refusal}
use Rattle.capture.specs.declared.Cursor.{Cursor}
use Rattle.capture.specs.declared.Record.{Record}
use Rattle.capture.specs.declared.Reading.{Reading}
use Rattle.capture.specs.declared.Reading.TheVariants.{End, Cut, Long, Whole}
use Rattle.capture.specs.Capture.{next_of}
use Rattle.capture.specs.Whole.{bytes_of}
use Rattle.tables.specs.Sizes.{bad_sizes}
use Rattle.cold.specs.Cold.{cold_tables}
use Rattle.refusals.specs.Refusals.{start_refusal, early_refusal}
use Rattle.gateway.specs.Calls.{State, packet_refusal, cold_state, started, judged}
use Rattle.gateway.proofs.Refusals.{packet_told}
use Rattle.frames.specs.declared.Inside.{Inside}
use Rattle.frames.specs.declared.Inside.TheVariants.{Short, Packet, Other}
use Rattle.frames.specs.Frames.{inside_of, carried, by_inside, frame_judged}
use Rattle.replay.specs.Replay.{program_settings, program_limits, program_rules, cell_list, plant_list, started_first, record_judged, by_reading, stepped, step_refusal}

-- "a cold table of 4,096 records and 256 lines"
module _ (time : ℕ) (before : State) (records : length before.tables.records ≡ 4096) (tags : length before.tables.tags ≡ 1024)
    (counts : length before.tables.counts ≡ 1024) where
  pub starts : started_first true time before ≡ cold_state program_settings time before
  unfolding started_first started start_refusal bad_limits bad_sizes
  starts = rw (records, tags, counts) refl

  module _ (bytes : List ℕ) where
    abbrev four_or_header : Option Refusal
    four_or_header = refusal_or (cond (ltb time before.clock) (Some refusal.Time) None) (header_refusal bytes)

    no_other : packet_refusal program_limits cell_list plant_list time bytes before ≡ four_or_header
    unfolding every early_refusal bad_limits bad_sizes bad_list
    no_other = rw (records, tags, counts) refl

    pub by_four_or_header : refusal_of (judged program_rules program_limits cell_list plant_list time bytes before).answer ≡ four_or_header
    by_four_or_header = packet_told program_limits time before program_rules cell_list plant_list bytes ∙ no_other

-- ---- the number of a step
module _ (before : State) (records : length before.tables.records ≡ 4096) (tags : length before.tables.tags ≡ 1024)
    (counts : length before.tables.counts ≡ 1024) where
  -- "An Ethernet frame under 14 bytes is refused by 5", and one with another EtherType not at all
  abbrev frame_refusal : Inside → Option Refusal → Option Refusal
  frame_refusal Short carried = Some refusal.Short
  frame_refusal Packet carried = carried
  frame_refusal Other carried = None

  -- 8 where a record is cut off or too long; else by its frame, and 4 or the header's number where that carries a packet
  abbrev pub step_number : List ℕ → Reading → Option Refusal
  step_number bytes End = None
  step_number bytes Cut = Some refusal.Record
  step_number bytes Long = Some refusal.Record
  step_number bytes (Whole r) =
      frame_refusal (inside_of (bytes_of bytes r))
      (refusal_or (cond (ltb r.seconds before.clock) (Some refusal.Time) None) (header_refusal (carried (bytes_of bytes r))))

  frame_refusal_lem : (time : ℕ) (frame : List ℕ)
      → refusal_of (frame_judged program_rules program_limits cell_list plant_list time frame before).answer
      ≡ frame_refusal (inside_of frame) (refusal_or (cond (ltb time before.clock) (Some refusal.Time) None) (header_refusal (carried frame)))
  unfolding frame_judged
  frame_refusal_lem time frame = go (inside_of frame)
    where
      go : (inside : Inside)
          → refusal_of (by_inside inside before (judged program_rules program_limits cell_list plant_list time (carried frame) before)).answer
          ≡ frame_refusal inside (refusal_or (cond (ltb time before.clock) (Some refusal.Time) None) (header_refusal (carried frame)))
      go Short = refl
      go Packet = by_four_or_header time before records tags counts (carried frame)
      go Other = refl

  -- every record after the first, by what is read: no other number is given
  pub step_refusal_lem : (asks : Bool) (bytes : List ℕ) (cursor : Cursor)
      → step_refusal (stepped asks false bytes cursor before).answer ≡ number_or_zero (step_number bytes (next_of bytes cursor))
  unfolding stepped record_judged started_first
  step_refusal_lem asks bytes cursor = go (next_of bytes cursor)
    where
      go : (x : Reading) → step_refusal (by_reading asks false bytes x before).answer ≡ number_or_zero (step_number bytes x)
      go End = refl
      go Cut = refl
      go Long = refl
      go (Whole r) = number_told _ ∙ ap number_or_zero (frame_refusal_lem r.seconds (bytes_of bytes r))

-- and the first, at whose second the gateway starts: never 4
module _ (before : State) (records : length before.tables.records ≡ 4096) (tags : length before.tables.tags ≡ 1024)
    (counts : length before.tables.counts ≡ 1024) where
  pub first_refusal : (asks : Bool) (bytes : List ℕ) (r : Record)
      → step_refusal (by_reading asks true bytes (Whole r) before).answer
      ≡ number_or_zero (frame_refusal before records tags counts (inside_of (bytes_of bytes r)) (header_refusal (carried (bytes_of bytes r))))
  unfolding record_judged cold_tables
  first_refusal asks bytes r =
      let time : ℕ = r.seconds in
      let frame : List ℕ = bytes_of bytes r in
      number_told _ ∙ ap number_or_zero (
      ap (λ (s : State). refusal_of (frame_judged program_rules program_limits cell_list plant_list time frame s).answer) (starts time before records tags counts)
      ∙ frame_refusal_lem (cold_state program_settings time before)
      (length-replicate {A = ℕ} (length before.tables.records) 0 ∙ records)
      (length-replicate {A = ℕ} (length before.tables.tags) 0 ∙ tags)
      (length-replicate (length before.tables.counts) (minus 32768) ∙ counts)
      time frame
      ∙ ap (λ (b : Bool). frame_refusal before records tags counts (inside_of frame) (refusal_or (cond b (Some refusal.Time) None) (header_refusal (carried frame)))) (le-ltb time time (omega arith)))
