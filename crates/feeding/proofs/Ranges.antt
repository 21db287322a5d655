-- What the gateway answers and leaves is in the ranges of its parts' types, wherever the counts that it is lent are: what a line and a block
-- are made of needs no premise.
-- Assumes nothing.
use mathlib.Core.Bool.{Bool, true, false, cond}
use mathlib.Core.List.{List, [], ◌∷◌, map}
use mathlib.Core.Path.{◌≡◌, refl, sym, subst}
use Prim.Native.Nat.{ℕ, zero, suc, ◌+◌, ◌*◌, ◌^◌, ◌≤◌, ◌<◌}
use native.Mathlib.Omega.{arith}
use lib.Dec.{ltb}
use lib.IntN.{ℤ, pos, ◌+ℤ◌, ◌-ℤ◌, nat_abs}
use lib.ListN.{length, get_or, take, drop, set, replicate}
use lib.Seq.{get_or-drop}
use lib.Signed.{le_z}
use Rattle.laws.proofs.Signed.{le_z_true, sum_is, difference_is, one_part, size}
use Rattle.words.specs.Words.{two_at}
use Rattle.words.specs.Layouts.{Bytes, two, four}
use Rattle.words.proofs.Layouts.{in_range}
use Rattle.settings.specs.declared.Limits.{Limits}
use Rattle.permute.proofs.Inverse.{D-lt}
use Rattle.places.specs.declared.Place.{Place}
use Rattle.places.specs.declared.Placing.{Placing}
use Rattle.places.specs.Places.{address_of}
use Rattle.sides.specs.declared.Direction.{Direction}
use Rattle.sides.specs.declared.Direction.TheVariants.{FromCell, FromPlant, NotOurs}
use Rattle.sides.proofs.Winners.{sized}
use Rattle.packet.specs.declared.Header.{Header}
use Rattle.packet.specs.Header.{protocol, later, header_length, port_at, transport_of, header_of}
use Rattle.packet.specs.Kinds.{ported}
use Rattle.records.specs.Records.{marks_of, is_unmarked}
use Rattle.counts.specs.Counts.{larger, smaller, lowered_by, raised_by, decayed_by}
use Rattle.counts.proofs.Counts.{fell}
use Rattle.std.specs.Prelude.{Option, Some, None, Result, Ok}
use Rattle.refused.specs.declared.Refusal.{Refusal}
use Rattle.refused.specs.Refused.{answer_unless}
use Rattle.entries.specs.Entries.{line_of, lacks_line, own_way, count_in, count_of, Written, written_of, written}
use Rattle.entries.proofs.Readback.{cases}
use Rattle.tables.specs.Tables.{Tables}
use Rattle.tables.specs.Clock.{time_passed}
use Rattle.verdicts.specs.declared.Verdict.{Verdict}
use Rattle.verdicts.specs.declared.Verdict.TheVariants.{Uncounted, CreditOfOne, CreditOfTwo, FreshContact, Hygiene, Blocked}
use Rattle.verdicts.specs.Verdicts.{is_forwarded}
use Rattle.reasons.specs.declared.Explanation.{Explanation}
use Rattle.reasons.specs.declared.Explanation.TheVariants as why
use Rattle.rulings.specs.declared.Ruling.{Ruling}
use Rattle.rulings.specs.declared.answers.Answer.{Answer}
use Rattle.rulings.specs.declared.answers.Answer.TheVariants as answer
use Rattle.rulings.specs.Rules.{Rules, slot_rule, rules_of}
use Rattle.rulings.specs.Rulings.{count_written, counted_by, verdict_by, ruling_of}
use Rattle.lines.proofs.Whole.{InRange}
use Rattle.explanations.proofs.Short.{DropSized, ExplanationSized}
use Rattle.gateway.specs.Packets.{Outcome, spot_of, record_met, count_met, ruling_at, entered, replacement_of, ours, direction_in, by_direction}
use Rattle.gateway.specs.Calls.{State, After, unless_refused, onward, packet_refusal, accepted, judged}
use Rattle.gateway.specs.Why.{met_in, drop_of, why_ours, why_by_direction, why_of}

-- ---- lists each of whose elements is so
module _ {A : Type 0} (P : A → Type 0) where
  abbrev pub All : List A → Type 0
  All [] = Unit {0}
  All (x ∷ l) = P x × All l

  all_at : (l : List A) (d : A) → All l → P d → (k : ℕ) → P (get_or l k d)
  all_at [] d all p k = p
  all_at (x ∷ l) d all p zero = all.0
  all_at (x ∷ l) d all p (suc k) = all_at l d all.1 p k

  all_set : (l : List A) (v : A) → All l → P v → (k : ℕ) → All (set l k v)
  all_set [] v all p k = tt
  all_set (x ∷ l) v all p zero = (p, all.1)
  all_set (x ∷ l) v all p (suc k) = (all.0, all_set l v all.1 p k)

  all_mapped : (f : A → A) → ((x : A) → P x → P (f x)) → (l : List A) → All l → All (map f l)
  all_mapped f keeps [] all = tt
  all_mapped f keeps (x ∷ l) all = (keeps x all.0, all_mapped f keeps l all.1)

  pub all_alike : (v : A) → P v → (n : ℕ) → All (replicate n v)
  all_alike v p zero = tt
  all_alike v p (suc n) = (p, all_alike v p n)

  all_taken : (n : ℕ) (l : List A) → All l → All (take n l)
  all_taken zero l all = tt
  all_taken (suc n) [] all = tt
  all_taken (suc n) (x ∷ l) all = (all.0, all_taken n l all.1)

  all_dropped : (n : ℕ) (l : List A) → All l → All (drop n l)
  all_dropped zero l all = all
  all_dropped (suc n) [] all = tt
  all_dropped (suc n) (x ∷ l) all = all_dropped n l all.1

-- ---- counts of 16 bits
abbrev pub Short : ℤ → Type 0
Short count = nat_abs count ≤ 2 ^ 15

none_short : Short (pos 0)
none_short = omega arith

lowered_short : (points : ℕ) (floor count : ℤ) → Short floor → Short count → Short (lowered_by points floor count)
unfolding larger
lowered_short points floor count f c = go (le_z floor (count -ℤ pos points)) refl
  where
    go : (t : Bool) → le_z floor (count -ℤ pos points) ≡ t → Short (cond t (count -ℤ pos points) floor)
    go true e =
        let less = count -ℤ pos points in
        omega (
          arith,
          le_z_true floor less e,
          difference_is count (pos points),
          one_part less,
          one_part count,
          one_part floor,
          size less,
          size count,
          size floor,
          f,
          c,
        )
    go false e = f

raised_short : (points : ℕ) (count : ℤ) → Short count → Short (raised_by points (pos 32767) count)
unfolding larger smaller
raised_short points count c = go (le_z more (pos 32767)) refl
  where
    more : ℤ
    more = count +ℤ pos points

    of_more : le_z more (pos 32767) ≡ true → Short more
    of_more e = omega (arith, le_z_true more (pos 32767) e, sum_is count (pos points), one_part more, one_part count, size more, size count, c)

    either : (x : ℤ) (t : Bool) → Short x → Short (cond t x count)
    either x true s = s
    either x false s = c

    go : (t : Bool) → le_z more (pos 32767) ≡ t
        → Short (cond (le_z count (cond t more (pos 32767))) (cond t more (pos 32767)) count)
    go true e = either more (le_z count more) (of_more e)
    go false e = either (pos 32767) (le_z count (pos 32767)) (omega arith)

decayed_short : (points : ℕ) (count : ℤ) → Short count → Short (decayed_by points count)
decayed_short points count c = omega (arith, fell points count, size count, size (decayed_by points count), c)

count_short : (line tag : ℕ) (tags : List ℕ) (counts : List ℤ) → All Short counts → Short (count_of line tag tags counts)
unfolding count_of count_in
count_short line tag tags counts all = go (lacks_line line (length tags) (length counts)) (ltb (own_way tag (line_of line tags) (line_of line counts)) 4)
  where
    go : (lacks own : Bool)
        → Short (cond lacks (pos 0) (cond own (get_or (line_of line counts) (own_way tag (line_of line tags) (line_of line counts)) (pos 0)) (pos 0)))
    go true own = none_short
    go false true =
        all_at Short (line_of line counts) (pos 0) (all_taken Short 4 (drop (4 * line) counts) (all_dropped Short (4 * line) counts all)) none_short
        (own_way tag (line_of line tags) (line_of line counts))
    go false false = none_short

-- ---- a ruling, and what it leaves
module _ (limits : Limits) (floor_short : Short limits.floor) where
  ruling_short : (h : Header) (from_plant : Bool) (byte : ℕ) (count : ℤ) → Short count
      → Short (ruling_of (rules_of limits) h from_plant byte count).count
  unfolding ruling_of count_written
  ruling_short h from_plant byte count c = by (verdict_by (rules_of limits) h from_plant byte count) (is_unmarked (marks_of byte))
    where
      by : (verdict : Verdict) (unmarked : Bool)
          → Short (counted_by count (count_written limits.floor 1 1 (cond unmarked None None) verdict count)).count
      by Uncounted unmarked = c
      by CreditOfOne unmarked = lowered_short 1 limits.floor count floor_short c
      by CreditOfTwo unmarked = lowered_short 2 limits.floor count floor_short c
      by FreshContact unmarked = raised_short 1 count c
      by Hygiene unmarked = c
      by Blocked true = c
      by Blocked false = c

  entered_short : (place : Place) (ruling : Ruling) (tags : List ℕ) (counts : List ℤ) → Short ruling.count → All Short counts
      → All Short (entered place ruling tags counts).counts
  entered_short place ruling tags counts c all = go ruling.writes
    where
      go : (writes : Bool)
          → All Short (cond writes (written place.line place.tag ruling.count tags counts) (written_of None tags counts)).counts
      go true =
          cases place.line place.tag ruling.count tags counts (λ (w : Written). All Short w.counts) all
          (λ e. all_set Short counts ruling.count all c _)
      go false = all

  -- an address that is recovered has 32 bits
  judged_short : (keys : List ℕ) (lines line : ℕ) (gone : Option ℕ) (verdict : Verdict) (count : ℤ) → Short count
      → InRange (Ok (answer.Judged verdict count (replacement_of keys lines line gone)))
  unfolding address_of
  judged_short keys lines line None verdict count c = c
  judged_short keys lines line (Some tag) verdict count c = (c, D-lt keys _ (omega arith))

  pub record Ranged (after : After (Result Answer Refusal)) : Type 0 where
    pub in_its_range : InRange after.answer
    pub counts_short : All Short after.state.tables.counts

  record Fits (after : Outcome) : Type 0 where
    told : InRange (Ok after.answer)
    left : All Short after.tables.counts

  ours_fit : (placing : Placing) (h : Header) (from_plant : Bool) (before : Tables) → All Short before.counts → Fits (ours (rules_of limits) placing h from_plant before)
  unfolding ours
  ours_fit placing h from_plant before all =
      let spot = spot_of slot_rule placing h from_plant (length before.records) (length before.tags) in
      let ruling : Ruling = ruling_at (rules_of limits) h from_plant spot before in
      let c = ruling_short h from_plant _ (count_met spot before) (count_short spot.place.line spot.place.tag before.tags before.counts all) in
      record {
        told =
            judged_short placing.keys spot.lines spot.place.line (entered spot.place ruling before.tags before.counts).replaced
            ruling.verdict ruling.count c;
        left = entered_short spot.place ruling before.tags before.counts c all;
      }

  all_fit : (placing : Placing) (h : Header) (direction : Direction) (before : Tables) → All Short before.counts → Fits (by_direction (rules_of limits) placing h direction before)
  unfolding by_direction
  all_fit placing h FromCell before all = ours_fit placing h false before all
  all_fit placing h FromPlant before all = ours_fit placing h true before all
  all_fit placing h NotOurs before all = record { told = tt; left = all }

  onward_short : (time : ℕ) (before : State) → All Short before.tables.counts
      → All Short (onward (rules_of limits).point limits time before).tables.counts
  unfolding time_passed
  onward_short time before all = all_mapped Short (decayed_by _) (decayed_short _) before.tables.counts all

-- ---- the call
module _ (limits : Limits) (floor_short : Short limits.floor) (cell plant : List ℕ) (time : ℕ) (bytes : List ℕ) (before : State)
    (all : All Short before.tables.counts) where
  unless_fits : (after : After Answer) → InRange (Ok after.answer) → All Short after.state.tables.counts → (refusal : Option Refusal)
      → Ranged limits floor_short (unless_refused refusal before after)
  unless_fits after told left None = record { in_its_range = told; counts_short = left }
  unless_fits after told left (Some refusal) = record { in_its_range = tt; counts_short = all }

  pub judged_fits : Ranged limits floor_short (judged (rules_of limits) limits cell plant time bytes before)
  unfolding judged
  judged_fits =
      let h : Header = header_of bytes in
      let done = all_fit limits floor_short before.placing h (direction_in cell plant h) _ (onward_short limits floor_short time before all) in
      unless_fits (accepted (rules_of limits) limits h (direction_in cell plant h) time before)
      done.told done.left (packet_refusal limits cell plant time bytes before)

-- ---- the question why
-- a part of a list of bytes is one
pub bytes_dropped : (l : List ℕ) → Bytes l → (n : ℕ) → Bytes (drop n l)
bytes_dropped l bytes n = λ k. subst (λ (b : ℕ). b < 256) (sym (get_or-drop n l k 0)) (bytes (n + k))

byte_taken : (l : List ℕ) → Bytes l → (n k : ℕ) → get_or (take n l) k 0 < 256
byte_taken l bytes zero k = omega arith
byte_taken [] bytes (suc n) k = omega arith
byte_taken (x ∷ l) bytes (suc n) zero = bytes 0
byte_taken (x ∷ l) bytes (suc n) (suc k) = byte_taken l (λ j. bytes (suc j)) n k

pub bytes_taken : (l : List ℕ) → Bytes l → (n : ℕ) → Bytes (take n l)
bytes_taken l bytes n = λ k. byte_taken l bytes n k

module _ (limits : Limits) (floor_short : Short limits.floor) (threshold-few : limits.threshold < 2 ^ 16) (cell plant : List ℕ)
    (cell_bytes : Bytes cell) (plant_bytes : Bytes plant) (cell-few : length cell < 2 ^ 64) (plant-few : length plant < 2 ^ 64) where
  port_few : (l : List ℕ) → Bytes l → (at : ℕ) → port_at l at < 2 ^ 16
  port_few l bytes at = go (ported (protocol l) (later l))
    where
      go : (has : Bool) → cond has (two_at l at) 0 < 2 ^ 16
      go true = in_range l bytes true two at
      go false = omega arith

  -- by what a packet of ours meets in the tables
  module _ (placing : Placing) (l : List ℕ) (bytes : Bytes l) (from_plant : Bool) (tables : Tables) (all : All Short tables.counts) where
    abbrev rules : Rules
    rules = rules_of limits

    met_short : Short (met_in (spot_of slot_rule placing (header_of l) from_plant (length tables.records) (length tables.tags)) tables).count
    met_short = count_short _ _ tables.tags tables.counts all

    drop_fits : (verdict : Verdict)
        → DropSized (drop_of rules cell plant (header_of l) verdict
        (met_in (spot_of slot_rule placing (header_of l) from_plant (length tables.records) (length tables.tags)) tables))
    unfolding header_of transport_of
    drop_fits verdict =
        record {
          count = met_short;
          threshold = threshold-few;
          source = in_range l bytes true four 12;
          destination = in_range l bytes true four 16;
          protocol = bytes 9;
          source_port = port_few l bytes (header_length l);
          destination_port = port_few l bytes (header_length l + 2);
          cell_entry = sized cell plant cell_bytes plant_bytes (header_of l).source cell-few plant-few;
          plant_entry = sized cell plant cell_bytes plant_bytes (header_of l).destination cell-few plant-few;
        }

    met_fits : ExplanationSized (Ok (why_ours (rules_of limits) placing cell plant (header_of l) from_plant tables))
    unfolding why_ours
    met_fits = go verdict (is_forwarded verdict)
      where
        verdict : Verdict
        verdict =
            verdict_by rules (header_of l) from_plant
            (record_met (spot_of slot_rule placing (header_of l) from_plant (length tables.records) (length tables.tags)) tables)
            (count_met (spot_of slot_rule placing (header_of l) from_plant (length tables.records) (length tables.tags)) tables)

        go : (verdict : Verdict) (forwarded : Bool)
            → ExplanationSized (Ok (cond forwarded (why.Forwarded verdict)
            (why.Dropped (drop_of rules cell plant (header_of l) verdict
            (met_in (spot_of slot_rule placing (header_of l) from_plant (length tables.records) (length tables.tags)) tables)))))
        go verdict true = tt
        go verdict false = drop_fits verdict

  explained_fits : (placing : Placing) (l : List ℕ) → Bytes l → (direction : Direction) (tables : Tables) → All Short tables.counts
      → ExplanationSized (Ok (why_by_direction (rules_of limits) placing cell plant (header_of l) direction tables))
  unfolding why_by_direction
  explained_fits placing l bytes FromCell tables all = met_fits placing l bytes false tables all
  explained_fits placing l bytes FromPlant tables all = met_fits placing l bytes true tables all
  explained_fits placing l bytes NotOurs tables all = tt

  pub why_fits : (time : ℕ) (l : List ℕ) → Bytes l → (before : State) → All Short before.tables.counts
      → ExplanationSized (why_of (rules_of limits) limits cell plant time l before)
  unfolding why_of
  why_fits time l bytes before all =
      unless (packet_refusal limits cell plant time l before)
    where
      told : Explanation
      told =
          why_by_direction (rules_of limits) before.placing cell plant (header_of l) (direction_in cell plant (header_of l))
          (onward (rules_of limits).point limits time before).tables

      unless : (refusal : Option Refusal) → ExplanationSized (answer_unless refusal told)
      unless None = explained_fits before.placing l bytes (direction_in cell plant (header_of l)) _ (onward_short limits floor_short time before all)
      unless (Some refusal) = tt
