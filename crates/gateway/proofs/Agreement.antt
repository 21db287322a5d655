-- What is told of a packet and what the packet gets agree, and what is told of a drop holds of it.
-- Assumes nothing.
use mathlib.Core.Bool.{Bool, true, false, not, cond}
use mathlib.Core.List.{List}
use mathlib.Core.Path.{◌≡◌, refl, sym, ap, subst, ◌∙◌}
use Prim.Native.Nat.{ℕ}
use lib.IntN.{ℤ}
use lib.ListN.{length}
use Rattle.laws.proofs.Tests.{true_is_not_false}
use Rattle.settings.specs.declared.Limits.{Limits}
use Rattle.packet.specs.declared.Header.{Header}
use Rattle.places.specs.declared.Placing.{Placing}
use Rattle.packet.specs.Header.{header_of}
use Rattle.packet.specs.declared.kinds.Kind.{Kind}
use Rattle.sides.specs.declared.Side.{Side}
use Rattle.sides.specs.declared.Side.TheVariants.{Cell, Plant, Neither}
use Rattle.sides.specs.Lists.{side_of, winner_of, winning_of, number_in, direction_of}
use Rattle.sides.proofs.Winners.{StandsIn, in_cell, in_plant, same_side, stands_on}
use Rattle.sides.proofs.Steps.{picked}
use Rattle.sides.specs.declared.Direction.{Direction}
use Rattle.sides.specs.declared.Direction.TheVariants.{FromCell, FromPlant, NotOurs}
use Rattle.records.specs.declared.Marks.{Marks}
use Rattle.records.specs.Records.{plant_seen, cell_seen}
use Rattle.tables.specs.Tables.{Tables}
use Rattle.entries.specs.Entries.{Written, written, written_of}
use Rattle.std.specs.Prelude.{None, Option, Some, is_some, Result, Ok}
use Rattle.std.proofs.lemmas.Option.{none-some}
use Rattle.refused.specs.declared.Refusal.{Refusal}
use Rattle.refused.specs.Refused.{answer_unless, refusal_of}
use Rattle.verdicts.specs.declared.Verdict.{Verdict}
use Rattle.verdicts.specs.declared.Verdict.TheVariants.{Uncounted, CreditOfOne, CreditOfTwo, FreshContact, Hygiene, Blocked}
use Rattle.verdicts.specs.Verdicts.{number_of, is_forwarded, is_closing, from_the_plant, verdict_of}
use Rattle.reasons.specs.declared.Drop.{Drop}
use Rattle.reasons.specs.Reasons.{Facts, facts_of, verdict_on, reported_on}
use Rattle.reasons.specs.Explanations.{verdict_explained, drop_explained, count_explained, is_drop_number}
use Rattle.reasons.proofs.Reasons.{one_of, at_least_one}
use Rattle.reasons.specs.declared.Explanation.{Explanation}
use Rattle.reasons.specs.declared.Explanation.TheVariants as why
use Rattle.rulings.specs.declared.Ruling.{Ruling}
use Rattle.rulings.specs.declared.answers.Answer.{Answer}
use Rattle.rulings.specs.Answers.{verdict_told, count_told, replaced_told}
use Rattle.rulings.specs.Rules.{slot_rule, rules_of}
use Rattle.rulings.specs.Rulings.{verdict_by, ruling_of}
use Rattle.rulings.proofs.Slips.{drop_writes_nothing}
use Rattle.gateway.specs.declared.Met.{Met}
use Rattle.gateway.specs.declared.Spot.{Spot}
use Rattle.gateway.specs.Packets.{replacement_of, entered, spot_of, ruling_at, settled, ours, direction_in, by_direction}
use Rattle.gateway.specs.Calls.{State, After, unless_refused, onward, packet_refusal, judged}
use Rattle.gateway.specs.Why.{met_in, drop_of, why_ours, why_by_direction, why_of}

-- what is told agrees with an answer, the same refusal, the same verdict, and where a count is told, as it is of a
-- packet that is dropped, the same count, and no address was replaced
pub record Agrees (told : Result Explanation Refusal) (given : Result Answer Refusal) : Type 0 where
  pub refusal : refusal_of told ≡ refusal_of given
  pub verdict : verdict_explained told ≡ verdict_told given
  pub count : (count : ℤ) → count_explained told ≡ Some count → count_told given ≡ Some count
  pub replaced : (count : ℤ) → count_explained told ≡ Some count → replaced_told given ≡ None

-- where no count is told the numbers say it all
numbers_agree : {told : Result Explanation Refusal} {given : Result Answer Refusal} → refusal_of told ≡ refusal_of given → verdict_explained told ≡ verdict_told given
    → count_explained told ≡ None → Agrees told given
numbers_agree r v n =
    record {
      refusal = r;
      verdict = v;
      count = λ count e. absurd (none-some count (sym n ∙ e));
      replaced = λ count e. absurd (none-some count (sym n ∙ e));
    }

module _ (limits : Limits) (cell plant : List ℕ) where
  module _ (placing : Placing) (h : Header) (from_plant : Bool) (spot : Spot) (tables : Tables) where
    abbrev met : Met
    met = met_in spot tables

    abbrev ruling : Ruling
    ruling = ruling_at (rules_of limits) h from_plant spot tables

    by_whether : (t : Bool) → is_forwarded (verdict_by (rules_of limits) h from_plant met.byte met.count) ≡ t
        → Agrees
        (Ok (cond t
        (why.Forwarded (verdict_by (rules_of limits) h from_plant met.byte met.count))
        (why.Dropped (drop_of (rules_of limits) cell plant h (verdict_by (rules_of limits) h from_plant met.byte met.count) met))))
        (Ok (settled placing.keys spot ruling tables).answer)
    unfolding ruling_of
    by_whether true e = numbers_agree refl refl refl
    by_whether false e =
        let nothing = drop_writes_nothing limits h from_plant met.byte met.count e in
        record {
          refusal = refl;
          verdict = refl;
          count = λ count told. ap Some nothing.2 ∙ told;
          replaced = λ count told. replaced_by nothing.1;
        }
      where
        replaced_by : ruling.writes ≡ false
            → replacement_of placing.keys spot.lines spot.place.line (entered spot.place ruling tables.tags tables.counts).replaced ≡ None
        replaced_by w =
            ap (λ (x : Written). replacement_of placing.keys spot.lines spot.place.line x.replaced)
            (ap (λ (t : Bool). cond t (written spot.place.line spot.place.tag ruling.count tables.tags tables.counts) (written_of None tables.tags tables.counts)) w)

  ours_agree : (placing : Placing) (h : Header) (from_plant : Bool) (tables : Tables)
      → Agrees (Ok (why_ours (rules_of limits) placing cell plant h from_plant tables)) (Ok (ours (rules_of limits) placing h from_plant tables).answer)
  unfolding why_ours ours
  ours_agree placing h from_plant tables =
      by_whether placing h from_plant (spot_of slot_rule placing h from_plant (length tables.records) (length tables.tags)) tables _ refl

  directions_agree : (placing : Placing) (h : Header) (d : Direction) (tables : Tables)
      → Agrees (Ok (why_by_direction (rules_of limits) placing cell plant h d tables)) (Ok (by_direction (rules_of limits) placing h d tables).answer)
  unfolding why_by_direction by_direction
  directions_agree placing h FromCell tables = ours_agree placing h false tables
  directions_agree placing h FromPlant tables = ours_agree placing h true tables
  directions_agree placing h NotOurs tables = numbers_agree refl refl refl

  refusals_agree : (refusal : Option Refusal) (told : Explanation) (before : State) (after : After Answer) → Agrees (Ok told) (Ok after.answer)
      → Agrees (answer_unless refusal told) (unless_refused refusal before after).answer
  refusals_agree None told before after agree = agree
  refusals_agree (Some refusal) told before after agree = numbers_agree refl refl refl

  -- for every input: "It is refused exactly as the packet would be", and what it tells is what `judge` would answer
  pub agrees : (time : ℕ) (bytes : List ℕ) (before : State)
      → Agrees (why_of (rules_of limits) limits cell plant time bytes before) (judged (rules_of limits) limits cell plant time bytes before).answer
  unfolding why_of judged
  agrees time bytes before =
      refusals_agree (packet_refusal limits cell plant time bytes before) _ before _
      (directions_agree before.placing (header_of bytes) (direction_in cell plant (header_of bytes)) (onward 1 limits time before).tables)

-- ---- what is told of a drop
-- the four facts of a packet that was dropped
abbrev pub facts_in : Drop → Facts
facts_in drop = facts_of drop.count drop.marks.plant drop.marks.cell drop.header.transport.kind

pub record TrueOf (limits : Limits) (cell plant : List ℕ) (drop : Drop) : Type 0 where
  -- T is that of the settings
  pub threshold : drop.threshold ≡ limits.threshold
  -- the packet is dropped by these facts, as the verdict's own definition says
  pub verdict : drop.verdict ≡ verdict_on drop.threshold (facts_in drop)
  pub dropped : is_forwarded drop.verdict ≡ false
  -- those are reported that would have had it forwarded, and "at least one is always reported"
  pub reported : drop.reported ≡ reported_on drop.threshold (facts_in drop)
  pub one : one_of drop.reported ≡ true
  -- "the entries of the side lists that decided": one of the cell list on its source, and one of the plant list on its destination,
  pub of_cell : winning_of cell plant drop.header.source ≡ Some (record { side = Cell; number = drop.cell_entry.number })
  pub of_plant : winning_of cell plant drop.header.destination ≡ Some (record { side = Plant; number = drop.plant_entry.number })
  -- each the five bytes that the lookup hands back
  pub cell_bytes : StandsIn (winner_of cell plant drop.header.source) drop.cell_entry
  pub plant_bytes : StandsIn (winner_of cell plant drop.header.destination) drop.plant_entry

abbrev pub TrueWhere : Limits → List ℕ → List ℕ → Option Drop → Type 0
TrueWhere limits cell plant None = Unit {0}
TrueWhere limits cell plant (Some drop) = TrueOf limits cell plant drop

pub record AllTrue (limits : Limits) (cell plant : List ℕ) (told : Result Explanation Refusal) : Type 0 where
  -- "Verdicts 0 to 4 get the verdict alone": why is told of 5 and 6, and of no other and no refusal
  pub alone : is_some (drop_explained told) ≡ is_drop_number (verdict_explained told)
  -- and what is told holds
  pub holds : TrueWhere limits cell plant (drop_explained told)

-- the plant's packets are all forwarded
plant_passes : (blocked : Bool) (marks : Marks) (kind : Kind) → is_forwarded (verdict_of true blocked marks kind) ≡ true
unfolding verdict_of from_the_plant
plant_passes blocked marks kind = go marks.plant marks.cell (is_closing kind)
  where
    go : (own other closing : Bool) → is_forwarded (cond own Uncounted (cond other (cond closing Uncounted CreditOfTwo) Uncounted)) ≡ true
    go true other closing = refl
    go false true true = refl
    go false true false = refl
    go false false closing = refl

-- "5 dropped, hygiene. 6 dropped, blocked.": no other verdict is
dropped_by_number : (verdict : Verdict) → is_drop_number (Some (number_of verdict)) ≡ not (is_forwarded verdict)
dropped_by_number Uncounted = refl
dropped_by_number CreditOfOne = refl
dropped_by_number CreditOfTwo = refl
dropped_by_number FreshContact = refl
dropped_by_number Hygiene = refl
dropped_by_number Blocked = refl

-- a packet from the cell has its source there and its destination in the plant
abbrev is_from_cell : Direction → Bool
is_from_cell FromCell = true
is_from_cell FromPlant = false
is_from_cell NotOurs = false

sides_of : (source destination : Side) → direction_of source destination ≡ FromCell → (source ≡ Cell) × (destination ≡ Plant)
sides_of Cell Cell e = true_is_not_false (ap is_from_cell e) refl
sides_of Cell Plant e = (refl, refl)
sides_of Cell Neither e = true_is_not_false (ap is_from_cell e) refl
sides_of Plant Cell e = true_is_not_false (ap is_from_cell e) refl
sides_of Plant Plant e = true_is_not_false (ap is_from_cell e) refl
sides_of Plant Neither e = true_is_not_false (ap is_from_cell e) refl
sides_of Neither destination e = true_is_not_false (ap is_from_cell e) refl

module _ (limits : Limits) (cell plant : List ℕ) where
  stands_at : (address : ℕ) (side : Side) → side_of cell plant address ≡ side → (Neither ≡ side → ⊥)
      → winning_of cell plant address ≡ Some (record { side = side; number = number_in (winning_of cell plant address) })
  stands_at address side e some = stands_on (winning_of cell plant address) side (sym (same_side cell plant address) ∙ e) some

  -- a verdict alone, and one with what is told beside it
  verdict_alone : (verdict : Verdict) → is_forwarded verdict ≡ true → AllTrue limits cell plant (Ok (why.Forwarded verdict))
  verdict_alone verdict e = record { alone = sym (dropped_by_number verdict ∙ ap not e); holds = tt }

  told_why : {drop : Drop} → TrueOf limits cell plant drop → AllTrue limits cell plant (Ok (why.Dropped drop))
  told_why {drop} told = record { alone = sym (dropped_by_number drop.verdict ∙ ap not told.dropped); holds = told }

  cell_true : (h : Header) (met : Met) → direction_in cell plant h ≡ FromCell → (t : Bool)
      → is_forwarded (verdict_by (rules_of limits) h false met.byte met.count) ≡ t
      → AllTrue limits cell plant
      (Ok (cond t
      (why.Forwarded (verdict_by (rules_of limits) h false met.byte met.count))
      (why.Dropped (drop_of (rules_of limits) cell plant h (verdict_by (rules_of limits) h false met.byte met.count) met))))
  cell_true h m d true e = verdict_alone _ e
  cell_true h m d false e =
      let ends = sides_of _ _ d in
      told_why (record {
        threshold = refl;
        verdict = refl;
        dropped = e;
        reported = refl;
        one = at_least_one limits.threshold (facts_of m.count (plant_seen m.byte) (cell_seen m.byte) h.transport.kind) e;
        of_cell = stands_at h.source Cell ends.0 (λ e. subst (picked ⊥ ⊥ (Unit {0})) e tt);
        of_plant = stands_at h.destination Plant ends.1 (λ e. subst (picked ⊥ ⊥ (Unit {0})) e tt);
        cell_bytes = in_cell cell plant h.source ends.0;
        plant_bytes = in_plant cell plant h.destination ends.1;
      })

  plant_true : (h : Header) (met : Met) (t : Bool) → is_forwarded (verdict_by (rules_of limits) h true met.byte met.count) ≡ t
      → AllTrue limits cell plant
      (Ok (cond t
      (why.Forwarded (verdict_by (rules_of limits) h true met.byte met.count))
      (why.Dropped (drop_of (rules_of limits) cell plant h (verdict_by (rules_of limits) h true met.byte met.count) met))))
  plant_true h m true e = verdict_alone _ e
  plant_true h m false e = true_is_not_false (plant_passes _ _ _) e

  -- what a packet of ours meets
  abbrev met_by : Placing → Header → Bool → Tables → Met
  met_by placing h from_plant tables =
      met_in (spot_of slot_rule placing h from_plant (length tables.records) (length tables.tags)) tables

  by_direction_lem : (placing : Placing) (h : Header) (d : Direction) (tables : Tables) → direction_in cell plant h ≡ d
      → AllTrue limits cell plant (Ok (why_by_direction (rules_of limits) placing cell plant h d tables))
  unfolding why_by_direction why_ours
  by_direction_lem placing h FromCell tables e = cell_true h (met_by placing h false tables) e _ refl
  by_direction_lem placing h FromPlant tables e = plant_true h (met_by placing h true tables) _ refl
  by_direction_lem placing h NotOurs tables e = record { alone = refl; holds = tt }

  unless_refused_lem : (refusal : Option Refusal) (told : Explanation) → AllTrue limits cell plant (Ok told)
      → AllTrue limits cell plant (answer_unless refusal told)
  unless_refused_lem None told true_of = true_of
  unless_refused_lem (Some refusal) told true_of = record { alone = refl; holds = tt }

  -- for every input: what is told of a packet that is dropped holds of it, and only a packet from the cell is
  pub all_true : (time : ℕ) (bytes : List ℕ) (before : State) → AllTrue limits cell plant (why_of (rules_of limits) limits cell plant time bytes before)
  unfolding why_of
  all_true time bytes before =
      unless_refused_lem (packet_refusal limits cell plant time bytes before) _
      (by_direction_lem before.placing (header_of bytes) (direction_in cell plant (header_of bytes)) (onward 1 limits time before).tables refl)
