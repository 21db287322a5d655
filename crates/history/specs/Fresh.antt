-- Document 01, "Fresh, from history": which slots are live, which contacts are fresh, and D, H and R; from a history of calls and
-- answers, and from nothing that is stored. Each is counted over what the events tell. Where a history does not begin with a cold start,
-- what was live then is the start's (`held`).
-- Assumes nothing.
use Rattle.std.specs.Prelude.{Bool, true, false, not, ◌&&◌, ◌||◌, cond, List, [], ◌∷◌, ◌++◌, ◌≡◌, ℕ, ◌+◌, ◌≤◌, leb, eqb, Option, None, Some, unwrap_or}
use Rattle.laws.specs.Times.{times_in}
use Rattle.packet.specs.declared.Header.{Header}
use Rattle.packet.specs.Header.{header_of}
use Rattle.tables.specs.Clock.{multiples_passed}
use Rattle.sides.specs.declared.Direction.{Direction}
use Rattle.sides.specs.declared.Direction.TheVariants.{FromCell, FromPlant, NotOurs}
use Rattle.verdicts.specs.Verdicts.{is_closing}
use Rattle.rulings.specs.Rules.{cell_of}
use Rattle.gateway.specs.Packets.{direction_in}
use Rattle.history.specs.Runs.{Site, Start, Event}
use Rattle.history.specs.Told.{JudgedPacket, told}

-- ---- packets of ours, read from their bytes (a packet that is not ours is never asked about: only one that was judged is)
pub record Ours : Type 0 where
  pub header : Header
  pub from_plant : Bool

-- of the two directions that a packet of ours has it is the one from the plant
abbrev pub is_from_plant : Direction → Bool
is_from_plant FromCell = false
is_from_plant FromPlant = true
is_from_plant NotOurs = false

abbrev pub ours_of : Site → List ℕ → Ours
ours_of site bytes =
    record { header = header_of bytes; from_plant = is_from_plant (direction_in site.cell site.plant (header_of bytes)) }

abbrev pub cell_address : Ours → ℕ
cell_address packet = cell_of packet.header packet.from_plant

-- "a closing one from the plant"
abbrev pub closes_from_plant : Ours → Bool
closes_from_plant packet = packet.from_plant && is_closing packet.header.transport.kind

-- ---- verdicts, as they are told, by document 01's numbers
-- whether it is this number that was told
abbrev pub tells : ℕ → Option ℕ → Bool
tells number None = false
tells number (Some verdict) = eqb verdict number

-- a packet of ours was forwarded: "1 forwarded .. 2 forwarded .. 3 forwarded .. 4 forwarded"
abbrev pub forwards : Option ℕ → Bool
forwards verdict = tells 1 verdict || (tells 2 verdict || (tells 3 verdict || tells 4 verdict))

-- ---- live
-- a packet that was forwarded, and when
pub record Forwarded : Type 0 where
  pub time : ℕ
  pub packet : Ours

-- "no gap between successive forwarded packets on that slot, nor from the last to now, passes more than Dconn minute boundaries"
abbrev pub NoLongGap : ℕ → ℕ → List Forwarded → Type 0
NoLongGap dconn now [] = Unit {0}
NoLongGap dconn now (last ∷ earlier) = (multiples_passed 60 last.time now ≤ dconn) × NoLongGap dconn last.time earlier

-- "A slot is live at a moment when some earlier packet forwarded on it, other than a closing one from the plant, is such that from it to
-- now" there is no such gap: in these words, of the packets forwarded on it
pub record Live (dconn now : ℕ) (forwarded : List Forwarded) : Type 0 where
  pub newer : List Forwarded
  pub it : Forwarded
  pub older : List Forwarded
  pub some_earlier : forwarded ≡ newer ++ (it ∷ older)
  pub other_than : closes_from_plant it.packet ≡ false
  pub from_it_to_now : NoLongGap dconn now (newer ++ (it ∷ []))

-- The same as a test that computes (`live_is`, history/proofs/Live, says that it is these words). What was live when the history began
-- is given as the slot's own test of a moment: after a cold start nothing was.
abbrev pub is_live : (ℕ → Bool) → ℕ → ℕ → List Forwarded → Bool
is_live held dconn now [] = held now
is_live held dconn now (last ∷ earlier) =
    leb (multiples_passed 60 last.time now) dconn && (not (closes_from_plant last.packet) || is_live held dconn last.time earlier)

-- ---- H: "1 per verdict 2 and 2 per verdict 3"
abbrev pub credit_of : Option ℕ → ℕ
credit_of verdict = cond (tells 2 verdict) 1 (cond (tells 3 verdict) 2 0)

-- ---- R: "the answers that name it as replaced"
abbrev pub replacements : ℕ → List Event → ℕ
replacements address [] = 0
replacements address (event ∷ before) = replacements address before + times_in address (told event).lost

-- ---- the clock: the time that it was last set to, and before that the start's
abbrev pub clock_after : ℕ → List Event → ℕ
clock_after began [] = began
clock_after began (event ∷ before) = unwrap_or (told event).clock (clock_after began before)

module _ (site : Site) where
  abbrev pub slot_for : Ours → ℕ
  slot_for packet = site.rules.slot site.placing packet.header packet.from_plant site.records

  -- the packet that was judged
  abbrev pub packet_in : JudgedPacket → Ours
  packet_in it = ours_of site it.bytes

  -- the packets forwarded on a slot
  abbrev pub forwarded_by : ℕ → Option JudgedPacket → List Forwarded → List Forwarded
  forwarded_by slot None before = before
  forwarded_by slot (Some it) before =
      cond (forwards (Some it.verdict) && eqb (slot_for (packet_in it)) slot)
      (record { time = it.time; packet = packet_in it } ∷ before)
      before

  abbrev pub forwarded_on : ℕ → List Event → List Forwarded
  forwarded_on slot [] = []
  forwarded_on slot (event ∷ before) = forwarded_by slot (told event).judged (forwarded_on slot before)

  -- "A fresh contact is a forwarded cell packet whose slot was not live.": in these words, of a packet, when it came, the verdict that was
  -- told of it, and what came before it
  pub record Fresh (time : ℕ) (packet : Ours) (verdict : Option ℕ) (before : List Event) : Type 0 where
    pub forwarded : forwards verdict ≡ true
    pub cell_packet : packet.from_plant ≡ false
    pub slot_not_live : Live site.limits.dconn time (forwarded_on (slot_for packet) before) → ⊥

  -- H, for an address
  abbrev pub credit_by : ℕ → Option JudgedPacket → ℕ
  credit_by address None = 0
  credit_by address (Some it) = cond (eqb (cell_address (packet_in it)) address) (credit_of (Some it.verdict)) 0

  abbrev pub credits : ℕ → List Event → ℕ
  credits address [] = 0
  credits address (event ∷ before) = credits address before + credit_by address (told event).judged

  module _ (start : Start) where
    -- D: "the multiples of Dmiss passed since the cold start", which is where the run begins
    abbrev pub decays : List Event → ℕ
    decays history = multiples_passed site.limits.dmiss start.state.clock (clock_after start.state.clock history)

    -- whether the packet's slot is live at a moment, by what came before
    abbrev pub live_for : Ours → ℕ → List Event → Bool
    live_for packet now before =
        is_live (start.held (slot_for packet)) site.limits.dconn now (forwarded_on (slot_for packet) before)

    -- whether a contact is fresh, as a test that computes (`fresh_is`, history/proofs/Live, says that after a cold start it is those words)
    abbrev pub is_fresh : ℕ → Ours → Option ℕ → List Event → Bool
    is_fresh time packet verdict before = forwards verdict && (not packet.from_plant && not (live_for packet time before))

    -- F: the fresh contacts of an address that were forwarded, each by its weight, which by document 01's rules is 1
    abbrev pub fresh_by : ℕ → Option JudgedPacket → List Event → ℕ
    fresh_by address None before = 0
    fresh_by address (Some it) before =
        cond (eqb (cell_address (packet_in it)) address && is_fresh it.time (packet_in it) (Some it.verdict) before)
        (site.rules.weight (packet_in it).header)
        0

    abbrev pub fresh_contacts : ℕ → List Event → ℕ
    fresh_contacts address [] = 0
    fresh_contacts address (event ∷ before) = fresh_contacts address before + fresh_by address (told event).judged before
