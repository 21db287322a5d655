-- The premises of `opens_nothing` (gateway/proofs/Openings) are met: by the state and the packet of specs/Tester, where the slot has the plant's
-- mark. So the tester's SYN+FIN is dropped as blocked.
-- Assumes nothing.
use mathlib.Core.Bool.{true, false}
use mathlib.Core.Path.{◌≡◌, refl}
use Rattle.std.specs.Prelude.{Some, None}
use Rattle.laws.specs.Search.{every, first_below, foremost}
use Rattle.laws.specs.Times.{times, how_many}
use Rattle.settings.specs.declared.Limits.{Limits}
use Rattle.settings.specs.Settings.{bad_limits}
use Rattle.places.specs.Places.{slot_of, place_of}
use Rattle.sides.specs.declared.Direction.TheVariants.{FromCell}
use Rattle.sides.specs.Lists.{bad_list, holds, rank_at, rank_of, best_number, best_in, decided}
use Rattle.packet.specs.Header.{needed, header_refusal, transport_of, header_of}
use Rattle.packet.proofs.Flags.{Opens}
use Rattle.records.specs.Records.{marks_of, aged_by}
use Rattle.counts.specs.Counts.{is_empty, decayed_by}
use Rattle.entries.specs.Entries.{own_way, count_in, count_of}
use Rattle.tables.specs.Sizes.{bad_sizes}
use Rattle.tables.specs.Clock.{multiples_passed, time_passed}
use Rattle.rulings.specs.Answers.{verdict_told}
use Rattle.rulings.specs.Rules.{rules_of}
use Rattle.refusals.specs.Refusals.{early_refusal}
use Rattle.gateway.specs.Packets.{record_met, direction_in}
use Rattle.gateway.specs.Calls.{packet_refusal, judged}
use Rattle.gateway.proofs.Openings.{tables_then, spot_then, BlockedThen, opens_nothing}
use Rattle.witnesses.specs.Tight.{gateway}
use Rattle.witnesses.specs.Tester.{state, syn_fin}
use Rattle.witnesses.proofs.Permuted.{permuted}

abbrev limits : Limits
limits = gateway.settings.limits

accepted : packet_refusal limits gateway.cell gateway.plant 100 syn_fin state ≡ None
unfolding every bad_limits bad_sizes bad_list early_refusal needed header_refusal
accepted = refl

from_cell : direction_in gateway.cell gateway.plant (header_of syn_fin) ≡ FromCell
unfolding every first_below foremost holds rank_at rank_of best_number best_in decided header_of
from_cell = refl

opening : Opens syn_fin
opening = record { of_tcp = refl; first = refl; syn = refl; no_ack = refl }

blocked : BlockedThen (rules_of limits) limits 100 syn_fin state
unfolding times how_many first_below place_of header_of is_empty own_way count_in count_of multiples_passed time_passed decayed_by
blocked = rw permuted.machine_1 refl

-- where it is looked up the record has the plant's mark, and that alone
pub plant_mark : let record-met = record_met (spot_then (rules_of limits) limits 100 syn_fin state) (tables_then (rules_of limits) limits 100 syn_fin state) in
    marks_of record-met ≡ record { plant = true; cell = false }
unfolding times how_many first_below slot_of transport_of header_of multiples_passed time_passed aged_by decayed_by
plant_mark = rw (permuted.plant, permuted.plant_and_1, permuted.slot_1_6379) refl

pub dropped : verdict_told (judged (rules_of limits) limits gateway.cell gateway.plant 100 syn_fin state).answer ≡ Some 6
dropped = opens_nothing (rules_of limits) limits 100 syn_fin state gateway.cell gateway.plant accepted from_cell opening blocked
