-- The calls' steps, one after the other, come to what the definitions say.
-- Assumes nothing.
use mathlib.Core.Bool.{Bool, false}
use mathlib.Core.Path.{◌≡◌, refl}
use Prim.Native.Nat.{ℕ, ◌^◌, ◌<◌, ◌≤◌}
use native.Mathlib.Omega.{arith}
use lib.Pow.{pow_mono, pow_pos}
use Rattle.std.specs.Prelude.{Option, None, Some}
use Rattle.refused.specs.declared.Refusal.{Refusal}
use Rattle.refused.specs.Refused.{refusal_or}
use Rattle.packet.specs.declared.Header.{Header}
use Rattle.places.specs.declared.Placing.{Placing}
use Rattle.places.proofs.Places.{slot_lt}
use Rattle.tables.specs.Sizes.{bad_sizes}
use Rattle.tables.proofs.Powers.{sized}
use Rattle.rulings.specs.Rules.{slot_rule}
use Rattle.gateway.specs.declared.Spot.{Spot}
use Rattle.gateway.specs.Packets.{spot_of}

-- ---- sizes
-- tables that are not refused fit the 32 bits in which they are looked up
pub sizes_within : (records tags counts : ℕ) → bad_sizes records tags counts ≡ false → (0 < records) × (records ≤ 1048576) × (tags ≤ 1048576)
sizes_within records tags counts e =
    let s = sized records tags counts e in
    let r = s.record_count in
    let l = s.line_count in
    let many : 2 ^ r.exponent ≤ 1048576 = pow_mono {i = r.exponent} {j = 20} (omega (arith, r.most)) in
    let most : 2 ^ l.exponent ≤ 262144 = pow_mono {i = l.exponent} {j = 18} (omega (arith, l.most)) in
    (omega (arith, r.is, pow_pos r.exponent), omega (arith, r.is), omega (arith, l.is, s.four_each))

-- the slot is one of the records
pub slot_within : (placing : Placing) (h : Header) (from_plant : Bool) (records tags : ℕ) {spot : Spot}
    → spot ≡ spot_of slot_rule placing h from_plant records tags → 0 < records → spot.slot < records
slot_within placing h from_plant records tags e some = rw e (slot_lt placing.keys _ _ _ records some)

-- ---- a packet's refusals
pub first_none : (one other : Option Refusal) → refusal_or one other ≡ None → one ≡ None
first_none None other e = refl
first_none (Some refusal) other e = e
