-- What is asked of a run's rules. A gateway's own have it for all limits in their range, and later ones may have it too: the proof is over
-- any that do.
-- Assumes nothing.
use mathlib.Core.Bool.{Bool}
use mathlib.Core.Path.{◌≡◌}
use Prim.Native.Nat.{ℕ, suc, ◌+◌, ◌≤◌, ◌<◌}
use lib.IntN.{ℤ}
use Rattle.std.specs.Prelude.{Some}
use Rattle.laws.proofs.Signed.{up, dn}
use Rattle.packet.specs.declared.Header.{Header}
use Rattle.places.specs.declared.Placing.{Placing}
use Rattle.rulings.specs.Rules.{Rules}

-- W: the heaviest contact. U: the highest count that a forwarded contact makes. The count of 16 bits has room for it.
pub record Lawful (rules : Rules) (W U : ℕ) : Type 0 where
  pub block_pos : 1 ≤ rules.threshold
  pub room : rules.threshold ≤ U
  pub wide : rules.threshold + W ≤ suc U
  pub in_sixteen_bits : U ≤ 32767
  pub weight_le : (h : Header) → rules.weight h ≤ W
  pub floor_low : up rules.floor ≡ 0
  pub floor_near : dn rules.floor < 32768
  pub attempt_up : (h : Header) (c d : ℤ) → rules.attempt h c ≡ Some d → (up c ≤ up d) × (dn d ≤ dn c)
  pub slot_lt : (placing : Placing) (h : Header) (from_plant : Bool) (records : ℕ) → 0 < records → rules.slot placing h from_plant records < records
