-- Document 01, "Easy slips", of verdicts: a RST from the plant earns nothing, and a dropped packet leaves its record.
-- Assumes nothing.
use mathlib.Core.Bool.{Bool, true, false, not, ◌||◌}
use mathlib.Core.Path.{◌≡◌, refl, ap}
use Prim.Native.Nat.{ℕ}
use Rattle.laws.proofs.Tests.{cond_at}
use Rattle.packet.specs.declared.kinds.Kind.{Kind}
use Rattle.packet.specs.declared.kinds.Kind.TheVariants.{Closing}
use Rattle.records.specs.declared.Marks.{Marks}
use Rattle.records.specs.Records.{marks_of}
use Rattle.verdicts.specs.declared.Verdict.{Verdict}
use Rattle.verdicts.specs.declared.Verdict.TheVariants.{Uncounted}
use Rattle.verdicts.specs.Verdicts.{is_forwarded, is_untouched, from_the_plant, verdict_of, record_after}

-- "Crediting a RST from the plant as an answer: every refused probe would earn two points." RST and RST+ACK are closing.
closing_earns : (own other : Bool) → from_the_plant own other Closing ≡ Uncounted
unfolding from_the_plant
closing_earns true other = refl
closing_earns false true = refl
closing_earns false false = refl

pub rst_earns_nothing : (blocked : Bool) (marks : Marks) → verdict_of true blocked marks Closing ≡ Uncounted
unfolding verdict_of
rst_earns_nothing blocked marks = closing_earns marks.plant marks.cell

-- "Making the age 0 on a dropped packet, so that a scanner keeps marks alive": the record stays, marks and age
pub drop_leaves_the_record : (from_plant : Bool) (kind : Kind) (verdict : Verdict) (byte : ℕ) → is_forwarded verdict ≡ false
    → record_after from_plant kind verdict byte ≡ byte
unfolding record_after
drop_leaves_the_record from_plant kind verdict byte d =
    cond_at _ _ (ap (λ (t : Bool). not t || is_untouched from_plant (marks_of byte) kind) d)
