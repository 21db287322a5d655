-- The steps by which the code finds a record come to what the definition says.
-- Assumes nothing.
use mathlib.Core.Bool.{Bool, true, false, not, ◌&&◌, ◌||◌}
use mathlib.Core.Path.{◌≡◌, sym, ap, ◌∙◌}
use Prim.Native.Nat.{ℕ}
use Rattle.laws.proofs.Tests.{cond_at}
use Rattle.packet.specs.declared.kinds.Kind.{Kind}
use Rattle.records.specs.declared.Marks.{Marks}
use Rattle.records.specs.Records.{marks_of, record_of}
use Rattle.verdicts.specs.declared.Verdict.{Verdict}
use Rattle.verdicts.specs.Verdicts.{is_forwarded, is_closing, is_counted, plant_begins, marks_after, record_after}

module _ (from_plant : Bool) (kind : Kind) (verdict : Verdict) (byte : ℕ) {marks : Marks} {dropped closing : Bool}
    (m : marks ≡ marks_of byte) (f : dropped ≡ not (is_forwarded verdict)) (c : closing ≡ is_closing kind) where
  -- the test of what leaves a record, as the definition has it
  leaves_is : (dropped || (plant_begins from_plant marks && closing))
      ≡ (not (is_forwarded verdict) || (plant_begins from_plant (marks_of byte) && is_closing kind))
  leaves_is = λ i. f i || (plant_begins from_plant (m i) && c i)

  pub left_alone : (dropped || (plant_begins from_plant marks && closing)) ≡ true → byte ≡ record_after from_plant kind verdict byte
  unfolding record_after
  left_alone t = sym (cond_at _ _ (sym leaves_is ∙ t))

  pub renewed_as : {counted : Bool} {new : Marks} {r : ℕ} → (dropped || (plant_begins from_plant marks && closing)) ≡ false
      → counted ≡ is_counted verdict → new ≡ marks_after from_plant marks (counted || plant_begins from_plant marks) → r ≡ record_of new 0
      → r ≡ record_after from_plant kind verdict byte
  unfolding record_after
  renewed_as t k n e =
      e ∙ ap (λ (x : Marks). record_of x 0) n
      ∙ (λ i. record_of (marks_after from_plant (m i) (k i || plant_begins from_plant (m i))) 0)
      ∙ sym (cond_at _ _ (sym leaves_is ∙ t))
