-- The steps by which the code finds a ruling come to what the definition says.
-- Assumes nothing.
use mathlib.Core.Bool.{Bool, true, false, cond}
use mathlib.Core.Path.{◌≡◌, refl, ap, ◌∙◌}
use Prim.Native.Nat.{ℕ}
use lib.IntN.{ℤ}
use Rattle.std.specs.Prelude.{Option, None, Some, is_some, unwrap_or}
use Rattle.settings.specs.declared.Limits.{Limits}
use Rattle.packet.specs.declared.Header.{Header}
use Rattle.records.specs.declared.Marks.{Marks}
use Rattle.records.specs.Records.{marks_of, is_unmarked}
use Rattle.counts.specs.Counts.{is_blocked}
use Rattle.verdicts.specs.declared.Verdict.{Verdict}
use Rattle.rulings.specs.declared.Ruling.{Ruling}
use Rattle.rulings.specs.Rules.{rules_of}
use Rattle.rulings.specs.Rulings.{count_written, counted_by, ruling_of}
use Rattle.verdicts.specs.Verdicts.{verdict_of, record_after}

-- ---- the ruling, by the gateway's rules
-- an attempt that is dropped writes nothing, whatever the marks
pub no_attempt : (cold : Bool) → None ≡ cond {A = Option ℤ} cold None None
no_attempt true = refl
no_attempt false = refl

pub ruled : (limits : Limits) (h : Header) (from_plant : Bool) (byte : ℕ) (count : ℤ)
    {blocked : Bool} {marks : Marks} {verdict : Verdict} {new : ℕ} {after : Option ℤ} {writes : Bool} {last : ℤ}
    → blocked ≡ is_blocked limits.threshold count → marks ≡ marks_of byte → verdict ≡ verdict_of from_plant blocked marks h.transport.kind
    → new ≡ record_after from_plant h.transport.kind verdict byte
    → after ≡ count_written limits.floor 1 1 None verdict count → writes ≡ is_some after → last ≡ unwrap_or after count
    → record { verdict = verdict; byte = new; writes = writes; count = last } ≡ ruling_of (rules_of limits) h from_plant byte count
unfolding ruling_of
ruled limits h from_plant byte count {blocked} {marks} {verdict} b m v n a w l =
    (λ i. built verdict (n i) (w i) (l i))
    ∙ (λ i. built verdict (record_after from_plant h.transport.kind verdict byte) (is_some (a i)) (unwrap_or (a i) count))
    ∙ as_counted (count_written limits.floor 1 1 None verdict count)
    ∙ (λ i. made (no_attempt (is_unmarked (marks_of byte)) i) verdict)
    ∙ ap (made (cond (is_unmarked (marks_of byte)) None None)) (v ∙ (λ i. verdict_of from_plant (b i) (m i) h.transport.kind))
  where
    built : Verdict → ℕ → Bool → ℤ → Ruling
    built x renewed written left = record { verdict = x; byte = renewed; writes = written; count = left }

    counted : Verdict → Option ℤ → Ruling
    counted x new =
        built x (record_after from_plant h.transport.kind x byte) (counted_by count new).writes (counted_by count new).count

    as_counted : (new : Option ℤ)
        → built verdict (record_after from_plant h.transport.kind verdict byte) (is_some new) (unwrap_or new count) ≡ counted verdict new
    as_counted None = refl
    as_counted (Some new) = refl

    made : Option ℤ → Verdict → Ruling
    made attempt x = counted x (count_written limits.floor 1 1 attempt x count)
