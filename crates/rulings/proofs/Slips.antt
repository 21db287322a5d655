-- Document 01, "Easy slips", of rulings: by its rules a dropped packet leaves record and count, and writes no entry.
-- Assumes nothing.
use mathlib.Core.Bool.{Bool, false, cond}
use mathlib.Core.Path.{◌≡◌, refl, sym, ap, ◌∙◌}
use Prim.Native.Nat.{ℕ}
use lib.IntN.{ℤ}
use Rattle.std.specs.Prelude.{Option, None}
use Rattle.laws.proofs.Tests.{true_is_not_false}
use Rattle.settings.specs.declared.Limits.{Limits}
use Rattle.packet.specs.declared.Header.{Header}
use Rattle.records.specs.Records.{marks_of, is_unmarked}
use Rattle.verdicts.proofs.Slips.{drop_leaves_the_record}
use Rattle.rulings.proofs.Steps.{no_attempt}
use Rattle.verdicts.specs.declared.Verdict.{Verdict}
use Rattle.verdicts.specs.declared.Verdict.TheVariants.{Uncounted, CreditOfOne, CreditOfTwo, FreshContact, Hygiene, Blocked}
use Rattle.rulings.specs.Rules.{rules_of}
use Rattle.rulings.specs.Rulings.{count_written, counted_by, ruling_of}
use Rattle.verdicts.specs.Verdicts.{is_forwarded}

-- a dropped packet writes no count
drop_writes : (floor : ℤ) (point weight : ℕ) (verdict : Verdict) (count : ℤ) → is_forwarded verdict ≡ false
    → count_written floor point weight None verdict count ≡ None
unfolding count_written
drop_writes floor point weight Uncounted count d = true_is_not_false refl d
drop_writes floor point weight CreditOfOne count d = true_is_not_false refl d
drop_writes floor point weight CreditOfTwo count d = true_is_not_false refl d
drop_writes floor point weight FreshContact count d = true_is_not_false refl d
drop_writes floor point weight Hygiene count d = refl
drop_writes floor point weight Blocked count d = refl

none_written : (floor : ℤ) (cold : Bool) (verdict : Verdict) (count : ℤ) → is_forwarded verdict ≡ false
    → count_written floor 1 1 (cond cold None None) verdict count ≡ None
none_written floor cold verdict count d =
    ap (λ (a : Option ℤ). count_written floor 1 1 a verdict count) (sym (no_attempt cold)) ∙ drop_writes floor 1 1 verdict count d

pub drop_writes_nothing : (limits : Limits) (h : Header) (from_plant : Bool) (byte : ℕ) (count : ℤ)
    → let r = ruling_of (rules_of limits) h from_plant byte count in
    is_forwarded r.verdict ≡ false → (r.byte ≡ byte) × (r.writes ≡ false) × (r.count ≡ count)
unfolding ruling_of
drop_writes_nothing limits h from_plant byte count d =
    let n = none_written limits.floor (is_unmarked (marks_of byte)) _ count d in
    (drop_leaves_the_record from_plant _ _ byte d, ap (λ (a : Option ℤ). (counted_by count a).writes) n, ap (λ (a : Option ℤ). (counted_by count a).count) n)
