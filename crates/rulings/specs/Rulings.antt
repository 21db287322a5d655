-- Document 01, "Verdicts": all that follows for a packet of ours from its record and its cell address's count, by given rules.
-- Assumes nothing.
use Rattle.std.specs.Prelude.{Bool, true, false, cond, ℕ, ◌*◌, ℤ, pos, Option, None, Some}
use Rattle.packet.specs.declared.Header.{Header}
use Rattle.records.specs.Records.{marks_of, is_unmarked}
use Rattle.counts.specs.Counts.{is_blocked, lowered_by, raised_by}
use Rattle.verdicts.specs.declared.Verdict.{Verdict}
use Rattle.verdicts.specs.declared.Verdict.TheVariants.{Uncounted, CreditOfOne, CreditOfTwo, FreshContact, Hygiene, Blocked}
use Rattle.rulings.specs.declared.Ruling.{Ruling}
use Rattle.rulings.specs.Rules.{Rules}
use Rattle.verdicts.specs.Verdicts.{verdict_of, record_after}

-- "The cell address's count becomes the larger of Cmin and count-1 for 2, the same with count-2 for 3, and count+1 for 4. Only these
-- write an entry": the count that is written, if one is. A packet dropped as blocked writes what its attempt does, which under document
-- 01's rules is none.
unfoldable pub count_written : ℤ → ℕ → ℕ → Option ℤ → Verdict → ℤ → Option ℤ
count_written floor point weight attempted Uncounted count = None
count_written floor point weight attempted CreditOfOne count = Some (lowered_by point floor count)
count_written floor point weight attempted CreditOfTwo count = Some (lowered_by (2 * point) floor count)
count_written floor point weight attempted FreshContact count = Some (raised_by weight (pos 32767) count)
count_written floor point weight attempted Hygiene count = None
count_written floor point weight attempted Blocked count = attempted

-- whether a count is written, and the one that the address then has
pub record Counted : Type 0 where
  pub writes : Bool
  pub count : ℤ

abbrev pub counted_by : ℤ → Option ℤ → Counted
counted_by count None = record { writes = false; count = count }
counted_by count (Some new) = record { writes = true; count = new }

module _ (rules : Rules) (h : Header) (from_plant : Bool) (byte : ℕ) (count : ℤ) where
  -- the verdict by the record and the count that the packet meets
  abbrev pub verdict_by : Verdict
  verdict_by = verdict_of from_plant (is_blocked rules.threshold count) (marks_of byte) h.transport.kind

  abbrev pub new_count : Option ℤ
  new_count =
      count_written rules.floor rules.point (rules.weight h) (cond (is_unmarked (marks_of byte)) (rules.attempt h count) None) verdict_by count

  unfoldable pub ruling_of : Ruling
  ruling_of =
      record {
        verdict = verdict_by;
        byte = record_after from_plant h.transport.kind verdict_by byte;
        writes = (counted_by count new_count).writes;
        count = (counted_by count new_count).count;
      }
