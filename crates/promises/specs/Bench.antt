-- Document 01, "Bench examples": the numbered ones, as one table. Each row has what the definitions give and what the document says.
-- Assumes nothing.
use Rattle.std.specs.Prelude.{Bool, true, false, List, [], ◌∷◌, ◌++◌, map, ℕ, ℤ, pos, replicate, None}
use Rattle.laws.specs.Signed.{minus}
use Rattle.permute.specs.Permutation.{E}
use Rattle.places.specs.Places.{slot_of, place_of}
use Rattle.records.specs.declared.Marks.{Marks}
use Rattle.records.specs.Records.{record_of}
use Rattle.tables.specs.Clock.{timed_of, time_passed}
use Rattle.settings.specs.declared.Limits.{Limits}
use Rattle.settings.specs.Settings.{factory_settings, with_threshold}
use Rattle.packet.specs.declared.Header.{Header}
use Rattle.packet.specs.declared.kinds.Kind.{Kind}
use Rattle.packet.specs.declared.kinds.Kind.TheVariants.{Udp, Plain}
use Rattle.rulings.specs.declared.Ruling.{Ruling}
use Rattle.verdicts.specs.declared.Verdict.TheVariants.{CreditOfTwo}
use Rattle.rulings.specs.Rules.{rules_of}
use Rattle.rulings.specs.Rulings.{count_written, counted_by, ruling_of}
use Rattle.verdicts.specs.Verdicts.{number_of}

pub record Row : Type 0 where
  pub number : ℕ
  pub computed : List ℤ
  pub said : List ℤ

abbrev row : ℕ → List ℤ → List ℤ → Row
row number computed said = record { number = number; computed = computed; said = said }

-- "Keys zero unless given."
abbrev pub zeros : List ℕ
zeros = replicate 8 0

-- a count, and a record with both marks and an age, after a time was passed; a point of 1, Dmiss 60, Dconn 10
abbrev count_later : ℤ → ℕ → ℕ → List ℤ
count_later count old new = (time_passed 1 60 10 new (timed_of [] (count ∷ []) old)).counts

abbrev marks : Bool → Bool → Marks
marks plant cell = record { plant = plant; cell = cell }

abbrev record_later : ℕ → ℕ → ℕ → List ℤ
record_later age old new = map pos (time_passed 1 60 10 new (timed_of (record_of (marks true true) age ∷ []) [] old)).records

-- the verdict's number and the count after it, for a packet from the cell that meets a record and a count; T 5, and the other limits as
-- the factory has them. Addresses and ports do not matter here.
abbrev five : Limits
five = (with_threshold 5 factory_settings).limits

abbrev packet : Kind → Header
packet kind =
    record {
      source = 0;
      destination = 0;
      protocol = 0;
      later = false;
      transport = record { source_port = 0; destination_port = 0; kind = kind };
    }

abbrev ruled : Kind → Marks → ℤ → List ℤ
ruled kind met count = pos (number_of ruling.verdict) ∷ ruling.count ∷ []
  where
    ruling : Ruling
    ruling = ruling_of (rules_of five) (packet kind) false (record_of met 0) count

unfoldable pub table : List Row
table =
    -- E(0x00000000) = 0xFFFFFFFF
    row 1 (pos (E zeros 0x00000000) ∷ []) (pos 0xFFFFFFFF ∷ []) ∷
    -- E(0xFFFFFFFF) = 0x99999999
    row 2 (pos (E zeros 0xFFFFFFFF) ∷ []) (pos 0x99999999 ∷ []) ∷
    -- E(0x99999999) = 0x77777777
    row 3 (pos (E zeros 0x99999999) ∷ []) (pos 0x77777777 ∷ []) ∷
    -- First key 1, rest 0: E(0xFFFFFFFF) = 0xFFFFFFFF
    row 4 (pos (E (1 ∷ replicate 7 0) 0xFFFFFFFF) ∷ []) (pos 0xFFFFFFFF ∷ []) ∷
    -- Plant 0, cell 0xFFFFFFFF, port 0, 4,096 records: slot 2,457
    row 5 (pos (slot_of zeros 0 0xFFFFFFFF 0 4096) ∷ []) (pos 2457 ∷ []) ∷
    -- Address 0xFFFFFFFF, 256 lines: line 153, tag 10,066,329
    row 6 (pos (place_of zeros 0xFFFFFFFF 256).line ∷ pos (place_of zeros 0xFFFFFFFF 256).tag ∷ []) (pos 153 ∷ pos 10066329 ∷ []) ∷
    -- T 5, count 4, UDP on a cold slot: verdict 4, count 5
    row 7 (ruled Udp (marks false false) (pos 4)) (pos 4 ∷ pos 5 ∷ []) ∷
    -- The same at count 5: verdict 6, count 5
    row 8 (ruled Udp (marks false false) (pos 5)) (pos 6 ∷ pos 5 ∷ []) ∷
    -- Cmin -20, count -19, verdict 3: count -20
    row 9 ((counted_by (minus 19) (count_written (minus 20) 1 1 None CreditOfTwo (minus 19))).count ∷ []) (minus 20 ∷ []) ∷
    -- Dmiss 60, count 3: second 59 to 60 gives 2; 60 to 119 keeps 3; 0 to 600 gives 0. Count -4 stays
    row 10 (count_later (pos 3) 59 60 ++ (count_later (pos 3) 60 119 ++ (count_later (pos 3) 0 600 ++ count_later (minus 4) 0 600)))
    (pos 2 ∷ pos 3 ∷ pos 0 ∷ minus 4 ∷ []) ∷
    -- Dconn 10, age 9, one minute: kept at 10. Age 10: cleared
    row 11 (record_later 9 0 60 ++ record_later 10 0 60) (pos (record_of (marks true true) 10) ∷ pos 0 ∷ []) ∷
    -- T 5, count 5, plain, only plant-to-cell set: verdict 2, count 4
    row 12 (ruled Plain (marks true false) (pos 5)) (pos 2 ∷ pos 4 ∷ []) ∷ []
