-- Document 01, "Refusal numbers", below the table: what a cold start writes to the tables.
-- Assumes nothing.
use Rattle.std.specs.Prelude.{length, replicate}
use Rattle.laws.specs.Signed.{minus}
use Rattle.tables.specs.Tables.{Tables, tables_of}

-- "A cold start .. writes 0 to every record and tag and -32,768 to every count"
unfoldable pub cold_tables : Tables → Tables
cold_tables before =
    tables_of
    (replicate (length before.records) 0)
    (replicate (length before.tags) 0)
    (replicate (length before.counts) (minus 32768))
