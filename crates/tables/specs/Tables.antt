-- Document 01, "Settings and sizes": the gateway's two tables, as three lists.
-- Assumes nothing.
use Rattle.std.specs.Prelude.{List, ℕ, ℤ}
use Rattle.std.specs.Borrow.{MutBor}
use denote.Triple.Both.{Both}

-- the connection table, and the address table "as a list of 32-bit tags and a list of signed 16-bit counts"
pub record Tables : Type 0 where
  pub records : List ℕ
  pub tags : List ℕ
  pub counts : List ℤ

abbrev pub tables_of : List ℕ → List ℕ → List ℤ → Tables
tables_of records tags counts = record { records = records; tags = tags; counts = counts }

-- what a call is lent, at its entry and at its exit: the tables before it and after it
module _ (records tags : Both (MutBor (List ℕ)) (MutBor (List ℕ))) (counts : Both (MutBor (List ℤ)) (MutBor (List ℤ))) where
  abbrev pub lent_tables : Tables
  lent_tables = tables_of records.entry.now tags.entry.now counts.entry.now

  abbrev pub left_tables : Tables
  left_tables = tables_of records.exit.now tags.exit.now counts.exit.now
