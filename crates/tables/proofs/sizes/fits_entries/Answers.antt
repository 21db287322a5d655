-- `tables::sizes::fits_entries` meets its contract: the definition's sizes are 4, 8 and those of records.
-- Assumes nothing.
use Rattle.tables.proofs.sizes.fits_entries.Goals as goal

pub returns : goal.returns
returns c = rw c.fits_records.ensures
