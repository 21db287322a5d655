-- `tables::sizes::fits_records` meets its contract: the arm's keys are the definition's sizes.
-- Assumes nothing.
use mathlib.Core.Path.{sym}
use Rattle.laws.proofs.Arms.{a_key, no_key}
use Rattle.tables.specs.Sizes.{record_sizes}
use Rattle.tables.proofs.sizes.fits_records.Goals as goal

pub returns-in-16 : goal.returns-in-16
returns-in-16 c = sym (a_key record_sizes _ c.in-16.is)

pub returns-in_default : goal.returns-in_default
returns-in_default c = sym (no_key record_sizes _ c.in_default.in_default-own.rest.1)
