-- `replay::next` meets its contract: a record that is whole lies within the bytes.
-- Assumes nothing.
use mathlib.Core.Path.{◌∙◌, sym}
use native.Mathlib.Omega.{arith}
use Rattle.capture.proofs.Readings.{whole_record}
use Rattle.replay.proofs.next.Goals as goal

pub judge_record-got-requires : goal.judge_record-got-requires
judge_record-got-requires c =
    let told = whole_record _ _ _ (sym c.next.ensures ∙ c.in-Whole.is) in
    (omega (arith, told.1), told.3)
