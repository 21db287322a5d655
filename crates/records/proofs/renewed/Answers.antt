-- `records::renewed` meets its contract: one number for each pair of marks.
-- Assumes nothing.
use Rattle.records.proofs.renewed.Goals as goal

pub returns-then-marks-2 : goal.returns-then-marks-2
returns-then-marks-2 c = rw (c.if-marks.true, c.if-marks-2.true)

pub returns-else-marks-2 : goal.returns-else-marks-2
returns-else-marks-2 c = rw (c.if-marks.true, c.if-marks-2.false)

pub returns-then-marks-3 : goal.returns-then-marks-3
returns-then-marks-3 c = rw (c.if-marks.false, c.if-marks-3.true)

pub returns-else-marks-3 : goal.returns-else-marks-3
returns-else-marks-3 c = rw (c.if-marks.false, c.if-marks-3.false)
