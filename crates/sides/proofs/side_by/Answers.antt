-- `sides::side_by` meets its contract: the tests are those of the definition.
-- Assumes nothing.
use Rattle.sides.proofs.Steps.{to_plant, to_cell, to_neither}
use Rattle.sides.proofs.side_by.Goals as goal

pub returns-then-in_cell-in_plant : goal.returns-then-in_cell-in_plant
returns-then-in_cell-in_plant c = to_plant _ _ _ _ _ c.if-in_cell-in_plant.true

pub returns-then-in_cell-gt0 : goal.returns-then-in_cell-gt0
returns-then-in_cell-gt0 c = to_cell _ _ _ _ _ c.if-in_cell-in_plant.false c.if-in_cell-gt0.true

pub returns : goal.returns
returns c = to_neither _ _ _ _ _ c.if-in_cell-in_plant.false c.if-in_cell-gt0.false
