-- `sides::winning_entry` meets its contract: by the side that was decided.
-- Assumes nothing.
use Rattle.std.proofs.Common.{arith}
use Rattle.sides.proofs.Steps.{on_side, decides}
use Rattle.sides.proofs.winning_entry.Goals as goal

pub returns-in-Cell : goal.returns-in-Cell
returns-in-Cell c =
    let ofCell = c.best_in.ensures 0 (record { number = 0; rank = 0 }) (omega arith) in
    let ofPlant = c.best_in-2.ensures 0 (record { number = 0; rank = 0 }) (omega arith) in
    rw (c.in-Cell.is, ofCell) (on_side _ _ _ _ _ (decides ofCell ofPlant c.in-Cell.is c.side_by-side.ensures))

pub returns-in-Plant : goal.returns-in-Plant
returns-in-Plant c =
    let ofCell = c.best_in.ensures 0 (record { number = 0; rank = 0 }) (omega arith) in
    let ofPlant = c.best_in-2.ensures 0 (record { number = 0; rank = 0 }) (omega arith) in
    rw (c.in-Plant.is, ofPlant) (on_side _ _ _ _ _ (decides ofCell ofPlant c.in-Plant.is c.side_by-side.ensures))

pub returns-in-Neither : goal.returns-in-Neither
returns-in-Neither c =
    let ofCell = c.best_in.ensures 0 (record { number = 0; rank = 0 }) (omega arith) in
    let ofPlant = c.best_in-2.ensures 0 (record { number = 0; rank = 0 }) (omega arith) in
    on_side _ _ _ _ _ (decides ofCell ofPlant c.in-Neither.is c.side_by-side.ensures)
