-- `sides::winner` meets its contract: by the side that was decided, whose best entry lies within its list.
-- Assumes nothing.
use Rattle.std.proofs.Common.{◌∙◌, arith}
use Rattle.sides.proofs.Steps.{in_list, on_side, decides, cell_holds, plant_holds}
use Rattle.sides.proofs.winner.Goals as goal

pub part-requires : goal.part-requires
part-requires c =
    let ofCell = c.best_in.ensures 0 (record { number = 0; rank = 0 }) (omega arith) in
    let ofPlant = c.best_in-2.ensures 0 (record { number = 0; rank = 0 }) (omega arith) in
    rw ofCell (in_list _ _ (cell_holds _ _ (decides ofCell ofPlant c.in-Cell.is c.side_by.ensures)))

pub part-requires-in-Plant : goal.part-requires-in-Plant
part-requires-in-Plant c =
    let ofCell = c.best_in.ensures 0 (record { number = 0; rank = 0 }) (omega arith) in
    let ofPlant = c.best_in-2.ensures 0 (record { number = 0; rank = 0 }) (omega arith) in
    rw ofPlant (in_list _ _ (plant_holds _ _ (decides ofCell ofPlant c.in-Plant.is c.side_by.ensures)))

pub returns-in-Cell : goal.returns-in-Cell
returns-in-Cell c =
    let ofCell = c.best_in.ensures 0 (record { number = 0; rank = 0 }) (omega arith) in
    let ofPlant = c.best_in-2.ensures 0 (record { number = 0; rank = 0 }) (omega arith) in
    let on = decides ofCell ofPlant c.in-Cell.is c.side_by.ensures in
    record {
      bytes = (rw ofCell at c.part.ensures.bytes) ∙ on_side _ _ _ _ _ on;
      place = (rw ofCell at c.part.ensures.place) ∙ on_side _ _ _ _ _ on;
    }

pub returns-in-Plant : goal.returns-in-Plant
returns-in-Plant c =
    let ofCell = c.best_in.ensures 0 (record { number = 0; rank = 0 }) (omega arith) in
    let ofPlant = c.best_in-2.ensures 0 (record { number = 0; rank = 0 }) (omega arith) in
    let on = decides ofCell ofPlant c.in-Plant.is c.side_by.ensures in
    record {
      bytes = (rw ofPlant at c.part-in-Plant.ensures.bytes) ∙ on_side _ _ _ _ _ on;
      place = (rw ofPlant at c.part-in-Plant.ensures.place) ∙ on_side _ _ _ _ _ on;
    }

pub returns-in-Neither : goal.returns-in-Neither
returns-in-Neither c =
    let ofCell = c.best_in.ensures 0 (record { number = 0; rank = 0 }) (omega arith) in
    let ofPlant = c.best_in-2.ensures 0 (record { number = 0; rank = 0 }) (omega arith) in
    let on = decides ofCell ofPlant c.in-Neither.is c.side_by.ensures in
    record { bytes = on_side _ _ _ _ _ on; place = on_side _ _ _ _ _ on }
