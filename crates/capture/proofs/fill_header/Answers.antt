-- `capture::fill_header` meets its contract: its words stand side by side.
-- Assumes nothing.
use mathlib.Core.Bool.{false}
use mathlib.Core.List.{[], ◌∷◌}
use mathlib.Core.Path.{ap, ◌∙◌}
use native.Mathlib.Omega.{arith}
use Rattle.words.specs.Words.{two_bytes, four_bytes, stored}
use Rattle.words.proofs.Words.{stored_in_turn}
use Rattle.capture.specs.Format.{magic}
use Rattle.capture.proofs.fill_header.Goals as goal

pub returns : goal.returns
returns c =
    c.store_four-5.ensures
    ∙ ap (stored _ _) (c.store_four-4.ensures
    ∙ ap (stored _ _) (c.store_four-3.ensures
    ∙ ap (stored _ _) (c.store_four-2.ensures
    ∙ ap (stored _ _) (c.store_two-2.ensures
    ∙ ap (stored _ _) (c.store_two.ensures
    ∙ ap (stored _ _) c.store_four.ensures)))))
    ∙ stored_in_turn
    (four_bytes false magic
    ∷ (two_bytes false 2
    ∷ (two_bytes false 4 ∷ (four_bytes false 0 ∷ (four_bytes false 0 ∷ (four_bytes false 2048 ∷ (four_bytes false 1 ∷ [])))))))
    0 c.args.room.now (omega (arith, c.requires))
