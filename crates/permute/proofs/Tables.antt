-- The S-boxes and their inverses undo each other: the rule of the two tables, tested whole.
-- Assumes nothing.
use Rattle.std.proofs.Common.{ℕ, ◌<◌, refl}
use Rattle.laws.specs.Search.{every}
use Rattle.laws.proofs.Table.{Undone, undoes, undone}
use Rattle.permute.specs.Permutation.{box, boxes, inverses}

pub boxes_undone : (r : ℕ) → r < 8 → Undone 16 (box boxes r) (box inverses r)
unfolding boxes inverses undoes every
boxes_undone = undone 8 16 (box boxes) (box inverses) refl

pub inverses_undone : (r : ℕ) → r < 8 → Undone 16 (box inverses r) (box boxes r)
unfolding boxes inverses undoes every
inverses_undone = undone 8 16 (box inverses) (box boxes) refl

-- so each row has nibbles
pub boxes_small : (r : ℕ) → r < 8 → (n : ℕ) → n < 16 → box boxes r n < 16
boxes_small r h = (boxes_undone r h).small

pub inverses_small : (r : ℕ) → r < 8 → (n : ℕ) → n < 16 → box inverses r n < 16
inverses_small r h = (inverses_undone r h).small
