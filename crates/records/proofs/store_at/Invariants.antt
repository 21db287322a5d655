-- `records::store_at` meets its contract: one listed place after the other, and between them nothing differs.
use mathlib.Core.Bool.{not}
use lib.Dec.{eqb}
use Rattle.laws.proofs.Places.{Storing}
use Rattle.records.proofs.store_at.Given as goal

abbrev pub invariant-loop-place : goal.invariant-loop-place
invariant-loop-place l = Storing (λ x y. not (eqb x y)) 0 l.initial.records l.older l.places l.records l.place-index
