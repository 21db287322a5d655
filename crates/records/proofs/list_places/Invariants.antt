-- `records::list_places` meets its contract: every place is written down, and kept where both differ.
use mathlib.Core.Bool.{not}
use lib.Dec.{eqb}
use lib.ListN.{length, get_or}
use Rattle.laws.proofs.Places.{Listing}
use Rattle.records.proofs.list_places.Given as goal

abbrev pub invariant-loop-place : goal.invariant-loop-place
invariant-loop-place l = Listing (length l.records) (λ slot. not (eqb (get_or l.records slot 0) (get_or l.older slot 0))) l.initial.places l.places l.listed l.place
