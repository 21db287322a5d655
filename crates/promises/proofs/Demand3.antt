-- Demand 3 holds: for all settings in their range, side lists, sizes, start times and lists of calls.
-- Assumes nothing.
use mathlib.Core.List.{List}
use native.Mathlib.Omega.{arith}
use Rattle.history.specs.Runs.{Call}
use Rattle.books.proofs.Runs.{bound, not_before}
use Rattle.promises.specs.Demand3.{Gateway, StartsCold, OfBytes, first, Demand3}
use Rattle.promises.proofs.Cold.{setup, good_first, all_fit}

pub demand3 : (g : Gateway) → StartsCold g → (calls : List Call) → OfBytes calls → Demand3 g calls
unfolding setup
demand3 g cold calls bytes =
    record {
      bounded = λ address l. omega (arith, bound (setup g cold) (first g) (good_first g cold) calls (all_fit g cold calls bytes) address l);
      not_before = λ after before time packet answered e six. omega (
        arith,
        not_before (setup g cold) (first g) (good_first g cold) calls (all_fit g cold calls bytes) after before time packet answered e six,
      );
    }
