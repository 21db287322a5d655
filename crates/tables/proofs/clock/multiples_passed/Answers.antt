-- `tables::clock::multiples_passed` meets its contract: the quotient grows by one at each multiple.
-- Assumes nothing.
use mathlib.Core.Path.{sym, ap, ◌∙◌}
use Prim.Native.Nat.{ℕ}
use native.Mathlib.Omega.{arith}
use Rattle.laws.proofs.Times.{quotient_up}
use Rattle.tables.proofs.Jumps.{passed_is, passed_none, passed_of_none}
use Rattle.tables.specs.Clock.{multiples_passed}
use Rattle.tables.proofs.clock.multiples_passed.Goals as goal

pub returns-then-new-old : goal.returns-then-new-old
returns-then-new-old c = sym (passed_none _ _ _ c.if-new-old.true)

pub returns-then-every-eq0 : goal.returns-then-every-eq0
returns-then-every-eq0 c =
    sym (ap (λ (k : ℕ). multiples_passed k c.args.old c.args.new) c.if-every-eq0.true ∙ passed_of_none c.args.old c.args.new)

pub overflow_sub-result : goal.overflow_sub-result
overflow_sub-result c = quotient_up c.args.every (omega arith)

pub returns : goal.returns
returns c =
    sym (passed_is c.args.every c.args.old c.args.new (omega arith))
