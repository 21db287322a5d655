-- `records::older` meets its contract: unmarked, too old, or so many minutes older.
-- Assumes nothing.
use Rattle.records.proofs.Ages.{low_is_cold, high_is_marked, aged_cold, aged_kept, aged_old}
use mathlib.Core.Path.{sym}
use native.Mathlib.Omega.{arith}
use Rattle.records.proofs.older.Goals as goal

pub returns-then-byte-lt64 : goal.returns-then-byte-lt64
returns-then-byte-lt64 c = sym (aged_cold _ _ _ (low_is_cold c.args.byte (omega arith)) (omega arith))

pub returns-then-oldest-byte : goal.returns-then-oldest-byte
returns-then-oldest-byte c = sym (aged_old _ _ _ (high_is_marked c.args.byte (omega arith) (omega arith)) (omega arith) (omega arith))

pub returns : goal.returns
returns c = sym (aged_kept _ _ _ (high_is_marked c.args.byte (omega arith) (omega arith)) (omega arith))
