-- `records::age_all` meets its contract: none where no boundary was passed.
-- Assumes nothing.
use mathlib.Core.Path.{sym}
use native.Mathlib.Omega.{arith}
use Rattle.laws.proofs.Sweep.{map_none}
use Rattle.records.proofs.Ages.{aged_none}
use Rattle.records.specs.Records.{aged_by}
use Rattle.records.proofs.age_all.Goals as goal

pub returns-then-minutes-eq0 : goal.returns-then-minutes-eq0
returns-then-minutes-eq0 c =
    sym (map_none (aged_by c.args.dconn) (aged_none c.args.dconn) c.args.minutes (omega arith) c.args.records.now)
