-- `records::aged` meets its contract: none, or as many minutes as a record can tell apart.
-- Assumes nothing.
use Prim.Native.Nat.{ℕ}
use Rattle.records.proofs.Ages.{aged_none, in_bytes}
use Rattle.records.specs.Records.{aged_by}
use mathlib.Core.Path.{sym, ap, ◌∙◌}
use Rattle.records.proofs.aged.Goals as goal

pub returns-then-minutes-eq0 : goal.returns-then-minutes-eq0
returns-then-minutes-eq0 c =
    sym (ap (λ (m : ℕ). aged_by c.args.dconn m c.args.byte) c.if-minutes-eq0.true ∙ aged_none c.args.dconn c.args.byte)

pub returns : goal.returns
returns c =
    c.older.ensures ∙ in_bytes c.args.dconn c.args.minutes c.min.ensures c.min-2.ensures c.args.byte
