-- `records::age_part` meets its contract: where every record is 0 none differs; else each becomes what `age_each` or the room says.
-- Assumes nothing.
use mathlib.Core.Path.{◌≡◌, sym, ap, ◌∙◌}
use mathlib.Core.Bool.{◌&&◌}
use Prim.Native.Nat.{ℕ, ◌-◌}
use native.Mathlib.Omega.{arith}
use lib.Dec.{leb}
use lib.ListN.{take}
use borrow.Author.Rules.{rules}
use Rattle.laws.proofs.Sweep.{map_still}
use Rattle.records.proofs.Ages.{zero_still}
use Rattle.records.specs.Records.{aged_by}
use Rattle.records.proofs.age_part.Goals as goal

pub returns-then-all_between : goal.returns-then-all_between
returns-then-all_between c =
    sym (map_still (aged_by c.args.dconn c.args.minutes) (λ byte. leb 0 byte && leb byte 0) 0 (zero_still c.args.dconn c.args.minutes) c.args.records.now (sym c.all_between.ensures ∙ c.if-all_between.true))

pub store_at-requires : goal.store_at-requires
store_at-requires c =
    let whole : c.list_places-listed.result - 0 ≡ c.list_places-listed.result = omega arith in
    (search rules, ap (λ (k : ℕ). take k c.list_places-listed.new.places) whole ∙ c.list_places-listed.ensures.1)

pub returns : goal.returns
returns c =
    c.store_at.ensures ∙ c.age_into.ensures
