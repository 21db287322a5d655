-- `entries::count_in` meets its contract: the count of its own way, or 0.
-- Assumes nothing.
use mathlib.Core.Path.{sym, ◌∙◌}
use mir.Syntax.{w16}
use mir.ValLaws.{to_z-of_z}
use borrow.Author.Tests.{lt-ltb, le-ltb}
use Rattle.laws.proofs.Tests.{cond_at}
use Rattle.entries.specs.Entries.{count_in}
use Rattle.entries.proofs.count_in.Goals as goal

pub returns-then-way-lt4 : goal.returns-then-way-lt4
unfolding count_in
returns-then-way-lt4 c =
    rw (← c.own_way-way.ensures) (to_z-of_z w16 _ (record { sfits = c.result-1.given }) ∙ sym (cond_at _ _ (lt-ltb _ 4 c.if-way-lt4.true)))

pub returns : goal.returns
unfolding count_in
returns c = rw (← c.own_way-way.ensures) (sym (cond_at _ _ (le-ltb _ 4 c.if-way-lt4.false)))
