-- `entries::write` meets its contract: what the writer did to the line, said of the table.
-- Assumes nothing.
use mathlib.Core.Path.{sym, ◌∙◌}
use native.Mathlib.Omega.{arith}
use mir.Syntax.{w16}
use mir.ValLaws.{to_z-of_z}
use Rattle.laws.proofs.Tests.{cond_at}
use Rattle.entries.proofs.Lines.{has_line, line_written}
use Rattle.entries.specs.Entries.{written}
use Rattle.entries.proofs.write.Goals as goal

pub returns-then-lacks_line : goal.returns-then-lacks_line
unfolding written
returns-then-lacks_line c = sym (cond_at _ _ (sym c.lacks_line.ensures ∙ c.if-lacks_line.true))

pub slice_bounds-write_entry-end : goal.slice_bounds-write_entry-end
slice_bounds-write_entry-end c = omega (arith, has_line c.args.line _ _ (sym c.lacks_line.ensures ∙ c.if-lacks_line.false))

pub slice_bounds-write_entry-end-2 : goal.slice_bounds-write_entry-end-2
slice_bounds-write_entry-end-2 c = omega (arith, has_line c.args.line _ _ (sym c.lacks_line.ensures ∙ c.if-lacks_line.false))

pub returns : goal.returns
returns c =
    line_written c.args.line c.args.tag c.args.count c.args.tags.now c.args.counts.now _ _ _ (sym c.lacks_line.ensures ∙ c.if-lacks_line.false)
    (rw (to_z-of_z w16 _ c.ranges.count) at c.write_entry.ensures)
