-- `entries::count_of` meets its contract: the count in the line that is lent.
-- Assumes nothing.
use mathlib.Core.Path.{sym, ◌∙◌}
use native.Mathlib.Omega.{arith}
use mir.Syntax.{w16}
use mir.ValLaws.{to_z-of_z}
use Rattle.laws.proofs.Tests.{cond_at}
use Rattle.entries.proofs.Lines.{has_line, lent_is}
use Rattle.entries.specs.Entries.{count_in, count_of}
use Rattle.entries.proofs.count_of.Goals as goal

pub returns-then-lacks_line : goal.returns-then-lacks_line
unfolding count_of
returns-then-lacks_line c = sym (cond_at _ _ (sym c.lacks_line.ensures ∙ c.if-lacks_line.true))

pub slice_bounds-count_in-end : goal.slice_bounds-count_in-end
slice_bounds-count_in-end c = omega (arith, has_line c.args.line _ _ (sym c.lacks_line.ensures ∙ c.if-lacks_line.false))

pub slice_bounds-count_in-end-2 : goal.slice_bounds-count_in-end-2
slice_bounds-count_in-end-2 c = omega (arith, has_line c.args.line _ _ (sym c.lacks_line.ensures ∙ c.if-lacks_line.false))

pub returns : goal.returns
unfolding count_of
returns c =
    to_z-of_z w16 _ (record { sfits = c.count_in.type_inv })
    ∙ c.count_in.ensures
    ∙ (λ i. count_in c.args.tag (lent_is c.args.line c.args.tags.now i) (lent_is c.args.line c.args.counts.now i))
    ∙ sym (cond_at _ _ (sym c.lacks_line.ensures ∙ c.if-lacks_line.false))
