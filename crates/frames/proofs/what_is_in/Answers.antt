-- `frames::what_is_in` meets its contract: the tests are those of the definition.
-- Assumes nothing.
use mathlib.Core.Path.{sym, ◌∙◌}
use native.Mathlib.Omega.{arith}
use Rattle.words.specs.Words.{two_at}
use Rattle.words.proofs.Words.{there}
use Rattle.frames.proofs.Cases.{too_short, ipv4, another}
use Rattle.frames.proofs.what_is_in.Goals as goal

pub returns-then-frame-lt14 : goal.returns-then-frame-lt14
returns-then-frame-lt14 c = sym (too_short _ c.if-frame-lt14.true)

pub returns-then-two_at-eq2048 : goal.returns-then-two_at-eq2048
returns-then-two_at-eq2048 c =
    let whole = c.if-frame-lt14.false in
    let type = c.two_at.ensures ∙ there 2 two_at _ _ (omega (arith, whole)) in
    sym (ipv4 _ whole (rw type at c.if-two_at-eq2048.true))

pub returns : goal.returns
returns c =
    let whole = c.if-frame-lt14.false in
    let type = c.two_at.ensures ∙ there 2 two_at _ _ (omega (arith, whole)) in
    sym (another _ whole (rw type at c.if-two_at-eq2048.false))
