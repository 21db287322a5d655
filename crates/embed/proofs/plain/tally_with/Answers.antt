-- `plain::tally_with` meets its contract: a refusal leaves all totals, and else the verdict is added to them.
-- Assumes nothing.
use mathlib.Core.Path.{sym, ◌∙◌}
use Rattle.embed.proofs.Numbers.{refused_adds_none, else_adds_verdict}
use Rattle.embed.proofs.plain.tally_with.Goals as goal

pub returns-then-answer-ne0 : goal.returns-then-answer-ne0
returns-then-answer-ne0 c = sym (refused_adds_none _ c.args.answer.verdict _ c.if-answer-ne0.true)

pub returns : goal.returns
returns c = c.with_verdict.ensures ∙ sym (else_adds_verdict _ _ _ c.if-answer-ne0.false)
