-- `embed::spritgrommet_judge` meets its contract: the gateway's own, with its answer in plain numbers.
-- Assumes nothing.
use borrow.Author.Rules.{rules}
use Rattle.embed.specs.Plain.{plain_answer}
use Rattle.embed.proofs.Keeps.{in_plain, judged_keeps}
use Rattle.embed.proofs.spritgrommet_judge.Goals as goal

pub returns : goal.returns
returns c =
    in_plain plain_answer (judged_keeps _ _ _ _ _ _ _) c.judge-answer.ensures.state
    c.from.ensures (search rules) (search rules) (search rules) (search rules)
