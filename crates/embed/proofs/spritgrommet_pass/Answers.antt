-- `embed::spritgrommet_pass` meets its contract: the gateway's own, with its answer in plain numbers.
-- Assumes nothing.
use borrow.Author.Rules.{rules}
use Rattle.refused.specs.Refused.{refusal_in}
use Rattle.embed.proofs.Keeps.{in_plain, passed_keeps}
use Rattle.embed.proofs.spritgrommet_pass.Goals as goal

pub returns : goal.returns
returns c =
    in_plain refusal_in (passed_keeps _ _ _ _) c.pass-reply.ensures.state
    c.of_reply.ensures (search rules) (search rules) (search rules) (search rules)
