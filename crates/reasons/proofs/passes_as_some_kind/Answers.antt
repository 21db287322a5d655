-- `reasons::passes_as_some_kind` meets its contract: each kind is tried.
-- Assumes nothing.
use Rattle.std.proofs.Common.{false, rules, tests}
use Rattle.std.proofs.lemmas.Iterator.{YieldsList-from_slice}
use Rattle.std.proofs.lemmas.Iterator.Search.{any_from_yields_List}
use Rattle.verdicts.specs.Verdicts.{is_forwarded, verdict_of}
use Rattle.reasons.specs.Reasons.{kind_values}
use Rattle.reasons.proofs.passes_as_some_kind.Goals as goal

pub returns : goal.returns
returns c =
    any_from_yields_List (λ kind. is_forwarded (verdict_of false c.args.blocked c.args.marks kind)) _ _ _ c.any.ensures.ran
    (YieldsList-from_slice kind_values cc) (λ x b q k. search (rules, tests))
