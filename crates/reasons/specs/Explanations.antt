-- The documents' values for each case of an explanation. "It is refused exactly as the packet would be".
-- Assumes nothing.
use Rattle.std.specs.Prelude.{Bool, false, ◌||◌, ℕ, eqb, ℤ, Option, None, Some, Result, Ok, Err}
use Rattle.refused.specs.declared.Refusal.{Refusal}
use Rattle.verdicts.specs.Verdicts.{number_of}
use Rattle.reasons.specs.declared.Drop.{Drop}
use Rattle.reasons.specs.declared.Explanation.{Explanation}
use Rattle.reasons.specs.declared.Explanation.TheVariants.{NotOurs, Forwarded, Dropped}

-- "0 not ours", and 1 to 6 for a packet of ours
abbrev pub verdict_explained : Result Explanation Refusal → Option ℕ
verdict_explained (Err refusal) = None
verdict_explained (Ok NotOurs) = Some 0
verdict_explained (Ok (Forwarded verdict)) = Some (number_of verdict)
verdict_explained (Ok (Dropped drop)) = Some (number_of drop.verdict)

-- "Verdicts 0 to 4 get the verdict alone": what is told beside the others, the facts that are reported, "the entries of the side lists that
-- decided, the count and T"
abbrev pub drop_explained : Result Explanation Refusal → Option Drop
drop_explained (Err refusal) = None
drop_explained (Ok NotOurs) = None
drop_explained (Ok (Forwarded verdict)) = None
drop_explained (Ok (Dropped drop)) = Some drop

abbrev pub count_explained : Result Explanation Refusal → Option ℤ
count_explained (Err refusal) = None
count_explained (Ok NotOurs) = None
count_explained (Ok (Forwarded verdict)) = None
count_explained (Ok (Dropped drop)) = Some drop.count

-- "5 dropped, hygiene. 6 dropped, blocked."
abbrev pub is_drop_number : Option ℕ → Bool
is_drop_number None = false
is_drop_number (Some number) = eqb number 5 || eqb number 6
