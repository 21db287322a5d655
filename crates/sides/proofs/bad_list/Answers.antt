-- `sides::bad_list` meets its contract: where the list has neither bytes left over nor too many entries, each of them is tested.
-- Assumes nothing.
use Rattle.std.proofs.Common.{◌≡◌, ℕ, ◌%◌, ◌≤◌, Bool, not, List, leb, length, sym, refl, ◌∙◌, rules, arith}
use Rattle.std.proofs.lemmas.Bool.Decides.{nat_tests}
use borrow.Author.Tests.{le-ltb}
use Rattle.laws.specs.Search.{every}
use Rattle.sides.specs.Lists.{entries, prefix_at, bad_list}
use Rattle.sides.proofs.Chunks.{all_entries}
use Rattle.sides.proofs.bad_list.Goals as goal

by_entries : (l : List ℕ) (short : Bool) → length l % 5 ≡ 0 → entries l ≤ 64 → short ≡ every (entries l) (λ k. leb (prefix_at l k) 32)
    → not short ≡ bad_list l
unfolding bad_list
by_entries l short none few e = rw (none, le-ltb 64 (entries l) few, e) refl

pub returns-else-too_many : goal.returns-else-too_many
returns-else-too_many c =
    let empty = sym c.is_empty.ensures ∙ c.if-too_many.false.0 in
    let none : length c.as_chunks.result.1.now ≡ 0 = grind (arith, nat_tests) in
    by_entries c.args.list.now c.all_short.result (sym c.as_chunks.ensures.back_len ∙ none) (search rules)
    (c.all_short.ensures ∙ rw c.as_chunks.ensures.front (all_entries c.args.list.now))
