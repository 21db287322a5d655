-- `entries::empty_way` meets its contract: a search of four ways.
-- Assumes nothing.
use mathlib.Core.Path.{◌≡◌, sym, ap, ◌∙◌}
use Prim.Native.Nat.{ℕ}
use lib.IntN.{ℤ, pos}
use mathlib.Core.Bool.{Bool}
use mathlib.Core.List.{List}
use lib.ListN.{get_or}
use native.Mathlib.Omega.{arith}
use borrow.Author.Rules.{rules}
use mir.Syntax.{w16}
use mir.Val.{SFits, to_z, of_z}
use mir.ValLaws.{to_z-of_z}
use Rattle.laws.proofs.Search.{search_hit, search_end}
use Rattle.counts.specs.Counts.{is_empty}
use Rattle.entries.specs.Entries.{empty_way}
use Rattle.entries.proofs.empty_way.Goals as goal

-- what was tested is the way's count
tested : (counts : List ℤ) (way : ℕ) {empty : Bool} → SFits w16 (get_or counts way (pos 0))
    → empty ≡ is_empty (to_z w16 (of_z w16 (get_or counts way (pos 0)))) → is_empty (get_or counts way (pos 0)) ≡ empty
tested counts way fits is = ap is_empty (sym (to_z-of_z w16 _ fits)) ∙ sym is

pub returns-then-is_empty : goal.returns-then-is_empty
unfolding empty_way
returns-then-is_empty c =
    search_hit c.loop-way.invariant (omega arith) (tested c.args.counts.now c.loop-way.way (search rules) c.is_empty.ensures ∙ c.if-is_empty.true)

pub returns : goal.returns
unfolding empty_way
returns c =
    let last : c.loop-way.way ≡ 4 = omega arith in
    sym last ∙ search_end c.loop-way.invariant (omega arith)
