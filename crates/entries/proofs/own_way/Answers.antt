-- `entries::own_way` meets its contract: a search of four ways.
-- Assumes nothing.
use mathlib.Core.Bool.{Bool, not, ◌&&◌}
use mathlib.Core.Path.{◌≡◌, sym, ap, ◌∙◌}
use Prim.Native.Nat.{ℕ}
use mathlib.Core.List.{List}
use lib.Dec.{eqb}
use lib.ListN.{get_or}
use lib.IntN.{ℤ, pos}
use native.Mathlib.Omega.{arith}
use borrow.Author.Rules.{rules}
use mir.Syntax.{w16}
use mir.Val.{SFits, to_z, of_z}
use mir.ValLaws.{to_z-of_z}
use Rattle.laws.proofs.Search.{search_hit, search_end}
use Rattle.counts.specs.Counts.{is_empty}
use Rattle.entries.specs.Entries.{is_own, own_way}
use Rattle.entries.proofs.own_way.Goals as goal

-- what was tested is whether the way's entry is the tag's
tested : (tag : ℕ) (tags : List ℕ) (counts : List ℤ) (way : ℕ) {empty : Bool} → SFits w16 (get_or counts way (pos 0))
    → empty ≡ is_empty (to_z w16 (of_z w16 (get_or counts way (pos 0)))) → is_own tag tags counts way ≡ (not empty && eqb (get_or tags way 0) tag)
tested tag tags counts way fits is =
    ap (λ (t : Bool). not t && eqb (get_or tags way 0) tag) (ap is_empty (sym (to_z-of_z w16 _ fits)) ∙ sym is)

pub returns-then-empty-tags : goal.returns-then-empty-tags
unfolding own_way
returns-then-empty-tags c =
    search_hit c.loop-way.invariant (omega arith) (tested c.args.tag c.args.tags.now c.args.counts.now c.loop-way.way (search rules) c.is_empty-empty.ensures ∙ c.if-empty-tags.true)

pub returns : goal.returns
unfolding own_way
returns c =
    let last : c.loop-way.way ≡ 4 = omega arith in
    sym last ∙ search_end c.loop-way.invariant (omega arith)
