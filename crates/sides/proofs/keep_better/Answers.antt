-- `sides::keep_better` meets its contract. The loop's invariant: below its index each is the better of the two, and from there on as it was.
-- Assumes nothing.
use Rattle.std.proofs.Common.{◌≡◌, ℕ, ◌+◌, ◌<◌, ◌≤◌, List, length, get_or, set, refl, ◌∙◌, arith, rules}
use Rattle.std.proofs.lemmas.Grind.{common_steps}
use Rattle.std.proofs.lemmas.List.{get_or-set_same, get_or-set_other, get_or_default}
use native.Mathlib.Decide.{dec_lt}
use Rattle.sides.specs.declared.Best.{Best}
use Rattle.sides.specs.Lists.{rank_at, better}
use Rattle.sides.proofs.keep_better.Goals as goal

turn : (best old : List Best) (number : ℕ) (f : ℕ → ℕ) (v none d : Best) (i p : ℕ) → i < length best → p < i + 1
    → v ≡ better (get_or best i none) number (f i)
    → (p < i → get_or best p d ≡ better (get_or old p d) number (f p)) → (i ≤ p → get_or best p d ≡ get_or old p d)
    → get_or (set best i v) p d ≡ better (get_or old p d) number (f p)
turn best old number f v none d i p within h is before from =
    elim (dec_lt p i) [
      | yes l ↦ get_or-set_other best i p v d (λ e. omega arith) ∙ before l
      | no l ↦
          let same : p ≡ i = omega arith in
          let kept = rw same at from (omega arith) in
          rw same (get_or-set_same best i v d within ∙ is ∙ rw (get_or_default best i none d within, kept) refl)
    ]

pub loop-i-preserved : goal.loop-i-preserved
loop-i-preserved g c = (
  search rules,
  (λ p d h.
      turn c.loop-i.best c.args.best.now c.args.number (λ k. rank_at c.args.entry.now (get_or c.args.addresses.now k 0) 0) c.or.result (record { number = 0; rank = 0 }) d c.loop-i.i p (search rules) h
      (rw (← c.rank.ensures) c.or.ensures) (c.loop-i.invariant.1 p d) (c.loop-i.invariant.2 p d)),
  λ p d h. grind (arith, common_steps, c.loop-i.invariant.2 p d),
)
