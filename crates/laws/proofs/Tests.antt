-- Choices on tests: what a test, or two joined by `&&` or `||`, tells where its outcome is known.
-- Assumes nothing.
use mathlib.Core.Path.{◌≡◌, refl, sym, ap, subst, ◌∙◌}
use mathlib.Core.Bool.{Bool, true, false, cond, ◌&&◌, ◌||◌}
use Prim.Native.Nat.{ℕ, ◌≤◌, ◌<◌}
use lib.Dec.{T, ltb, eqb}
use borrow.Author.Tests.{ltb-true, ltb-false, eqb-true, eqb-false, eq-eqb, ne_eqb}

pub true_is_not_false : {X : Type 0} {t : Bool} → t ≡ true → t ≡ false → X
true_is_not_false p q = absurd (subst T (sym p ∙ q) tt)

-- a test that cannot have the one outcome has the other
pub is_true : (t : Bool) → (t ≡ false → ⊥) → t ≡ true
is_true true h = refl
is_true false h = absurd (h refl)

pub is_false : (t : Bool) → (t ≡ true → ⊥) → t ≡ false
is_false true h = absurd (h refl)
is_false false h = refl

pub and_yes : {s t : Bool} → s ≡ true → t ≡ true → (s && t) ≡ true
and_yes {s} {t} p q = ap (λ (b : Bool). b && t) p ∙ q

pub and_left : (s t : Bool) → (s && t) ≡ true → s ≡ true
and_left true t e = refl
and_left false t e = e

pub and_right : (s t : Bool) → (s && t) ≡ true → t ≡ true
and_right true t e = e
and_right false t e = true_is_not_false e refl

pub or_yes : (s : Bool) {t : Bool} → t ≡ true → (s || t) ≡ true
or_yes true h = refl
or_yes false h = h

pub or_left : (s t : Bool) → (s || t) ≡ false → s ≡ false
or_left true t e = e
or_left false t e = refl

pub or_right : (s t : Bool) → (s || t) ≡ false → t ≡ false
or_right true t e = true_is_not_false refl e
or_right false t e = e

pub or_no : {s t : Bool} → s ≡ false → t ≡ false → (s || t) ≡ false
or_no {s} {t} p q = ap (λ (b : Bool). b || t) p ∙ q

-- two equal tests choose alike
pub cond_at : {A : Type 0} {s t : Bool} (x y : A) → s ≡ t → cond s x y ≡ cond t x y
cond_at x y e = ap (λ (b : Bool). cond b x y) e

-- of two numbers one is below the other, or not
pub data Which (a b : ℕ) : Type 0 where
  below : a < b → Which a b
  above : b ≤ a → Which a b

pub which : (a b : ℕ) → Which a b
which a b = go (ltb a b) refl
  where
    go : (t : Bool) → ltb a b ≡ t → Which a b
    go true e = below (ltb-true a b e)
    go false e = above (ltb-false a b e)

-- two tests of equality that mean the same
pub eqb_same : (a b c d : ℕ) → (a ≡ b → c ≡ d) → (c ≡ d → a ≡ b) → eqb a b ≡ eqb c d
eqb_same a b c d f g = go (eqb a b) refl
  where
    go : (t : Bool) → eqb a b ≡ t → t ≡ eqb c d
    go true e = sym (eq-eqb c d (f (eqb-true a b e)))
    go false e = sym (ne_eqb c d (λ q. eqb-false a b e (g q)))
