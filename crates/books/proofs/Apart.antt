-- Lists told apart: what equal ones have in common, and which are never equal.
-- Assumes nothing.
use mathlib.Core.List.{List, [], ◌∷◌}
use mathlib.Core.Path.{◌≡◌}
use Prim.Native.Nat.{ℕ}
use native.Mathlib.Omega.{arith}

pub same_head : {A : Type 0} {x y : A} {xs ys : List A} → x ∷ xs ≡ y ∷ ys → x ≡ y
same_head e = cc

pub same_tail : {A : Type 0} {x y : A} {xs ys : List A} → x ∷ xs ≡ y ∷ ys → xs ≡ ys
same_tail e = cc

pub not_nil : {A : Type 0} {y : A} {ys : List A} → [] ≡ y ∷ ys → ⊥
not_nil e = let z : ◌≡◌ {A = ℕ} 0 1 = cc in omega arith
