-- What an arm of a `match` on a number knows, put to use: once for any keys.
-- Assumes nothing.
use mathlib.Core.Path.{◌≡◌, refl}
use mathlib.Core.Bool.{true, false, or-true}
use mathlib.Core.List.{List, [], ◌∷◌}
use mathlib.Core.Logic.{inl, inr}
use Prim.Native.Nat.{ℕ}
use lib.Dec.{eqb}
use borrow.Author.Tests.{eq-eqb, ne_eqb}
use types.Run.{OneOf}
use Rattle.laws.specs.Choice.{among}

-- f is a at each key
abbrev pub Each : {A : Type 0} → (ℕ → A) → A → List ℕ → Type 0
Each f a [] = Unit {0}
Each f a (k ∷ ks) = (a ≡ f k) × Each f a ks

-- in an arm: f is a at whichever key it was, and the number is one of the keys
pub at_keys : {A : Type 0} (f : ℕ → A) (a : A) (ks : List ℕ) (n : ℕ) → Each f a ks → OneOf ks n → a ≡ f n
at_keys f a [] n e o = absurd o
at_keys f a (k ∷ []) n e o = rw o e.0
at_keys f a (k ∷ j ∷ ks) n e (inl o) = rw o e.0
at_keys f a (k ∷ j ∷ ks) n e (inr o) = at_keys f a (j ∷ ks) n e.1 o

pub a_key : (ks : List ℕ) (n : ℕ) → OneOf ks n → among n ks ≡ true
a_key [] n o = absurd o
a_key (k ∷ []) n o = rw (eq-eqb n k o)
a_key (k ∷ j ∷ ks) n (inl o) = rw (eq-eqb n k o)
a_key (k ∷ j ∷ ks) n (inr o) = rw (a_key (j ∷ ks) n o) (or-true (eqb n k))

-- past an arm: the number is none of its keys
pub no_key : (ks : List ℕ) (n : ℕ) → (OneOf ks n → ⊥) → among n ks ≡ false
no_key [] n o = refl
no_key (k ∷ []) n o = rw (ne_eqb n k o)
no_key (k ∷ j ∷ ks) n o = rw (ne_eqb n k (λ e. o (inl e))) (no_key (j ∷ ks) n (λ e. o (inr e)))
