-- A word that stands in a part of some bytes is the one that stands as much further on in all of them.
-- Assumes nothing.
use mathlib.Core.Bool.{Bool}
use mathlib.Core.Path.{◌≡◌, sym, ap, ◌∙◌}
use mathlib.Core.List.{List, [], ◌∷◌}
use Prim.Native.Nat.{ℕ, ◌+◌, ◌≤◌, ◌<◌}
use native.Mathlib.Nat.{zero-add}
use native.Mathlib.Omega.{arith}
use lib.ListN.{length, get_or, take, drop, length-take, length-drop}
use Rattle.std.proofs.lemmas.List.{get_or-take, get_or-drop}
use Rattle.words.specs.Words.{whole, four_in}
use Rattle.words.specs.Layouts.{four}
use Rattle.words.proofs.Words.{there}
use Rattle.words.proofs.Layouts.{numbers_alike}

module _ (l : List ℕ) (at n : ℕ) (fits : at + n ≤ length l) where
  long : length (take n (drop at l)) ≡ n
  long = omega (arith, fits, length-take n (drop at l), length-drop at l)

  alike : (p q : ℕ) → p ≡ at + q → q < length (take n (drop at l)) → get_or l p 0 ≡ get_or (take n (drop at l)) q 0
  alike p q e h = rw e (sym (get_or-take n (drop at l) q 0 (omega (arith, long, h)) ∙ get_or-drop at l q 0))

  pub four_there : (big : Bool) (k : ℕ) → k + 4 ≤ n → whole 4 (four_in big) (take n (drop at l)) k ≡ four_in big l (at + k)
  four_there big k h =
      there 4 (four_in big) (take n (drop at l)) k (omega (arith, long))
      ∙ ap (four_in big (take n (drop at l))) (sym (zero-add k))
      ∙ sym (ap (λ (told : List ℕ). get_or told 0 0) (numbers_alike l (take n (drop at l)) at alike big (four ∷ []) at 0 k (omega arith) (omega (arith, long, h))))
