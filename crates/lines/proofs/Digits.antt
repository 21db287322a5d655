-- A number's decimal digits are those of a tenth of it, and the last; how many steps were allowed does not matter.
-- Assumes nothing.
use mathlib.Core.Bool.{Bool, true, false, cond}
use mathlib.Core.Path.{◌≡◌, refl, ap, ◌∙◌}
use mathlib.Core.List.{[], ◌∷◌, ◌++◌}
use Prim.Native.Nat.{ℕ, zero, suc, ◌/◌, ◌%◌, ◌≤◌, ◌<◌}
use native.Mathlib.Omega.{arith}
use lib.Dec.{ltb}
use borrow.Author.Tests.{lt-ltb, le-ltb, ltb-false}
use Rattle.lines.specs.Text.{digit, digits_in, decimal}
use Rattle.lines.specs.Room.{Room, put_byte, put}
use Rattle.lines.proofs.Rooms.{put_more, put_one}

-- one step: both go on with a tenth, or neither does
step : (k m n : ℕ) → (10 ≤ n → digits_in k (n / 10) ≡ digits_in m (n / 10)) → digits_in (suc k) n ≡ digits_in (suc m) n
unfolding digits_in
step k m n tenth = go (ltb n 10) refl
  where
    go : (q : Bool) → ltb n 10 ≡ q
        → cond q (digit n ∷ []) (digits_in k (n / 10) ++ (digit (n % 10) ∷ []))
        ≡ cond q (digit n ∷ []) (digits_in m (n / 10) ++ (digit (n % 10) ∷ []))
    go true e = refl
    go false e = rw (tenth (ltb-false n 10 e))

-- as many steps as the number are enough, and so are more
same : (k m n : ℕ) → n ≤ k → n ≤ m → digits_in k n ≡ digits_in m n
unfolding digits_in
same zero zero n h g = refl
same zero (suc m) n h g = rw (lt-ltb n 10 (omega (arith, h)))
same (suc k) zero n h g = rw (lt-ltb n 10 (omega (arith, g)))
same (suc k) (suc m) n h g = step k m n (λ large. same k m (n / 10) (omega (arith, h, large)) (omega (arith, g, large)))

small : (n : ℕ) → n < 10 → decimal n ≡ digit n ∷ []
unfolding digits_in
small zero h = refl
small (suc n) h = rw (lt-ltb (suc n) 10 h)

large : (n : ℕ) → 10 ≤ n → decimal n ≡ decimal (n / 10) ++ (digit (n % 10) ∷ [])
unfolding digits_in
large zero h = absurd (omega (arith, h))
large (suc n) h = rw (le-ltb (suc n) 10 h, same n (suc n / 10) (suc n / 10) (omega (arith, h)) (omega arith))

-- ---- the digits as they are put into room
module _ (n : ℕ) (room : Room) where
  pub put_small : n < 10 → put (decimal n) room ≡ put_byte (digit n) room
  put_small h = ap (λ l. put l room) (small n h) ∙ put_one _ room

  pub put_large : 10 ≤ n → put (decimal n) room ≡ put_byte (digit (n % 10)) (put (decimal (n / 10)) room)
  put_large h = ap (λ l. put l room) (large n h) ∙ put_more (decimal (n / 10)) _ room ∙ put_one _ _
