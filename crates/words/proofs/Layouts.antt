-- Reading undoes writing and writing undoes reading: of one word, and of any layout of words, in either byte order.
-- Assumes nothing.
use mathlib.Core.Bool.{Bool, true, false}
use mathlib.Core.List.{List, [], ◌∷◌, ◌++◌, append_assoc}
use mathlib.Core.Path.{◌≡◌, refl, sym, ap, ◌∙◌}
use Prim.Native.Nat.{ℕ, suc, ◌+◌, ◌*◌, ◌/◌, ◌%◌, ◌≤◌, ◌<◌}
use native.Mathlib.Nat.{div-div-eq-div-mul}
use native.Mathlib.Omega.{arith}
use lib.ListN.{length, get_or, take, drop, length-append}
use lib.Seq.{get_or-append-add, drop-cons, drop-drop, take-add}
use Rattle.words.specs.Words.{of_two, of_four}
use Rattle.words.specs.Layouts.{Word, two, four, size, limit, number_in, bytes_in, sizes, numbers_from, bytes_for, Holds, Bytes}

-- ---- one word
pub bytes_size : (big : Bool) (w : Word) (n : ℕ) → length (bytes_in big w n) ≡ size w
bytes_size true two n = refl
bytes_size false two n = refl
bytes_size true four n = refl
bytes_size false four n = refl

-- the number that was written is read
parts_sum : (n p q r a b c d : ℕ) → p ≡ q * 256 + c → q ≡ r * 256 + b → a ≡ r → n ≡ p * 256 + d → of_four a b c d ≡ n
parts_sum n p q r a b c d e f g h = omega (arith, e, f, g, h)

four_parts : (n : ℕ) → n < 4294967296 → of_four (n / 16777216 % 256) (n / 65536 % 256) (n / 256 % 256) (n % 256) ≡ n
four_parts n h =
    let a : n / 256 / 256 ≡ n / 65536 = div-div-eq-div-mul n 256 256 in
    let b : n / 65536 / 256 ≡ n / 16777216 = div-div-eq-div-mul n 65536 256 in
    let c : n / 256 ≡ n / 65536 * 256 + n / 256 % 256 = omega (arith, a) in
    let d : n / 65536 ≡ n / 16777216 * 256 + n / 65536 % 256 = omega (arith, b) in
    let e : n / 16777216 % 256 ≡ n / 16777216 = omega (arith, h) in
    let f : n ≡ n / 256 * 256 + n % 256 = omega arith in
    parts_sum n (n / 256) (n / 65536) (n / 16777216) (n / 16777216 % 256) (n / 65536 % 256) (n / 256 % 256) (n % 256) c d e f

number_there : (big : Bool) (w : Word) (n : ℕ) (rest : List ℕ) → n < limit w → number_in big w (bytes_in big w n ++ rest) 0 ≡ n
number_there true two n rest h = omega arith
number_there false two n rest h = omega arith
number_there true four n rest h = four_parts n h
number_there false four n rest h = four_parts n h

-- ---- words of a list in which the bytes of a window stand from n on
module _ (l window : List ℕ) (n : ℕ) (alike : (p q : ℕ) → p ≡ n + q → q < length window → get_or l p 0 ≡ get_or window q 0) (big : Bool) where
  number_alike : (w : Word) (p q : ℕ) → p ≡ n + q → q + size w ≤ length window → number_in big w l p ≡ number_in big w window q
  number_alike w p q e h = go big w h
    where
      byte : (k m : ℕ) → q + m ≤ length window → k < m → get_or l (p + k) 0 ≡ get_or window (q + k) 0
      byte k m g less = alike (p + k) (q + k) (omega arith) (omega arith)

      first : (m : ℕ) → q + m ≤ length window → 0 < m → get_or l p 0 ≡ get_or window q 0
      first m g less = alike p q e (omega arith)

      go : (b : Bool) (v : Word) → q + size v ≤ length window → number_in b v l p ≡ number_in b v window q
      go true two g = λ i. of_two (first 2 g (omega arith) i) (byte 1 2 g (omega arith) i)
      go false two g = λ i. of_two (byte 1 2 g (omega arith) i) (first 2 g (omega arith) i)
      go true four g = λ i. of_four (first 4 g (omega arith) i) (byte 1 4 g (omega arith) i) (byte 2 4 g (omega arith) i) (byte 3 4 g (omega arith) i)
      go false four g = λ i. of_four (byte 3 4 g (omega arith) i) (byte 2 4 g (omega arith) i) (byte 1 4 g (omega arith) i) (first 4 g (omega arith) i)

  pub numbers_alike : (words : List Word) (p q past : ℕ) → p ≡ n + q → q + past + sizes words ≤ length window
      → numbers_from big words l p past ≡ numbers_from big words window q past
  numbers_alike [] p q past e h = refl
  numbers_alike (w ∷ words) p q past e h =
      λ i. number_alike w (p + past) (q + past) (omega arith) (omega arith) i ∷ numbers_alike words p q (past + size w) e (omega arith) i

-- ---- what was written is read
module _ (big : Bool) (rest : List ℕ) where
  number_back : (w : Word) (n : ℕ) (before : List ℕ) (p : ℕ) → p ≡ length before → n < limit w
      → number_in big w (before ++ (bytes_in big w n ++ rest)) p ≡ n
  number_back w n before p e h =
      number_alike (before ++ (bytes_in big w n ++ rest)) (bytes_in big w n ++ rest) (length before)
      (λ j k f g. rw f (get_or-append-add before (bytes_in big w n ++ rest) k 0)) big w p 0 (omega arith)
      (omega (arith, length-append (bytes_in big w n) rest, bytes_size big w n))
      ∙ number_there big w n rest h

pub numbers_back : (big : Bool) (words : List Word) (numbers before rest : List ℕ) (at past : ℕ) → length before ≡ at + past → Holds words numbers
    → numbers_from big words (before ++ (bytes_for big words numbers ++ rest)) at past ≡ numbers
numbers_back big [] [] before rest at past e h = refl
numbers_back big [] (n ∷ numbers) before rest at past e h = absurd h
numbers_back big (w ∷ words) [] before rest at past e h = absurd h
numbers_back big (w ∷ words) (n ∷ numbers) before rest at past e h =
    let bytes : List ℕ = bytes_in big w n in
    let more : List ℕ = bytes_for big words numbers in
    let longer : length (before ++ bytes) ≡ at + (past + size w) = omega (arith, e, length-append before bytes, bytes_size big w n) in
    let here : before ++ ((bytes ++ more) ++ rest) ≡ before ++ (bytes ++ (more ++ rest)) = ap (◌++◌ before) (append_assoc bytes more rest) in
    let further : before ++ ((bytes ++ more) ++ rest) ≡ (before ++ bytes) ++ (more ++ rest) = here ∙ sym (append_assoc before bytes (more ++ rest)) in
    let first : number_in big w (before ++ ((bytes ++ more) ++ rest)) (at + past) ≡ n =
    ap (λ (l : List ℕ). number_in big w l (at + past)) here ∙ number_back big (more ++ rest) w n before (at + past) (sym e) h.0 in
    let others : numbers_from big words (before ++ ((bytes ++ more) ++ rest)) at (past + size w) ≡ numbers =
    ap (λ (l : List ℕ). numbers_from big words l at (past + size w)) further
    ∙ numbers_back big words numbers (before ++ bytes) rest at (past + size w) longer h.1 in
    λ i. first i ∷ others i

-- ---- what was read is written
-- the bytes of a number are those that make it
two_bytes_lem : (a b : ℕ) → a < 256 → b < 256 → (of_two a b / 256 % 256 ≡ a) × (of_two a b % 256 ≡ b)
two_bytes_lem a b h g = (omega arith, omega arith)

four_bytes_lem : (a b c d : ℕ) → a < 256 → b < 256 → c < 256 → d < 256
    → (of_four a b c d / 16777216 % 256 ≡ a) × (of_four a b c d / 65536 % 256 ≡ b) × (of_four a b c d / 256 % 256 ≡ c) × (of_four a b c d % 256 ≡ d)
four_bytes_lem a b c d ha hb hc hd = (omega arith, omega arith, omega arith, omega arith)

module _ (l : List ℕ) (bytes : Bytes l) where
  taken : (k p q : ℕ) → q ≡ p + 1 → p < length l → take (suc k) (drop p l) ≡ get_or l p 0 ∷ take k (drop q l)
  taken k p q e h =
      let next : suc p ≡ q = omega arith in
      ap (take (suc k)) (drop-cons l p 0 h) ∙ ap (λ (m : ℕ). get_or l p 0 ∷ take k (drop m l)) next

  two_there : (at : ℕ) → at + 2 ≤ length l → take 2 (drop at l) ≡ get_or l at 0 ∷ (get_or l (at + 1) 0 ∷ [])
  two_there at h =
      taken 1 at (at + 1) refl (omega arith)
      ∙ ap (λ (r : List ℕ). get_or l at 0 ∷ r) (taken 0 (at + 1) (at + 2) (omega arith) (omega arith))

  four_there : (at : ℕ) → at + 4 ≤ length l
      → take 4 (drop at l) ≡ get_or l at 0 ∷ (get_or l (at + 1) 0 ∷ (get_or l (at + 2) 0 ∷ (get_or l (at + 3) 0 ∷ [])))
  four_there at h =
      taken 3 at (at + 1) refl (omega arith)
      ∙ ap (λ (r : List ℕ). get_or l at 0 ∷ r)
      (taken 2 (at + 1) (at + 2) (omega arith) (omega arith)
      ∙ ap (λ (r : List ℕ). get_or l (at + 1) 0 ∷ r)
      (taken 1 (at + 2) (at + 3) (omega arith) (omega arith)
      ∙ ap (λ (r : List ℕ). get_or l (at + 2) 0 ∷ r) (taken 0 (at + 3) (at + 4) (omega arith) (omega arith))))

  bytes_back : (big : Bool) (w : Word) (at : ℕ) → at + size w ≤ length l → bytes_in big w (number_in big w l at) ≡ take (size w) (drop at l)
  bytes_back true two at h = let t = two_bytes_lem _ _ (bytes at) (bytes (at + 1)) in
      rw (two_there at h) (λ i. t.0 i ∷ (t.1 i ∷ []))
  bytes_back false two at h = let t = two_bytes_lem _ _ (bytes (at + 1)) (bytes at) in
      rw (two_there at h) (λ i. t.1 i ∷ (t.0 i ∷ []))
  bytes_back true four at h = let t = four_bytes_lem _ _ _ _ (bytes at) (bytes (at + 1)) (bytes (at + 2)) (bytes (at + 3)) in
      rw (four_there at h) (λ i. t.0 i ∷ (t.1 i ∷ (t.2 i ∷ (t.3 i ∷ []))))
  bytes_back false four at h = let t = four_bytes_lem _ _ _ _ (bytes (at + 3)) (bytes (at + 2)) (bytes (at + 1)) (bytes at) in
      rw (four_there at h) (λ i. t.3 i ∷ (t.2 i ∷ (t.1 i ∷ (t.0 i ∷ []))))

  -- a number that is read fits its word
  pub in_range : (big : Bool) (w : Word) (at : ℕ) → number_in big w l at < limit w
  in_range true two at = omega (arith, bytes at, bytes (at + 1))
  in_range false two at = omega (arith, bytes at, bytes (at + 1))
  in_range true four at = omega (arith, bytes at, bytes (at + 1), bytes (at + 2), bytes (at + 3))
  in_range false four at = omega (arith, bytes at, bytes (at + 1), bytes (at + 2), bytes (at + 3))

  pub layout_back : (big : Bool) (words : List Word) (at past : ℕ) → at + past + sizes words ≤ length l
      → bytes_for big words (numbers_from big words l at past) ≡ take (sizes words) (drop (at + past) l)
  layout_back big [] at past h = refl
  layout_back big (w ∷ words) at past h =
      let next : at + (past + size w) ≡ at + past + size w = omega arith in
      (λ i. bytes_back big w (at + past) (omega arith) i ++ layout_back big words at (past + size w) (omega arith) i)
      ∙ ap (λ (m : ℕ). take (size w) (drop (at + past) l) ++ take (sizes words) (drop m l)) next
      ∙ ap (λ (r : List ℕ). take (size w) (drop (at + past) l) ++ take (sizes words) r) (sym (drop-drop (size w) (at + past) l))
      ∙ sym (take-add (size w) (sizes words) (drop (at + past) l))

pub layout_size : (big : Bool) (words : List Word) (numbers : List ℕ) → Holds words numbers → length (bytes_for big words numbers) ≡ sizes words
layout_size big [] [] h = refl
layout_size big [] (n ∷ numbers) h = absurd h
layout_size big (w ∷ words) [] h = absurd h
layout_size big (w ∷ words) (n ∷ numbers) h =
    omega (arith, length-append (bytes_in big w n) (bytes_for big words numbers), bytes_size big w n, layout_size big words numbers h.1)
