-- Where the bytes are there, the number is theirs; where they are not, it is 0. Where they have room they are stored, in one go or in
-- several. Once over how many bytes they are.
-- Assumes nothing.
use mathlib.Core.Bool.{Bool, true, false}
use mathlib.Core.Path.{◌≡◌, refl, sym, ap, ◌∙◌}
use mathlib.Core.List.{List, [], ◌∷◌, ◌++◌, append-nil, append_assoc}
use Prim.Native.Nat.{ℕ, ◌+◌, ◌-◌, ◌≤◌, ◌<◌}
use lib.ListN.{length, take, drop, length-append, length-take, length-drop, take-append-drop, drop_of_length-le}
use lib.Seq.{take-length, drop-drop, take_at, drop_at}
use native.Mathlib.Omega.{arith}
use borrow.Rule.Slice.PartMut.{mid_of, put_mid, mid_len}
use lib.Dec.{leb}
use borrow.Author.Tests.{le-leb, lt-leb, leb-true, leb-false}
use Rattle.laws.proofs.Tests.{Which, below, above, which}
use Rattle.words.specs.Words.{whole, stored}

module _ (n : ℕ) (f : List ℕ → ℕ → ℕ) (l : List ℕ) (at : ℕ) where
  pub there : at + n ≤ length l → whole n f l at ≡ f l at
  unfolding whole
  there h = rw (le-leb _ _ h)

  pub cut : length l < at + n → whole n f l at ≡ 0
  unfolding whole
  cut h = rw (lt-leb _ _ h)

-- ---- room for bytes
pub room_left : (at count n : ℕ) → count ≤ n → leb at (n - count) ≡ leb (at + count) n
room_left at count n h = go (leb (at + count) n) refl
  where
    go : (q : Bool) → leb (at + count) n ≡ q → leb at (n - count) ≡ q
    go true e = le-leb at (n - count) (omega (arith, leb-true (at + count) n e))
    go false e = lt-leb at (n - count) (omega (arith, h, leb-false (at + count) n e))

-- ---- bytes stored in a room
module _ (bytes : List ℕ) (at : ℕ) (room : List ℕ) where
  pub all_stored : at + length bytes ≤ length room → stored bytes at room ≡ take at room ++ (bytes ++ drop (at + length bytes) room)
  unfolding stored
  all_stored h = rw (le-leb _ _ h)

  pub none_stored : length room < at + length bytes → stored bytes at room ≡ room
  unfolding stored
  none_stored h = rw (lt-leb _ _ h)

  all_at_front : (part : List ℕ) → length bytes ≤ length part → stored bytes 0 part ≡ bytes ++ drop (0 + length bytes) part
  unfolding stored
  all_at_front part h = rw (le-leb (0 + length bytes) (length part) (omega (arith, h)))

  -- stored, they have written over the part of the room that they fill
  pub stored_over : (end : ℕ) → at + length bytes ≤ length room → end ≡ at + length bytes → put_mid at (end - at) room bytes ≡ stored bytes at room
  stored_over end h e =
      let size : end - at ≡ length bytes = omega arith in
      rw (size, drop-drop (length bytes) at room) (sym (all_stored h))

  -- and have left nothing of it
  pub stored_in_part : (end : ℕ) → at + length bytes ≤ length room → end ≡ at + length bytes
      → put_mid at (end - at) room (take (length bytes) bytes ++ drop (length bytes) (mid_of at (end - at) room)) ≡ stored bytes at room
  stored_in_part end h e =
      let size : end - at ≡ length bytes = omega arith in
      let none : drop (length bytes) (take (length bytes) (drop at room)) ≡ [] = drop_of_length-le _ {i = length bytes} (omega (arith, length-take (length bytes) (drop at room))) in
      rw (size, take-length bytes, none, append-nil bytes, drop-drop (length bytes) at room) (sym (all_stored h))

  -- the same, where they were stored in the part by a call that was lent it
  pub stored_by_part : (end : ℕ) → at + length bytes ≤ length room → end ≡ at + length bytes
      → put_mid at (end - at) room (stored bytes 0 (mid_of at (end - at) room)) ≡ stored bytes at room
  stored_by_part end h e =
      let part : List ℕ = mid_of at (end - at) room in
      let long : length part ≡ length bytes = omega (arith, mid_len at end room (omega arith)) in
      let count : 0 + length bytes ≡ length bytes = omega arith in
      ap (put_mid at (end - at) room)
      (all_at_front part (omega (arith, long)) ∙ ap (λ (k : ℕ). bytes ++ drop k part) count ∙ ap (λ (b : List ℕ). b ++ drop (length bytes) part) (sym (take-length bytes)))
      ∙ stored_in_part end h e

  pub stored_length : length (stored bytes at room) ≡ length room
  stored_length = go (which (length room) (at + length bytes))
    where
      go : Which (length room) (at + length bytes) → length (stored bytes at room) ≡ length room
      go (below h) = ap length (none_stored h)
      go (above h) =
          ap length (all_stored h)
          ∙ omega (
            arith,
            h,
            length-append (take at room) (bytes ++ drop (at + length bytes) room),
            length-append bytes (drop (at + length bytes) room),
            length-take at room,
            length-drop (at + length bytes) room,
          )

-- bytes and then others behind them are stored as all of them are in one go
pub stored_then : (first second : List ℕ) (at : ℕ) (room : List ℕ) → at + length (first ++ second) ≤ length room
    → stored second (at + length first) (stored first at room) ≡ stored (first ++ second) at room
stored_then first second at room h =
    all_stored second middle (stored first at room) (omega (arith, h, stored_length first at room, both))
    ∙ ap (λ (l : List ℕ). take middle l ++ (second ++ drop (middle + length second) l)) begun
    ∙ (λ i. take_at (start ++ first) rest middle front i ++ (second ++ behind i))
    ∙ append_assoc start first (second ++ drop (at + length (first ++ second)) room)
    ∙ ap (◌++◌ start) (sym (append_assoc first second (drop (at + length (first ++ second)) room)))
    ∙ sym (all_stored (first ++ second) at room h)
  where
    both : length (first ++ second) ≡ length first + length second
    both = length-append first second

    middle : ℕ
    middle = at + length first

    start : List ℕ
    start = take at room

    rest : List ℕ
    rest = drop middle room

    begun : stored first at room ≡ (start ++ first) ++ rest
    begun = all_stored first at room (omega (arith, h, both)) ∙ sym (append_assoc start first rest)

    front : length (start ++ first) ≡ middle
    front = length-append start first ∙ omega (arith, h, both, length-take at room)

    behind : drop (middle + length second) ((start ++ first) ++ rest) ≡ drop (at + length (first ++ second)) room
    behind =
        let end : middle + length second ≡ at + length (first ++ second) = omega (arith, both) in
        sym (drop-drop (length second) middle ((start ++ first) ++ rest))
        ∙ ap (drop (length second)) (drop_at (start ++ first) rest middle front)
        ∙ drop-drop (length second) middle room
        ∙ ap (λ (k : ℕ). drop k room) end

pub nothing_stored : (at : ℕ) (room : List ℕ) → at ≤ length room → stored [] at room ≡ room
nothing_stored at room h =
    let end : at + 0 ≡ at = omega arith in
    all_stored [] at room (omega arith) ∙ ap (λ (k : ℕ). take at room ++ drop k room) end ∙ take-append-drop at room

-- ---- several, one behind the other
abbrev pub in_turn : List (List ℕ) → ℕ → List ℕ → List ℕ
in_turn [] at room = room
in_turn (bytes ∷ others) at room = in_turn others (at + length bytes) (stored bytes at room)

abbrev pub together : List (List ℕ) → List ℕ
together [] = []
together (bytes ∷ others) = bytes ++ together others

pub stored_in_turn : (all : List (List ℕ)) (at : ℕ) (room : List ℕ) → at + length (together all) ≤ length room
    → in_turn all at room ≡ stored (together all) at room
stored_in_turn [] at room h = sym (nothing_stored at room (omega arith))
stored_in_turn (bytes ∷ others) at room h =
    stored_in_turn others (at + length bytes) (stored bytes at room)
    (omega (arith, h, length-append bytes (together others), stored_length bytes at room))
    ∙ stored_then bytes (together others) at room h
