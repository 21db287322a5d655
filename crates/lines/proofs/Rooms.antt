-- Bytes put into lent room in several goes are put as they are in one: a text or a byte, and then the rest.
-- Assumes nothing.
use mathlib.Core.Path.{◌≡◌, refl, sym, ap, ◌∙◌}
use mathlib.Core.List.{List, [], ◌∷◌, ◌++◌}
use Prim.Native.Nat.{ℕ, suc, ◌+◌, ◌<◌}
use native.Mathlib.Omega.{arith}
use lib.ListN.{length, get_or, take}
use lib.Seq.{take-suc}
use Rattle.lines.specs.Room.{Room, put_byte, put}

pub put_more : (first second : List ℕ) (room : Room) → put (first ++ second) room ≡ put second (put first room)
unfolding put
put_more [] second room = refl
put_more (byte ∷ bytes) second room = put_more bytes second (put_byte byte room)

pub put_one : (byte : ℕ) (room : Room) → put (byte ∷ []) room ≡ put_byte byte room
unfolding put
put_one byte room = refl

put_first : (byte : ℕ) (rest : List ℕ) (room : Room) → put (byte ∷ rest) room ≡ put rest (put_byte byte room)
unfolding put
put_first byte rest room = refl

-- the next byte of a text
pub put_next : (text : List ℕ) (done : ℕ) (room : Room) → done < length text
    → put_byte (get_or text done 0) (put (take done text) room) ≡ put (take (done + 1) text) room
put_next text done room h =
    let next : suc done ≡ done + 1 = omega arith in
    sym (put_one (get_or text done 0) (put (take done text) room))
    ∙ sym (put_more (take done text) (get_or text done 0 ∷ []) room)
    ∙ ap (λ l. put l room) (sym (take-suc text done 0 h))
    ∙ ap (λ k. put (take k text) room) next

-- ---- steps of code: what the room is after each
module _ (before : Room) {next after : Room} where
  pub text_then : (text rest : List ℕ) → next ≡ put text before → after ≡ put rest next → after ≡ put (text ++ rest) before
  text_then text rest one others = others ∙ ap (put rest) one ∙ sym (put_more text rest before)

  pub byte_then : (byte : ℕ) (rest : List ℕ) → next ≡ put_byte byte before → after ≡ put rest next → after ≡ put (byte ∷ rest) before
  byte_then byte rest one others = others ∙ ap (put rest) one ∙ sym (put_first byte rest before)
