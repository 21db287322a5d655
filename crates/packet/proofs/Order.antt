-- The header tests in their order: the refusal that each test's outcome leads to, what a packet has that is not refused, and that the
-- refusal of the tests is the one that the answer tells.
-- Assumes nothing.
use mathlib.Core.Bool.{Bool, true, false}
use mathlib.Core.Path.{◌≡◌, refl, sym, ◌∙◌}
use mathlib.Core.List.{List}
use Prim.Native.Nat.{ℕ, ◌+◌, ◌≤◌, ◌<◌}
use lib.ListN.{length}
use borrow.Author.Tests.{lt-ltb, le-ltb}
use Rattle.laws.proofs.Tests.{Which, below, above, which}
use Rattle.std.specs.Prelude.{Some, None}
use Rattle.std.proofs.lemmas.Option.{none-some}
use Rattle.refused.specs.declared.Refusal.TheVariants as refusal
use Rattle.refused.specs.Refused.{refusal_of}
use Rattle.refused.proofs.Told.{told}
use Rattle.packet.specs.Header.{header_length, usable, later, protocol, needed, wrong, header_refusal, header_of, read_of}

module _ (b : List ℕ) where
  pub too_short : length b < 20 → Some refusal.Short ≡ header_refusal b
  unfolding header_refusal
  too_short h = rw (lt-ltb _ _ h)

  module _ (long : 20 ≤ length b) where
    pub is_wrong : wrong b ≡ true → Some refusal.Header ≡ header_refusal b
    unfolding header_refusal
    is_wrong w = rw (le-ltb _ _ long, w)

    module _ (right : wrong b ≡ false) where
      pub cut_header : length b < header_length b → Some refusal.Short ≡ header_refusal b
      unfolding header_refusal
      cut_header h = rw (le-ltb _ _ long, right, lt-ltb _ _ h)

      module _ (whole : header_length b ≤ length b) where
        -- a packet whose IP header is whole and right, and of which too few bytes are usable after it, is refused by 5
        pub cut_transport : usable b < header_length b + needed (protocol b) (later b) → Some refusal.Short ≡ header_refusal b
        unfolding header_refusal
        cut_transport h = rw (le-ltb _ _ long, right, le-ltb _ _ whole, lt-ltb _ _ h)

        pub accepted : header_length b + needed (protocol b) (later b) ≤ usable b → None ≡ header_refusal b
        unfolding header_refusal
        accepted h = rw (le-ltb _ _ long, right, le-ltb _ _ whole, le-ltb _ _ h)

-- what a packet has that is not refused
pub record Sound (b : List ℕ) : Type 0 where
  pub long : 20 ≤ length b
  pub right : wrong b ≡ false
  pub whole : header_length b ≤ length b
  pub enough : header_length b + needed (protocol b) (later b) ≤ usable b

pub sound : (b : List ℕ) → header_refusal b ≡ None → Sound b
sound b e = first (which (length b) 20)
  where
    third : 20 ≤ length b → wrong b ≡ false → header_length b ≤ length b → Which (usable b) (header_length b + needed (protocol b) (later b)) → Sound b
    third l r w (below h) = absurd (none-some _ (sym e ∙ sym (cut_transport b l r w h)))
    third l r w (above h) = record { long = l; right = r; whole = w; enough = h }

    second : 20 ≤ length b → wrong b ≡ false → Which (length b) (header_length b) → Sound b
    second l r (below h) = absurd (none-some _ (sym e ∙ sym (cut_header b l r h)))
    second l r (above h) = third l r h (which (usable b) (header_length b + needed (protocol b) (later b)))

    tested : 20 ≤ length b → (t : Bool) → wrong b ≡ t → Sound b
    tested l true w = absurd (none-some _ (sym e ∙ sym (is_wrong b l w)))
    tested l false w = second l w (which (length b) (header_length b))

    first : Which (length b) 20 → Sound b
    first (below h) = absurd (none-some _ (sym e ∙ sym (too_short b h)))
    first (above h) = tested h (wrong b) refl

-- the refusal that an answer tells is that of the tests
pub number_told : (b : List ℕ) → refusal_of (read_of b) ≡ header_refusal b
unfolding read_of
number_told b = told (header_refusal b) (header_of b)
