-- What becomes of a frame, case by case.
-- Assumes nothing.
use mathlib.Core.Bool.{Bool, true, false, cond}
use mathlib.Core.Path.{◌≡◌, refl, subst}
use mathlib.Core.List.{List}
use Prim.Native.Nat.{ℕ, ◌≤◌, ◌<◌}
use lib.Dec.{eqb, ltb}
use lib.ListN.{length}
use borrow.Author.Tests.{lt-ltb, le-ltb, ltb-false, eq-eqb, ne_eqb}
use Rattle.frames.specs.declared.Inside.{Inside}
use Rattle.frames.specs.declared.Inside.TheVariants.{Short, Packet, Other}
use Rattle.frames.specs.Frames.{ether_type, inside_of}

is_short : Inside → Type 0
is_short Short = Unit {0}
is_short Packet = ⊥
is_short Other = ⊥

short_is_none : Short ≡ Packet → ⊥
unfolding is_short
short_is_none e = subst is_short e tt

module _ (frame : List ℕ) where
  pub too_short : length frame < 14 → inside_of frame ≡ Short
  unfolding inside_of
  too_short h = rw (lt-ltb _ _ h)

  pub ipv4 : 14 ≤ length frame → ether_type frame ≡ 0x0800 → inside_of frame ≡ Packet
  unfolding inside_of
  ipv4 h e = rw (le-ltb _ _ h, eq-eqb _ _ e)

  pub another : 14 ≤ length frame → ¬ (ether_type frame ≡ 0x0800) → inside_of frame ≡ Other
  unfolding inside_of
  another h e = rw (le-ltb _ _ h, ne_eqb _ _ e)

  -- a frame that holds a packet has a header of its own before it
  pub has_header : inside_of frame ≡ Packet → 14 ≤ length frame
  unfolding inside_of
  has_header e = go (ltb (length frame) 14) refl e
    where
      go : (t : Bool) → ltb (length frame) 14 ≡ t → cond t Short (cond (eqb (ether_type frame) 0x0800) Packet Other) ≡ Packet → 14 ≤ length frame
      go true q e = absurd (short_is_none e)
      go false q e = ltb-false _ _ q
