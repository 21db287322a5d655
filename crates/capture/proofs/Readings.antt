-- What opening and reading a record answer, by how many bytes there are: once for the code, and for the theorems over whole captures.
-- Assumes nothing.
use mathlib.Core.Bool.{Bool, true, false, cond}
use mathlib.Core.Path.{◌≡◌, refl, subst}
use mathlib.Core.Logic.{◌⊎◌, inl, inr, ⊎_elim, ◌↔◌}
use mathlib.Core.List.{List}
use Prim.Native.Nat.{ℕ, ◌+◌, ◌≤◌, ◌<◌}
use lib.Dec.{leb, ltb}
use lib.ListN.{length}
use native.Mathlib.Omega.{arith}
use borrow.Author.Tests.{le-leb, lt-leb, lt-ltb, le-ltb, leb-true, leb-false, ltb-true, ltb-false}
use Rattle.std.specs.Prelude.{Ok, Err}
use Rattle.refused.specs.declared.Refusal.TheVariants as refusal
use Rattle.capture.specs.declared.Cursor.{Cursor}
use Rattle.capture.specs.declared.Record.{Record}
use Rattle.capture.specs.declared.Reading.{Reading}
use Rattle.capture.specs.declared.Reading.TheVariants.{End, Cut, Long, Whole}
use Rattle.capture.specs.Capture.{big_endian, bad_words, bad_header, opened_of, head_at, next_of, record_refusal}

module _ (l : List ℕ) where
  pub short : length l < 24 → opened_of l ≡ Err refusal.Capture
  unfolding opened_of bad_header
  short h = rw (lt-ltb _ _ h)

  pub wrong : 24 ≤ length l → bad_words (big_endian l) l ≡ true → opened_of l ≡ Err refusal.Capture
  unfolding opened_of bad_header
  wrong h e = rw (le-ltb _ _ h, e)

  pub opened : 24 ≤ length l → bad_words (big_endian l) l ≡ false → opened_of l ≡ Ok (record { at = 24; big_endian = big_endian l })
  unfolding opened_of bad_header
  opened h e = rw (le-ltb _ _ h, e)

module _ (l : List ℕ) (cursor : Cursor) where
  -- what the record's header says, where it is all there
  abbrev pub head : Record
  head = head_at cursor.big_endian cursor.at l

  pub at_the_end : length l ≤ cursor.at → next_of l cursor ≡ End
  unfolding next_of
  at_the_end h = rw (le-leb _ _ h)

  pub head_cut : cursor.at < length l → length l < cursor.at + 16 → next_of l cursor ≡ Cut
  unfolding next_of
  head_cut more h = rw (lt-leb _ _ more, lt-ltb _ _ h)

  module _ (fits : cursor.at + 16 ≤ length l) where
    more : cursor.at < length l
    more = omega (arith, fits)

    pub too_long : 2048 < head.captured → next_of l cursor ≡ Long
    unfolding next_of
    too_long h = rw (lt-leb _ _ more, le-ltb _ _ fits, lt-ltb _ _ h)

    pub body_cut : head.captured ≤ 2048 → length l < head.end → next_of l cursor ≡ Cut
    unfolding next_of
    body_cut few h = rw (lt-leb _ _ more, le-ltb _ _ fits, le-ltb _ _ few, lt-ltb _ _ h)

    pub is_whole : head.captured ≤ 2048 → head.end ≤ length l → next_of l cursor ≡ Whole head
    unfolding next_of
    is_whole few h = rw (lt-leb _ _ more, le-ltb _ _ fits, le-ltb _ _ few, le-ltb _ _ h)

  -- and back: what each answer tells. Of what is cut off, that it is the header, or else the captured bytes
  abbrev pub Tells : Reading → Type 0
  Tells End = length l ≤ cursor.at
  Tells Cut =
      (cursor.at < length l)
      × ((length l < cursor.at + 16) ⊎ ((cursor.at + 16 ≤ length l) × (head.captured ≤ 2048) × (length l < head.end)))
  Tells Long = (cursor.at + 16 ≤ length l) × (2048 < head.captured)
  Tells (Whole r) = (cursor.at + 16 ≤ length l) × (r ≡ head) × (r.captured ≤ 2048) × (r.end ≤ length l)

  pub tells : (x : Reading) → next_of l cursor ≡ x → Tells x
  unfolding next_of
  tells x e = subst Tells e (go _ _ _ _ refl refl refl refl)
    where
      go : (a b c d : Bool) → leb (length l) cursor.at ≡ a → ltb (length l) (cursor.at + 16) ≡ b → ltb 2048 head.captured ≡ c
          → ltb (length l) head.end ≡ d → Tells (cond a End (cond b Cut (cond c Long (cond d Cut (Whole head)))))
      go true b c d p q s t = leb-true _ _ p
      go false true c d p q s t = (leb-false _ _ p, inl (ltb-true _ _ q))
      go false false true d p q s t = (ltb-false _ _ q, ltb-true _ _ s)
      go false false false true p q s t = (leb-false _ _ p, inr (ltb-false _ _ q, ltb-false _ _ s, ltb-true _ _ t))
      go false false false false p q s t = (ltb-false _ _ q, refl, ltb-false _ _ s, ltb-false _ _ t)

  -- it answers just what is so
  pub exactly : (x : Reading) → Tells x → next_of l cursor ≡ x
  exactly End h = at_the_end h
  exactly Cut t = ⊎_elim (λ h. head_cut t.0 h) (λ h. body_cut h.0 h.1 h.2) t.1
  exactly Long t = too_long t.0 t.1
  exactly (Whole r) t = rw t.1 (is_whole t.0 (rw t.1 at t.2) (rw t.1 at t.3))

  -- a whole record's captured bytes stand behind its header, and are all there
  pub whole_record : (r : Record) → next_of l cursor ≡ Whole r
      → (r.from ≡ cursor.at + 16) × (r.end ≡ r.from + r.captured) × (r.captured ≤ 2048) × (r.end ≤ length l)
  whole_record r e =
      let t = tells (Whole r) e in
      (rw t.1, rw t.1, t.2, t.3)

  -- 8: "capture record cut off", its header or its body, "or over 2,048 captured bytes"
  abbrev pub Bad : Type 0
  Bad = (cursor.at < length l) × ((length l < cursor.at + 16) ⊎ ((length l < head.end) ⊎ (2048 < head.captured)))

  pub refused_exactly : (record_refusal (next_of l cursor) ≡ 8) ↔ Bad
  refused_exactly = go (next_of l cursor) (tells (next_of l cursor) refl)
    where
      go : (x : Reading) → Tells x → (record_refusal x ≡ 8) ↔ Bad
      go End t = (λ e. absurd (omega arith), λ bad. absurd (omega arith))
      go Cut t = (λ e. (t.0, ⊎_elim (λ h. inl h) (λ h. inr (inl h.2)) t.1), λ bad. refl)
      go Long t = (λ e. (omega arith, inr (inr t.1)), λ bad. refl)
      go (Whole r) t =
          let captured : r.captured ≡ head.captured = rw t.1 in
          let end : r.end ≡ head.end = rw t.1 in
          let whole : Bad → ⊥ = λ bad. ⊎_elim (λ h. omega arith) (⊎_elim (λ h. omega arith) (λ h. omega arith)) bad.1 in
          (λ e. absurd (omega arith), λ bad. absurd (whole bad))
