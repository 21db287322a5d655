-- Reading a capture piece by piece is reading it whole: what a window on a part of it tells, the whole tells, but for the places.
-- Assumes nothing.
use mathlib.Core.Bool.{true, false, false≢true}
use mathlib.Core.List.{List, [], ◌∷◌, ◌++◌}
use mathlib.Core.Logic.{inl, inr, ⊎_elim}
use mathlib.Core.Path.{◌≡◌, refl, sym, ap, ◌∙◌}
use Prim.Native.Nat.{ℕ, zero, suc, ◌+◌, ◌-◌, ◌≤◌, ◌<◌}
use native.Mathlib.Nat.{zero-add}
use native.Mathlib.Omega.{arith}
use lib.ListN.{length, get_or, take, drop, length-append, length-drop, get_or-append}
use lib.Seq.{get_or-append-add, drop-append-add, drop-append-le, take-append-le}
use Rattle.words.specs.Layouts.{numbers_at}
use Rattle.words.proofs.Layouts.{numbers_alike}
use Rattle.capture.specs.declared.Cursor.{Cursor}
use Rattle.capture.specs.declared.Record.{Record}
use Rattle.capture.specs.declared.Reading.{Reading}
use Rattle.capture.specs.declared.Reading.TheVariants.{End, Cut, Long, Whole}
use Rattle.capture.specs.Format.{record_words}
use Rattle.capture.specs.Capture.{next_of}
use Rattle.capture.specs.Whole.{moved_to, onto, turn, in_turn, course_of, gone_on}
use Rattle.capture.specs.Whole.{later, placed, later_record, later_reading, settled, bytes_of}
use Rattle.capture.proofs.Whole.{more_turns}
use Rattle.capture.proofs.Readings.{head, Tells, tells, exactly, whole_record}

-- ---- a list in which the bytes of a window stand from n on
module _ (l window : List ℕ) (n : ℕ) (alike : (p q : ℕ) → p ≡ n + q → q < length window → get_or l p 0 ≡ get_or window q 0) where
  module _ (c : Cursor) where
    -- the words of a record's header are the window's
    words_alike : c.at + 16 ≤ length window
        → numbers_at c.big_endian record_words l (n + c.at) ≡ numbers_at c.big_endian record_words window c.at
    words_alike h = numbers_alike l window n alike c.big_endian record_words (n + c.at) c.at 0 refl (omega arith)

    captured_alike : c.at + 16 ≤ length window → (head l (later n c)).captured ≡ (head window c).captured
    captured_alike h = ap (λ (told : List ℕ). get_or told 2 0) (words_alike h)

    head_alike : c.at + 16 ≤ length window → head l (later n c) ≡ later_record n (head window c)
    head_alike h =
        let from : (head l (later n c)).from ≡ n + (head window c).from = omega arith in
        let end : (head l (later n c)).end ≡ n + (head window c).end = omega (arith, captured_alike h) in
        let told = words_alike h in
        λ i. record {
          seconds = get_or (told i) 0 0;
          microseconds = get_or (told i) 1 0;
          captured = get_or (told i) 2 0;
          original = get_or (told i) 3 0;
          from = from i;
          end = end i;
        }

    -- it tells what the window tells, and where that was not enough, only if it ends where the window does
    tells_alike : n + length window ≤ length l → (x : Reading) → (settled x ≡ false → length l ≡ n + length window)
        → Tells window c x → Tells l (later n c) (later_reading n x)
    tells_alike h End ends t = omega (arith, ends refl)
    tells_alike h Cut ends t = (
      omega (arith, ends refl),
      ⊎_elim (λ m. inl (omega (arith, ends refl))) (λ m. inr (omega (arith, ends refl, captured_alike m.0))) t.1,
    )
    tells_alike h Long ends t = omega (arith, captured_alike t.0)
    tells_alike h (Whole r) ends t = (omega arith, ap (later_record n) t.1 ∙ sym (head_alike t.0), t.2, omega arith)

    next_alike : n + length window ≤ length l → (settled (next_of window c) ≡ false → length l ≡ n + length window)
        → next_of l (later n c) ≡ later_reading n (next_of window c)
    next_alike h ends = exactly l (later n c) _ (tells_alike h (next_of window c) ends (tells window c (next_of window c) refl))

-- ---- a reading
-- with no bytes before it is the window's own
none_later : (x : Reading) → later_reading 0 x ≡ x
none_later End = refl
none_later Cut = refl
none_later Long = refl
none_later (Whole r) = λ i. Whole (placed r (zero-add r.from i) (zero-add r.end i))

-- more bytes behind a window change no reading for which it was enough: neither a whole record nor one that is too long
pub more_bytes : (window rest : List ℕ) (c : Cursor) (x : Reading) → settled x ≡ true → next_of window c ≡ x → next_of (window ++ rest) c ≡ x
more_bytes window rest c x s e =
    ap (λ (at : ℕ). next_of (window ++ rest) (moved_to at c)) (sym (zero-add c.at))
    ∙ next_alike (window ++ rest) window 0 alike c (omega (arith, length-append window rest))
    (λ q. absurd (false≢true (sym q ∙ ap settled e ∙ s)))
    ∙ none_later (next_of window c)
    ∙ e
  where
    alike : (p q : ℕ) → p ≡ 0 + q → q < length window → get_or (window ++ rest) p 0 ≡ get_or window q 0
    alike p q e h = rw (e, zero-add q) (get_or-append window rest 0 q h)

-- bytes before it change nothing but the places
pub bytes_before : (past window : List ℕ) (c : Cursor)
    → next_of (past ++ window) (later (length past) c) ≡ later_reading (length past) (next_of window c)
bytes_before past window c =
    next_alike (past ++ window) window (length past) (λ p q e h. rw e (get_or-append-add past window q 0)) c
    (omega (arith, length-append past window)) (λ q. length-append past window)

module _ (past window rest : List ℕ) where
  abbrev whole : List ℕ
  whole = past ++ (window ++ rest)

  abbrev n : ℕ
  n = length past

  -- so a whole that has the window in it is read as the window was
  pub in_pieces : (c : Cursor) (x : Reading) → settled x ≡ true → next_of window c ≡ x → next_of whole (later n c) ≡ later_reading n x
  in_pieces c x s e = bytes_before past (window ++ rest) c ∙ ap (later_reading n) (more_bytes window rest c x s e)

  -- with the same captured bytes
  pub same_bytes : (c : Cursor) (r : Record) → next_of window c ≡ Whole r → bytes_of whole (later_record n r) ≡ bytes_of window r
  same_bytes c r e =
      let facts = whole_record window c r e in
      let count : n + r.end - (n + r.from) ≡ r.end - r.from = omega arith in
      ap (λ (k : ℕ). take k (drop (n + r.from) whole)) count
      ∙ ap (take (r.end - r.from)) (drop-append-add past (window ++ rest) r.from ∙ drop-append-le r.from window rest (omega arith))
      ∙ take-append-le (r.end - r.from) (drop r.from window) rest (omega (arith, length-drop r.from window))

  -- and in turn: the records read in the window, however many, are the whole's first, and its course goes on where the window's stopped
  pub course_in_pieces : (turns : ℕ) (c : Cursor) → course_of whole (later n c) ≡ gone_on whole n c (in_turn turns window c)
  unfolding in_turn
  course_in_pieces zero c = refl
  course_in_pieces (suc turns) c =
      (elim (next_of window c) as
      (λ x. next_of window c ≡ x → course_of whole (later n c) ≡ gone_on whole n c (turn c (λ d. in_turn turns window d) x)) [
        | End ↦ λ e. refl
        | Cut ↦ λ e. refl
        | Long ↦ λ e. refl
        | Whole r ↦ λ e.
            sym (more_turns whole (later n c) (suc (length whole)) (omega arith))
            ∙ ap (turn (later n c) (course_of whole)) (in_pieces c (Whole r) refl e)
            ∙ ap (onto (later_record n r ∷ [])) (course_in_pieces turns (moved_to r.end c))
      ]) refl
