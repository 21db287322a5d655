-- Where there is room for it, what is put out for a record is put whole: just the bytes of the definition, and all others stay.
-- Assumes nothing.
use mathlib.Core.Bool.{Bool, true, false, cond}
use mathlib.Core.List.{List, [], append_assoc}
use mathlib.Core.Path.{◌≡◌, refl, sym, ap, ◌∙◌}
use Prim.Native.Nat.{ℕ, ◌+◌, ◌^◌, ◌≤◌, ◌<◌}
use native.Mathlib.Omega.{arith}
use lib.ListN.{length, take, drop}
use Rattle.words.specs.Words.{stored}
use Rattle.words.proofs.Words.{all_stored, nothing_stored}
use Rattle.std.specs.Prelude.{Option, None, Some, Result, Err}
use Rattle.refused.specs.declared.Refusal.{Refusal}
use Rattle.refused.specs.Refused.{refusal_number}
use Rattle.rulings.specs.declared.answers.Answer.{Answer}
use Rattle.rulings.specs.Answers.{forwarded_told}
use Rattle.reasons.specs.declared.Explanation.{Explanation}
use Rattle.explanations.specs.Explanations.{refused_asked, asked_text}
use Rattle.explanations.proofs.Short.{AskedSized, refused_asked_short, asked_short}
use Rattle.lines.specs.Lines.{refused_line, line}
use Rattle.lines.specs.Room.{Room, room_of, put}
use Rattle.lines.proofs.Whole.{whole, InRange, refused_line_short, line_short}
use Rattle.capture.specs.Format.{header_bytes, Content, record_bytes}
use Rattle.capture.proofs.Writings.{have_room, few_enough, the_header}
use Rattle.outputs.specs.declared.Output.{Output}
use Rattle.outputs.specs.declared.Output.TheVariants.{Lines, Forwarded, Reasons}
use Rattle.outputs.specs.Outputs.{told_of, opening_of, room_after, forwarded_put, told_put, opening_put}
use Rattle.outputs.proofs.Cases.{goes_through, is_held_back}

-- what a program puts out for a record that is refused, by the refusal's number, whatever that is
abbrev pub refused_of : Output → ℕ → ℕ → List ℕ
refused_of Lines number refusal = refused_line number refusal
refused_of Forwarded number refusal = []
refused_of (Reasons wanted) number refusal = refused_asked wanted number refusal

abbrev pub Stored : List ℕ → ℕ → List ℕ → Room
Stored text at room = room_of (at + length text) (stored text at room)

module _ (at : ℕ) (room : List ℕ) where
  line_whole : (text : List ℕ) → at + length text ≤ length room → put text (room_of at room) ≡ Stored text at room
  line_whole text h =
      whole text at room h
      ∙ ap (room_of (at + length text)) (append_assoc (take at room) text (drop (at + length text) room) ∙ sym (all_stored text at room h))

  forwarded_whole : (r : Content) (answer : Result Answer Refusal) → length r.bytes ≤ 2048 → (t : Bool) → forwarded_told answer ≡ t
      → at + length (cond t (record_bytes false r) []) ≤ length room
      → forwarded_put r answer (room_of at room) ≡ Stored (cond t (record_bytes false r) []) at room
  forwarded_whole r answer few true e h =
      goes_through r answer (room_of at room) e
      ∙ ap (room_after at) (few_enough r at room few ∙ have_room (record_bytes false r) at room h)
  forwarded_whole r answer few false e h =
      let end : at + 0 ≡ at = omega arith in
      is_held_back r answer (room_of at room) e ∙ (λ i. room_of (sym end i) (sym (nothing_stored at room (omega (arith, h))) i))

  -- a whole record has at most 2,048 captured bytes
  pub told_whole : (output : Output) (number : ℕ) (r : Content) (answer : Result Answer Refusal) (asked : Option (Result Explanation Refusal)) → length r.bytes ≤ 2048
      → at + length (told_of output number r answer asked) ≤ length room
      → told_put output number r answer asked (room_of at room) ≡ Stored (told_of output number r answer asked) at room
  told_whole Lines number r answer asked few h = line_whole (line number answer) h
  told_whole Forwarded number r answer asked few h = forwarded_whole r answer few (forwarded_told answer) refl h
  told_whole (Reasons wanted) number r answer asked few h = line_whole (asked_text wanted number r.seconds asked) h

  -- and so is what is put out for a record that is refused, by any number
  pub refused_whole : (output : Output) (number refusal : ℕ) → at + length (refused_of output number refusal) ≤ length room
      → put (refused_of output number refusal) (room_of at room) ≡ Stored (refused_of output number refusal) at room
  refused_whole output number refusal h = line_whole (refused_of output number refusal) h

  nothing_put : at + 0 ≤ length room → room_of at room ≡ Stored [] at room
  nothing_put h =
      let end : at + 0 ≡ at = omega arith in
      (λ i. room_of (sym end i) (sym (nothing_stored at room (omega (arith, h))) i))

  pub opening_whole : (output : Output) → at + length (opening_of output) ≤ length room
      → opening_put output (room_of at room) ≡ Stored (opening_of output) at room
  opening_whole Lines h = nothing_put h
  opening_whole Forwarded h = ap (room_after at) (the_header at room ∙ have_room (header_bytes false) at room h)
  opening_whole (Reasons wanted) h = nothing_put h

-- ---- how long it is
-- what the types of a record's, an answer's and an explanation's parts say of them, where they are printed
abbrev pub Sized : Output → Content → Result Answer Refusal → Option (Result Explanation Refusal) → Type 0
Sized Lines r answer asked = InRange answer
Sized Forwarded r answer asked = Unit {0}
Sized (Reasons wanted) r answer asked = (r.seconds < 2 ^ 32) × AskedSized asked

-- what is put out for a record that is refused is what its number says
pub told_refused : (output : Output) (number : ℕ) (r : Content) (refusal : Refusal)
    → told_of output number r (Err refusal) (Some (Err refusal)) ≡ refused_of output number (refusal_number refusal)
told_refused Lines number r refusal = refl
told_refused Forwarded number r refusal = refl
told_refused (Reasons None) number r refusal = refl
told_refused (Reasons (Some wanted)) number r refusal = refl

-- it has place in 2,064 bytes, for any number of a byte
pub refused_short : (output : Output) (number refusal : ℕ) → number < 2 ^ 64 → refusal < 2 ^ 8 → length (refused_of output number refusal) ≤ 2064
refused_short Lines number refusal h small = omega (arith, refused_line_short number refusal h small)
refused_short Forwarded number refusal h small = omega arith
refused_short (Reasons wanted) number refusal h small = omega (arith, refused_asked_short wanted number refusal h small)

-- and so has any line, any record and any explanation
pub told_short : (output : Output) (number : ℕ) (r : Content) (answer : Result Answer Refusal) (asked : Option (Result Explanation Refusal)) → number < 2 ^ 64 → Sized output r answer asked
    → length r.bytes ≤ 2048 → length (told_of output number r answer asked) ≤ 2064
told_short Lines number r answer asked h range few = omega (arith, line_short number answer h range)
told_short Forwarded number r answer asked h range few = go (forwarded_told answer)
  where
    go : (t : Bool) → length (cond t (record_bytes false r) []) ≤ 2064
    go true = omega arith
    go false = omega arith
told_short (Reasons wanted) number r answer asked h range few =
    omega (arith, asked_short wanted number r.seconds asked h range.0 range.1)
