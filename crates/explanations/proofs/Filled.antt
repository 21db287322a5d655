-- A text is put letter by letter.
-- Assumes nothing.
use mathlib.Core.Bool.{Bool}
use mathlib.Core.List.{List, ◌∷◌}
use mathlib.Core.Path.{◌≡◌, sym, ap, ◌∙◌}
use Prim.Native.Nat.{ℕ, suc, ◌+◌, ◌≤◌, ◌<◌}
use native.Mathlib.Omega.{arith}
use lib.ListN.{length, get_or, drop, drop_of_length-le}
use lib.Seq.{drop-cons}
use Rattle.lines.specs.Room.{Room, put}
use Rattle.lines.proofs.Rooms.{put_more}
use Rattle.explanations.specs.declared.Report.{Report}
use Rattle.explanations.specs.Values.{letter_text, is_mark, filled}

module _ (report : Report) (text : List ℕ) where
  -- the next letter, and then the rest
  pub fill_next : (marked : Bool) (done : ℕ) (before : Room) {after : Room} → done < length text
      → after ≡ put (letter_text report marked (get_or text done 0)) before
      → put (filled report (is_mark marked (get_or text done 0)) (drop (done + 1) text)) after ≡ put (filled report marked (drop done text)) before
  unfolding filled
  fill_next marked done before h e =
      let next : suc done ≡ done + 1 = omega arith in
      let rest = filled report (is_mark marked (get_or text done 0)) (drop (done + 1) text) in
      ap (put rest) e
      ∙ sym (put_more (letter_text report marked (get_or text done 0)) rest before)
      ∙ ap (λ (l : List ℕ). put (filled report marked l) before)
      (ap (λ (n : ℕ). get_or text done 0 ∷ drop n text) (sym next) ∙ sym (drop-cons text done 0 h))

  -- after the last none is left
  pub fill_end : (marked : Bool) (done : ℕ) (room : Room) → length text ≤ done → room ≡ put (filled report marked (drop done text)) room
  unfolding filled put
  fill_end marked done room h = ap (λ (l : List ℕ). put (filled report marked l) room) (sym (drop_of_length-le text {i = done} h))
