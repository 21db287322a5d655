-- What is read for the header is the first 24 bytes of input, however that is cut into reads; or all of it, where it has fewer.
-- Assumes nothing.
use mathlib.Core.Bool.{Bool, true, false, ◌&&◌}
use mathlib.Core.List.{List, [], ◌∷◌, ◌++◌, append_assoc, append-nil}
use mathlib.Core.Path.{◌≡◌, refl, sym, ap, subst, ◌∙◌}
use Prim.Native.Nat.{ℕ, zero, suc, ◌+◌, ◌≤◌, ◌<◌}
use native.Mathlib.Omega.{arith}
use lib.Dec.{ltb}
use lib.ListN.{length, take, length-append, length-take}
use lib.Seq.{length-take-le}
use borrow.Author.Tests.{le-leb, lt-leb, lt-ltb, le-ltb}
use Rattle.laws.proofs.Tests.{Which, below, above, which, cond_at}
use Rattle.words.proofs.Words.{stored_length}
use Rattle.turns.specs.Turns.{none_yet, refilled_stage, has_ended, is_lost, goes_on, lacks_header, Turn}
use Rattle.turns.specs.Runs.{Run, joined, AllFull, behind_first, free_of, read, refilled, headed}
use Rattle.turns.proofs.Windows.{lost_so, open_so, read_behind, got_and_left, full_left}

module _ (l room : List ℕ) (fails : Bool) where
  -- what is so while the header is read
  pub record Heading (r : Run) : Type 0 where
    pub few : r.turn.stage.held ≤ 24
    pub buffer : length r.turn.input ≡ 24
    pub split : take r.turn.stage.held r.turn.input ++ joined r.input.pieces ≡ l
    pub full : AllFull r.input.pieces
    pub written : r.turn.stage.is_written ≡ true
    pub wants : r.turn.stage.wants_bytes ≡ true
    pub none_told : r.turn.stage.progress ≡ none_yet
    pub same_room : r.turn.room ≡ room
    pub fails_is : r.input.fails ≡ fails

  -- and how it ends: with all of the header, with all of an input that has fewer bytes, or with a read that failed
  pub data How (r : Run) : Type 0 where
    whole : r.turn.stage.held ≡ 24 → is_lost r.turn.stage ≡ false → How r
    short : joined r.input.pieces ≡ [] → is_lost r.turn.stage ≡ false → fails ≡ false → How r
    lost : is_lost r.turn.stage ≡ true → fails ≡ true → length l < 24 → How r

  pub record Headed (r : Run) : Type 0 where
    pub heading : Heading r
    pub how : How r

  -- a read of a piece
  module _ (t : Turn) (out piece : List ℕ) (pieces : List (List ℕ)) where
    abbrev at_piece : Run
    at_piece = record { turn = t; out = out; input = record { pieces = piece ∷ pieces; fails = fails } }

    abbrev got : List ℕ
    got = take (free_of t) piece

    got_some : Heading at_piece → t.stage.held < 24 → 0 < length got
    got_some g h = omega (arith, length-take (free_of t) piece, h, g.buffer, g.full.0)

    heads_on : Heading at_piece → Heading (read t out (piece ∷ pieces) fails)
    heads_on g =
        let held : ℕ = t.stage.held in
        let fits : held + length got ≤ length t.input = omega (arith, length-take (free_of t) piece, g.few, g.buffer) in
        record {
          few = omega (arith, fits, g.buffer);
          buffer = stored_length got held t.input ∙ g.buffer;
          split =
              ap (λ (b : List ℕ). b ++ joined (behind_first (free_of t) piece pieces)) (read_behind got held t.input fits)
              ∙ append_assoc (take held t.input) got (joined (behind_first (free_of t) piece pieces))
              ∙ ap (◌++◌ (take held t.input)) (got_and_left (free_of t) piece pieces)
              ∙ g.split;
          full = full_left (free_of t) piece pieces g.full.1;
          written = g.written;
          wants = g.wants;
          none_told = g.none_told;
          same_room = g.same_room;
          fails_is = refl;
        }

  -- the end of input, or a read that fails
  module _ (t : Turn) (out : List ℕ) where
    abbrev at_end : Run
    at_end = record { turn = t; out = out; input = record { pieces = []; fails = fails } }

    heads_off : Heading at_end → t.stage.held < 24 → Headed (read t out [] fails)
    heads_off g h =
        let held : ℕ = t.stage.held in
        let fits : held + 0 ≤ length t.input = omega (arith, g.few, g.buffer) in
        let all : length l ≡ held =
        omega (arith, sym (ap length g.split), length-append (take held t.input) [], length-take-le held t.input (omega (arith, fits))) in
        let heading : Heading (read t out [] fails) =
        record {
          few = omega (arith, g.few);
          buffer = stored_length [] held t.input ∙ g.buffer;
          split = ap (λ (b : List ℕ). b ++ []) (read_behind [] held t.input fits ∙ append-nil (take held t.input)) ∙ g.split;
          full = tt;
          written = g.written;
          wants = g.wants;
          none_told = g.none_told;
          same_room = g.same_room;
          fails_is = refl;
        } in
        record { heading = heading; how = by fails refl (omega (arith, all, h)) }
      where
        by : (failed : Bool) → fails ≡ failed → length l < 24 → How (read t out [] fails)
        by true e few = lost (lost_so t.stage (t.stage.held + 0) fails ∙ e) e few
        by false e few = short refl (lost_so t.stage (t.stage.held + 0) fails ∙ e) e

  stays : (turns : ℕ) (r : Run) → lacks_header r.turn.stage ≡ false → headed turns r ≡ r
  unfolding headed
  stays zero r e = refl
  stays (suc turns) r e = cond_at _ r e

  goes : (r : Run) → Heading r → has_ended r.turn.stage ≡ false → is_lost r.turn.stage ≡ false → goes_on r.turn.stage ≡ true
  goes r g e f = rw (g.written, f, e, g.none_told)

  abbrev In : ℕ → Type 0
  In turns =
      (r : Run) → Heading r → has_ended r.turn.stage ≡ false → is_lost r.turn.stage ≡ false → 24 ≤ turns + r.turn.stage.held
      → Headed (headed turns r)

  enough_held : (turns : ℕ) (r : Run) → Heading r → is_lost r.turn.stage ≡ false → 24 ≤ r.turn.stage.held → Headed (headed turns r)
  enough_held turns r g f h =
      subst Headed (sym (stays turns r (off (goes_on r.turn.stage)))) (record { heading = g; how = whole (omega (arith, h, g.few)) f })
    where
      off : (b : Bool) → (b && ltb r.turn.stage.held 24) ≡ false
      off true = le-ltb r.turn.stage.held 24 h
      off false = refl

  -- whether a read is to fail is the same all along
  moved_fails : (r : Run) → Heading r → Heading (record { turn = r.turn; out = r.out; input = record { pieces = r.input.pieces; fails = fails } })
  moved_fails r g =
      record {
        few = g.few;
        buffer = g.buffer;
        split = g.split;
        full = g.full;
        written = g.written;
        wants = g.wants;
        none_told = g.none_told;
        same_room = g.same_room;
        fails_is = refl;
      }

  -- one read more
  module _ (turns : ℕ) (others : In turns) where
    a_read : (t : Turn) (out : List ℕ) (pieces : List (List ℕ)) → let r : Run = record { turn = t; out = out; input = record { pieces = pieces; fails = fails } } in
        Heading r → t.stage.held < 24 → 24 ≤ suc turns + t.stage.held → Headed (headed turns (read t out pieces fails))
    a_read t out [] g h enough =
        let done = heads_off t out g h in
        subst Headed (sym (stays turns (read t out [] fails) (over fails))) done
      where
        over : (failed : Bool) → lacks_header (refilled_stage t.stage (t.stage.held + 0) failed) ≡ false
        over true = rw g.written
        over false = rw (g.written, le-leb (t.stage.held + 0) t.stage.held (omega arith))
    a_read t out (piece ∷ pieces) g h enough =
        let more = got_some t out piece pieces g h in
        others (read t out (piece ∷ pieces) fails) (heads_on t out piece pieces g)
        (open_so t.stage (t.stage.held + length (got t out piece pieces)) (lt-leb (t.stage.held + length (got t out piece pieces)) t.stage.held (omega (arith, more))))
        (lost_so t.stage (t.stage.held + length (got t out piece pieces)) false) (omega (arith, enough, more))

    one_read : In (suc turns)
    unfolding headed
    one_read r g e f enough = go (which r.turn.stage.held 24)
      where
        go : Which r.turn.stage.held 24 → Headed (headed (suc turns) r)
        go (above h) = enough_held (suc turns) r g f h
        go (below h) =
            let lacks : lacks_header r.turn.stage ≡ true = rw (goes r g e f, lt-ltb r.turn.stage.held 24 h) in
            let refilled-is : refilled r ≡ read r.turn r.out r.input.pieces fails =
            cond_at (read r.turn r.out r.input.pieces r.input.fails) r g.wants
            ∙ ap (read r.turn r.out r.input.pieces) g.fails_is in
            subst Headed (sym (cond_at (headed turns (refilled r)) r lacks ∙ ap (headed turns) refilled-is))
            (a_read r.turn r.out r.input.pieces (moved_fails r g) h enough)

  pub header_read : (turns : ℕ) → In turns
  unfolding headed
  header_read zero = λ r g e f enough. enough_held zero r g f (omega (arith, enough))
  header_read (suc turns) = one_read turns (header_read turns)
