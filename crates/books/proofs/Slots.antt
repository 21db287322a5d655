-- One slot: its stored record is marked exactly if the slot is live by the history, and its age is then the minute boundaries since the
-- last packet forwarded on it.
-- Assumes nothing.
use mathlib.Core.Bool.{Bool, true, false, not, ◌&&◌, ◌||◌, cond, and-false, or-true, not-not}
use mathlib.Core.List.{List, [], ◌∷◌}
use mathlib.Core.Path.{◌≡◌, refl, sym, ap, subst, ◌∙◌}
use Prim.Native.Nat.{ℕ, zero, suc, ◌+◌, ◌≤◌, ◌<◌}
use native.Mathlib.Nat.{le_trans}
use native.Mathlib.Omega.{arith}
use lib.Dec.{leb}
use borrow.Author.Tests.{leb-true, le-leb, lt-leb}
use Rattle.std.specs.Prelude.{Option, Some}
use Rattle.laws.proofs.Tests.{Which, below, above, which, true_is_not_false, is_false, and_left, and_right, and_yes}
use Rattle.records.specs.declared.Marks.{Marks}
use Rattle.records.specs.Records.{plant_seen, cell_seen, marks_of, record_of, age_of, is_unmarked, is_cold, aged_by}
use Rattle.records.proofs.Parts.{marks_back, age_back, same_marks, older_age}
use Rattle.records.proofs.Ages.{low_is_cold, aged_none, aged_cold, aged_kept, aged_old}
use Rattle.tables.specs.Clock.{multiples_passed}
use Rattle.tables.proofs.Jumps.{passed_none, passed_add}
use Rattle.packet.specs.declared.kinds.Kind.{Kind}
use Rattle.verdicts.specs.declared.Verdict.{Verdict}
use Rattle.verdicts.specs.declared.Verdict.TheVariants.{Uncounted, CreditOfOne, CreditOfTwo, FreshContact, Hygiene, Blocked}
use Rattle.verdicts.specs.Verdicts.{number_of, is_forwarded, is_udp, is_opening, is_syn_ack, is_closing, is_counted, from_the_plant, from_the_cell, from_blocked_cell, verdict_of, plant_begins, marks_after, record_after}
use Rattle.history.specs.Fresh.{Ours, tells, forwards, Forwarded, closes_from_plant, is_live}

-- ---- verdicts: 4 is the only one that forwards a cell packet on a record with neither mark
-- a verdict's number, as an answer tells it
abbrev pub told_of : Verdict → Option ℕ
told_of verdict = Some (number_of verdict)

abbrev pub is_four : Verdict → Bool
is_four verdict = tells 4 (told_of verdict)

abbrev pub is_six : Verdict → Bool
is_six verdict = tells 6 (told_of verdict)

-- by its number it forwards a packet of ours exactly if by its case it does
pub by_number : (verdict : Verdict) → is_forwarded verdict ≡ forwards (told_of verdict)
by_number Uncounted = refl
by_number CreditOfOne = refl
by_number CreditOfTwo = refl
by_number FreshContact = refl
by_number Hygiene = refl
by_number Blocked = refl

-- what is known of a verdict: it is 4 exactly if forwarded, from the cell, and on a record with neither mark, and then not blocked; 6 only
-- if blocked
pub record Ruled (from_plant blocked unmarked : Bool) (verdict : Verdict) : Type 0 where
  pub four : (forwards (told_of verdict) && (not from_plant && unmarked)) ≡ is_four verdict
  pub four_open : is_four verdict ≡ true → blocked ≡ false
  pub six_blocked : is_six verdict ≡ true → blocked ≡ true
  pub four_counts : is_four verdict ≡ true → is_counted verdict ≡ true

-- a verdict that is neither 4 nor 6
quiet : {from_plant blocked unmarked : Bool} (verdict : Verdict) → is_four verdict ≡ false → is_six verdict ≡ false
    → (forwards (told_of verdict) && (not from_plant && unmarked)) ≡ false → Ruled from_plant blocked unmarked verdict
quiet verdict f s e =
    record {
      four = e ∙ sym f;
      four_open = λ h. true_is_not_false h f;
      six_blocked = λ h. true_is_not_false h s;
      four_counts = λ h. true_is_not_false h f;
    }

-- the two that are
fresh_one : Ruled false false true FreshContact
fresh_one = record { four = refl; four_open = λ h. refl; six_blocked = λ h. true_is_not_false h refl; four_counts = λ h. refl }

blocked_one : {from_plant unmarked : Bool} → Ruled from_plant true unmarked Blocked
blocked_one = record { four = refl; four_open = λ h. true_is_not_false h refl; six_blocked = λ h. refl; four_counts = λ h. true_is_not_false h refl }

by_plant : (blocked own other unmarked : Bool) (kind : Kind) → Ruled true blocked unmarked (from_the_plant own other kind)
unfolding from_the_plant
by_plant blocked true other unmarked kind = quiet Uncounted refl refl refl
by_plant blocked false false unmarked kind = quiet Uncounted refl refl refl
by_plant blocked false true unmarked kind = go (is_closing kind)
  where
    go : (closing : Bool) → Ruled true blocked unmarked (cond closing Uncounted CreditOfTwo)
    go true = quiet Uncounted refl refl refl
    go false = quiet CreditOfTwo refl refl refl

by_cell : (own other : Bool) (kind : Kind) → Ruled false false (not (other || own)) (from_the_cell own other kind)
unfolding from_the_cell
by_cell true true kind = quiet Uncounted refl refl refl
by_cell true false kind = quiet Uncounted refl refl refl
by_cell false true kind = go (is_closing kind)
  where
    go : (closing : Bool) → Ruled false false false (cond closing Uncounted CreditOfOne)
    go true = quiet Uncounted refl refl refl
    go false = quiet CreditOfOne refl refl refl
by_cell false false kind = go (is_closing kind || is_syn_ack kind)
  where
    go : (stray : Bool) → Ruled false false true (cond stray Hygiene FreshContact)
    go true = quiet Hygiene refl refl refl
    go false = fresh_one

by_blocked_cell : (own other : Bool) (kind : Kind) → Ruled false true (not (other || own)) (from_blocked_cell own other kind)
unfolding from_blocked_cell
by_blocked_cell own false kind = blocked_one
by_blocked_cell own true kind = go (is_udp kind || is_opening kind) (own || is_closing kind)
  where
    go : (opens known : Bool) → Ruled false true false (cond opens Blocked (cond known Uncounted CreditOfOne))
    go true known = blocked_one
    go false true = quiet Uncounted refl refl refl
    go false false = quiet CreditOfOne refl refl refl

pub ruled : (from_plant blocked : Bool) (marks : Marks) (kind : Kind) → Ruled from_plant blocked (is_unmarked marks) (verdict_of from_plant blocked marks kind)
unfolding verdict_of
ruled true blocked marks kind = by_plant blocked marks.plant marks.cell (is_unmarked marks) kind
ruled false true marks kind = by_blocked_cell marks.cell marks.plant kind
ruled false false marks kind = by_cell marks.cell marks.plant kind

-- ---- what a forwarded packet makes of its record: marked if it was, or if the packet is no closing one from the plant; and of age 0
pub record Renewed (marked : Bool) (byte : ℕ) : Type 0 where
  pub mark : not (is_cold byte) ≡ marked
  pub young : is_cold byte ≡ false → age_of byte ≡ 0

-- a record made of some mark and age 0
made : (marks : Marks) {marked : Bool} → is_unmarked marks ≡ false → marked ≡ true → Renewed marked (record_of marks 0)
made marks e m =
    record {
      mark = ap (λ (x : Marks). not (is_unmarked x)) (marks_back marks 0 (omega arith)) ∙ ap not e ∙ sym m;
      young = λ h. age_back marks 0 (omega arith);
    }

abbrev marks_by : Bool → Bool → Marks
marks_by P C = record { plant = P; cell = C }

-- by the packet's direction, the marks P of the plant and C of the cell, whether it is closing, and whether something is counted
abbrev record_by : (from_plant P C closing counted : Bool) → ℕ → ℕ
record_by from_plant P C closing counted byte =
    cond (plant_begins from_plant (marks_by P C) && closing) byte
    (record_of (marks_after from_plant (marks_by P C) (counted || plant_begins from_plant (marks_by P C))) 0)

-- the cell's mark stays
keeps_cell : (from_plant sets : Bool) → is_unmarked (marks_after from_plant (marks_by false true) sets) ≡ false
keeps_cell true true = refl
keeps_cell true false = refl
keeps_cell false true = refl
keeps_cell false false = refl

renewed : (from_plant P C closing counted : Bool) (byte : ℕ) → is_cold byte ≡ not (P || C) → ((not from_plant && not (P || C)) ≡ true → counted ≡ true)
    → Renewed (not (from_plant && closing) || (P || C)) (record_by from_plant P C closing counted byte)
renewed true true C closing counted byte c f = made (marks_after true (marks_by true C) (counted || false)) refl (or-true (not closing))
renewed true false true closing counted byte c f = made (marks_after true (marks_by false true) (counted || false)) (keeps_cell true (counted || false)) (or-true (not closing))
renewed true false false true counted byte c f = record { mark = ap not c; young = λ h. true_is_not_false c h }
renewed true false false false counted byte c f = made (marks_after true (marks_by false false) (counted || true)) (begun counted) refl
  where
    begun : (counted : Bool) → is_unmarked (marks_after true (marks_by false false) (counted || true)) ≡ false
    begun true = refl
    begun false = refl
renewed false true C closing counted byte c f = made (marks_after false (marks_by true C) (counted || false)) refl refl
renewed false false true closing counted byte c f = made (marks_after false (marks_by false true) (counted || false)) (keeps_cell false (counted || false)) refl
renewed false false false closing counted byte c f =
    rw (f refl) (made (marks_after false (marks_by false false) true) refl refl)

-- a packet that is forwarded, and one that is dropped
module _ (from_plant blocked : Bool) (kind : Kind) (byte : ℕ) where
  abbrev verdict : Verdict
  verdict = verdict_of from_plant blocked (marks_of byte) kind

  pub forwarded_record : forwards (told_of verdict) ≡ true → Renewed (not (from_plant && is_closing kind) || not (is_cold byte)) (record_after from_plant kind verdict byte)
  unfolding record_after
  forwarded_record f =
      rw (by_number verdict ∙ f)
      (subst (λ (x : Bool). Renewed (not (from_plant && is_closing kind) || x) (record_by from_plant (plant_seen byte) (cell_seen byte) (is_closing kind) (is_counted verdict) byte))
      (sym (not-not (plant_seen byte || cell_seen byte)))
      (renewed from_plant (plant_seen byte) (cell_seen byte) (is_closing kind) (is_counted verdict) byte refl
      (λ e. (ruled from_plant blocked (marks_of byte) kind).four_counts (sym (ruled from_plant blocked (marks_of byte) kind).four ∙ and_yes f e))))

  pub dropped_record : forwards (told_of verdict) ≡ false → record_after from_plant kind verdict byte ≡ byte
  unfolding record_after
  dropped_record f = rw (by_number verdict ∙ f)

-- ---- the slot's record and its history
-- by Dconn, the start's clock and the slot's record there, b0: whether the slot is live at a moment, if nothing was forwarded on it since.
-- A slot still marked counts as last forwarded on as many minute boundaries ago as its age says.
abbrev pub held_by : ℕ → ℕ → ℕ → ℕ → Bool
held_by dconn start b0 now = leb (age_of b0 + multiples_passed 60 start now) dconn && not (is_cold b0)

-- what is held of the slot where the history begins
module _ (dconn start b0 : ℕ) (held : ℕ → Bool) where
  abbrev HeldSo : Type 0
  HeldSo = (now : ℕ) → held now ≡ held_by dconn start b0 now

  abbrev live : ℕ → List Forwarded → Bool
  live now forwarded = is_live held dconn now forwarded

  -- the last time that a packet was forwarded on the slot, or the start, and the minute boundaries since
  abbrev latest : List Forwarded → ℕ
  latest [] = start
  latest (last ∷ earlier) = last.time

  abbrev pub since : ℕ → List Forwarded → ℕ
  since now [] = age_of b0 + multiples_passed 60 start now
  since now (last ∷ earlier) = multiples_passed 60 last.time now

  -- what makes a slot live that is not too long ago
  abbrev opened : List Forwarded → Bool
  opened [] = not (is_cold b0)
  opened (last ∷ earlier) = not (closes_from_plant last.packet) || live last.time earlier

  live_by : HeldSo → (now : ℕ) (forwarded : List Forwarded) → live now forwarded ≡ (leb (since now forwarded) dconn && opened forwarded)
  live_by so now [] = so now
  live_by so now (last ∷ earlier) = refl

  -- the slot's record b at a time
  pub record Kept (b time : ℕ) (forwarded : List Forwarded) : Type 0 where
    pub held_so : HeldSo
    pub mark : not (is_cold b) ≡ live time forwarded
    pub old : is_cold b ≡ false → age_of b ≡ since time forwarded
    pub past : latest forwarded ≤ time

  -- the start
  pub kept_start : HeldSo → (is_cold b0 ≡ false → age_of b0 ≤ dconn) → Kept b0 start []
  kept_start so young =
      record {
        held_so = so;
        mark = go (is_cold b0) refl ∙ sym (so start);
        old = λ e. omega (arith, none);
        past = omega arith;
      }
    where
      none : multiples_passed 60 start start ≡ 0
      none = passed_none 60 start start (omega arith)

      go : (cold : Bool) → is_cold b0 ≡ cold → not (is_cold b0) ≡ (leb (age_of b0 + multiples_passed 60 start start) dconn && not (is_cold b0))
      go true e = rw e (sym (and-false (leb (age_of b0 + multiples_passed 60 start start) dconn)))
      go false e = sym (ap (λ (t : Bool). t && not (is_cold b0)) (le-leb (age_of b0 + multiples_passed 60 start start) dconn (omega (arith, none, young e))))

  -- the clock goes on
  since_add : {time later : ℕ} (forwarded : List Forwarded) → latest forwarded ≤ time → time ≤ later
      → since later forwarded ≡ since time forwarded + multiples_passed 60 time later
  since_add {time} {later} [] h k = omega (arith, passed_add 60 start time later h k)
  since_add {time} {later} (last ∷ earlier) h k = passed_add 60 last.time time later h k

  module _ (narrow : dconn ≤ 62) {b time : ℕ} {forwarded : List Forwarded} (i : Kept b time forwarded) where
    pub kept_onward : (later : ℕ) → time ≤ later → Kept (aged_by dconn (multiples_passed 60 time later) b) later forwarded
    kept_onward later h = go (multiples_passed 60 time later) refl (is_cold b) refl
      where
        more : since later forwarded ≡ since time forwarded + multiples_passed 60 time later
        more = since_add forwarded i.past h

        -- a slot that was not live is not live later, and one that was is so while it is not too long ago
        never : live time forwarded ≡ false → live later forwarded ≡ false
        never e = live_by i.held_so later forwarded ∙ is_false _ (λ t. true_is_not_false
            (live_by i.held_so time forwarded
            ∙ and_yes (le-leb (since time forwarded) dconn (omega (arith, more, leb-true (since later forwarded) dconn (and_left (leb (since later forwarded) dconn) (opened forwarded) t))))
            (and_right (leb (since later forwarded) dconn) (opened forwarded) t))
            e)

        still : (near : Bool) → leb (since later forwarded) dconn ≡ near → live time forwarded ≡ true → live later forwarded ≡ near
        still near e l =
            live_by i.held_so later forwarded
            ∙ ap (λ (t : Bool). t && opened forwarded) e
            ∙ open_so near (and_right (leb (since time forwarded) dconn) (opened forwarded) (sym (live_by i.held_so time forwarded) ∙ l))
          where
            open_so : (near : Bool) → opened forwarded ≡ true → (near && opened forwarded) ≡ near
            open_so true o = o
            open_so false o = refl

        past : latest forwarded ≤ later
        past = le_trans i.past h

        lived : is_cold b ≡ false → live time forwarded ≡ true
        lived e = sym i.mark ∙ ap not e

        -- a record that is cold then
        cold : (b' : ℕ) → b' ≡ 0 → live later forwarded ≡ false → Kept b' later forwarded
        cold b' e l =
            let c : is_cold b' ≡ true = ap is_cold e ∙ low_is_cold 0 (omega arith) in
            record { held_so = i.held_so; mark = ap not c ∙ sym l; old = λ w. true_is_not_false c w; past = past }

        aged : (m : ℕ) → 0 < m → multiples_passed 60 time later ≡ m → is_cold b ≡ false → Which dconn (age_of b + m) → Kept (aged_by dconn m b) later forwarded
        aged m passing e c (below l) =
            cold (aged_by dconn m b) (aged_old dconn m b c (omega arith) passing)
            (still false (lt-leb (since later forwarded) dconn (omega (arith, more, e, i.old c))) (lived c))
        aged m passing e c (above l) =
            let is = aged_kept dconn m b c (omega arith) in
            let marks = same_marks b m (omega arith) in
            let older = older_age b m (omega arith) in
            rw is
            (record {
              held_so = i.held_so;
              mark = ap (λ (x : Marks). not (is_unmarked x)) marks ∙ ap not c ∙ sym (still true (le-leb (since later forwarded) dconn (omega (arith, more, e, i.old c))) (lived c));
              old = λ w. omega (arith, older, more, e, i.old c);
              past = past;
            })

        go : (m : ℕ) → multiples_passed 60 time later ≡ m → (c : Bool) → is_cold b ≡ c → Kept (aged_by dconn m b) later forwarded
        go zero e c q =
            let same : since later forwarded ≡ since time forwarded = omega (arith, more, e) in
            rw (aged_none dconn b)
            (record {
              held_so = i.held_so;
              mark = i.mark ∙ live_by i.held_so time forwarded ∙ ap (λ (n : ℕ). leb n dconn && opened forwarded) (sym same) ∙ sym (live_by i.held_so later forwarded);
              old = λ w. i.old w ∙ sym same;
              past = past;
            })
        go (suc m) e true q = cold (aged_by dconn (suc m) b) (aged_cold dconn (suc m) b q (omega arith)) (never (sym i.mark ∙ ap not q))
        go (suc m) e false q = aged (suc m) (omega arith) e q (which dconn (age_of b + suc m))

  -- a packet is forwarded on the slot
  pub kept_forwarded : {b b' time : ℕ} {forwarded : List Forwarded} (packet : Ours) → Kept b time forwarded
      → Renewed (not (closes_from_plant packet) || not (is_cold b)) b' → Kept b' time (record { time = time; packet = packet } ∷ forwarded)
  kept_forwarded {b} {b'} {time} {forwarded} packet i r =
      let none = passed_none 60 time time (omega arith) in
      record {
        held_so = i.held_so;
        mark =
            r.mark ∙ ap (λ (t : Bool). not (closes_from_plant packet) || t) i.mark
            ∙ sym (ap (λ (t : Bool). t && (not (closes_from_plant packet) || live time forwarded)) (le-leb (multiples_passed 60 time time) dconn (omega (arith, none))));
        old = λ w. r.young w ∙ sym none;
        past = omega arith;
      }
