-- The tests of being live and of being fresh are document 01's own wording. After a cold start the first passes exactly if some earlier
-- packet forwarded on the slot, other than a closing one from the plant, has no gap of over Dconn boundaries from it to now; the other
-- exactly if a cell packet was forwarded whose slot was not live.
-- Assumes nothing.
use mathlib.Core.Bool.{Bool, true, false, not, ◌&&◌, ◌||◌}
use mathlib.Core.List.{List, [], ◌∷◌, ◌++◌}
use mathlib.Core.Logic.{◌↔◌}
use mathlib.Core.Path.{◌≡◌, refl, sym, ap, subst, ◌∙◌}
use Prim.Native.Nat.{ℕ, ◌≤◌}
use native.Mathlib.Omega.{arith}
use lib.Dec.{leb}
use borrow.Author.Tests.{leb-true, le-leb, not-true}
use Rattle.std.specs.Prelude.{Option}
use Rattle.laws.proofs.Tests.{true_is_not_false, is_false, and_left, and_right, and_yes, or_yes}
use Rattle.tables.specs.Clock.{multiples_passed}
use Rattle.gateway.specs.Calls.{State}
use Rattle.history.specs.Runs.{Site, Start, started_cold, Event}
use Rattle.history.specs.Fresh.{Ours, forwards, Forwarded, closes_from_plant, NoLongGap, Live, is_live, slot_for, forwarded_on, Fresh, live_for, is_fresh}

module _ (dconn : ℕ) where
  abbrev test : ℕ → List Forwarded → Bool
  test now forwarded = is_live (λ moment. false) dconn now forwarded

  -- the newest of them is near enough, and opens the slot or came when it was live
  abbrev near : ℕ → Forwarded → Bool
  near now last = leb (multiples_passed 60 last.time now) dconn

  abbrev opens : Forwarded → List Forwarded → Bool
  opens last earlier = not (closes_from_plant last.packet) || test last.time earlier

  in_words : (now : ℕ) (forwarded : List Forwarded) → test now forwarded ≡ true → Live dconn now forwarded
  in_words now [] e = true_is_not_false e refl
  in_words now (last ∷ earlier) e = go (closes_from_plant last.packet) refl (in_words last.time earlier)
    where
      gap : multiples_passed 60 last.time now ≤ dconn
      gap = leb-true _ _ (and_left (near now last) (opens last earlier) e)

      opened : opens last earlier ≡ true
      opened = and_right (near now last) (opens last earlier) e

      go : (closes : Bool) → closes_from_plant last.packet ≡ closes → (test last.time earlier ≡ true → Live dconn last.time earlier)
          → Live dconn now (last ∷ earlier)
      go false c more = record { newer = []; it = last; older = earlier; some_earlier = refl; other_than = c; from_it_to_now = (omega (arith, gap), tt) }
      go true c more =
          let l = more (ap (λ (b : Bool). not b || test last.time earlier) (sym c) ∙ opened) in
          record {
            newer = last ∷ l.newer;
            it = l.it;
            older = l.older;
            some_earlier = ap (λ (xs : List Forwarded). last ∷ xs) l.some_earlier;
            other_than = l.other_than;
            from_it_to_now = (omega (arith, gap), l.from_it_to_now);
          }

  reached : (now : ℕ) (newer : List Forwarded) (it : Forwarded) (older : List Forwarded) → closes_from_plant it.packet ≡ false
      → NoLongGap dconn now (newer ++ (it ∷ [])) → test now (newer ++ (it ∷ older)) ≡ true
  reached now [] it older c n =
      and_yes (le-leb _ dconn (omega (arith, n.0))) (ap (λ (b : Bool). not b || test it.time older) c)
  reached now (last ∷ newer) it older c n =
      and_yes (le-leb _ dconn (omega (arith, n.0))) (or_yes (not (closes_from_plant last.packet)) (reached last.time newer it older c n.1))

  pub live_is : (now : ℕ) (forwarded : List Forwarded) → (test now forwarded ≡ true) ↔ Live dconn now forwarded
  live_is now forwarded =
      (in_words now forwarded, λ l. subst (λ (xs : List Forwarded). test now xs ≡ true) (sym l.some_earlier) (reached now l.newer l.it l.older l.other_than l.from_it_to_now))

module _ (site : Site) (state : State) (time : ℕ) (packet : Ours) (verdict : Option ℕ) (before : List Event) where
  abbrev start : Start
  start = started_cold state

  abbrev live : Bool
  live = live_for site start packet time before

  slot_is : (live ≡ true) ↔ Live site.limits.dconn time (forwarded_on site (slot_for site packet) before)
  slot_is = live_is site.limits.dconn time (forwarded_on site (slot_for site packet) before)

  pub fresh_is : (is_fresh site start time packet verdict before ≡ true) ↔ Fresh site time packet verdict before
  fresh_is = (words, test_passes)
    where
      words : is_fresh site start time packet verdict before ≡ true → Fresh site time packet verdict before
      words e =
          let rest = and_right (forwards verdict) (not packet.from_plant && not live) e in
          record {
            forwarded = and_left (forwards verdict) (not packet.from_plant && not live) e;
            cell_packet = not-true packet.from_plant (and_left (not packet.from_plant) (not live) rest);
            slot_not_live = λ l. true_is_not_false (slot_is.1 l) (not-true live (and_right (not packet.from_plant) (not live) rest));
          }

      test_passes : Fresh site time packet verdict before → is_fresh site start time packet verdict before ≡ true
      test_passes f =
          and_yes f.forwarded (and_yes (ap not f.cell_packet) (ap not (is_false live (λ l. f.slot_not_live (slot_is.0 l)))))
