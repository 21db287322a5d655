-- Laws of `those_below`: the loop that lists the places that pass a test, and the one that stores at these places what another list has
-- there. Where the test is whether both differ, the two lists are equal afterwards. And the loop that makes such a list: the images of
-- another's elements. For any type of element.
-- Assumes nothing.
use mathlib.Core.Path.{◌≡◌, refl, sym, ap, ◌∙◌}
use mathlib.Core.Bool.{Bool, true, false}
use mathlib.Core.List.{List, [], ◌∷◌, ◌++◌, map}
use Prim.Native.Nat.{ℕ, zero, suc, ◌+◌, ◌-◌, ◌≤◌, ◌<◌, zero-le}
use native.Mathlib.Omega.{arith}
use native.Mathlib.Nat.{not-suc-le-zero}
use native.Mathlib.Numerals.{add-one}
use mir.Val.{bool_byte}
use lib.ListN.{length, take, set, get_or, length-append, length-set, get_or-append}
use lib.Seq.{get_or-append_seam, take-set-le, take-suc-set, take-suc, take-length, length-take-le, get_or-take, get_or-set_same, get_or-set_other, ext_get_or}
use Rattle.laws.specs.Search.{those_below}
use Rattle.laws.proofs.Tests.{Which, below, above, which, cond_at, is_false}

-- ---- what is listed
module _ (p : ℕ → Bool) where
  those_more : (n : ℕ) → p n ≡ true → those_below (n + 1) p ≡ those_below n p ++ (n ∷ [])
  unfolding those_below
  those_more n e = rw add-one (cond_at _ _ e)

  those_same : (n : ℕ) → p n ≡ false → those_below (n + 1) p ≡ those_below n p
  unfolding those_below
  those_same n e = rw add-one (cond_at _ _ e)

  -- how many are listed
  abbrev many : ℕ → ℕ
  many n = length (those_below n p)

  many_none : many 0 ≡ 0
  unfolding those_below
  many_none = refl

  many_more : (n : ℕ) → p n ≡ true → many (n + 1) ≡ many n + 1
  many_more n e = ap length (those_more n e) ∙ length-append (those_below n p) (n ∷ [])

  many_same : (n : ℕ) → p n ≡ false → many (n + 1) ≡ many n
  many_same n e = ap length (those_same n e)

  many_added : (a n : ℕ) → many a ≤ many (a + n)
  many_added a zero = let e : a + 0 ≡ a = omega arith in rw e (omega arith)
  many_added a (suc n) = go (p (a + n)) refl (many_added a n)
    where
      go : (t : Bool) → p (a + n) ≡ t → many a ≤ many (a + n) → many a ≤ many (a + suc n)
      go true e h = let q : a + suc n ≡ a + n + 1 = omega arith in rw q (omega (arith, many_more (a + n) e))
      go false e h = let q : a + suc n ≡ a + n + 1 = omega arith in rw q (omega (arith, many_same (a + n) e))

  many_up : (a b : ℕ) → a ≤ b → many a ≤ many b
  many_up a b h = let e : a + (b - a) ≡ b = omega arith in rw e at (many_added a (b - a))

  -- where no more are listed below b than below a, none between them passes
  none_between : (a b : ℕ) → many b ≤ many a → (k : ℕ) → a ≤ k → k < b → p k ≡ false
  none_between a b h k l u =
      is_false (p k) (λ e. absurd (omega (arith, many_more k e, many_up a k l, many_up (k + 1) b (omega arith), h)))

  -- the place that is listed after j others
  record Place (n j k : ℕ) : Type 0 where
    below : k < n
    passes : p k ≡ true
    after : many k ≡ j

  place_at : (n j : ℕ) → j < many n → Place n j (get_or (those_below n p) j 0)
  place_at zero j h = absurd (omega (arith, many_none))
  place_at (suc n) j h = rw (← add-one) (go (p n) refl (place_at n j))
    where
      low : j < many (n + 1)
      low = rw (← (add-one n)) at h

      later : Place n j (get_or (those_below n p) j 0) → Place (n + 1) j (get_or (those_below n p) j 0)
      later s = record { below = omega (arith, s.below); passes = s.passes; after = s.after }

      last : p n ≡ true → Which j (many n) → (j < many n → Place n j (get_or (those_below n p) j 0)) → Place (n + 1) j (get_or (those_below n p ++ (n ∷ [])) j 0)
      last e (below l) others = rw (get_or-append (those_below n p) (n ∷ []) 0 j l) (later (others l))
      last e (above l) others =
          let same : j ≡ many n = omega (arith, low, many_more n e) in
          rw (same, get_or-append_seam (those_below n p) n [] 0) (record { below = omega arith; passes = e; after = refl })

      go : (t : Bool) → p n ≡ t → (j < many n → Place n j (get_or (those_below n p) j 0)) → Place (n + 1) j (get_or (those_below (n + 1) p) j 0)
      go true e others = rw (those_more n e) (last e (which j (many n)) others)
      go false e others = rw (those_same n e) (later (others (omega (arith, low, many_same n e))))

-- ---- a loop that lists them: its invariant, after i turns, of which so many listed; d is the room that it is lent, and l what is there now
pub record Listing (n : ℕ) (p : ℕ → Bool) (d l : List ℕ) (listed i : ℕ) : Type 0 where
  pub within : i ≤ n
  pub fewer : listed ≤ i
  pub room : n ≤ length d
  pub long : length l ≡ length d
  pub is : take listed l ≡ those_below i p

pub list_start : (n : ℕ) (p : ℕ → Bool) (d : List ℕ) → n ≤ length d → Listing n p d d 0 0
unfolding those_below
list_start n p d h = record { within = zero-le; fewer = zero-le; room = h; long = refl; is = refl }

-- every turn writes its place down, and keeps it where it passes
pub list_turn : {n : ℕ} {p : ℕ → Bool} {d l : List ℕ} {listed i : ℕ} → Listing n p d l listed i → i < n → Listing n p d (set l listed i) (listed + bool_byte (p i)) (i + 1)
list_turn {n} {p} {d} {l} {listed} {i} s h = go (p i) refl
  where
    go : (t : Bool) → p i ≡ t → Listing n p d (set l listed i) (listed + bool_byte t) (i + 1)
    go true q =
        record {
          within = omega arith;
          fewer = omega (arith, s.fewer);
          room = s.room;
          long = length-set l listed i ∙ s.long;
          is = ap (λ (k : ℕ). take k (set l listed i)) (add-one listed) ∙ take-suc-set l listed i (omega (arith, s.fewer, s.room, s.long)) ∙ ap (λ (t : List ℕ). t ++ (i ∷ [])) s.is ∙ sym (those_more p i q);
        }
    go false q =
        let none : listed + 0 ≡ listed = omega arith in
        record {
          within = omega arith;
          fewer = omega (arith, s.fewer);
          room = s.room;
          long = length-set l listed i ∙ s.long;
          is = ap (λ (k : ℕ). take k (set l listed i)) none ∙ take-set-le listed l listed i (omega arith) ∙ s.is ∙ sym (those_same p i q);
        }

-- which adds one at most
pub one_at_most : (t : Bool) → bool_byte t ≤ 1
one_at_most true = omega arith
one_at_most false = omega arith

pub list_end : {n : ℕ} {p : ℕ → Bool} {d l : List ℕ} {listed i : ℕ} → Listing n p d l listed i → n ≤ i → take listed l ≡ those_below n p
list_end {n} {p} {i = i} s h = let e : i ≡ n = omega (arith, s.within) in s.is ∙ ap (λ (k : ℕ). those_below k p) e

-- ---- a loop that stores at each listed place what another list has there: its invariant, after i turns. l is the list now, d what it was
-- and o the other one; up to some place l is o, and from there on it is as it was. Where the test fails d and o agree.
abbrev pub tested : {A : Type 0} → (A → A → Bool) → A → List A → List A → ℕ → Bool
tested q z d o k = q (get_or d k z) (get_or o k z)

pub record Storing {A : Type 0} (q : A → A → Bool) (z : A) (d o : List A) (places : List ℕ) (l : List A) (i : ℕ) : Type 0 where
  pub same : (x y : A) → q x y ≡ false → x ≡ y
  pub listed : places ≡ those_below (length d) (tested q z d o)
  pub room : length d ≤ length o
  pub long : length l ≡ length d
  pub to : ℕ
  pub after : length (those_below to (tested q z d o)) ≡ i
  pub done : (k : ℕ) → k < to → get_or l k z ≡ get_or o k z
  pub rest : (k : ℕ) → to ≤ k → get_or l k z ≡ get_or d k z

module _ {A : Type 0} {q : A → A → Bool} {z : A} {d o : List A} {places : List ℕ} where
  pub store_start : ((x y : A) → q x y ≡ false → x ≡ y) → places ≡ those_below (length d) (tested q z d o) → length d ≤ length o → Storing q z d o places d 0
  store_start h e r =
      record {
        same = h;
        listed = e;
        room = r;
        long = refl;
        to = 0;
        after = many_none (tested q z d o);
        done = λ k b. absurd (not-suc-le-zero b);
        rest = λ k b. refl;
      }

  -- the next place
  here : {l : List A} {i : ℕ} → Storing q z d o places l i → i < length places → Place (tested q z d o) (length d) i (get_or places i 0)
  here {l} {i} s h = rw s.listed (place_at (tested q z d o) (length d) i (rw s.listed at h))

  pub store_within : {l : List A} {i : ℕ} → Storing q z d o places l i → i < length places → get_or places i 0 < length l
  store_within s h = omega (arith, (here s h).below, s.long)

  -- before the next place both are the same
  reached : {l : List A} {i : ℕ} (s : Storing q z d o places l i) (e : ℕ) → length (those_below e (tested q z d o)) ≤ i → (k : ℕ) → k < e → get_or l k z ≡ get_or o k z
  reached {l} {i} s e h k b = go (which k s.to)
    where
      go : Which k s.to → get_or l k z ≡ get_or o k z
      go (below c) = s.done k c
      go (above c) =
          s.rest k c ∙ s.same (get_or d k z) (get_or o k z) (none_between (tested q z d o) s.to e (omega (arith, h, s.after)) k c b)

  pub store_turn : {l : List A} {i : ℕ} (v : A) → Storing q z d o places l i → i < length places → v ≡ get_or o (get_or places i 0) z → Storing q z d o places (set l (get_or places i 0) v) (i + 1)
  store_turn {l} {i} v s h e =
      record {
        same = s.same;
        listed = s.listed;
        room = s.room;
        long = length-set l at v ∙ s.long;
        to = at + 1;
        after = many_more (tested q z d o) at next.passes ∙ ap (λ (k : ℕ). k + 1) next.after;
        done = λ k b. up_to k b (which k at);
        rest = λ k b. get_or-set_other l at k v z (λ (c : k ≡ at). omega arith) ∙ s.rest k (omega (arith, ahead));
      }
    where
      at : ℕ
      at = get_or places i 0

      next : Place (tested q z d o) (length d) i at
      next = here s h

      ahead : s.to ≤ at
      ahead = go (which at s.to)
        where
          go : Which at s.to → s.to ≤ at
          go (below b) =
              absurd (omega (arith, many_more (tested q z d o) at next.passes, many_up (tested q z d o) (at + 1) s.to (omega arith), next.after, s.after))
          go (above b) = b

      up_to : (k : ℕ) → k < at + 1 → Which k at → get_or (set l at v) k z ≡ get_or o k z
      up_to k b (below c) = get_or-set_other l at k v z (λ (e : k ≡ at). omega arith) ∙ reached s at (omega (arith, next.after)) k c
      up_to k b (above c) = let same : k ≡ at = omega arith in rw same (get_or-set_same l at v z (store_within s h) ∙ e)

  pub store_end : {l : List A} {i : ℕ} → Storing q z d o places l i → length places ≤ i → l ≡ take (length d) o
  store_end {l} {i} s h =
      ext_get_or z l (take (length d) o) (s.long ∙ sym (length-take-le (length d) o s.room))
      (λ k b. reached s (length d) (rw s.listed at h) k (omega (arith, s.long)) ∙ sym (get_or-take (length d) o k z (omega (arith, s.long))))

-- ---- a loop that puts the images of a list's elements into a room: its invariant, after i turns. o is the room as it was lent, l as it is
pub record Imaging {A : Type 0} (f : A → A) (d o l : List A) (i : ℕ) : Type 0 where
  pub within : i ≤ length d
  pub room : length d ≤ length o
  pub long : length l ≡ length o
  pub is : take i l ≡ map f (take i d)

map_snoc : {A : Type 0} (f : A → A) (l : List A) (x : A) → map f (l ++ (x ∷ [])) ≡ map f l ++ (f x ∷ [])
map_snoc f [] x = refl
map_snoc f (y ∷ l) x = ap (λ t. f y ∷ t) (map_snoc f l x)

module _ {A : Type 0} {f : A → A} {d o : List A} where
  pub image_start : length d ≤ length o → Imaging f d o o 0
  image_start r = record { within = zero-le; room = r; long = refl; is = refl }

  pub image_turn : {l : List A} {i : ℕ} (z v : A) → Imaging f d o l i → i < length d → v ≡ f (get_or d i z) → Imaging f d o (set l i v) (i + 1)
  image_turn {l} {i} z v s h e =
      record {
        within = omega arith;
        room = s.room;
        long = length-set l i v ∙ s.long;
        is = ap (λ (k : ℕ). take k (set l i v)) (add-one i) ∙ take-suc-set l i v (omega (arith, s.room, s.long)) ∙ (λ j. s.is j ++ (e j ∷ [])) ∙ sym (map_snoc f (take i d) (get_or d i z)) ∙ sym (ap (map f) (ap (λ (k : ℕ). take k d) (add-one i) ∙ take-suc d i z h));
      }

  pub image_end : {l : List A} {i : ℕ} → Imaging f d o l i → length d ≤ i → take (length d) l ≡ map f d
  image_end {l} {i} s h =
      let e : i ≡ length d = omega (arith, s.within) in
      rw e at s.is ∙ ap (map f) (take-length d)
