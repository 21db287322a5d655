-- A loop that replaces each element of a list by its image, one store a turn, or a part of the list a turn: once i elements are done the
-- list is `swept f i d`. For any type of element; filling a list with one value is the sweep by a constant.
-- Assumes nothing.
use mathlib.Core.Path.{◌≡◌, refl, sym, ap, ◌∙◌}
use mathlib.Core.Bool.{Bool, true}
use mathlib.Core.List.{List, [], ◌∷◌, ◌++◌, map}
use Prim.Native.Nat.{ℕ, zero, suc, ◌+◌, ◌-◌, ◌≤◌, ◌<◌, zero-le, suc-le-suc}
use native.Mathlib.Omega.{arith}
use native.Mathlib.Nat.{not-suc-le-zero, le_of_suc-le-suc, zero-add, suc-add}
use native.Mathlib.Numerals.{add-one}
use lib.ListN.{length, take, drop, set, get_or, length-set, length-map, replicate}
use borrow.Rule.Slice.PartMut.{mid_of, put_mid, same_len_mid}
use Rattle.laws.specs.Search.{every}
use Rattle.laws.proofs.Search.{every_at}

module _ {A : Type 0} where
  -- the first i elements of d are their images
  unfoldable pub swept : (A → A) → ℕ → List A → List A
  swept f zero d = d
  swept f (suc i) [] = []
  swept f (suc i) (x ∷ d) = f x ∷ swept f i d

  pub swept_none : (f : A → A) (d : List A) → d ≡ swept f 0 d
  unfolding swept
  swept_none f d = refl

  pub swept_length : (f : A → A) (i : ℕ) (d : List A) → length (swept f i d) ≡ length d
  unfolding swept
  swept_length f zero d = refl
  swept_length f (suc i) [] = refl
  swept_length f (suc i) (x ∷ d) = ap suc (swept_length f i d)

  -- the element that the next turn reads is as it was
  pub swept_at : (f : A → A) (i : ℕ) (d : List A) (z : A) → get_or (swept f i d) i z ≡ get_or d i z
  unfolding swept
  swept_at f zero d z = refl
  swept_at f (suc i) [] z = refl
  swept_at f (suc i) (x ∷ d) z = swept_at f i d z

  swept_suc : (f : A → A) (i : ℕ) (d : List A) (z : A) → i < length d → set (swept f i d) i (f (get_or d i z)) ≡ swept f (suc i) d
  unfolding swept
  swept_suc f i [] z h = absurd (not-suc-le-zero h)
  swept_suc f zero (x ∷ d) z h = refl
  swept_suc f (suc i) (x ∷ d) z h = ap (λ (t : List A). f x ∷ t) (swept_suc f i d z (le_of_suc-le-suc h))

  -- a turn, as the loop has it: l is the list now, v what is stored
  pub swept_more : (f : A → A) (i : ℕ) (d l : List A) (z v : A) → i < length d → l ≡ swept f i d → v ≡ f (get_or l i z) → set l i v ≡ swept f (i + 1) d
  swept_more f i d l z v h e q =
      ap (λ (x : A). set l i x) (q ∙ ap (λ (t : List A). f (get_or t i z)) e ∙ ap f (swept_at f i d z))
      ∙ ap (λ (t : List A). set t i (f (get_or d i z))) e
      ∙ swept_suc f i d z h
      ∙ ap (λ (k : ℕ). swept f k d) (sym (add-one i))

  -- the first n elements of a list as a part, and so the next n of a list of which i are done
  swept_front : (f : A → A) (n : ℕ) (d : List A) → map f (take n d) ++ drop n d ≡ swept f n d
  unfolding swept
  swept_front f zero d = refl
  swept_front f (suc n) [] = refl
  swept_front f (suc n) (x ∷ d) = ap (λ (t : List A). f x ∷ t) (swept_front f n d)

  swept_empty : (f : A → A) (n : ℕ) → swept f n [] ≡ []
  unfolding swept
  swept_empty f zero = refl
  swept_empty f (suc n) = refl

  swept_part : (f : A → A) (i n : ℕ) (d : List A) → put_mid i n (swept f i d) (map f (mid_of i n (swept f i d))) ≡ swept f (i + n) d
  unfolding swept
  swept_part f zero n d = swept_front f n d ∙ ap (λ (k : ℕ). swept f k d) (sym (zero-add n))
  swept_part f (suc i) n [] = swept_front f n [] ∙ swept_empty f n ∙ sym (swept_empty f (suc i + n))
  swept_part f (suc i) n (x ∷ d) =
      ap (λ (t : List A). f x ∷ t) (swept_part f i n d) ∙ ap (λ (k : ℕ). swept f k (x ∷ d)) (sym (suc-add i n))

  -- at the end every element is its image
  pub swept_all : (f : A → A) (i : ℕ) (d : List A) → length d ≤ i → swept f i d ≡ map f d
  unfolding swept
  swept_all f zero [] h = refl
  swept_all f zero (x ∷ d) h = absurd (not-suc-le-zero h)
  swept_all f (suc i) [] h = refl
  swept_all f (suc i) (x ∷ d) h = ap (λ (t : List A). f x ∷ t) (swept_all f i d (le_of_suc-le-suc h))

  -- the loop's invariant: d is the list at the start, and l after i turns
  pub record Sweeping (f : A → A) (d : List A) (l : List A) (i : ℕ) : Type 0 where
    pub within : i ≤ length d
    pub long : length l ≡ length d
    pub is : l ≡ swept f i d

  pub sweep_start : (f : A → A) (d : List A) → Sweeping f d d 0
  sweep_start f d = record { within = zero-le; long = refl; is = swept_none f d }

  pub sweep_turn : {f : A → A} {d l : List A} {i : ℕ} (z v : A) → Sweeping f d l i → i < length l → v ≡ f (get_or l i z) → Sweeping f d (set l i v) (i + 1)
  sweep_turn {f} {d} {l} {i} z v s h e =
      record {
        within = omega arith;
        long = length-set l i v ∙ s.long;
        is = swept_more f i d l z v (omega arith) s.is e;
      }

  -- a turn that is lent the next elements, up to e, as a part
  pub sweep_part : {f : A → A} {d l part : List A} {i : ℕ} (e : ℕ) → Sweeping f d l i → i ≤ e → e ≤ length l → part ≡ map f (mid_of i (e - i) l) → Sweeping f d (put_mid i (e - i) l part) e
  sweep_part {f} {d} {l} {part} {i} e s h g q =
      let whole : i + (e - i) ≡ e = omega arith in
      record {
        within = omega (arith, s.long);
        long = same_len_mid i (e - i) l part (ap length q ∙ length-map (mid_of i (e - i) l) f) ∙ s.long;
        is = (λ j. put_mid i (e - i) (s.is j) (q j)) ∙ ap (λ (x : List A). put_mid i (e - i) (swept f i d) (map f (mid_of i (e - i) x))) s.is ∙ swept_part f i (e - i) d ∙ ap (λ (k : ℕ). swept f k d) whole;
      }

  pub sweep_end : {f : A → A} {d l : List A} {i : ℕ} → Sweeping f d l i → length l ≤ i → l ≡ map f d
  sweep_end {f} {d} {l} {i} s h = s.is ∙ swept_all f i d (omega arith)

  -- ---- a fill: the sweep that makes every element v
  abbrev pub Filling : A → List A → List A → ℕ → Type 0
  Filling v d l i = Sweeping (λ (x : A). v) d l i

  pub fill_start : (v : A) (d : List A) → Filling v d d 0
  fill_start v d = sweep_start _ d

  pub fill_turn : {v : A} {d l : List A} {i : ℕ} → Filling v d l i → i < length l → Filling v d (set l i v) (i + 1)
  fill_turn {v} s h = sweep_turn v v s h refl

  pub map_const : (v : A) (l : List A) → map (λ (x : A). v) l ≡ replicate (length l) v
  map_const v [] = refl
  map_const v (x ∷ l) = ap (λ (t : List A). v ∷ t) (map_const v l)

  pub fill_end : {v : A} {d l : List A} {i : ℕ} → Filling v d l i → length l ≤ i → l ≡ replicate (length d) v
  fill_end {v} {d} s h = sweep_end s h ∙ map_const v d

  -- ---- whole tables
  pub map_same : (f : A → A) → ((x : A) → f x ≡ x) → (l : List A) → map f l ≡ l
  map_same f h [] = refl
  map_same f h (x ∷ l) = λ i. h x i ∷ map_same f h l i

  -- a list in which every element passes a test, where the test says that the element is its own image
  pub map_still : (f : A → A) (p : A → Bool) (z : A) → ((x : A) → p x ≡ true → f x ≡ x) → (l : List A) → every (length l) (λ k. p (get_or l k z)) ≡ true → map f l ≡ l
  map_still f p z h l e = go l (every_at (length l) (λ k. p (get_or l k z)) e)
    where
      go : (l : List A) → ((k : ℕ) → k < length l → p (get_or l k z) ≡ true) → map f l ≡ l
      go [] e = refl
      go (x ∷ l) e = λ i. h x (e 0 (suc-le-suc zero-le)) i ∷ go l (λ k b. e (suc k) (suc-le-suc b)) i

  -- two sweeps that come to one
  pub map_twice : (f g h : A → A) → ((x : A) → f x ≡ g (h x)) → (l : List A) → map f l ≡ map g (map h l)
  map_twice f g h e [] = refl
  map_twice f g h e (x ∷ l) = λ i. e x i ∷ map_twice f g h e l i

  -- sweeps by what so many steps do: none do nothing, and steps add up
  pub map_none : (g : ℕ → A → A) → ((x : A) → g 0 x ≡ x) → (n : ℕ) → n ≡ 0 → (l : List A) → map (g n) l ≡ l
  map_none g h n e l = ap (λ (k : ℕ). map (g k) l) e ∙ map_same (g 0) h l

  pub map_added : (g : ℕ → A → A) → ((m n : ℕ) (x : A) → g (m + n) x ≡ g n (g m x)) → (m n k : ℕ) → k ≡ m + n → (l : List A) → map (g k) l ≡ map (g n) (map (g m) l)
  map_added g h m n k e l = ap (λ (j : ℕ). map (g j) l) e ∙ map_twice (g (m + n)) (g n) (g m) (h m n) l
