-- The entries of a list as chunks of five bytes.
-- Assumes nothing.
use Rattle.std.proofs.Common.{◌≡◌, Bool, true, false, ℕ, zero, suc, ◌+◌, ◌*◌, ◌<◌, List, [], length, get_or, take, drop, refl, sym, ap, ◌∙◌, add-zero, leb, arith}
use Rattle.std.proofs.lemmas.List.{get_or-take, get_or-drop, drop-drop}
use Rattle.std.proofs.lemmas.List.Elements.{All-get_or, All-from_get_or}
use Rattle.std.proofs.lemmas.List.Sums.{AllPass-from_list_all, list_all-from_AllPass}
use Rattle.std.specs.List.{list_all}
use Rattle.std.specs.Simd.{first_chunks}
use Rattle.laws.specs.Search.{every}
use Rattle.laws.proofs.Search.{every_at, every_is}
use Rattle.laws.proofs.Tests.{is_false, true_is_not_false}
use Rattle.sides.specs.Lists.{entries, prefix_at, net_at, holds, rank_at}

chunk : (k i : ℕ) (l : List ℕ) → i < k → get_or (first_chunks 5 k l) i [] ≡ take 5 (drop (5 * i) l)
chunk zero i l h = absurd (omega (arith, h))
chunk (suc k) zero l h = refl
chunk (suc k) (suc i) l h =
    let next : 5 + 5 * i ≡ 5 * suc i = omega arith in
    chunk k i (drop 5 l) (omega (arith, h)) ∙ ap (take 5) (drop-drop (5 * i) 5 l ∙ ap (λ n. drop n l) next)

module _ (l : List ℕ) (k : ℕ) (h : k < entries l) where
  -- the bytes of entry k, as those of a chunk
  byte : (i : ℕ) → i < 5 → get_or (get_or (first_chunks 5 (entries l) l) k []) i 0 ≡ get_or l (5 * k + i) 0
  byte i few =
      ap (λ (e : List ℕ). get_or e i 0) (chunk (entries l) k l h)
      ∙ get_or-take 5 (drop (5 * k) l) i 0 few
      ∙ get_or-drop (5 * k) l i 0

  pub same_prefix : prefix_at (get_or (first_chunks 5 (entries l) l) k []) 0 ≡ prefix_at l k
  same_prefix = byte 4 (omega arith)

  same_net : net_at (get_or (first_chunks 5 (entries l) l) k []) 0 ≡ net_at l k
  same_net = rw (byte 0 (omega arith), byte 1 (omega arith), byte 2 (omega arith), byte 3 (omega arith), add-zero) refl

  pub same_rank : (address : ℕ) → rank_at (get_or (first_chunks 5 (entries l) l) k []) address 0 ≡ rank_at l address k
  unfolding rank_at holds
  same_rank address = rw (same_prefix, same_net) refl

-- ---- a test of all entries
tested : {X : Type 0} (p : X → Bool) (q : ℕ → Bool) (d : X) (xs : List X) → ((k : ℕ) → k < length xs → p (get_or xs k d) ≡ q k)
    → list_all p xs ≡ every (length xs) q
tested {X} p q d xs same = go (every (length xs) q) refl
  where
    go : (t : Bool) → every (length xs) q ≡ t → list_all p xs ≡ every (length xs) q
    go true e = list_all-from_AllPass p xs (All-from_get_or (λ (x : X). p x ≡ true) xs d (λ k h. same k h ∙ every_at (length xs) q e k h)) ∙ sym e
    go false e =
        is_false (list_all p xs) (λ t. true_is_not_false
        (every_is (length xs) q (λ k h. sym (same k h) ∙ All-get_or (λ (x : X). p x ≡ true) xs k d h (AllPass-from_list_all p xs t))) e) ∙ sym e

chunks_long : (k : ℕ) (l : List ℕ) → length (first_chunks 5 k l) ≡ k
chunks_long zero l = refl
chunks_long (suc k) l = ap suc (chunks_long k (drop 5 l))

pub all_entries : (l : List ℕ)
    → list_all (λ (e : List ℕ). leb (get_or e 4 0) 32) (first_chunks 5 (entries l) l) ≡ every (entries l) (λ k. leb (prefix_at l k) 32)
all_entries l =
    let long : length (first_chunks 5 (entries l) l) ≡ entries l = chunks_long (entries l) l in
    tested (λ (e : List ℕ). leb (get_or e 4 0) 32) (λ k. leb (prefix_at l k) 32) [] (first_chunks 5 (entries l) l)
    (λ k h. ap (λ (n : ℕ). leb n 32) (same_prefix l k (omega (arith, h, long))))
    ∙ ap (λ (n : ℕ). every n (λ k. leb (prefix_at l k) 32)) long
