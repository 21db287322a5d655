-- An address's count decays as the counts of the table do: decay makes no entry empty, and no empty one full.
-- Assumes nothing.
use mathlib.Core.Bool.{Bool, true, false, not, ◌&&◌, cond}
use mathlib.Core.List.{List, map}
use mathlib.Core.Path.{◌≡◌, refl, sym, ap, ◌∙◌}
use Prim.Native.Nat.{ℕ, ◌+◌, ◌*◌, ◌<◌}
use lib.Dec.{eqb, ltb}
use lib.IntN.{ℤ, pos, negsuc}
use lib.ListN.{length, get_or, drop, length-map, get_or-map}
use lib.Seq.{get_or-take, get_or-drop}
use borrow.Author.Tests.{ltb-true}
use Rattle.laws.proofs.Search.{first_same}
use Rattle.laws.proofs.Signed.{dn, signed}
use Rattle.counts.specs.Counts.{is_empty, decayed_by}
use Rattle.counts.proofs.Counts.{fell}
use Rattle.entries.specs.Entries.{line_of, lacks_line, own_way, count_in, count_of}

-- what is not positive tells whether an entry is empty, and that stays
pub by_dn : (z : ℤ) → is_empty z ≡ eqb (dn z) 32768
unfolding is_empty
by_dn (pos n) = refl
by_dn (negsuc n) = refl

-- an element of a line, in the list
pub in_line : {A : Type 0} (line : ℕ) (xs : List A) (way : ℕ) (d : A) → way < 4 → get_or (line_of line xs) way d ≡ get_or xs (4 * line + way) d
in_line line xs way d h = get_or-take 4 (drop (4 * line) xs) way d h ∙ get_or-drop (4 * line) xs way d

module _ (points : ℕ) where
  pub same_empty : (z : ℤ) → is_empty (decayed_by points z) ≡ is_empty z
  same_empty z = by_dn (decayed_by points z) ∙ ap (λ (n : ℕ). eqb n 32768) (fell points z).dn_same ∙ sym (by_dn z)

  zero_stays : decayed_by points (pos 0) ≡ pos 0
  zero_stays = omega (signed, fell points (pos 0))

  -- a count of a line
  pub at : (counts : List ℤ) (line way : ℕ) → way < 4
      → get_or (line_of line (map (decayed_by points) counts)) way (pos 0) ≡ decayed_by points (get_or (line_of line counts) way (pos 0))
  at counts line way h =
      in_line line (map (decayed_by points) counts) way (pos 0) h
      ∙ ap (λ (z : ℤ). get_or (map (decayed_by points) counts) (4 * line + way) z) (sym zero_stays)
      ∙ get_or-map (decayed_by points) counts (4 * line + way) (pos 0)
      ∙ sym (ap (decayed_by points) (in_line line counts way (pos 0) h))

  module _ (line tag : ℕ) (tags : List ℕ) (counts : List ℤ) where
    -- the tag's entry is where it was
    pub same_own : own_way tag (line_of line tags) (line_of line (map (decayed_by points) counts)) ≡ own_way tag (line_of line tags) (line_of line counts)
    unfolding own_way
    same_own =
        first_same 4 _ _
        (λ way h. ap (λ (b : Bool). not b && eqb (get_or (line_of line tags) way 0) tag) (ap is_empty (at counts line way h) ∙ same_empty _))

    same_line : count_in tag (line_of line tags) (line_of line (map (decayed_by points) counts)) ≡ decayed_by points (count_in tag (line_of line tags) (line_of line counts))
    unfolding count_in
    same_line = rw same_own (go (ltb own 4) refl)
      where
        own : ℕ
        own = own_way tag (line_of line tags) (line_of line counts)

        go : (b : Bool) → ltb own 4 ≡ b
            → cond b (get_or (line_of line (map (decayed_by points) counts)) own (pos 0)) (pos 0) ≡ decayed_by points (cond b (get_or (line_of line counts) own (pos 0)) (pos 0))
        go true e = at counts line own (ltb-true own 4 e)
        go false e = sym zero_stays

    -- "Each multiple of Dmiss passed lowers each positive count by 1", so an address's too
    pub count_decays : count_of line tag tags (map (decayed_by points) counts) ≡ decayed_by points (count_of line tag tags counts)
    unfolding count_of
    count_decays = rw (length-map counts (decayed_by points)) (go (lacks_line line (length tags) (length counts)))
      where
        go : (b : Bool) → cond b (pos 0) (count_in tag (line_of line tags) (line_of line (map (decayed_by points) counts)))
            ≡ decayed_by points (cond b (pos 0) (count_in tag (line_of line tags) (line_of line counts)))
        go true = sym zero_stays
        go false = same_line
