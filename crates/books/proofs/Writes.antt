-- The address table, by addresses: what an address's write does to its own count and to another's. Another's changes only by the answer
-- naming it as replaced, and is then 0.
-- Assumes nothing.
use mathlib.Core.Bool.{Bool, false, cond}
use mathlib.Core.List.{List, [], ◌∷◌}
use mathlib.Core.Logic.{◌≢◌, inl, inr}
use mathlib.Core.Path.{◌≡◌, refl, sym, ap, subst, ◌∙◌}
use Prim.Native.Nat.{ℕ, ◌+◌, ◌*◌, ◌^◌, ◌≤◌, ◌<◌}
use native.Mathlib.Decide.{ℕ_discrete}
use native.Mathlib.Omega.{arith}
use lib.IntN.{ℤ}
use lib.ListN.{length}
use lib.Pow.{pow_pos}
use borrow.Author.Tests.{eq-eqb, ne_eqb, le-ltb}
use Rattle.laws.specs.Times.{times_in}
use Rattle.laws.proofs.Signed.{dn}
use Rattle.laws.proofs.Tests.{or_no}
use Rattle.permute.proofs.Inverse.{Keys}
use Rattle.places.specs.declared.Place.{Place}
use Rattle.places.specs.Places.{place_of, address_of}
use Rattle.places.proofs.Places.{line_lt, recovered, one_address}
use Rattle.counts.specs.Counts.{is_empty}
use Rattle.std.specs.Prelude.{Option, Some, None, option_to_list}
use Rattle.std.proofs.lemmas.Option.{same_Some}
use Rattle.entries.specs.Entries.{lacks_line, count_of, Written, written}
use Rattle.entries.proofs.Readback.{read_back, others_keep, other_lines_keep, nothing_is_no_tag}
use Rattle.entries.proofs.Decay.{by_dn}
use Rattle.entries.proofs.Once.{Once, gone_after}
use Rattle.gateway.specs.Packets.{replacement_of}
use Rattle.books.proofs.Account.{StaysOrNamed}

-- a list of one number has it once
once_in : (n k : ℕ) → k ≡ n → times_in n (k ∷ []) ≡ 1
unfolding times_in
once_in n k e = ap (λ (t : Bool). cond {A = ℕ} t 1 0 + 0) (eq-eqb k n e)

-- a count that is above -32,768 is not the mark of an empty entry
not_empty : (c : ℤ) → dn c < 32768 → is_empty c ≡ false
not_empty c h = by_dn c ∙ ne_eqb (dn c) 32768 (λ (e : dn c ≡ 32768). omega arith)

-- an address's count among so many lines
abbrev pub count_at : List ℕ → ℕ → List ℕ → List ℤ → ℕ → ℤ
count_at keys lines tags counts address = count_of (place_of keys address lines).line (place_of keys address lines).tag tags counts

-- of which there are 2 ^ a
module _ {keys : List ℕ} (k : Keys keys) (lines a : ℕ) (is : lines ≡ 2 ^ a) (few : a ≤ 32) where
  abbrev placed : ℕ → Place
  placed address = place_of keys address lines

  module _ (tags : List ℕ) (counts : List ℤ) (tags_long : length tags ≡ 4 * 2 ^ a) (counts_long : length counts ≡ 4 * 2 ^ a) where
    -- the table has each address's line
    there : (address : ℕ) → lacks_line (placed address).line (length tags) (length counts) ≡ false
    there address =
        let l = line_lt keys address lines (omega (arith, is, pow_pos a)) in
        or_no
        (le-ltb (length tags) (4 * (placed address).line + 4) (omega (arith, is)))
        (le-ltb (length counts) (4 * (placed address).line + 4) (omega (arith, is)))

    module _ (writer : ℕ) (count : ℤ) where
      abbrev wrote : Written
      wrote = written (placed writer).line (placed writer).tag count tags counts

      pub own_count : dn count < 32768 → count_at keys lines wrote.tags wrote.counts writer ≡ count
      own_count h = read_back (placed writer).line (placed writer).tag count tags counts (there writer) (not_empty count h)

      -- the address that the answer names as replaced, if any
      abbrev named_by : Option ℕ → List ℕ
      named_by replaced = option_to_list (replacement_of keys lines (placed writer).line replaced)

      module _ (once : Once tags counts) (other : ℕ) (small : other < 2 ^ 32) (writer-small : writer < 2 ^ 32) (apart : other ≢ writer) where
        abbrev named : ℕ
        named = times_in other (named_by wrote.replaced)

        abbrev Kept : ℕ → Type 0
        Kept line = StaysOrNamed named (count_of line (placed other).tag tags counts) (count_of line (placed other).tag wrote.tags wrote.counts)

        pub other_count : Kept (placed other).line
        other_count = by_line (ℕ_discrete (placed other).line (placed writer).line)
          where
            -- in one line the tags differ, since the addresses do
            tags_apart : (placed other).line ≡ (placed writer).line → (placed other).tag ≢ (placed writer).tag
            tags_apart e f =
                apart (one_address k a few other writer small writer-small
                (subst (λ (n : ℕ). place_of keys other n ≡ place_of keys writer n) is (λ i. record { line = e i; tag = f i })))

            back : address_of keys (placed other) lines ≡ other
            back = subst (λ (n : ℕ). address_of keys (place_of keys other n) n ≡ other) (sym is) (recovered k a few other small)

            is_named : (placed other).line ≡ (placed writer).line → (t : ℕ) → wrote.replaced ≡ Some t → t ≡ (placed other).tag → 0 < named
            is_named e t told same =
                omega (
                  arith,
                  ap (λ (r : Option ℕ). times_in other (named_by r)) told,
                  once_in other _ ((λ i. address_of keys (record { line = sym e i; tag = same i }) lines) ∙ back),
                )

            by_replaced : (placed other).line ≡ (placed writer).line → (r : Option ℕ) → wrote.replaced ≡ r → Kept (placed writer).line
            by_replaced e None told =
                inl (others_keep (placed writer).line (placed writer).tag count tags counts (placed other).tag (tags_apart e) (λ q. nothing_is_no_tag (sym told ∙ q)))
            by_replaced e (Some t) told = by_tag (ℕ_discrete t (placed other).tag)
              where
                by_tag : Dec (t ≡ (placed other).tag) → Kept (placed writer).line
                by_tag (yes same) =
                    inr (is_named e t told same, gone_after tags counts once (placed writer).line (placed writer).tag count (placed other).tag (told ∙ ap Some same))
                by_tag (no ne) =
                    inl (others_keep (placed writer).line (placed writer).tag count tags counts (placed other).tag (tags_apart e) (λ q. ne (same_Some t (placed other).tag (sym told ∙ q))))

            by_line : Dec ((placed other).line ≡ (placed writer).line) → Kept (placed other).line
            by_line (yes e) = subst Kept (sym e) (by_replaced e wrote.replaced refl)
            by_line (no ne) = inl (other_lines_keep (placed writer).line (placed writer).tag count tags counts (placed other).line (placed other).tag ne)
