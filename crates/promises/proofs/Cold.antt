-- A cold start that is not refused is a good start of a run over lawful rules, in which nothing is live yet and every count is 0.
-- Assumes nothing.
use mathlib.Core.Bool.{Bool, true, false, not, ◌&&◌, and-false}
use mathlib.Core.List.{List, [], ◌∷◌}
use mathlib.Core.Path.{◌≡◌, refl, sym, ap, subst, ◌∙◌}
use Prim.Native.Nat.{ℕ, zero, suc, ◌+◌, ◌*◌, ◌^◌, ◌<◌}
use native.Mathlib.Omega.{arith}
use lib.Dec.{leb}
use lib.IntN.{pos}
use lib.ListN.{length, get_or, replicate, length-replicate}
use lib.Pow.{pow_pos}
use Rattle.std.specs.Prelude.{Option}
use Rattle.std.proofs.lemmas.Option.{none-some}
use Rattle.refused.specs.declared.Refusal.{Refusal}
use Rattle.laws.specs.Signed.{minus}
use Rattle.laws.proofs.Signed.{le_in, one_part}
use Rattle.laws.proofs.Tests.{true_is_not_false}
use Rattle.settings.specs.declared.Limits.{Limits}
use Rattle.settings.specs.Settings.{bad_limits}
use Rattle.settings.proofs.Ranges.{InRange, in_range}
use Rattle.permute.proofs.Inverse.{Keys}
use Rattle.places.proofs.Places.{slot_lt}
use Rattle.packet.specs.Header.{header_of}
use Rattle.records.specs.Records.{is_cold, age_of}
use Rattle.records.proofs.Ages.{low_is_cold}
use Rattle.counts.specs.Counts.{is_empty}
use Rattle.entries.proofs.Once.{once_cold, count_cold}
use Rattle.tables.specs.Sizes.{bad_sizes}
use Rattle.tables.specs.Clock.{multiples_passed}
use Rattle.tables.proofs.Powers.{Sized, sized}
use Rattle.rulings.specs.Rules.{cell_of, rules_of}
use Rattle.cold.specs.Cold.{cold_tables}
use Rattle.refusals.proofs.Tests.{good_start}
use Rattle.gateway.specs.Calls.{State, after_call, unless_refused, unstarted, cold_state, started}
use Rattle.history.specs.Runs.{started_cold, Call, bytes_to_judge}
use Rattle.history.specs.Fresh.{ours_of}
use Rattle.books.proofs.Lawful.{Lawful}
use Rattle.books.proofs.Slots.{held_by}
use Rattle.books.proofs.Invariant.{Setup, count_in, Sound, Good}
use Rattle.books.proofs.Runs.{AllFit}
use Rattle.promises.specs.Demand3.{Gateway, EachBelow, StartsCold, OfBytes, site, first}

-- ---- what the types say
at_below : (limit : ℕ) → 0 < limit → (l : List ℕ) (n : ℕ) → EachBelow limit l → get_or l n 0 < limit
at_below limit p [] n e = p
at_below limit p (x ∷ xs) zero e = e.0
at_below limit p (x ∷ xs) (suc n) e = at_below limit p xs n e.1

pub keys_fit : (keys : List ℕ) → EachBelow (2 ^ 32) keys → Keys keys
keys_fit keys e = record { fit = λ r h. at_below (2 ^ 32) (omega arith) keys r e }

-- an address of bytes has 32 bits
address_fits : (from_plant : Bool) (bytes : List ℕ) → EachBelow 256 bytes → cell_of (header_of bytes) from_plant < 2 ^ 32
unfolding header_of
address_fits true bytes e =
    omega (arith, at_below 256 (omega arith) bytes 16 e, at_below 256 (omega arith) bytes 17 e, at_below 256 (omega arith) bytes 18 e, at_below 256 (omega arith) bytes 19 e)
address_fits false bytes e =
    omega (arith, at_below 256 (omega arith) bytes 12 e, at_below 256 (omega arith) bytes 13 e, at_below 256 (omega arith) bytes 14 e, at_below 256 (omega arith) bytes 15 e)

-- ---- a gateway's rules are lawful for limits in range
pub rules_lawful : (limits : Limits) → InRange limits → Lawful (rules_of limits) 1 limits.threshold
rules_lawful limits r =
    let t = le_in r.threshold.low in
    let top = le_in r.threshold.high in
    let f = le_in r.floor.high in
    let bottom = le_in r.floor.low in
    let one = one_part limits.floor in
    record {
      block_pos = omega arith;
      room = omega arith;
      wide = omega arith;
      in_sixteen_bits = omega arith;
      weight_le = λ h. omega arith;
      floor_low = omega arith;
      floor_near = omega arith;
      attempt_up = λ h c d e. absurd (none-some _ e);
      slot_lt = λ placing h from_plant records p. slot_lt placing.keys _ _ _ records p;
    }

module _ (g : Gateway) (cold : StartsCold g) where
  -- the cold start is not refused, so limits and sizes are good
  good : (bad_limits g.settings.limits ≡ false)
      × (bad_sizes (length g.tables.records) (length g.tables.tags) (length g.tables.counts) ≡ false)
  good = good_start g.settings.limits _ _ _ cold.not_refused

  pub range : InRange g.settings.limits
  range = in_range g.settings.limits good.0

  pub sizes : Sized (length g.tables.records) (length g.tables.tags) (length g.tables.counts)
  sizes = sized _ _ _ good.1

  -- so this is a run over lawful rules
  unfoldable pub setup : Setup
  setup =
      record {
        site = site g;
        W = 1;
        U = g.settings.limits.threshold;
        ok = rules_lawful g.settings.limits range;
        k = keys_fit g.settings.keys cold.keys_are_words;
        narrow = omega (arith, le_in range.dconn.high);
        some_records = subst (λ (n : ℕ). 0 < n) (sym sizes.record_count.is) (pow_pos sizes.record_count.exponent);
      }

  -- that starts in this state
  abbrev cold_state_lem : State
  cold_state_lem = cold_state g.settings g.began (unstarted g.tables g.clock)

  first_is : first g ≡ started_cold cold_state_lem
  unfolding started
  first_is =
      ap (λ (refusal : Option Refusal). started_cold (unless_refused refusal (unstarted g.tables g.clock) (after_call tt cold_state_lem)).state)
      cold.not_refused

  -- every record is 0, and no address has an entry
  zero_record : (n slot : ℕ) → ◌≡◌ {A = ℕ} (get_or (replicate n 0) slot 0) 0
  zero_record zero slot = refl
  zero_record (suc n) zero = refl
  zero_record (suc n) (suc slot) = zero_record n slot

  cold_record : (slot : ℕ) → is_cold (get_or cold_state_lem.tables.records slot 0) ≡ true
  unfolding cold_tables
  cold_record slot = ap is_cold (zero_record (length g.tables.records) slot) ∙ low_is_cold 0 (omega arith)

  no_count : (address : ℕ) → count_in setup cold_state_lem address ≡ pos 0
  unfolding cold_tables is_empty
  no_count address = count_cold cold_state_lem.tables.tags (length g.tables.counts) (minus 32768) refl _ _

  placing_is : cold_state_lem.placing ≡ setup.site.placing
  unfolding setup
  placing_is = refl

  sound : Sound setup cold_state_lem
  unfolding setup cold_tables is_empty
  sound =
      let lines : 4 * sizes.lines ≡ 4 * 2 ^ sizes.line_count.exponent = ap (λ (n : ℕ). 4 * n) sizes.line_count.is in
      record {
        records_long = length-replicate (length g.tables.records) 0;
        a = sizes.line_count.exponent;
        few = omega (arith, sizes.line_count.most);
        tags_long = length-replicate (length g.tables.tags) 0 ∙ sizes.four_each ∙ lines;
        counts_long = length-replicate (length g.tables.counts) (minus 32768) ∙ sizes.alike ∙ sizes.four_each ∙ lines;
        once = once_cold cold_state_lem.tables.tags (length g.tables.counts) (minus 32768) refl;
      }

  -- so nothing is live there and every count is 0
  pub good_first : Good setup (first g)
  good_first =
      subst (Good setup) (sym first_is)
      (record {
        placing_same = placing_is;
        sound = sound;
        young = λ slot e. true_is_not_false (cold_record slot) e;
        held_so = nothing_held;
        count_so = λ address l. no_count address;
        full = λ address l. omega arith;
      })
    where
      nothing_held : (slot now : ℕ) → false ≡ held_by setup.site.limits.dconn g.began (get_or cold_state_lem.tables.records slot 0) now
      nothing_held slot now =
          let young = leb (age_of (get_or cold_state_lem.tables.records slot 0) + multiples_passed 60 g.began now) setup.site.limits.dconn in
          sym (ap (λ (t : Bool). young && not t) (cold_record slot) ∙ and-false young)

  pub all_fit : (calls : List Call) → OfBytes calls → AllFit setup calls
  unfolding setup
  all_fit [] e = tt
  all_fit (call ∷ calls) e = (address_fits (ours_of (site g) (bytes_to_judge call)).from_plant (bytes_to_judge call) e.0, all_fit calls e.1)
