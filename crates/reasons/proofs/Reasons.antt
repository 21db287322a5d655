-- The facts that are reported: what each says, that there is always one, and which they are in every case.
-- Assumes nothing.
use mathlib.Core.Bool.{Bool, true, false, not, ◌&&◌, ◌||◌, or-false}
use mathlib.Core.List.{List, [], ◌∷◌}
use mathlib.Core.Path.{◌≡◌, refl, sym, ap, ◌∙◌}
use Prim.Native.Nat.{ℕ, ◌+◌, ◌-◌, ◌<◌, ◌≤◌}
use native.Mathlib.Omega.{arith}
use lib.IntN.{ℤ, pos, negsuc, nat_abs}
use Rattle.laws.specs.Search.{some_below}
use Rattle.laws.specs.Choice.{at_some}
use Rattle.laws.proofs.Search.{some_is, some_at, some_none}
use Rattle.laws.proofs.Signed.{signed, difference_is, size, one_part}
use Rattle.laws.proofs.Tests.{true_is_not_false, or_yes, or_left}
use Rattle.packet.specs.declared.kinds.Kind.{Kind}
use Rattle.packet.specs.declared.kinds.Kind.TheVariants.{Udp, Opening, SynAck, Closing, Plain}
use Rattle.counts.specs.Counts.{is_blocked}
use Rattle.verdicts.specs.Verdicts.{is_forwarded, is_udp, is_opening, is_syn_ack, is_closing, from_the_cell, from_blocked_cell, verdict_of}
use Rattle.reasons.specs.declared.Reported.{Reported}
use Rattle.reasons.specs.Reasons.{Facts, facts_of, let_through, with_count, with_plant, with_cell, with_kind, held_counts, held_count, mark_values, kind_values, reported_on}

-- whether the packet goes through, by whether its address is blocked
abbrev through : Bool → Bool → Bool → Kind → Bool
through blocked plant cell kind = is_forwarded (verdict_of false blocked (record { plant = plant; cell = cell }) kind)

-- ---- what the verdict's definition comes to
-- a cell address that is not blocked gets everything through but what hygiene drops; one that is, what answers the plant, but no UDP and no
-- opening
when_not_blocked : (plant cell : Bool) (kind : Kind) → through false plant cell kind ≡ ((plant || cell) || not (is_closing kind || is_syn_ack kind))
unfolding verdict_of from_the_cell
when_not_blocked true true kind = refl
when_not_blocked false true kind = refl
when_not_blocked true false Udp = refl
when_not_blocked true false Opening = refl
when_not_blocked true false SynAck = refl
when_not_blocked true false Closing = refl
when_not_blocked true false Plain = refl
when_not_blocked false false Udp = refl
when_not_blocked false false Opening = refl
when_not_blocked false false SynAck = refl
when_not_blocked false false Closing = refl
when_not_blocked false false Plain = refl

when_blocked : (plant cell : Bool) (kind : Kind) → through true plant cell kind ≡ (plant && not (is_udp kind || is_opening kind))
unfolding verdict_of from_blocked_cell
when_blocked false cell kind = refl
when_blocked true cell Udp = refl
when_blocked true cell Opening = refl
when_blocked true true SynAck = refl
when_blocked true false SynAck = refl
when_blocked true true Closing = refl
when_blocked true false Closing = refl
when_blocked true true Plain = refl
when_blocked true false Plain = refl

-- so being blocked never helps
no_help : (plant cell : Bool) (kind : Kind) → through false plant cell kind ≡ false → through true plant cell kind ≡ false
no_help true cell kind e = true_is_not_false (when_not_blocked true cell kind) e
no_help false cell kind e = when_blocked false cell kind

-- ---- the count
module _ (threshold : ℕ) (facts : Facts) where
  -- some count that an entry may hold is below any threshold, and no other lets more through
  count_is : through false facts.plant facts.cell facts.kind
      ≡ some_below held_counts (λ number. let_through threshold (with_count facts (held_count number)))
  count_is = go (through false facts.plant facts.cell facts.kind) refl
    where
      by : (blocked : Bool) → through false facts.plant facts.cell facts.kind ≡ false
          → through blocked facts.plant facts.cell facts.kind ≡ false
      by false e = e
      by true e = no_help facts.plant facts.cell facts.kind e

      go : (t : Bool) → through false facts.plant facts.cell facts.kind ≡ t
          → t ≡ some_below held_counts (λ number. let_through threshold (with_count facts (held_count number)))
      go true e = sym (some_is held_counts _ (record { number = 32766; below = omega arith; passes = e }))
      go false e = sym (some_none held_counts _ (λ number h. by (is_blocked threshold (held_count number)) e))

-- ---- each value tried, as the code does it
marks_tried : (test : Bool → Bool) {a b : Bool} → a ≡ test true → b ≡ test false → (a || b) ≡ at_some test mark_values
marks_tried test p q = (λ i. p i || q i) ∙ ap (λ (t : Bool). test true || t) (sym (or-false (test false)))

of_five : (a b c d e : Bool) → ((((a || b) || c) || d) || e) ≡ (a || (b || (c || (d || (e || false)))))
of_five true b c d e = refl
of_five false true c d e = refl
of_five false false true d e = refl
of_five false false false true e = refl
of_five false false false false e = sym (or-false e)

pub kinds_tried : (test : Kind → Bool) {a b c d e : Bool} → a ≡ test Udp → b ≡ test Opening → c ≡ test SynAck → d ≡ test Closing → e ≡ test Plain
    → ((((a || b) || c) || d) || e) ≡ at_some test kind_values
kinds_tried test p q r s t =
    (λ i. (((p i || q i) || r i) || s i) || t i) ∙ of_five (test Udp) (test Opening) (test SynAck) (test Closing) (test Plain)

-- ---- what a report says: each fact is reported exactly if some value of it lets the packet through
-- a value of a list at which a test passes
at_some_lem : {A : Type 0} (test : A → Bool) (values : List A) → at_some test values ≡ true → (value : A) × (test value ≡ true)
at_some_lem test [] e = true_is_not_false e refl
at_some_lem test (value ∷ values) e = go (test value) refl (at_some_lem test values)
  where
    go : (t : Bool) → test value ≡ t → (at_some test values ≡ true → (other : _) × (test other ≡ true)) → (other : _) × (test other ≡ true)
    go true h others = (value, h)
    go false h others = others (sym (ap (λ (b : Bool). b || at_some test values) h) ∙ e)

-- every value of a mark and of a kind is listed
of_marks : (test : Bool → Bool) (mark : Bool) → test mark ≡ true → at_some test mark_values ≡ true
of_marks test true e = ap (λ (b : Bool). b || (test false || false)) e
of_marks test false e = or_yes (test true) (ap (λ (b : Bool). b || false) e)

of_kinds : (test : Kind → Bool) (kind : Kind) → test kind ≡ true → at_some test kind_values ≡ true
of_kinds test Udp e = ap (λ (b : Bool). b || (test Opening || (test SynAck || (test Closing || (test Plain || false))))) e
of_kinds test Opening e = or_yes (test Udp) (ap (λ (b : Bool). b || (test SynAck || (test Closing || (test Plain || false)))) e)
of_kinds test SynAck e = or_yes (test Udp) (or_yes (test Opening) (ap (λ (b : Bool). b || (test Closing || (test Plain || false))) e))
of_kinds test Closing e = or_yes (test Udp) (or_yes (test Opening) (or_yes (test SynAck) (ap (λ (b : Bool). b || (test Plain || false)) e)))
of_kinds test Plain e = or_yes (test Udp) (or_yes (test Opening) (or_yes (test SynAck) (or_yes (test Closing) (ap (λ (b : Bool). b || false) e))))

-- a count that an entry may hold
abbrev pub Held : ℤ → Type 0
Held count = nat_abs count ≤ 32767

held_at : (count : ℤ) → Held count → (number : ℕ) × ((number < held_counts) × (held_count number ≡ count))
held_at (pos n) h = (n + 32767, (omega arith, omega (arith, signed, difference_is (pos (n + 32767)) (pos 32767))))
held_at (negsuc n) h = (32766 - n, (omega arith, omega (arith, signed, difference_is (pos (32766 - n)) (pos 32767))))

-- and each that is listed is one
listed_held : (number : ℕ) → number < held_counts → Held (held_count number)
listed_held number h = omega (arith, signed, size (held_count number), one_part (held_count number), difference_is (pos number) (pos 32767))

module _ (threshold : ℕ) (facts : Facts) where
  -- a fact that is reported is sufficient: with it changed, and nothing else, the packet is forwarded
  pub record Sufficient (reported : Reported) : Type 0 where
    pub count : reported.count ≡ true → (value : ℤ) × (Held value × (let_through threshold (with_count facts value) ≡ true))
    pub plant : reported.plant_mark ≡ true → (value : Bool) × (let_through threshold (with_plant facts value) ≡ true)
    pub cell : reported.cell_mark ≡ true → (value : Bool) × (let_through threshold (with_cell facts value) ≡ true)
    pub kind : reported.kind ≡ true → (value : Kind) × (let_through threshold (with_kind facts value) ≡ true)

  -- and no other is: every fact with a value that does that is reported
  pub record Complete (reported : Reported) : Type 0 where
    pub count : (value : ℤ) → Held value → let_through threshold (with_count facts value) ≡ true → reported.count ≡ true
    pub plant : (value : Bool) → let_through threshold (with_plant facts value) ≡ true → reported.plant_mark ≡ true
    pub cell : (value : Bool) → let_through threshold (with_cell facts value) ≡ true → reported.cell_mark ≡ true
    pub kind : (value : Kind) → let_through threshold (with_kind facts value) ≡ true → reported.kind ≡ true

  pub sufficient : Sufficient (reported_on threshold facts)
  unfolding reported_on
  sufficient =
      record {
        count = λ e. let at = some_at held_counts _ e in (held_count at.number, (listed_held at.number at.below, at.passes));
        plant = at_some_lem _ mark_values;
        cell = at_some_lem _ mark_values;
        kind = at_some_lem _ kind_values;
      }

  pub complete : Complete (reported_on threshold facts)
  unfolding reported_on
  complete =
      record {
        count = λ value h e.
            let at = held_at value h in
            some_is held_counts _ (record { number = at.0; below = at.1.0; passes = ap (λ (z : ℤ). let_through threshold (with_count facts z)) at.1.1 ∙ e });
        plant = of_marks _;
        cell = of_marks _;
        kind = of_kinds _;
      }

-- ---- which facts are reported, in every case: the table that follows from the words
abbrev pub as_table : Bool → Facts → Reported
as_table true facts =
    record {
      count = (facts.plant || facts.cell) || not (is_closing facts.kind || is_syn_ack facts.kind);
      plant_mark = not (is_udp facts.kind || is_opening facts.kind);
      cell_mark = false;
      kind = facts.plant;
    }
as_table false facts = record { count = false; plant_mark = true; cell_mark = true; kind = true }

-- by whether the address is blocked, in place of its count
abbrev by_blocked : Bool → Facts → Reported
by_blocked blocked facts =
    record {
      count = through false facts.plant facts.cell facts.kind;
      plant_mark = at_some (λ mark. through blocked mark facts.cell facts.kind) mark_values;
      cell_mark = at_some (λ mark. through blocked facts.plant mark facts.kind) mark_values;
      kind = at_some (λ kind. through blocked facts.plant facts.cell kind) kind_values;
    }

by_blocked_lem : (threshold : ℕ) (facts : Facts) → reported_on threshold facts ≡ by_blocked (is_blocked threshold facts.count) facts
unfolding reported_on
by_blocked_lem threshold facts =
    λ i. record {
      count = sym (count_is threshold facts) i;
      plant_mark = (by_blocked (is_blocked threshold facts.count) facts).plant_mark;
      cell_mark = (by_blocked (is_blocked threshold facts.count) facts).cell_mark;
      kind = (by_blocked (is_blocked threshold facts.count) facts).kind;
    }

-- what the code finds, each at the values that it tries
pub reported_as : (threshold : ℕ) (facts : Facts) {blocked count plant plant' cell cell' kind : Bool}
    → blocked ≡ is_blocked threshold facts.count
    → count ≡ through false facts.plant facts.cell facts.kind
    → plant ≡ through blocked true facts.cell facts.kind → plant' ≡ through blocked false facts.cell facts.kind
    → cell ≡ through blocked facts.plant true facts.kind → cell' ≡ through blocked facts.plant false facts.kind
    → kind ≡ at_some (λ value. through blocked facts.plant facts.cell value) kind_values
    → record { count = count; plant_mark = plant || plant'; cell_mark = cell || cell'; kind = kind } ≡ reported_on threshold facts
reported_as threshold facts {blocked} b e p q r s k =
    (λ i. record {
      count = e i;
      plant_mark = marks_tried (λ mark. through blocked mark facts.cell facts.kind) p q i;
      cell_mark = marks_tried (λ mark. through blocked facts.plant mark facts.kind) r s i;
      kind = k i;
    })
    ∙ ap (λ (t : Bool). by_blocked t facts) b
    ∙ sym (by_blocked_lem threshold facts)

every_cell : (blocked plant cell : Bool) (kind : Kind) (count : ℤ) → through blocked plant cell kind ≡ false
    → by_blocked blocked (facts_of count plant cell kind) ≡ as_table blocked (facts_of count plant cell kind)
unfolding verdict_of from_the_cell from_blocked_cell
every_cell false false false Udp count e = true_is_not_false refl e
every_cell false false false Opening count e = true_is_not_false refl e
every_cell false false false SynAck count e = refl
every_cell false false false Closing count e = refl
every_cell false false false Plain count e = true_is_not_false refl e
every_cell false false true Udp count e = true_is_not_false refl e
every_cell false false true Opening count e = true_is_not_false refl e
every_cell false false true SynAck count e = true_is_not_false refl e
every_cell false false true Closing count e = true_is_not_false refl e
every_cell false false true Plain count e = true_is_not_false refl e
every_cell false true false Udp count e = true_is_not_false refl e
every_cell false true false Opening count e = true_is_not_false refl e
every_cell false true false SynAck count e = true_is_not_false refl e
every_cell false true false Closing count e = true_is_not_false refl e
every_cell false true false Plain count e = true_is_not_false refl e
every_cell false true true Udp count e = true_is_not_false refl e
every_cell false true true Opening count e = true_is_not_false refl e
every_cell false true true SynAck count e = true_is_not_false refl e
every_cell false true true Closing count e = true_is_not_false refl e
every_cell false true true Plain count e = true_is_not_false refl e
every_cell true false false Udp count e = refl
every_cell true false false Opening count e = refl
every_cell true false false SynAck count e = refl
every_cell true false false Closing count e = refl
every_cell true false false Plain count e = refl
every_cell true false true Udp count e = refl
every_cell true false true Opening count e = refl
every_cell true false true SynAck count e = refl
every_cell true false true Closing count e = refl
every_cell true false true Plain count e = refl
every_cell true true false Udp count e = refl
every_cell true true false Opening count e = refl
every_cell true true false SynAck count e = true_is_not_false refl e
every_cell true true false Closing count e = true_is_not_false refl e
every_cell true true false Plain count e = true_is_not_false refl e
every_cell true true true Udp count e = refl
every_cell true true true Opening count e = refl
every_cell true true true SynAck count e = true_is_not_false refl e
every_cell true true true Closing count e = true_is_not_false refl e
every_cell true true true Plain count e = true_is_not_false refl e

-- so it is of every packet from the cell that is dropped
pub the_table : (threshold : ℕ) (facts : Facts) → let_through threshold facts ≡ false
    → reported_on threshold facts ≡ as_table (is_blocked threshold facts.count) facts
the_table threshold facts e =
    by_blocked_lem threshold facts
    ∙ every_cell (is_blocked threshold facts.count) facts.plant facts.cell facts.kind facts.count e

-- "at least one is always reported"
abbrev pub one_of : Reported → Bool
one_of reported = (reported.count || reported.plant_mark) || (reported.cell_mark || reported.kind)

one_in_the_table : (blocked : Bool) (facts : Facts) → one_of (as_table blocked facts) ≡ true
one_in_the_table false facts = refl
one_in_the_table true facts = go (facts.plant || facts.cell) facts.kind
  where
    go : (marked : Bool) (kind : Kind)
        → (((marked || not (is_closing kind || is_syn_ack kind)) || not (is_udp kind || is_opening kind)) || (false || facts.plant)) ≡ true
    go true kind = refl
    go false Udp = refl
    go false Opening = refl
    go false SynAck = refl
    go false Closing = refl
    go false Plain = refl

pub at_least_one : (threshold : ℕ) (facts : Facts) → let_through threshold facts ≡ false → one_of (reported_on threshold facts) ≡ true
at_least_one threshold facts e = ap one_of (the_table threshold facts e) ∙ one_in_the_table (is_blocked threshold facts.count) facts

-- ---- what the sentences under a report say
-- where the count is reported, every count below T would have done
pub below_the_threshold : (threshold : ℕ) (facts : Facts) → (reported_on threshold facts).count ≡ true
    → (count : ℤ) → is_blocked threshold count ≡ false → let_through threshold (with_count facts count) ≡ true
unfolding reported_on
below_the_threshold threshold facts e count b =
    ap (λ (blocked : Bool). through blocked facts.plant facts.cell facts.kind) b ∙ count_is threshold facts ∙ e

-- the kinds that would have done: of a blocked address, where the kind is reported, every kind but UDP and opening; of another all but
-- closing and SYN+ACK
pub kinds_of_blocked : (threshold : ℕ) (facts : Facts) → is_blocked threshold facts.count ≡ true → let_through threshold facts ≡ false
    → (reported_on threshold facts).kind ≡ true
    → (kind : Kind) → let_through threshold (with_kind facts kind) ≡ not (is_udp kind || is_opening kind)
kinds_of_blocked threshold facts b e r kind =
    let marked : facts.plant ≡ true = sym (ap (λ (t : Bool). (as_table t facts).kind) b) ∙ sym (ap (λ (x : Reported). x.kind) (the_table threshold facts e)) ∙ r in
    ap (λ (t : Bool). through t facts.plant facts.cell kind) b
    ∙ when_blocked facts.plant facts.cell kind
    ∙ ap (λ (t : Bool). t && not (is_udp kind || is_opening kind)) marked

pub kinds_of_others : (threshold : ℕ) (facts : Facts) → is_blocked threshold facts.count ≡ false → let_through threshold facts ≡ false
    → (kind : Kind) → let_through threshold (with_kind facts kind) ≡ not (is_closing kind || is_syn_ack kind)
kinds_of_others threshold facts b e kind =
    let dropped = sym (when_not_blocked facts.plant facts.cell facts.kind)
    ∙ sym (ap (λ (t : Bool). through t facts.plant facts.cell facts.kind) b) ∙ e in
    ap (λ (t : Bool). through t facts.plant facts.cell kind) b
    ∙ when_not_blocked facts.plant facts.cell kind
    ∙ ap (λ (t : Bool). t || not (is_closing kind || is_syn_ack kind)) (or_left (facts.plant || facts.cell) _ dropped)
