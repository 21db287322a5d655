-- Document 01, "Verdicts": which verdict a packet of ours gets, and what it makes of the packet's record.
-- Assumes nothing.
use Rattle.std.specs.Prelude.{Bool, true, false, not, ◌&&◌, ◌||◌, cond, ℕ}
use Rattle.packet.specs.declared.kinds.Kind.{Kind}
use Rattle.packet.specs.declared.kinds.Kind.TheVariants.{Udp, Opening, SynAck, Closing, Plain}
use Rattle.records.specs.declared.Marks.{Marks}
use Rattle.records.specs.Records.{marks_of, record_of, is_unmarked}
use Rattle.verdicts.specs.declared.Verdict.{Verdict}
use Rattle.verdicts.specs.declared.Verdict.TheVariants.{Uncounted, CreditOfOne, CreditOfTwo, FreshContact, Hygiene, Blocked}

-- "1 forwarded, nothing counted. 2 forwarded, credit of one. 3 forwarded, credit of two. 4 forwarded, fresh contact. 5 dropped,
-- hygiene. 6 dropped, blocked."
abbrev pub number_of : Verdict → ℕ
number_of Uncounted = 1
number_of CreditOfOne = 2
number_of CreditOfTwo = 3
number_of FreshContact = 4
number_of Hygiene = 5
number_of Blocked = 6

abbrev pub is_forwarded : Verdict → Bool
is_forwarded Uncounted = true
is_forwarded CreditOfOne = true
is_forwarded CreditOfTwo = true
is_forwarded FreshContact = true
is_forwarded Hygiene = false
is_forwarded Blocked = false

-- the kinds that the sentences below name
abbrev pub is_udp : Kind → Bool
is_udp Udp = true
is_udp Opening = false
is_udp SynAck = false
is_udp Closing = false
is_udp Plain = false

abbrev pub is_opening : Kind → Bool
is_opening Udp = false
is_opening Opening = true
is_opening SynAck = false
is_opening Closing = false
is_opening Plain = false

abbrev pub is_syn_ack : Kind → Bool
is_syn_ack Udp = false
is_syn_ack Opening = false
is_syn_ack SynAck = true
is_syn_ack Closing = false
is_syn_ack Plain = false

abbrev pub is_closing : Kind → Bool
is_closing Udp = false
is_closing Opening = false
is_closing SynAck = false
is_closing Closing = true
is_closing Plain = false

-- "Only other set: closing 1 with no new mark, else" a credit
abbrev pub unless_closing : Kind → Verdict → Verdict
unless_closing kind credit = cond (is_closing kind) Uncounted credit

-- "From the plant. Own set: 1. Only other set: closing 1 with no new mark, else 3. Neither: 1"
unfoldable pub from_the_plant : Bool → Bool → Kind → Verdict
from_the_plant own other kind =
    cond own Uncounted
    (cond other (unless_closing kind CreditOfTwo)
    Uncounted)

-- "From the cell, not blocked. Own set: 1. Only other set: closing 1 with no new mark, else 2. Neither: closing or SYN+ACK 5, else 4."
unfoldable pub from_the_cell : Bool → Bool → Kind → Verdict
from_the_cell own other kind =
    cond own Uncounted
    (cond other (unless_closing kind CreditOfOne)
    (cond (is_closing kind || is_syn_ack kind) Hygiene
    FreshContact))

-- "From the cell, blocked. Other unset: 6. Other set, UDP or opening: 6. Else own set or closing: 1, otherwise 2."
unfoldable pub from_blocked_cell : Bool → Bool → Kind → Verdict
from_blocked_cell own other kind =
    cond (not other) Blocked
    (cond (is_udp kind || is_opening kind) Blocked
    (cond (own || is_closing kind) Uncounted
    CreditOfOne))

-- '"Own" and "other" mean the mark of the packet's direction and of the reverse one.'
abbrev pub own_mark : Bool → Marks → Bool
own_mark from_plant marks = cond from_plant marks.plant marks.cell

abbrev pub other_mark : Bool → Marks → Bool
other_mark from_plant marks = cond from_plant marks.cell marks.plant

-- the verdict, by where the packet comes from, whether its cell address is blocked, the marks of its record, and its kind
unfoldable pub verdict_of : Bool → Bool → Marks → Kind → Verdict
verdict_of from_plant blocked marks kind =
    cond from_plant (from_the_plant own other kind)
    (cond blocked (from_blocked_cell own other kind)
    (from_the_cell own other kind))
  where
    own : Bool
    own = own_mark from_plant marks

    other : Bool
    other = other_mark from_plant marks

-- ---- the record
-- "2, 3 and 4 set own": the verdicts by which something is counted
abbrev pub is_counted : Verdict → Bool
is_counted Uncounted = false
is_counted CreditOfOne = true
is_counted CreditOfTwo = true
is_counted FreshContact = true
is_counted Hygiene = false
is_counted Blocked = false

-- from the plant, "Neither: 1; closing leaves the record untouched, else own is set"
abbrev pub plant_begins : Bool → Marks → Bool
plant_begins from_plant marks = from_plant && is_unmarked marks

abbrev pub is_untouched : Bool → Marks → Kind → Bool
is_untouched from_plant marks kind = plant_begins from_plant marks && is_closing kind

abbrev pub sets_own : Bool → Marks → Verdict → Bool
sets_own from_plant marks verdict = is_counted verdict || plant_begins from_plant marks

-- the marks, with the packet's own set or as they were
abbrev pub marks_after : Bool → Marks → Bool → Marks
marks_after from_plant marks sets =
    record { plant = marks.plant || (sets && from_plant); cell = marks.cell || (sets && not from_plant) }

-- "Each forwarded packet of ours makes the age 0, but for the untouched case. Dropped packets alter neither table."
unfoldable pub record_after : Bool → Kind → Verdict → ℕ → ℕ
record_after from_plant kind verdict byte =
    cond (not (is_forwarded verdict) || is_untouched from_plant (marks_of byte) kind)
    byte
    (record_of (marks_after from_plant (marks_of byte) (sets_own from_plant (marks_of byte) verdict)) 0)
