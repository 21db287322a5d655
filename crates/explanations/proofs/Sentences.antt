-- What the sentences about a packet that was dropped say of kinds: those that they list are the ones that would have been forwarded.
-- Assumes nothing.
use mathlib.Core.Bool.{Bool, true, false, not, ◌||◌, cond}
use mathlib.Core.Path.{◌≡◌, refl, sym, ap, ◌∙◌}
use Prim.Native.Nat.{ℕ}
use Rattle.laws.proofs.Tests.{true_is_not_false}
use Rattle.packet.specs.declared.kinds.Kind.{Kind}
use Rattle.counts.specs.Counts.{is_blocked}
use Rattle.verdicts.specs.declared.Verdict.TheVariants.{Uncounted, CreditOfOne, FreshContact, Hygiene, Blocked}
use Rattle.verdicts.specs.Verdicts.{is_forwarded, is_udp, is_opening, is_syn_ack, is_closing, from_the_cell, from_blocked_cell, verdict_of}
use Rattle.reasons.specs.Reasons.{Facts, verdict_on, let_through, with_kind, reported_on}
use Rattle.reasons.proofs.Reasons.{kinds_of_blocked, kinds_of_others}
use Rattle.explanations.specs.Values.{is_blocking}

-- a packet that is dropped has verdict 6 exactly if its address is blocked: the two sentences on packets from the cell, by their tests
of_blocked : (other udp-or-opening own-or-closing : Bool)
    → let verdict = cond (not other) Blocked (cond udp-or-opening Blocked (cond own-or-closing Uncounted CreditOfOne)) in
    is_forwarded verdict ≡ false → is_blocking verdict ≡ true
of_blocked false u c e = refl
of_blocked true true c e = refl
of_blocked true false true e = true_is_not_false refl e
of_blocked true false false e = true_is_not_false refl e

of_others : (own other closing closing-or-answer : Bool)
    → let verdict = cond own Uncounted (cond other (cond closing Uncounted CreditOfOne) (cond closing-or-answer Hygiene FreshContact)) in
    is_forwarded verdict ≡ false → is_blocking verdict ≡ false
of_others true other c k e = refl
of_others false true true k e = refl
of_others false true false k e = refl
of_others false false c true e = refl
of_others false false c false e = refl

by_case : (blocked plant cell : Bool) (kind : Kind) → is_forwarded (verdict_of false blocked (record { plant = plant; cell = cell }) kind) ≡ false
    → is_blocking (verdict_of false blocked (record { plant = plant; cell = cell }) kind) ≡ blocked
unfolding verdict_of from_the_cell from_blocked_cell
by_case true plant cell kind e = of_blocked plant (is_udp kind || is_opening kind) (cell || is_closing kind) e
by_case false plant cell kind e = of_others cell plant (is_closing kind) (is_closing kind || is_syn_ack kind) e

pub six_if_blocked : (threshold : ℕ) (facts : Facts) → let_through threshold facts ≡ false
    → is_blocking (verdict_on threshold facts) ≡ is_blocked threshold facts.count
six_if_blocked threshold facts e = by_case (is_blocked threshold facts.count) facts.plant facts.cell facts.kind e

-- "SYN+ACK, closing or plain" where it was dropped as blocked, and "UDP, opening or plain" where it was not
abbrev pub listed : Bool → Kind → Bool
listed blocking kind = cond blocking (not (is_udp kind || is_opening kind)) (not (is_closing kind || is_syn_ack kind))

pub as_told : (threshold : ℕ) (facts : Facts) → let_through threshold facts ≡ false → (reported_on threshold facts).kind ≡ true
    → (kind : Kind) → let_through threshold (with_kind facts kind) ≡ listed (is_blocking (verdict_on threshold facts)) kind
as_told threshold facts e r kind = go (is_blocked threshold facts.count) refl
  where
    go : (b : Bool) → is_blocked threshold facts.count ≡ b
        → let_through threshold (with_kind facts kind) ≡ listed (is_blocking (verdict_on threshold facts)) kind
    go true b = kinds_of_blocked threshold facts b e r kind ∙ sym (ap (λ (t : Bool). listed t kind) (six_if_blocked threshold facts e ∙ b))
    go false b = kinds_of_others threshold facts b e kind ∙ sym (ap (λ (t : Bool). listed t kind) (six_if_blocked threshold facts e ∙ b))
