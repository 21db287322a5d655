-- `packet::read` meets its contract: its tests are those of the definition, in their order.
-- Assumes nothing.
use mathlib.Core.Path.{sym, ap, ◌∙◌}
use native.Mathlib.Omega.{arith}
use borrow.Author.Rules.{rules}
use Rattle.words.specs.Words.{two_at, four_at}
use Rattle.words.proofs.Words.{there}
use Rattle.packet.proofs.Rest.{read_on, with_transport}
use Rattle.packet.proofs.read.Goals as goal

pub returns-in_err-transport_of : goal.returns-in_err-transport_of
returns-in_err-transport_of c =
    let s = c.header_length-start.ensures.0 in
    let t = c.two_at-total.ensures ∙ there 2 two_at _ _ (omega (arith, c.if-bytes-lt20.false)) in
    let right = rw (s, t) at c.if-first-total.false in
    let headed = rw s at c.if-bytes-start.false in
    let read = rw (c.min-usable.ensures, t, s, c.is_later-later.ensures) at c.transport_of.ensures in
    let e = read_on c.args.bytes.now c.if-bytes-lt20.false right headed
    ∙ ap (with_transport c.args.bytes.now c.if-bytes-lt20.false right headed) (sym read ∙ c.in_err-transport_of.was) in
    rw e (search rules)

pub returns : goal.returns
returns c =
    let s = c.header_length-start.ensures.0 in
    let t = c.two_at-total.ensures ∙ there 2 two_at _ _ (omega (arith, c.if-bytes-lt20.false)) in
    let right = rw (s, t) at c.if-first-total.false in
    let headed = rw s at c.if-bytes-start.false in
    let read = rw (c.min-usable.ensures, t, s, c.is_later-later.ensures) at c.transport_of.ensures in
    let source = c.four_at.ensures ∙ there 4 four_at _ 12 (omega (arith, c.if-bytes-lt20.false)) in
    let destination = c.four_at-2.ensures ∙ there 4 four_at _ 16 (omega (arith, c.if-bytes-lt20.false)) in
    rw (source, destination, c.is_later-later.ensures)
    (sym (read_on c.args.bytes.now c.if-bytes-lt20.false right headed
    ∙ ap (with_transport c.args.bytes.now c.if-bytes-lt20.false right headed) (sym read ∙ c.in_ok-transport_of.was)))
