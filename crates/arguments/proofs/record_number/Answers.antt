-- `arguments::record_number` meets its contract. So many digits were read.
-- Assumes nothing.
use Prim.Native.Nat.{◌-◌}
use lib.ListN.{get_or}
use mathlib.Core.Path.{refl, sym, ap, ◌∙◌}
use native.Mathlib.Omega.{arith}
use borrow.Author.Tests.{lt-ltb, le-ltb}
use Rattle.arguments.specs.Arguments.{record_number, from_one}
use Rattle.arguments.proofs.Numbers.{digit_range, fits_more, number_next, number_stops, number_ends}
use Rattle.arguments.proofs.record_number.Goals as goal

pub returns-then-bytes-gt19 : goal.returns-then-bytes-gt19
unfolding record_number
returns-then-bytes-gt19 c = rw (lt-ltb _ _ c.if-bytes-gt19.true)

pub loop-byte-init : goal.loop-byte-init
loop-byte-init c = (omega arith, refl)

pub overflow_mul-value : goal.overflow_mul-value
overflow_mul-value c =
    let l = c.loop-byte in
    omega (arith, fits_more l.value 0 l.byte-index l.invariant.0 (omega arith) (omega arith))

pub overflow_add-value : goal.overflow_add-value
overflow_add-value c =
    let l = c.loop-byte in
    let d = digit_range (get_or c.args.bytes.now l.byte-index 0) (sym c.is_digit.ensures ∙ c.if-not-is_digit.false) in
    omega (arith, d, fits_more l.value 9 l.byte-index l.invariant.0 (omega arith) (omega arith))

pub loop-byte-preserved : goal.loop-byte-preserved
loop-byte-preserved c =
    let l = c.loop-byte in
    let is = sym c.is_digit.ensures ∙ c.if-not-is_digit.false in
    let d = digit_range (get_or c.args.bytes.now l.byte-index 0) is in
    rw c.from.ensures (
      (fits_more l.value (get_or c.args.bytes.now l.byte-index 0 - 48) l.byte-index l.invariant.0 (omega (arith, d)) (omega arith)).0,
      number_next c.args.bytes.now l.value l.byte-index (omega arith) is ∙ l.invariant.1,
    )

pub returns-then-not-is_digit : goal.returns-then-not-is_digit
unfolding record_number
returns-then-not-is_digit c =
    let l = c.loop-byte in
    let none = number_stops c.args.bytes.now l.value l.byte-index (omega arith) (sym c.is_digit.ensures ∙ c.if-not-is_digit.true) in
    rw (le-ltb _ _ c.if-bytes-gt19.false) (ap from_one (none ∙ l.invariant.1))

pub returns : goal.returns
unfolding record_number
returns c =
    let l = c.loop-byte in
    let whole = number_ends c.args.bytes.now l.value l.byte-index (omega arith) in
    rw (le-ltb _ _ c.if-bytes-gt19.false) (c.then_some.ensures ∙ ap from_one (whole ∙ l.invariant.1))
