-- `arguments::record_number` meets its contract. So many digits were read.
use Prim.Native.Nat.{◌^◌, ◌<◌}
use lib.ListN.{drop}
use mathlib.Core.Path.{◌≡◌}
use Rattle.arguments.specs.Arguments.{number_from}
use Rattle.arguments.proofs.record_number.Given as goal

abbrev pub invariant-loop-byte : goal.invariant-loop-byte
invariant-loop-byte l = (l.value < 10 ^ l.byte-index) × (number_from l.value (drop l.byte-index l.bytes) ≡ number_from 0 l.bytes)
