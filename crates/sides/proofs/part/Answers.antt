-- `sides::part` meets its contract: the part is five bytes long.
-- Assumes nothing.
use mathlib.Core.Path.{◌≡◌, refl}
use Prim.Native.Nat.{◌*◌, ◌-◌}
use native.Mathlib.Omega.{arith}
use Rattle.sides.proofs.part.Goals as goal

pub returns : goal.returns
returns c =
    let n = c.args.number in
    let e : 5 * n - (5 * n - 5) ≡ 5 = omega arith in
    record { bytes = rw e; place = refl }
