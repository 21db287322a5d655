-- A record goes through, or it does not.
-- Assumes nothing.
use mathlib.Core.Bool.{true, false}
use mathlib.Core.Path.{◌≡◌}
use Rattle.std.specs.Prelude.{Result}
use Rattle.refused.specs.declared.Refusal.{Refusal}
use Rattle.rulings.specs.declared.answers.Answer.{Answer}
use Rattle.rulings.specs.Answers.{forwarded_told}
use Rattle.lines.specs.Room.{Room}
use Rattle.capture.specs.Format.{Content}
use Rattle.capture.specs.Writing.{record_put}
use Rattle.outputs.specs.Outputs.{room_after, forwarded_put}

module _ (r : Content) (answer : Result Answer Refusal) (room : Room) where
  pub goes_through : forwarded_told answer ≡ true → forwarded_put r answer room ≡ room_after room.end (record_put r room.end room.bytes)
  unfolding forwarded_put
  goes_through e = rw e

  pub is_held_back : forwarded_told answer ≡ false → forwarded_put r answer room ≡ room
  unfolding forwarded_put
  is_held_back e = rw e
