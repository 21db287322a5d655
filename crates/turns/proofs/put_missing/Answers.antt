-- `turns::put_missing` meets its contract: both conditions are those of the definition.
-- Assumes nothing.
use mathlib.Core.Bool.{◌&&◌}
use mathlib.Core.List.{List, []}
use mathlib.Core.Path.{sym, ap, ◌∙◌}
use Prim.Native.Nat.{ℕ}
use Rattle.laws.proofs.Tests.{cond_at}
use Rattle.lines.specs.Letters.{text}
use Rattle.lines.specs.Room.{put, room_of}
use Rattle.turns.specs.Turns.{missing_words}
use Rattle.turns.proofs.put_missing.Goals as goal

pub returns-then-is_sound-is_missing : goal.returns-then-is_sound-is_missing
unfolding missing_words text
returns-then-is_sound-is_missing c =
    let both = (λ i. sym c.is_sound.ensures i && sym c.is_missing.ensures i) ∙ c.if-is_sound-is_missing.true in
    c.put_first.ensures ∙ sym (ap (λ (some : List ℕ). put some (room_of 0 c.args.room.now)) (cond_at missing_words [] both))
