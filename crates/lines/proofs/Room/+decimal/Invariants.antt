-- The measure of the cycle of calls {Room::decimal}: the number.
use Rattle.lines.proofs.Room.+decimal.Given as goal

abbrev pub decreases-decimal : goal.decreases-decimal
decreases-decimal l = l.number
