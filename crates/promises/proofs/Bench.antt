-- The numbered bench examples hold of the definitions: one table, one theorem, computed.
-- Assumes nothing.
use mathlib.Core.Path.{◌≡◌, refl}
use mathlib.Core.List.{[], ◌∷◌, map}
use lib.ListN.{replicate}
use Rattle.laws.specs.Times.{times, how_many}
use Rattle.permute.specs.Permutation.{boxes, nibbles, round, rounds, E}
use Rattle.places.specs.Places.{slot_of, place_of}
use Rattle.records.specs.Records.{minute_passed, aged_by}
use Rattle.counts.specs.Counts.{larger, smaller, point_less, decayed_by}
use Rattle.tables.specs.Clock.{multiples_passed, time_passed}
use Rattle.verdicts.specs.Verdicts.{from_the_cell, from_blocked_cell, verdict_of, record_after}
use Rattle.rulings.specs.Rulings.{count_written, ruling_of}
use Rattle.promises.specs.Bench.{zeros, table}

-- the permutation is computed once for each word that the table has, and not again inside slots and lines
words : (E zeros 0 ≡ 0xFFFFFFFF)
    × (E zeros 0xFFFFFFFF ≡ 0x99999999)
    × (E zeros 0x99999999 ≡ 0x77777777)
    × (E (1 ∷ replicate 7 0) 0xFFFFFFFF ≡ 0xFFFFFFFF)
unfolding boxes nibbles round rounds E
words = (refl, refl, refl, refl)

pub bench : map (λ r. r.computed) table ≡ map (λ r. r.said) table
unfolding times how_many table slot_of place_of minute_passed aged_by larger smaller point_less decayed_by multiples_passed time_passed from_the_cell from_blocked_cell verdict_of record_after count_written ruling_of
bench = simp (words.0, words.1, words.2, words.3)

-- all twelve stand
pub rows : map (λ r. r.number) table ≡ 1 ∷ 2 ∷ 3 ∷ 4 ∷ 5 ∷ 6 ∷ 7 ∷ 8 ∷ 9 ∷ 10 ∷ 11 ∷ 12 ∷ []
unfolding table
rows = refl
