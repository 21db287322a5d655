-- The hand-made histories come out as document 01 says.
-- Assumes nothing.
use mathlib.Core.List.{map}
use mathlib.Core.Path.{◌≡◌, refl}
use Rattle.laws.specs.Search.{every, first_below, foremost}
use Rattle.laws.specs.Times.{how_many, times_in}
use Rattle.sides.specs.Lists.{holds, rank_at, rank_of, best_number, best_in, decided}
use Rattle.packet.specs.Kinds.{tcp_kind, kind_of}
use Rattle.packet.specs.Header.{transport_of, header_of}
use Rattle.tables.specs.Clock.{multiples_passed}
use Rattle.history.specs.Examples.{examples}

pub as_said : map (λ e. e.computed) examples ≡ map (λ e. e.said) examples
unfolding every first_below foremost how_many times_in holds rank_at rank_of best_number best_in decided tcp_kind kind_of transport_of header_of multiples_passed examples
as_said = refl
