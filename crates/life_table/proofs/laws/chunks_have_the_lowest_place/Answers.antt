use Rattle.life_table.proofs.Lowest.{place_is, place_least, place_none}
use Rattle.life_table.proofs.laws.chunks_have_the_lowest_place.Goals as goal

pub returns-clause-place : goal.returns-clause-place
returns-clause-place c = place_is

pub returns-clause-least : goal.returns-clause-least
returns-clause-least c = place_least

pub returns-clause-none : goal.returns-clause-none
returns-clause-none c = place_none
