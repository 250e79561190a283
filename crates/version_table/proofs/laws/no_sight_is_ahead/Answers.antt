use Rattle.version_table.proofs.Calls.{ahead}
use Rattle.version_table.proofs.laws.no_sight_is_ahead.Goals as goal

pub returns : goal.returns
returns c = λ count s was i j group v keeper at_i at_j kept. ahead count s was i j group v keeper at_i at_j kept
