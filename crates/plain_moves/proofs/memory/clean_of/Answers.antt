use Rattle.std.proofs.Common.{rules}
use Rattle.actor_world.specs.Caches.{clean_numbers}
use Rattle.plain_moves.proofs.memory.clean_of.Goals as goal

pub returns-in-None : goal.returns-in-None
unfolding clean_numbers
returns-in-None c = search rules
