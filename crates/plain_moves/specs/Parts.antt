-- Parts of what a step looks at, as the functions that find them say it.
use Rattle.std.specs.Prelude.{◌+◌, ℕ, List}
use Rattle.std.specs.List.{flat_map}
use Rattle.life_table.specs.declared.key.Key.{Key}
use Rattle.life_table.specs.Table.{Group}
use Rattle.actor_world.specs.Moves.{awaiting_from}

-- the keys of the rows of a group that await, where the group's numbers begin here
abbrev pub awaiting_among : ℕ → Group → List Key
awaiting_among first group = flat_map (λ chunk. awaiting_from (first + chunk.start) chunk.inodes) group
