-- Keys that can't be opened any more, whatever happens.
use Rattle.std.specs.Prelude.{◌≡◌, ◌<◌, ◌⊎◌, Some, IsSomeAnd}
use Rattle.life_table.specs.declared.key.Key.{Key}
use Rattle.life_table.specs.declared.table.Inode.{Inode}
use Rattle.life_table.specs.declared.table.Table.{Table}
use Rattle.life_table.specs.Table.{inode_of, row_of}
use Rattle.life_table.specs.Legal.{Awaits}

-- The number of the key is in a chunk, and in a later life.
pub record IsPast (t : Table) (key : Key) : Type 0 where
  pub inode : Inode
  pub at : inode_of t key.number ≡ Some inode
  pub later : key.generation < inode.generation

-- A key is settled: its number is in a later life, or its row awaits being freed.
abbrev pub IsSettled : Table → Key → Type 0
IsSettled t key = IsPast t key ⊎ IsSomeAnd (row_of t key) Awaits
