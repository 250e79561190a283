-- What a table begins with that no call reaches in a few steps.
use Rattle.std.specs.Prelude.{ℕ}
use Rattle.life_table.specs.declared.types.Row.{Row}
use Rattle.life_table.specs.declared.table.Inode.{Inode}

-- the row with so many links
abbrev pub with_links : ℕ → Row → Row
with_links links row = record { links = links; blocks = row.blocks; opens = row.opens }

-- the inode in the life of this generation, with the row that it has
abbrev pub in_life : ℕ → Inode → Inode
in_life generation inode = record { generation = generation; row = inode.row }
