-- The fork in the sector of an inode with a row, or with none.
use Rattle.std.proofs.Common.{◌≡◌, ◌%◌, ℕ, List, Option, None, refl}
use Rattle.geometry.specs.declared.shape.Geometry.{Geometry}
use Rattle.geometry.specs.Places.{number_in}
use Rattle.inode_core.specs.Cores.{core_encoding, no_fork}
use Rattle.extent_fork.specs.Forks.{fork, extent_records}
use Rattle.extent_fork.specs.Inodes.{inode_encoding}
use Rattle.extent_fork.specs.Runs.{runs}
use Rattle.life_table.specs.declared.types.Row.{Row}
use Rattle.life_table.specs.declared.table.Inode.{Inode}
use Rattle.life_table.specs.Space.{row_blocks}
use Rattle.sound_image.specs.Encoding.{Layouts, bucket_list, next_in, core_for, inode_sector}

abbrev pub fork_for : ℕ → Option Row → List ℕ
fork_for group row = fork group (runs (row_blocks row))

pub fork_of_none : (group : ℕ) → fork_for group None ≡ no_fork
unfolding fork extent_records
fork_of_none group = refl

pub sector_parts : (g : Geometry) (layouts : Layouts) (group agino : ℕ) (x : Inode)
    → inode_sector g layouts group agino x
    ≡ core_encoding (core_for x.generation x.row (next_in (bucket_list layouts group (agino % 64)) agino)) (number_in group agino) g.uuid (fork_for group x.row)
unfolding inode_sector inode_encoding
sector_parts g layouts group agino x = refl
