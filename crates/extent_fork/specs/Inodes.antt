-- The sector of an inode.
use Rattle.std.specs.Prelude.{ℕ, List}
use Rattle.inode_core.specs.declared.shape.Core.{Core}
use Rattle.inode_core.specs.Cores.{core_encoding}
use Rattle.extent_fork.specs.Forks.{fork}
use Rattle.extent_fork.specs.Runs.{runs}

-- the sector that encodes an inode of a group under its number in the image: its core, and the fork of the runs of its blocks
unfoldable pub inode_encoding : Core → ℕ → List ℕ → ℕ → List ℕ → List ℕ
inode_encoding core number uuid group blocks = core_encoding core number uuid (fork group (runs blocks))
