-- The rows of a group as they are told, by ascending number.
use Rattle.std.specs.Prelude.{◌≡◌, ◌+◌, ℕ, List, [], ◌∷◌, ◌++◌, None, Some, Option, length, slice_get}
use Rattle.std.specs.List.{flat_map}
use Rattle.life_limits.specs.declared.TheConstants.{CHUNK_INODES}
use Rattle.geometry.specs.Places.{number_in}
use Rattle.life_table.specs.declared.types.Row.{Row}
use Rattle.life_table.specs.declared.table.Inode.{Inode}
use Rattle.life_table.specs.declared.table.Chunk.{Chunk}
use Rattle.life_table.specs.Table.{Group, inode_in}
use Rattle.group_ops.specs.declared.rows.RowLine.{RowLine}

-- the line of a number, where it has a row
abbrev pub line_in_life : ℕ → ℕ → Option Row → List RowLine
line_in_life number generation None = []
line_in_life number generation (Some row) =
    record { key = record { number = number; generation = generation }; links = row.links; blocks = length row.blocks } ∷ []

abbrev pub line_of : ℕ → Inode → List RowLine
line_of number inode = line_in_life number inode.generation inode.row

-- the lines of inodes that are numbered from here on
unfoldable pub rows_from : ℕ → List Inode → List RowLine
rows_from number [] = []
rows_from number (inode ∷ inodes) = line_of number inode ++ rows_from (number + 1) inodes

-- the lines of a group
unfoldable pub row_lines : ℕ → Group → List RowLine
row_lines group chunks = flat_map (λ (chunk : Chunk). rows_from (number_in group chunk.start) chunk.inodes) chunks

-- the group has these inodes from a number on, 64 of them
pub record HasInodes (chunks : Group) (start : ℕ) (inodes : List Inode) : Type 0 where
  pub whole : length inodes ≡ CHUNK_INODES
  pub each : (i : ℕ) (inode : Inode) → slice_get inodes i ≡ Some inode → inode_in chunks (start + i) ≡ Some inode
