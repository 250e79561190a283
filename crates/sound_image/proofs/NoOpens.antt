-- The table that an image has is one, and nobody holds an inode of it.
use Rattle.std.proofs.Common.{◌≡◌, ◌+◌, ℕ, Bool, true, false, cond, List, [], ◌∷◌, Option, None, Some, map, refl, ap, ◌∙◌}
use Rattle.std.specs.List.{range_with_len}
use Rattle.life_bytes.specs.declared.sector.Sector.{Sector}
use Rattle.life_bytes.specs.Bits.{is_set}
use Rattle.geometry.specs.declared.shape.Geometry.{Geometry}
use Rattle.inobt_leaf.specs.declared.chunk.ChunkRec.{ChunkRec}
use Rattle.life_table.specs.declared.types.Row.{Row}
use Rattle.life_table.specs.declared.table.Inode.{Inode}
use Rattle.life_table.specs.declared.table.Chunk.{Chunk}
use Rattle.life_table.specs.declared.table.Table.{Table}
use Rattle.life_table.specs.Table.{Group}
use Rattle.life_table.specs.History.{closed, closed_inode, closed_row}
use Rattle.sound_image.specs.Reading.{core_of, blocks_in, inode_read, chunk_read, group_read, rows_of, records_of}
use Rattle.sound_image.proofs.Rows.{closed_chunk, row_made}

-- what a change leaves alone, it leaves alone in a list
same_all : {X Y : Type 0} (f : X → Y) (change : Y → Y) → ((x : X) → change (f x) ≡ f x) → (xs : List X) → map change (map f xs) ≡ map f xs
same_all f change same [] = refl
same_all f change same (x ∷ xs) = ap (λ y. y ∷ map change (map f xs)) (same x) ∙ ap (λ ys. f x ∷ ys) (same_all f change same xs)

abbrev made : ℕ → Option Row → Inode
made generation row = record { generation = generation; row = row }

abbrev chunk_made : ℕ → List Inode → Chunk
chunk_made start inodes = record { start = start; inodes = inodes }

row_same : (b : Bool) (links : ℕ) (blocks : List ℕ) → closed_row (cond b None (Some (row_made links blocks))) ≡ cond b None (Some (row_made links blocks))
row_same true links blocks = refl
row_same false links blocks = refl

inode_same : (g : Geometry) (image : List Sector) (group : ℕ) (r : ChunkRec) (i : ℕ) → closed_inode (inode_read g image group r i) ≡ inode_read g image group r i
unfolding inode_read
inode_same g image group r i =
    ap (made (core_of g image group (r.start + i)).generation) (row_same (is_set r.mask i) (core_of g image group (r.start + i)).links (blocks_in g image group (r.start + i)))

chunk_same : (g : Geometry) (image : List Sector) (group : ℕ) (r : ChunkRec) → closed_chunk (chunk_read g image group r) ≡ chunk_read g image group r
unfolding chunk_read
chunk_same g image group r = ap (chunk_made r.start) (same_all (inode_read g image group r) closed_inode (inode_same g image group r) (range_with_len 0 64))

group_same : (g : Geometry) (image : List Sector) (group : ℕ) → map closed_chunk (group_read g image group) ≡ group_read g image group
unfolding group_read
group_same g image group = same_all (chunk_read g image group) closed_chunk (chunk_same g image group) (records_of g image group)

abbrev table_made : ℕ → ℕ → List Group → Table
table_made version blocks groups = record { version = version; blocks = blocks; groups = groups }

pub no_opens : (g : Geometry) (image : List Sector) → closed (rows_of g image) ≡ rows_of g image
unfolding rows_of
no_opens g image = ap (table_made g.version g.blocks) (same_all (group_read g image) (map closed_chunk) (group_same g image) (range_with_len 0 g.groups))
