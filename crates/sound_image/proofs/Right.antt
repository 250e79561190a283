-- The cores, forks, blocks and bitmaps of an image that encodes a table are right.
use Rattle.std.proofs.Common.{◌≡◌, ◌<◌, ◌≤◌, ◌+◌, ℕ, Bool, List, [], ◌∷◌, ◌++◌, Option, None, Some, length, map, get_or, refl, ap, sym, subst, ◌∙◌, arith}
use Rattle.std.specs.Prelude.{is_some}
use Rattle.std.specs.List.{range_with_len}
use Rattle.std.proofs.lemmas.List.{length-map, get_or-map}
use Rattle.life_bytes.specs.declared.sector.Sector.{Sector}
use Rattle.geometry.specs.declared.shape.Geometry.{Geometry}
use Rattle.inode_core.specs.declared.shape.Core.{Core}
use Rattle.inode_core.specs.Cores.{EncodesCore}
use Rattle.extent_fork.specs.Forks.{HasFork}
use Rattle.extent_fork.specs.Reading.{runs_in}
use Rattle.extent_fork.specs.Runs.{runs}
use Rattle.free_map.specs.Bitmap.{bitmap}
use Rattle.life_table.specs.declared.types.Row.{Row}
use Rattle.life_table.specs.declared.table.Inode.{Inode}
use Rattle.life_table.specs.declared.table.Chunk.{Chunk}
use Rattle.life_table.specs.declared.table.Table.{Table}
use Rattle.life_table.specs.Table.{Group, group_at}
use Rattle.life_table.specs.Space.{times, chunk_blocks, row_blocks, inode_blocks, used, is_free_block}
use Rattle.life_table.specs.History.{closed_inode, closed_row}
use Rattle.geometry.specs.Places.{number_in}
use Rattle.sound_image.specs.Places.{bytes_at, part, sector_in}
use Rattle.sound_image.specs.Reading.{inode_at, row_at}
use Rattle.sound_image.specs.Rules.{IsCoreRight, IsForkRight, AreBlocksAlone, IsIn, free_set, IsBitmapRight}
use Rattle.sound_image.specs.Encoding.{Layouts, core_for, encoded}
use Rattle.sound_image.proofs.Groups.{times-nil, row_blocks_used, two_rows_used, chunk_and_row_used}
use Rattle.sound_image.proofs.Inodes.{stored, stored_runs, blocks_are, next_for, data_of_row}
use Rattle.sound_image.proofs.Leaves.{no_chunk}
use Rattle.sound_image.proofs.Metadata.{at_bitmap}
use Rattle.sound_image.proofs.Ready.{Lower, IsReady}
use Rattle.sound_image.proofs.Rows.{is_read, IsRowRead, is_row_read, group_is, closed_chunk}
use Rattle.sound_image.proofs.Sectors.{at_metadata}

-- ---- cores

live_for : (generation next : ℕ) (o : Option Row) → (core_for generation o next).live ≡ is_some (closed_row o)
unfolding core_for
live_for generation next None = refl
live_for generation next (Some row) = refl

pub core_right : (l : Lower) (g : Geometry) (t : Table) (layouts : Layouts) (image : List Sector) (group agino : ℕ) (inode : Inode) → IsReady g t layouts image group
    → inode_at g (encoded g t layouts image) group agino ≡ Some inode → IsCoreRight g (encoded g t layouts image) group agino inode
core_right l g t layouts image group agino inode r e =
    let new = encoded g t layouts image in
    let x = is_read l g t layouts image group agino inode r e in
    let s = stored l g t layouts image group agino x.held r x.found in
    record {
      encoded = subst (λ (core : Core). EncodesCore (bytes_at new (sector_in g group agino)) (number_in group agino) g.uuid core) (sym s.core_is) s.encoded;
      live = ap (λ (core : Core). core.live) s.core_is ∙ live_for x.held.generation (next_for layouts group agino) x.held.row ∙ ap (λ (i : Inode). is_some i.row) (sym x.same);
    }

-- ---- forks

pub fork_right : (l : Lower) (g : Geometry) (t : Table) (layouts : Layouts) (image : List Sector) (group agino : ℕ) (row : Row) → IsReady g t layouts image group
    → row_at g (encoded g t layouts image) group agino ≡ Some row → IsForkRight g (encoded g t layouts image) group agino
fork_right l g t layouts image group agino row r e =
    let new = encoded g t layouts image in
    let bytes = bytes_at new (sector_in g group agino) in
    let x = is_row_read l g t layouts image group agino row r e in
    let s = stored_runs l g t layouts image group agino x.inode x.held r x.found x.live in
    let blocks = blocks_are l g t layouts image group agino x.inode x.held r x.found x.live in
    record {
      runs = subst (λ (n : ℕ). HasFork bytes n group (runs_in n bytes)) (sym s.extents) (subst (HasFork bytes (length (runs x.held.blocks)) group) (sym s.read) s.has);
      in_group = subst (λ (bs : List ℕ). (k d : ℕ) → k < length bs → get_or bs k d < g.blocks) (sym blocks)
          (λ k d lt. (data_of_row g.blocks (group_at t group) agino x.inode x.held r.is_group x.found x.live k d lt).1);
      count = s.count ∙ ap length (sym blocks);
    }

-- ---- blocks

-- the blocks of a row that is read are those of the inode
own_blocks : (group : Group) (agino : ℕ) (row : Row) (x : IsRowRead group agino row) → row_blocks x.inode.row ≡ row.blocks
own_blocks group agino row x = ap row_blocks x.live ∙ sym x.blocks

same_blocks : (c : Chunk) → chunk_blocks (closed_chunk c) ≡ chunk_blocks c
unfolding chunk_blocks
same_blocks c = refl

pub none_of : (b : ℕ) (o : Option Row) → 1 ≤ times b (row_blocks o) → (row : Row) × (o ≡ Some row)
none_of b None some = absurd (omega (arith, times-nil b))
none_of b (Some row) some = (row, refl)

pub blocks_right : (l : Lower) (g : Geometry) (t : Table) (layouts : Layouts) (image : List Sector) (group agino : ℕ) (row : Row) → IsReady g t layouts image group
    → row_at g (encoded g t layouts image) group agino ≡ Some row → AreBlocksAlone g (encoded g t layouts image) group agino row
blocks_right l g t layouts image group agino row r e =
    let new = encoded g t layouts image in
    let chunks = group_at t group in
    let x = is_row_read l g t layouts image group agino row r e in
    let own : (b : ℕ) → times b (row_blocks x.inode.row) ≡ times b row.blocks = λ b. ap (times b) (own_blocks chunks agino row x) in
    record {
      in_no_chunk = λ b has. subst (λ (cs : Group). (k : ℕ) (d : Chunk) → k < length cs → IsIn b (chunk_blocks (get_or cs k d)) → ⊥) (sym (group_is l g t layouts image group r))
          (λ k d lt there.
          let within : k < length chunks = omega (arith, lt, length-map chunks closed_chunk) in
          let c : Chunk = get_or chunks k no_chunk in
          let same : times b (chunk_blocks (get_or (map closed_chunk chunks) k d)) ≡ times b (chunk_blocks c) =
          ap (λ (c : Chunk). times b (chunk_blocks c)) (get_or-map closed_chunk chunks k no_chunk d within) ∙ ap (times b) (same_blocks c) in
          omega (arith, same, has, there, own b, r.is_group.once b, chunk_and_row_used b chunks k no_chunk agino x.inode within x.found));
      in_none_below = λ b other has lt there.
          let o = none_of b (row_at g new group other) there in
          let y = is_row_read l g t layouts image group other o.0 r o.1 in
          let theirs : times b (row_blocks (row_at g new group other)) ≡ times b (row_blocks y.inode.row) = ap (λ (o : Option Row). times b (row_blocks o)) o.1 ∙ ap (times b) (sym (own_blocks chunks other o.0 y)) in
          omega (arith, theirs, has, there, own b, r.is_group.once b, two_rows_used b chunks agino other x.inode y.inode (λ q. omega (arith, q, lt)) x.found y.found);
      once = λ b. omega (arith, own b, r.is_group.once b, row_blocks_used b chunks agino x.inode x.found);
    }

-- ---- the bitmap

row_blocks_closed : (o : Option Row) → row_blocks (closed_row o) ≡ row_blocks o
row_blocks_closed None = refl
row_blocks_closed (Some row) = refl

inode_blocks_closed : (inodes : List Inode) → inode_blocks (map closed_inode inodes) ≡ inode_blocks inodes
unfolding inode_blocks
inode_blocks_closed [] = refl
inode_blocks_closed (x ∷ xs) =
    ap (λ (bs : List ℕ). bs ++ inode_blocks (map closed_inode xs)) (row_blocks_closed x.row) ∙ ap (λ (bs : List ℕ). row_blocks x.row ++ bs) (inode_blocks_closed xs)

used_closed : (chunks : Group) → used (map closed_chunk chunks) ≡ used chunks
unfolding used
used_closed [] = refl
used_closed (c ∷ cs) =
    ap (λ (bs : List ℕ). (bs ++ inode_blocks (map closed_inode c.inodes)) ++ used (map closed_chunk cs)) (same_blocks c)
    ∙ ap (λ (bs : List ℕ). (chunk_blocks c ++ bs) ++ used (map closed_chunk cs)) (inode_blocks_closed c.inodes)
    ∙ ap (λ (bs : List ℕ). (chunk_blocks c ++ inode_blocks c.inodes) ++ bs) (used_closed cs)

free_closed : (blocks : ℕ) (chunks : Group) (b : ℕ) → is_free_block blocks (map closed_chunk chunks) b ≡ is_free_block blocks chunks b
unfolding is_free_block
free_closed blocks chunks b = simp (used_closed chunks)

same_tests : (p q : ℕ → Bool) (blocks : List ℕ) → ((b : ℕ) → p b ≡ q b) → map p blocks ≡ map q blocks
same_tests p q [] same = refl
same_tests p q (b ∷ blocks) same = ap (λ (x : Bool). x ∷ map p blocks) (same b) ∙ ap (λ (xs : List Bool). q b ∷ xs) (same_tests p q blocks same)

pub free_set_closed : (blocks : ℕ) (chunks : Group) → free_set blocks (map closed_chunk chunks) ≡ free_set blocks chunks
unfolding free_set
free_set_closed blocks chunks = same_tests (is_free_block blocks (map closed_chunk chunks)) (is_free_block blocks chunks) (range_with_len 0 blocks) (free_closed blocks chunks)

pub bitmap_right : (l : Lower) (g : Geometry) (t : Table) (layouts : Layouts) (image : List Sector) (group k : ℕ) → IsReady g t layouts image group → k < 4
    → IsBitmapRight g (encoded g t layouts image) group k
bitmap_right l g t layouts image group k r lt =
    let least = r.least in
    at_metadata g t layouts image group (8 + k) (part k (bitmap (free_set g.blocks (group_at t group)))) r.size r.below (omega arith) (at_bitmap g layouts group (group_at t group) k lt)
    ∙ sym (ap (λ (cs : Group). part k (bitmap (free_set g.blocks cs))) (group_is l g t layouts image group r) ∙ ap (λ (set : List Bool). part k (bitmap set)) (free_set_closed g.blocks (group_at t group)))
