-- A group that was read is the one that the image encodes.
use Rattle.std.proofs.Common.{◌≡◌, ◌<◌, ◌+◌, ◌*◌, ◌%◌, ℕ, zero, suc, Bool, eqb, List, [], ◌∷◌, Some, None, length, map, get_or, inl, inr, refl, ap, sym, ◌∙◌, arith, All}
use Rattle.std.specs.List.{slice_get}
use Rattle.std.specs.FinMap as finmap
use Rattle.std.specs.FinMap.{FinMap, get-empty}
use Rattle.std.specs.Ordering.{nat_cmp}
use Rattle.std.proofs.lemmas.Bool.{cases_Bool, eqb-true, cond-false, eq-eqb, false≢true}
use Rattle.std.proofs.lemmas.Option.{none-some, slice_get-get_or}
use Rattle.life_bytes.specs.declared.sector.Sector.{Sector}
use Rattle.life_bytes.specs.Sectors.{zero_sector}
use Rattle.geometry.specs.declared.shape.Geometry.{Geometry}
use Rattle.ag_header.specs.declared.agi.Agi.{Agi}
use Rattle.inobt_leaf.specs.declared.chunk.ChunkRec.{ChunkRec}
use Rattle.inobt_leaf.specs.Chunks.{RecordsAscend}
use Rattle.inode_cache.specs.declared.inode.Kept.{Kept}
use Rattle.life_table.specs.declared.table.Inode.{Inode}
use Rattle.life_table.specs.declared.table.Chunk.{Chunk}
use Rattle.life_table.specs.declared.table.Table.{Table}
use Rattle.life_table.specs.Table.{Group, group_at, start_of, inode_in}
use Rattle.sound_image.specs.Places.{bytes_at, sector_in}
use Rattle.sound_image.specs.Encoding.{CanEncode, Layouts, chunk_record, encoded, header_for, inode_sector, page_of}
use Rattle.sound_image.specs.Rules.{free_set}
use Rattle.group_ops.specs.Buffers.{AreBuffers, Buffers, BuffersAscend, buffer_in}
use Rattle.group_ops.specs.Loading.{ShowChunks, Shows}
use Rattle.group_ops.specs.Values.{StateValue, kept_at}
use Rattle.group_ops.specs.Represents.{HasInode, IsGroupOf, incore_for}
use Rattle.group_ops.proofs.Finding.{buffer_first, buffer_later}
use Rattle.group_ops.proofs.Told.{SectorsStand}

-- the starts of the records are those of the chunks
pub record_starts : (chunks : Group) → map (λ (r : ChunkRec). r.start) (map chunk_record chunks) ≡ map (λ (chunk : Chunk). chunk.start) chunks
unfolding chunk_record
record_starts [] = refl
record_starts (c ∷ cs) = ap (λ (l : List ℕ). c.start ∷ l) (record_starts cs)

-- chunks that start where ascending records do ascend
start_at : (chunks : List Buffers) (records : List ChunkRec) (k : ℕ) (d : Buffers) (e : ChunkRec) → map (λ (chunk : Buffers). chunk.start) chunks ≡ map (λ (r : ChunkRec). r.start) records → k < length chunks
    → (get_or chunks k d).start ≡ (get_or records k e).start
start_at [] records k d e same low = absurd (omega arith)
start_at (c ∷ cs) [] k d e same low = cc
start_at (c ∷ cs) (r ∷ rs) zero d e same low = cc
start_at (c ∷ cs) (r ∷ rs) (suc k) d e same low = let rest : map (λ (chunk : Buffers). chunk.start) cs ≡ map (λ (r : ChunkRec). r.start) rs = cc in start_at cs rs k d e rest (omega arith)

as_many : (chunks : List Buffers) (records : List ChunkRec) → map (λ (chunk : Buffers). chunk.start) chunks ≡ map (λ (r : ChunkRec). r.start) records → length chunks ≡ length records
as_many [] [] same = refl
as_many [] (r ∷ rs) same = cc
as_many (c ∷ cs) [] same = cc
as_many (c ∷ cs) (r ∷ rs) same = let rest : map (λ (chunk : Buffers). chunk.start) cs ≡ map (λ (r : ChunkRec). r.start) rs = cc in ap (λ (n : ℕ). suc n) (as_many cs rs rest)

pub chunks_ascend : (chunks : List Buffers) (records : List ChunkRec) → map (λ (chunk : Buffers). chunk.start) chunks ≡ map (λ (r : ChunkRec). r.start) records → RecordsAscend records → BuffersAscend chunks
chunks_ascend chunks records same ascends i j d lt low =
    let e : ChunkRec = record { start = 0; free = 0; mask = 0 } in
    let many = as_many chunks records same in
    let first = start_at chunks records i d e same (omega (arith, lt, low)) in
    let second = start_at chunks records j d e same low in
    omega (arith, first, second, ascends i j e lt (omega (arith, many, low)))

-- a number's buffer, with the bytes of its sector
pub record IsThere (image : List Sector) (s : ℕ) (buffers : List Buffers) (agino : ℕ) : Type 0 where
  pub sector : Sector
  pub at : buffer_in buffers agino ≡ Some sector
  pub bytes : sector.bytes ≡ bytes_at image s

there_first : (g : Geometry) (image : List Sector) (group : ℕ) (b : Buffers) (bs : List Buffers) (agino : ℕ) → b.start ≡ start_of agino → length b.sectors ≡ 64
    → Shows image (sector_in g group b.start) b.sectors → IsThere image (sector_in g group agino) (b ∷ bs) agino
unfolding bytes_at sector_in
there_first g image group b bs agino e whole shows =
    let low : agino % 64 < length b.sectors = omega (arith, whole) in
    let place : group * (g.blocks * 8) + b.start + agino % 64 ≡ group * (g.blocks * 8) + agino = omega (arith, e) in
    record {
      sector = get_or b.sectors (agino % 64) zero_sector;
      at = buffer_first b bs agino e ∙ slice_get-get_or b.sectors (agino % 64) zero_sector low;
      bytes = sym (shows.each (agino % 64) low) ∙ ap (λ (s : ℕ). bytes_at image s) place;
    }

there_later : (image : List Sector) (s : ℕ) (b : Buffers) (bs : List Buffers) (agino : ℕ) → (b.start ≡ start_of agino → ⊥) → IsThere image s bs agino → IsThere image s (b ∷ bs) agino
there_later image s b bs agino ne there = record { sector = there.sector; at = buffer_later b bs agino ne ∙ there.at; bytes = there.bytes }

pub there : (g : Geometry) (image : List Sector) (group : ℕ) (chunks : Group) (buffers : List Buffers) (agino : ℕ) (inode : Inode)
    → map (λ (chunk : Buffers). chunk.start) buffers ≡ map (λ (chunk : Chunk). chunk.start) chunks → All (λ (chunk : Buffers). AreBuffers chunk.start chunk.sectors) buffers
    → ShowChunks g image group buffers → inode_in chunks agino ≡ Some inode → IsThere image (sector_in g group agino) buffers agino
unfolding inode_in
there g image group [] [] agino inode same whole shown found = absurd (none-some inode found)
there g image group [] (b ∷ bs) agino inode same whole shown found = cc
there g image group (c ∷ cs) [] agino inode same whole shown found = cc
there g image group (c ∷ cs) (b ∷ bs) agino inode same whole shown found =
    let first : b.start ≡ c.start = cc in
    let rest : map (λ (chunk : Buffers). chunk.start) bs ≡ map (λ (chunk : Chunk). chunk.start) cs = cc in
    elim (cases_Bool (eqb c.start (start_of agino))) [
      | inl here ↦ there_first g image group b bs agino (first ∙ eqb-true c.start (start_of agino) here) (whole 0 b (omega arith)).whole (shown 0 b (omega arith))
      | inr other ↦
          let later = sym (cond-false (eqb c.start (start_of agino)) (slice_get c.inodes (agino % 64)) (inode_in cs agino) other) ∙ found in
          there_later image (sector_in g group agino) b bs agino (λ e. absurd (false≢true (sym other ∙ eq-eqb c.start (start_of agino) (sym first ∙ e))))
          (there g image group cs bs agino inode rest (λ k d low. whole (suc k) d (omega arith)) (λ k d low. shown (suc k) d (omega arith)) later)
    ]

-- nothing is in core
no_inode_in_core : (s : StateValue) (agino : ℕ) → s.in_core ≡ finmap.empty → kept_at s agino ≡ None
no_inode_in_core s agino none = ap (λ m. finmap.get m agino) none ∙ get-empty nat_cmp agino

has_inode : (s : StateValue) (agino : ℕ) (layouts : Layouts) (inode : Inode) (image : List Sector) → s.in_core ≡ finmap.empty
    → IsThere image (sector_in s.geometry s.group agino) s.buffers agino → bytes_at image (sector_in s.geometry s.group agino) ≡ inode_sector s.geometry layouts s.group agino inode
    → HasInode s agino (incore_for layouts s.group agino inode)
unfolding inode_sector
has_inode s agino layouts inode image none there stands = record {
  in_core = rw (no_inode_in_core s agino none) tt;
  buffer = rw there.at (λ _. there.bytes ∙ stands);
}

pub loaded : SectorsStand → (g : Geometry) (t : Table) (layouts : Layouts) (rest : List Sector) (group : ℕ) (header : Agi) (records : List ChunkRec) (free : List Bool) (buffers : List Buffers) (in_core : FinMap nat_cmp Kept) (room : ℕ)
    → CanEncode g t layouts rest → group < g.groups → header ≡ header_for g group (group_at t group) layouts → records ≡ map chunk_record (group_at t group)
    → free ≡ free_set g.blocks (group_at t group) → map (λ (chunk : Buffers). chunk.start) buffers ≡ map (λ (r : ChunkRec). r.start) records
    → All (λ (chunk : Buffers). AreBuffers chunk.start chunk.sectors) buffers → ShowChunks g (encoded g t layouts rest) group buffers → in_core ≡ finmap.empty
    → IsGroupOf (record { geometry = g; group = group; page = header.root; heads = header.heads; space = record { records = records; free = free }; buffers = buffers; in_core = in_core; room = room }) t layouts
unfolding header_for
loaded sectors g t layouts rest group header records free buffers in_core room can inside headed recorded freed same whole shown none =
    let starts : map (λ (chunk : Buffers). chunk.start) buffers ≡ map (λ (chunk : Chunk). chunk.start) (group_at t group) =
    same ∙ ap (λ (l : List ChunkRec). map (λ (r : ChunkRec). r.start) l) recorded ∙ record_starts (group_at t group) in
    record {
      table = can.table;
      layouts_of = can.layouts_of;
      groups = can.groups;
      blocks = can.blocks;
      page = ap (λ (a : Agi). a.root) headed;
      heads = ap (λ (a : Agi). a.heads) headed;
      space = record { records = recorded; free = freed };
      starts = starts;
      inodes = λ agino inode found.
          has_inode _ agino layouts inode (encoded g t layouts rest) none (there g (encoded g t layouts rest) group (group_at t group) buffers agino inode starts whole shown found)
          (sectors g t layouts rest group agino inode can inside found);
      only = λ agino gone.
          no_inode_in_core
          (record { geometry = g; group = group; page = header.root; heads = header.heads; space = record { records = records; free = free }; buffers = buffers; in_core = in_core; room = room })
          agino none;
    }

-- the block of the page that the header names
pub root_is : (g : Geometry) (group : ℕ) (chunks : Group) (layouts : Layouts) (header : Agi) → header ≡ header_for g group chunks layouts → header.root ≡ page_of layouts group
unfolding header_for
root_is g group chunks layouts header e = ap (λ (a : Agi). a.root) e
