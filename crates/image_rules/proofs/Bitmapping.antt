-- The blocks that are left are the free ones of the group.
use Rattle.std.proofs.Common.{◌≡◌, ◌<◌, ◌≤◌, ◌+◌, ◌*◌, ◌++◌, ℕ, zero, suc, Bool, true, false, List, [], ◌∷◌, Option, None, All, length, get_or, map, take, drop, inl, inr, refl, ap, sym, subst, ◌∙◌, arith}
use Rattle.std.specs.List.{range_with_len}
use Rattle.std.proofs.lemmas.Bool.{cases_lt}
use Rattle.std.proofs.lemmas.Bool.Decides.{nat_tests}
use Rattle.std.proofs.lemmas.List.{get_or-map, length-map}
use Rattle.std.proofs.lemmas.List.Elements.{All-head, All-tail}
use Rattle.std.proofs.lemmas.List.FromFn.{fill_by_all, length-map-range_with_len, get_or-map-range_with_len}
use Rattle.std.proofs.lemmas.Option.{slice_get-get_or, slice_get_within, get_or_from_slice_get}
use Rattle.life_bytes.specs.declared.sector.Sector.{Sector}
use Rattle.geometry.specs.declared.shape.Geometry.{Geometry}
use Rattle.inobt_leaf.specs.declared.chunk.ChunkRec.{ChunkRec}
use Rattle.inobt_leaf.specs.Chunks.{IsLeaf}
use Rattle.life_table.specs.declared.types.Row.{Row}
use Rattle.life_table.specs.declared.table.Inode.{Inode}
use Rattle.life_table.specs.declared.table.Chunk.{Chunk}
use Rattle.life_table.specs.Table.{Group}
use Rattle.life_table.specs.Space.{times, chunk_blocks, row_blocks, inode_blocks, used, is_free_block}
use Rattle.std.proofs.Math.Seq.{take-append_seam, drop-append-add}
use Rattle.life_bytes.specs.SectorBytes.{bytes_of}
use Rattle.free_map.specs.Bitmap.{bitmap}
use Rattle.sound_image.specs.Places.{bytes_at, part, sector_in}
use Rattle.image_rules.specs.Shown.{Shows}
use Rattle.free_map.specs.Blocks.{is_block_free}
use Rattle.sound_image.specs.Reading.{inode_at, inode_read, row_at, records_of, group_read, chunk_read}
use Rattle.sound_image.specs.Rules.{IsIn, IsBitmapRight, free_set}
use Rattle.image_rules.specs.Gathered.{IsLeft, InNoChunk}
use Rattle.image_rules.proofs.Gathering.{row_found, row_none, sector_next}
use Rattle.image_rules.proofs.Takes.{times_none, times_cons}
use Rattle.image_rules.proofs.Walking.{blank, Only, Each, none_or_some}

times_append : (b : ℕ) (xs ys : List ℕ) → times b (xs ++ ys) ≡ times b xs + times b ys
times_append b [] ys = omega (arith, times_none b)
times_append b (x ∷ xs) ys = omega (arith, times_cons b x (xs ++ ys), times_cons b x xs, times_append b xs ys)

-- ---- inodes

inodes_none : inode_blocks [] ≡ []
unfolding inode_blocks
inodes_none = refl

inodes_cons : (inode : Inode) (inodes : List Inode) → inode_blocks (inode ∷ inodes) ≡ row_blocks inode.row ++ inode_blocks inodes
unfolding inode_blocks
inodes_cons inode inodes = refl

-- a row's blocks are among those of its list
one_of : (b : ℕ) (inodes : List Inode) (i : ℕ) (d : Inode) → i < length inodes → times b (row_blocks (get_or inodes i d).row) ≤ times b (inode_blocks inodes)
one_of b [] i d low = absurd (omega arith)
one_of b (x ∷ xs) zero d low = omega (arith, ap (times b) (inodes_cons x xs), times_append b (row_blocks x.row) (inode_blocks xs))
one_of b (x ∷ xs) (suc i) d low = omega (arith, ap (times b) (inodes_cons x xs), times_append b (row_blocks x.row) (inode_blocks xs), one_of b xs i d (omega arith))

none_of : (b : ℕ) (inodes : List Inode) → All (λ (inode : Inode). times b (row_blocks inode.row) ≡ 0) inodes → times b (inode_blocks inodes) ≡ 0
none_of b [] all = ap (times b) inodes_none ∙ times_none b
none_of b (x ∷ xs) all =
    let first = All-head (λ (inode : Inode). times b (row_blocks inode.row) ≡ 0) x xs all in
    let others = none_of b xs (All-tail (λ (inode : Inode). times b (row_blocks inode.row) ≡ 0) x xs all) in
    omega (arith, ap (times b) (inodes_cons x xs), times_append b (row_blocks x.row) (inode_blocks xs), first, others)

-- ---- chunks

used_none : used [] ≡ []
unfolding used
used_none = refl

used_cons : (chunk : Chunk) (chunks : Group) → used (chunk ∷ chunks) ≡ (chunk_blocks chunk ++ inode_blocks chunk.inodes) ++ used chunks
unfolding used
used_cons chunk chunks = refl

used_first : (b : ℕ) (chunk : Chunk) (chunks : Group) → times b (used (chunk ∷ chunks)) ≡ times b (chunk_blocks chunk) + times b (inode_blocks chunk.inodes) + times b (used chunks)
used_first b chunk chunks =
    omega (arith, ap (times b) (used_cons chunk chunks), times_append b (chunk_blocks chunk ++ inode_blocks chunk.inodes) (used chunks), times_append b (chunk_blocks chunk) (inode_blocks chunk.inodes))

chunk_of : (b : ℕ) (chunks : Group) (k : ℕ) (d : Chunk) → k < length chunks → times b (chunk_blocks (get_or chunks k d)) + times b (inode_blocks (get_or chunks k d).inodes) ≤ times b (used chunks)
chunk_of b [] k d low = absurd (omega arith)
chunk_of b (x ∷ xs) zero d low = omega (arith, used_first b x xs)
chunk_of b (x ∷ xs) (suc k) d low = omega (arith, used_first b x xs, chunk_of b xs k d (omega arith))

no_chunk_of : (b : ℕ) (chunks : Group) → All (λ (chunk : Chunk). (times b (chunk_blocks chunk) ≡ 0) × (times b (inode_blocks chunk.inodes) ≡ 0)) chunks → times b (used chunks) ≡ 0
no_chunk_of b [] all = ap (times b) used_none ∙ times_none b
no_chunk_of b (x ∷ xs) all =
    let first = All-head (λ (chunk : Chunk). (times b (chunk_blocks chunk) ≡ 0) × (times b (inode_blocks chunk.inodes) ≡ 0)) x xs all in
    let others = no_chunk_of b xs (All-tail (λ (chunk : Chunk). (times b (chunk_blocks chunk) ≡ 0) × (times b (inode_blocks chunk.inodes) ≡ 0)) x xs all) in
    omega (arith, used_first b x xs, first.0, first.1, others)

-- ---- the group that was read

inodes_read : (g : Geometry) (image : List Sector) (group : ℕ) (chunk : ChunkRec) → (chunk_read g image group chunk).inodes ≡ map (inode_read g image group chunk) (range_with_len 0 64)
unfolding chunk_read
inodes_read g image group chunk = refl

zero_of : (n : ℕ) → (1 ≤ n → ⊥) → n ≡ 0
zero_of n never = elim (cases_lt n 1) [ inl lt ↦ omega arith | inr ge ↦ absurd (never ge) ]

-- a block that no chunk and no inode has is used by nothing
unused : (g : Geometry) (image : List Sector) (group b : ℕ) (chunks : List ChunkRec) → records_of g image group ≡ chunks → IsLeaf chunks → Each g image group → InNoChunk g image group b
    → ((agino : ℕ) → IsIn b (row_blocks (row_at g image group agino)) → ⊥) → times b (used (group_read g image group)) ≡ 0
unfolding group_read
unused g image group b chunks same leaf each no_chunk no_row =
    no_chunk_of b (map (chunk_read g image group) (records_of g image group)) (λ k d low.
    let few : k < length (records_of g image group) = omega (arith, low, length-map (records_of g image group) (chunk_read g image group)) in
    let chunk : ChunkRec = get_or (records_of g image group) k blank in
    let at = get_or-map (chunk_read g image group) (records_of g image group) k blank d few in (
      zero_of (times b (chunk_blocks (get_or (map (chunk_read g image group) (records_of g image group)) k d))) (no_chunk k d low),
      ap (λ (c : Chunk). times b (inode_blocks c.inodes)) at ∙ ap (λ (xs : List Inode). times b (inode_blocks xs)) (inodes_read g image group chunk)
          ∙ none_of b (map (inode_read g image group chunk) (range_with_len 0 64)) (λ i e lt.
          let i64 : i < 64 = omega (arith, lt, length-map-range_with_len (inode_read g image group chunk) 0 64) in
          let one = get_or-map-range_with_len (inode_read g image group chunk) 0 64 i i e i64 (omega arith) in
          let found = each k i chunk (subst IsLeaf (sym same) leaf) (slice_get-get_or (records_of g image group) k blank few) i64 in
          let row = row_found g image group (chunk.start + i) (inode_read g image group chunk i) found in
          ap (λ (x : Inode). times b (row_blocks x.row)) one
          ∙ zero_of (times b (row_blocks (inode_read g image group chunk i).row)) (λ has. no_row (chunk.start + i) (subst (λ (r : Option Row). IsIn b (row_blocks r)) (sym row) has))),
    ))

-- and the other way round
in_chunk_used : (g : Geometry) (image : List Sector) (group b : ℕ) → times b (used (group_read g image group)) ≡ 0 → InNoChunk g image group b
in_chunk_used g image group b none k d low has = absurd (omega (arith, none, has, chunk_of b (group_read g image group) k d low))

in_row_used : (g : Geometry) (image : List Sector) (group b agino : ℕ) → Only g image group → times b (used (group_read g image group)) ≡ 0 → IsIn b (row_blocks (row_at g image group agino)) → ⊥
unfolding group_read
in_row_used g image group b agino only none has =
    elim (none_or_some (inode_at g image group agino)) [
      | inl e ↦ let no = ap (λ (r : Option Row). times b (row_blocks r)) (row_none g image group agino e) in absurd (omega (arith, has, no, times_none b))
      | inr found ↦
          let inode : Inode = found.0 in
          let of = only agino inode found.1 in
          let records : List ChunkRec = records_of g image group in
          let few = slice_get_within records of.place of.chunk of.held in
          let at = get_or-map (chunk_read g image group) records of.place of.chunk (chunk_read g image group of.chunk) few ∙ ap (chunk_read g image group) (get_or_from_slice_get records of.place of.chunk of.chunk of.held) in
          let chunk : Chunk = get_or (map (chunk_read g image group) records) of.place (chunk_read g image group of.chunk) in
          let inside = chunk_of b (map (chunk_read g image group) records) of.place (chunk_read g image group of.chunk) (omega (arith, few, length-map records (chunk_read g image group))) in
          let inodes = ap (λ (c : Chunk). times b (inode_blocks c.inodes)) at ∙ ap (λ (xs : List Inode). times b (inode_blocks xs)) (inodes_read g image group of.chunk) in
          let one = get_or-map-range_with_len (inode_read g image group of.chunk) 0 64 of.index of.index inode of.low (omega arith) in
          let among = one_of b (map (inode_read g image group of.chunk) (range_with_len 0 64)) of.index inode (omega (arith, of.low, length-map-range_with_len (inode_read g image group of.chunk) 0 64)) in
          let row = ap (λ (x : Inode). times b (row_blocks x.row)) (one ∙ sym of.read) in
          let is = ap (λ (r : Option Row). times b (row_blocks r)) (row_found g image group agino inode found.1) in
          absurd (omega (arith, none, has, inside, inodes, among, row, is))
    ]

-- ---- the free set

same_bool : (x y : Bool) → (x ≡ true → y ≡ true) → (y ≡ true → x ≡ true) → x ≡ y
same_bool true true to from = refl
same_bool true false to from = sym (to refl)
same_bool false true to from = from refl
same_bool false false to from = refl

says_free : (blocks : ℕ) (group : Group) (b : ℕ) → 24 ≤ b → b < blocks → times b (used group) ≡ 0 → is_free_block blocks group b ≡ true
unfolding is_free_block
says_free blocks group b from to none = grind (arith, nat_tests)

free_says : (blocks : ℕ) (group : Group) (b : ℕ) → is_free_block blocks group b ≡ true → (24 ≤ b) × (b < blocks) × (times b (used group) ≡ 0)
unfolding is_free_block
free_says blocks group b free = (grind (arith, nat_tests), grind (arith, nat_tests), grind (arith, nat_tests))

pub left_is_free : (g : Geometry) (image : List Sector) (group bound : ℕ) (chunks : List ChunkRec) (free : List Bool) → records_of g image group ≡ chunks → IsLeaf chunks → Each g image group → Only g image group
    → ((agino : ℕ) → bound ≤ agino → inode_at g image group agino ≡ None) → IsLeft g image group bound free → free ≡ free_set g.blocks (group_read g image group)
unfolding free_set
left_is_free g image group bound chunks free same leaf each only none left =
    fill_by_all (is_free_block g.blocks (group_read g image group)) free g.blocks false left.long (λ b low.
    same_bool (is_block_free free b) (is_free_block g.blocks (group_read g image group) b)
    (λ yes.
    let was = left.free b yes in
    says_free g.blocks (group_read g image group) b was.0 was.1 (unused g image group b chunks same leaf each was.2 (λ agino has. elim (cases_lt agino bound) [
      | inl lt ↦ was.3 agino lt has
      | inr ge ↦ let no = ap (λ (r : Option Row). times b (row_blocks r)) (row_none g image group agino (none agino ge)) in absurd (omega (arith, has, no, times_none b))
    ])))
    (λ yes.
    let was = free_says g.blocks (group_read g image group) b yes in
    left.kept b was.0 was.1 (in_chunk_used g image group b was.2) (λ agino lt has. in_row_used g image group b agino only was.2 has)))

-- ---- the sectors

part_of : (sectors : List Sector) (k : ℕ) → All (λ (s : Sector). length s.bytes ≡ 512) sectors → k < length sectors → part k (bytes_of sectors) ≡ bytes_at sectors k
unfolding part bytes_at
part_of [] k all low = absurd (omega arith)
part_of (s ∷ ss) zero all low =
    let long : length s.bytes ≡ 512 = All-head (λ (s : Sector). length s.bytes ≡ 512) s ss all in
    ap (λ (n : ℕ). take n (s.bytes ++ bytes_of ss)) (sym long) ∙ take-append_seam s.bytes (bytes_of ss)
part_of (s ∷ ss) (suc k) all low =
    let long : length s.bytes ≡ 512 = All-head (λ (s : Sector). length s.bytes ≡ 512) s ss all in
    let e : 512 * suc k ≡ length s.bytes + 512 * k = omega arith in
    ap (λ (n : ℕ). take 512 (drop n (s.bytes ++ bytes_of ss))) e
    ∙ ap (λ (bytes : List ℕ). take 512 bytes) (drop-append-add s.bytes (bytes_of ss) (512 * k))
    ∙ part_of ss k (All-tail (λ (s : Sector). length s.bytes ≡ 512) s ss all) (omega arith)

-- the sectors that were read are those of the bitmap, and the others encode the free blocks
pub record Compares (g : Geometry) (image : List Sector) (group : ℕ) (sectors others : List Sector) (map : List Bool) : Type 0 where
  pub shows : Shows image (sector_in g group 8) sectors
  pub many : length sectors ≡ 4
  pub as_many : length others ≡ 4
  pub long : All (λ (s : Sector). length s.bytes ≡ 512) others
  pub encoded : bytes_of others ≡ bitmap map
  pub free : map ≡ free_set g.blocks (group_read g image group)

read_side : (g : Geometry) (image : List Sector) (group k : ℕ) (sectors others : List Sector) (map : List Bool) → Compares g image group sectors others map → k < 4 → bytes_at image (sector_in g group (8 + k)) ≡ bytes_at sectors k
read_side g image group k sectors others map c low = ap (bytes_at image) (sector_next g group 8 k) ∙ c.shows.each k (omega (arith, low, c.many))

encoded_side : (g : Geometry) (image : List Sector) (group k : ℕ) (sectors others : List Sector) (map : List Bool) → Compares g image group sectors others map → k < 4
    → part k (bitmap (free_set g.blocks (group_read g image group))) ≡ bytes_at others k
encoded_side g image group k sectors others map c low =
    ap (λ (bits : List Bool). part k (bitmap bits)) (sym c.free) ∙ ap (part k) (sym c.encoded) ∙ part_of others k c.long (omega (arith, low, c.as_many))

pub right_from : (g : Geometry) (image : List Sector) (group k : ℕ) (sectors others : List Sector) (map : List Bool) → Compares g image group sectors others map → k < 4 → bytes_at sectors k ≡ bytes_at others k
    → IsBitmapRight g image group k
right_from g image group k sectors others map c low same = read_side g image group k sectors others map c low ∙ same ∙ sym (encoded_side g image group k sectors others map c low)

pub right_to : (g : Geometry) (image : List Sector) (group k : ℕ) (sectors others : List Sector) (map : List Bool) → Compares g image group sectors others map → k < 4 → IsBitmapRight g image group k
    → bytes_at sectors k ≡ bytes_at others k
right_to g image group k sectors others map c low right = sym (read_side g image group k sectors others map c low) ∙ right ∙ encoded_side g image group k sectors others map c low
